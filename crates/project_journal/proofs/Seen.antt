-- What the choice of a file sees of a journal.
use Rattle.project_journal.proofs.Common.{◌≡◌, ◌⊎◌, inl, inr, ℕ, ◌+◌, ◌^◌, ◌<◌, ◌≤◌, min, max, None, List}
use Rattle.project_journal.proofs.Common.{◌∷◌, ◌++◌, length, eqb, false, refl, sym, ◌∙◌, ap, subst, arith, append_assoc}
use Rattle.project_journal.proofs.Common.{flat_map, Files, bytes_of, IsOlder, Form, IsForm}
use Rattle.project_journal.proofs.Common.{first_failed, form_of, base_fields, base_tests, last_tests, wide_tests, Log}
use Rattle.project_journal.proofs.Common.{entry, IsHeader, IsLog, field, IsShut, Base, Damaged}
use Rattle.std.proofs.{lemmas.List.take-append-le}
use Rattle.project_journal.specs.Choice.{generation_at, choice_tests}
use Rattle.project_journal.specs.Header.{number_tests, base_tests_in, the_zeros}
use Rattle.project_journal.proofs.Formats.{all_pass, pass_all, Pass}
use Rattle.project_journal.proofs.{Parses.by_form, Parses.field_take, Parses.form_least}

-- a field of the first 32 bytes
pub field_front : (at n : ℕ) (head rest : List ℕ) → at + n ≤ 32 → 32 ≤ length head
    → field at n (head ++ rest) ≡ field at n head
field_front at n head rest within least =
    sym (field_take at n 32 (head ++ rest) within)
    ∙ ap (field at n) (take-append-le 32 head rest least) ∙ field_take at n 32 head within

abbrev IsVersion : ℕ → Type 0
IsVersion v = (v ≡ 1) ⊎ ((v ≡ 2) ⊎ (v ≡ 3))

pub record Chosen (head : List ℕ) (generation : ℕ) : Type 0 where
  pub magic : field 1 4 head ≡ 827214401
  pub version : IsVersion (field 5 4 head)
  pub bound : generation ≤ 2 ^ 62
  pub is : generation_at head ≡ generation

pub record Numbers (version : ℕ) (bytes : List ℕ) : Type 0 where
  pub magic : field 1 4 bytes ≡ 827214401
  pub version_is : field 5 4 bytes ≡ version

numbers_pass : (version : ℕ) (bytes : List ℕ) (more : List Damaged)
    → first_failed (number_tests version bytes ++ more) ≡ None → Numbers version bytes
unfolding number_tests
numbers_pass version bytes more e =
    let pass = all_pass (number_tests version bytes ++ more) e in
    record { magic = sym pass.0; version_is = sym pass.1.0 }

-- of each version, its numbers are there
pub numbers_of : (form : Form) (head : List ℕ) → IsForm form → first_failed (form.tests head) ≡ None
    → Numbers form.version head
numbers_of form head known =
    by_form (λ (f : Form). first_failed (f.tests head) ≡ None → Numbers f.version head) form known
    (numbers_pass 1 head (the_zeros head)) (numbers_pass 2 head (base_tests head ++ last_tests head))
    (numbers_pass 3 head (base_tests head ++ wide_tests head))

-- and what is tested after the fields of a base
pub last_pass : (version : ℕ) (head : List ℕ) (more : List Damaged)
    → first_failed (number_tests version head ++ (base_tests head ++ more)) ≡ None → Pass more
unfolding number_tests base_tests_in
last_pass version head more valid =
    (all_pass (number_tests version head ++ (base_tests head ++ more)) valid).1.1.1.1.1.1.1.1.1.1.1.1.1.1.1.1

chosen_base : (version : ℕ) (head : List ℕ) (more : List Damaged) (base : Base) → IsVersion version
    → eqb version 1 ≡ false → first_failed (number_tests version head ++ (base_tests head ++ more)) ≡ None
    → base_fields head ≡ base → Chosen head base.generation
unfolding number_tests base_tests_in generation_at
chosen_base version head more base among later valid is =
    let pass = all_pass (number_tests version head ++ (base_tests head ++ more)) valid in
    let same : field 21 8 head ≡ base.generation = ap (λ (b : Base). b.generation) is in
    record {
      magic = sym pass.0;
      version = subst IsVersion pass.1.0 among;
      bound = omega (arith, same, pass.1.1.1.1.1.0);
      is = rw (← pass.1.0, later) same;
    }

pub chosen : (form : Form) (head : List ℕ) (log : Log) → IsForm form → IsHeader form head log
    → Chosen head log.base.generation
unfolding generation_at
chosen form head log known is =
    by_form (λ (f : Form). first_failed (f.tests head) ≡ None → f.base_at head ≡ log.base
    → Chosen head log.base.generation) form known
    (λ valid base.
    let numbers = numbers_pass 1 head (the_zeros head) valid in
    let none : 0 ≡ log.base.generation = ap (λ (b : Base). b.generation) base in
    record {
      magic = numbers.magic;
      version = inl numbers.version_is;
      bound = omega (arith, none);
      is = rw numbers.version_is none;
    })
    (chosen_base 2 head (last_tests head) log.base (inr (inl refl)) refl)
    (chosen_base 3 head (wide_tests head) log.base (inr (inr refl)) refl) is.valid is.base

-- the version that a header says is that of its form
pub form_valid : (form : Form) (head : List ℕ) → IsForm form → first_failed (form.tests head) ≡ None
    → form_of (field 5 4 head) form.file ≡ form
form_valid form head known valid =
    ap (λ (v : ℕ). form_of v form.file) (numbers_of form head known valid).version_is
    ∙ by_form (λ (f : Form). form_of f.version f.file ≡ f) form known refl refl refl

pub form_by : (form : Form) (head : List ℕ) (log : Log) → IsForm form → IsHeader form head log
    → form_of (field 5 4 head) form.file ≡ form
form_by form head log known is = form_valid form head known is.valid

pub least_head : (form : Form) (head : List ℕ) (log : Log) → IsForm form → IsHeader form head log → 32 ≤ length head
least_head form head log known is = omega (arith, form_least form known, is.least)

pub choice_passes : (bytes : List ℕ) (g : ℕ) → Chosen bytes g → first_failed (choice_tests bytes) ≡ None
unfolding choice_tests
choice_passes bytes g is =
    let version : min 3 (max 1 (field 5 4 bytes)) ≡ field 5 4 bytes = grind arith in
    pass_all (choice_tests bytes) (sym is.magic, (version, (omega (arith, is.bound, is.is), tt)))

pub generation_front : (head rest : List ℕ) → 32 ≤ length head → generation_at (head ++ rest) ≡ generation_at head
unfolding generation_at
generation_front head rest least =
    rw (field_front 5 4 head rest (omega arith) least, field_front 21 8 head rest (omega arith) least) refl

-- bytes that begin with a journal begin with its header
pub header_first : {form : Form} {front : List ℕ} {log : Log} (is : IsLog form front log) (bytes rest : List ℕ)
    → bytes ≡ front ++ rest → bytes ≡ is.head ++ (flat_map entry is.entries ++ rest)
header_first is bytes rest parts =
    parts ∙ ap (λ (l : List ℕ). l ++ rest) is.parts ∙ append_assoc is.head (flat_map entry is.entries) rest

-- what the choice sees of the file of a journal
pub log_seen : (form : Form) (front : List ℕ) (log : Log) (file : ℕ) (c : Files) → IsForm form → IsLog form front log
    → IsShut file front c → Chosen (bytes_of (c file)) log.base.generation
log_seen form front log file c known is shut =
    let head = is.head in
    let rest = flat_map entry is.entries ++ 0 ∷ shut.0 in
    let bytes : bytes_of (c file) ≡ head ++ rest = header_first is _ (0 ∷ shut.0) (ap bytes_of shut.1) in
    let least = least_head form head log known is.header in
    let was = chosen form head log known is.header in
    let now : Chosen (head ++ rest) log.base.generation = record {
      magic = field_front 1 4 head rest (omega arith) least ∙ was.magic;
      version = subst IsVersion (sym (field_front 5 4 head rest (omega arith) least)) was.version;
      bound = was.bound;
      is = generation_front head rest least ∙ was.is;
    } in
    subst (λ (l : List ℕ). Chosen l log.base.generation) (sym bytes) now

-- the file of a journal, seen from one of a later generation
pub log_older : (form : Form) (front : List ℕ) (log : Log) (file g : ℕ) (c : Files) → IsForm form → IsLog form front log
    → IsShut file front c → log.base.generation < g → IsOlder g (bytes_of (c file))
log_older form front log file g c known is shut later =
    let seen = log_seen form front log file c known is shut in
    record {
      valid = choice_passes (bytes_of (c file)) log.base.generation seen;
      lower = omega (arith, seen.is, later);
    }
