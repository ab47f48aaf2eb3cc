-- A disk has one journal at most, whichever file and version it is in.
use Rattle.project_journal.proofs.Common.{◌≡◌, ⊎_elim, ℕ, ◌<◌, ◌≤◌, ◌∷◌, sym, ◌∙◌, ap, subst, arith, cases_eq, Files}
use Rattle.project_journal.proofs.Common.{bytes_of, Form, IsForm, IsProject, form_of, HasNoNewer, other_file, field}
use Rattle.project_journal.proofs.Common.{Log, HasLog}
use Rattle.project_journal.specs.{Choice.generation_at}
use Rattle.project_journal.proofs.Seen.{log_seen, form_by, header_first, least_head, field_front}
use Rattle.project_journal.proofs.{Kept.is_project, Once.log_once, Parses.form_least}

-- a disk that has a journal has a project in its file
pub journal_project : (form : Form) (log : Log) (c : Files) → IsForm form → HasLog form log c
    → IsProject (bytes_of (c form.file))
journal_project form log c known = is_project form log c (form_least form known)

pub generation_is : (form : Form) (log : Log) (c : Files) → IsForm form → HasLog form log c
    → generation_at (bytes_of (c form.file)) ≡ log.base.generation
generation_is form log c known has = (log_seen form has.front log form.file c known has.spelled has.shut).is

pub version_here : (form : Form) (log : Log) (c : Files) → IsForm form → (has : HasLog form log c)
    → field 5 4 (bytes_of (c form.file)) ≡ field 5 4 has.spelled.head
version_here form log c known has =
    let is = has.spelled in
    ap (field 5 4) (header_first is _ (0 ∷ has.shut.0) (ap bytes_of has.shut.1))
    ∙ field_front 5 4 is.head _ (omega arith) (least_head form is.head log known is.header)

pub record IsOne (f g : Form) (a b : Log) : Type 0 where
  pub form : f ≡ g
  pub log : a ≡ b

one_form : (f g : Form) (a b : Log) (c : Files) → IsForm f → IsForm g → f.file ≡ g.file → HasLog f a c → HasLog g b c
    → f ≡ g
one_form f g a b c f-known g-known same p q =
    let version : field 5 4 p.spelled.head ≡ field 5 4 q.spelled.head = sym (version_here f a c f-known p)
    ∙ ap (λ (n : ℕ). field 5 4 (bytes_of (c n))) same ∙ version_here g b c g-known q in
    sym (form_by f p.spelled.head a f-known p.spelled.header)
    ∙ ap (λ (v : ℕ). form_of v f.file) version ∙ ap (form_of (field 5 4 q.spelled.head)) same
    ∙ form_by g q.spelled.head b g-known q.spelled.header

-- of two journals in both files each would be the older
lower : (f g : Form) (a b : Log) (c : Files) → IsForm g → other_file f.file ≡ g.file → HasLog f a c → HasLog g b c
    → b.base.generation < a.base.generation
lower f g a b c g-known other p q =
    let newest : HasNoNewer g.file a.base.generation c =
    subst (λ (n : ℕ). HasNoNewer n a.base.generation c) other p.newest in
    let older = newest (journal_project g b c g-known q) in
    omega (arith, older.lower, generation_is g b c g-known q)

pub one_journal : (f g : Form) (a b : Log) (c : Files) → IsForm f → IsForm g → f.file ≤ 1 → g.file ≤ 1 → HasLog f a c
    → HasLog g b c → IsOne f g a b
one_journal f g a b c f-known g-known f-few g-few p q = ⊎_elim
    (λ same.
    let form = one_form f g a b c f-known g-known same p q in
    record {
      form = form;
      log = log_once g a b c g-known (subst (λ (x : Form). HasLog x a c) form p) q;
    })
    (λ differ.
    let one = lower f g a b c g-known (omega (arith, f-few, g-few, differ)) p q in
    let two = lower g f b a c f-known (omega (arith, f-few, g-few, differ)) q p in
    absurd (omega (arith, one, two)))
    (cases_eq f.file g.file)
