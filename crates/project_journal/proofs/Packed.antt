-- What is left of the two files of journals while one is put into the other.
use Rattle.project_journal.proofs.Common.{◌≡◌, ◌≢◌, ◌⊎◌, inl, inr, ⊎_elim, ℕ, ◌<◌, ◌≤◌, Bool, Option, Some, None, List}
use Rattle.project_journal.proofs.Common.{[], ◌∷◌, length, sym, ◌∙◌, ap, subst, arith, length-append, append-nil, Files}
use Rattle.project_journal.proofs.Common.{Follows, SameElsewhere, RemoveStep, WriteStep, bytes_of, upto_refl, Ghosts}
use Rattle.project_journal.proofs.Common.{each_from, each_on, IsShut, IsOpen, HasGate, IsShutOrOpen, IsDurable, EachNow}
use Rattle.project_journal.proofs.Common.{EachSince, HasNoNewer, IsOlder, IsNewest, other_file, Form, IsProject, form_3}
use Rattle.project_journal.proofs.Common.{Log, HasLog, IsAt, IsLog, IsText, NoProject}
use Rattle.project_journal.specs.{Packing.MayPack, Packing.HasEither}
use Rattle.project_journal.proofs.Starts.{stays_short, none_shut, fresh_shut}
use Rattle.project_journal.proofs.{Kept.others_differ, Seen.log_older}

-- ---- no newer journal

pub newer_same : (file g : ℕ) (d c : Files) → c file ≡ d file → HasNoNewer file g d → HasNoNewer file g c
newer_same file g d c same =
    subst (λ (o : Option (List ℕ)). IsProject (bytes_of o) → IsOlder g (bytes_of o)) (sym same)

pub newer_none : (file g : ℕ) (c : Files) → NoProject file c → HasNoNewer file g c
newer_none file g c none = λ project. absurd (none project)

none_absent : (file : ℕ) (c : Files) → c file ≡ None → NoProject file c
none_absent file c gone project = absurd (omega (arith, project.0, ap (λ (o : Option (List ℕ)). length (bytes_of o)) gone))

pub newer_removed : (file g : ℕ) (d c : Files) → HasNoNewer file g d → RemoveStep file d c → HasNoNewer file g c
newer_removed file g d c newer step = ⊎_elim
    (λ same. newer_same file g d c same newer)
    (λ gone. newer_none file g c (none_absent file c gone))
    step.gone

-- a write of one byte to an absent file leaves no project
pub newer_short : (file g : ℕ) (d c : Files) → d file ≡ None → WriteStep file 0 1 d c → HasNoNewer file g c
newer_short file g d c gone step =
    let short : length (bytes_of (d file)) < 33 =
    omega (arith, ap (λ (o : Option (List ℕ)). length (bytes_of o)) gone) in
    newer_none file g c (λ project. absurd (omega (arith, project.0, stays_short file d c short step)))

pub newer_or_open : (file g : ℕ) (text : List ℕ) (c : Files) → IsShutOrOpen file [] text c
    → HasNoNewer file g c ⊎ IsOpen file [] text c
newer_or_open file g text c = ⊎_elim (λ shut. inl (newer_none file g c (none_shut file c shut))) (λ opened. inr opened)

-- ---- the journal that was put into one header

pub text_log : (text : List ℕ) (packed : Log) (file gate : ℕ) → gate ≢ 0 → (is : IsText text packed)
    → IsLog (form_3 file) (gate ∷ is.header) packed
text_log text packed file gate not_shut is = record {
  head = gate ∷ is.header;
  entries = [];
  parts = sym (append-nil (gate ∷ is.header));
  header = is.spelled file gate not_shut;
  each = tt;
  bodies = sym is.none;
}

pub text_there : (text : List ℕ) (packed : Log) (file : ℕ) (c : Files) → IsText text packed → IsOpen file [] text c
    → IsNewest file packed.base.generation c → HasLog (form_3 file) packed c
text_there text packed file c is opened newest = record {
  front = opened.0 ∷ is.header;
  spelled = text_log text packed file opened.0 opened.1 is;
  shut = fresh_shut file text is.header opened.0 c is.parts opened.2;
  newest = newest;
}

whole_gate : (file : ℕ) (text : List ℕ) (c : Files) → c file ≡ Some (1 ∷ text) → HasGate file [] 1 text c
whole_gate file text c is = ([], is ∙ ap (λ (l : List ℕ). Some (1 ∷ l)) (sym (append-nil text)))

pub open_text : (file : ℕ) (text : List ℕ) (c : Files) → c file ≡ Some (1 ∷ text) → IsOpen file [] text c
open_text file text c is = (1, (λ none. absurd (omega (arith, none))), whole_gate file text c is)

other_of_other : (file : ℕ) → file ≤ 1 → other_file (other_file file) ≡ file
other_of_other file le = omega (arith, le)

-- no image has a newer journal in the other file
pub newest_here : {D : Type 0} {disk : Ghosts D} {store : D} {file : ℕ} {there : Bool} {text : List ℕ} {form : Form}
    {log packed : Log} → MayPack disk store file there text form log packed
    → EachNow disk store (HasNoNewer (other_file file) log.base.generation)
newest_here {log = log} may c now =
    subst (λ (f : ℕ). IsNewest f log.base.generation c) may.same (may.here.newest_images c now)

-- at any moment of both steps
module _ {D : Type 0} (disk : Ghosts D) (old mid : D) (file : ℕ) (there : Bool) (text : List ℕ) (form : Form)
    (log packed : Log) (few : file ≤ 1) (may : MayPack disk old file there text form log packed)
    (follows : Follows (SameElsewhere (other_file file)) (disk.clock old) (disk.clock mid) (disk.may_leave old)
    (disk.may_leave mid))
    (any : EachSince disk old mid
    (λ c. HasNoNewer (other_file file) log.base.generation c ⊎ IsOpen (other_file file) [] text c)) where
  abbrev here : IsAt form disk old may.at log
  here = may.here

  -- this file's journal, while the other is written
  still_shut : (c : Files) → disk.may_leave mid (disk.clock old) c → IsShut file here.front c
  still_shut c since =
      let d = follows.from c since in
      let shut = subst (λ (f : ℕ). IsShut f here.front d.0) may.same (here.images d.0 d.1) in
      (shut.0, d.2 file (λ e. others_differ file (sym e)) ∙ shut.1)

  pub older_there : (c : Files) → disk.may_leave mid (disk.clock old) c → HasNoNewer file packed.base.generation c
  older_there c since = λ _. log_older form here.front log file packed.base.generation c may.known here.spelled
      (still_shut c since) may.later

  pub text_newest : (c : Files) → HasNoNewer file packed.base.generation c
      → IsNewest (other_file file) packed.base.generation c
  text_newest c newer =
      subst (λ (f : ℕ). HasNoNewer f packed.base.generation c) (sym (other_of_other file few)) newer

  pub one_moment : EachSince disk old mid (HasEither form log packed)
  one_moment c since = ⊎_elim
      (λ newer. inl (record {
        front = here.front;
        spelled = here.spelled;
        shut = subst (λ (f : ℕ). IsShut f here.front c) (sym may.same) (still_shut c since);
        newest = subst (λ (f : ℕ). IsNewest f log.base.generation c) (sym may.same) newer;
      }))
      (λ opened. inr (subst (λ (f : ℕ). HasLog (form_3 (other_file f)) packed c) (sym may.same)
      (text_there text packed (other_file file) c may.spells opened (text_newest c (older_there c since)))))
      (any c since)

  -- with the text whole in the other file, and this one being removed
  module _ (new : D) (whole : disk.reads mid (other_file file) ≡ Some (1 ∷ text))
      (same : IsDurable disk mid (other_file file))
      (removes : Follows (RemoveStep file) (disk.clock mid) (disk.clock new) (disk.may_leave mid)
      (disk.may_leave new)) where
    abbrev Left : Files → Type 0
    Left c = (c (other_file file) ≡ Some (1 ∷ text)) × HasNoNewer file packed.base.generation c

    left_now : EachNow disk mid Left
    left_now c now = (
      same c now ∙ whole,
      older_there c (follows.fewer (disk.clock old) (disk.clock mid) c follows.later (upto_refl _) now),
    )

    left_since : EachSince disk mid new Left
    left_since = each_from Left Left removes left_now (λ d c left step. (
      step.others (other_file file) (others_differ file) ∙ left.0,
      newer_removed file packed.base.generation d c left.1 step,
    ))

    text_left : (c : Files) → Left c → HasLog (form_3 (other_file file)) packed c
    text_left c left = text_there text packed (other_file file) c may.spells (open_text (other_file file) text c left.0)
        (text_newest c left.1)

    pub all_moments : EachSince disk old new (HasEither form log packed)
    all_moments = each_on (HasEither form log packed) (disk.clock old) removes follows.later one_moment
        (λ c since. inr (subst (λ (f : ℕ). HasLog (form_3 (other_file f)) packed c) (sym may.same)
        (text_left c (left_since c since))))

    pub packed_at : RemoveStep file (disk.reads mid) (disk.reads new) → disk.reads new file ≡ None
        → IsAt (form_3 (other_file file)) disk new (length text) packed
    packed_at step gone =
        let other = other_file file in
        let reads : disk.reads new other ≡ Some (1 ∷ text) = step.others other (others_differ file) ∙ whole in
        let shut : (c : Files) → c other ≡ Some (1 ∷ text) → IsShut other (1 ∷ may.spells.header) c =
        λ c is. fresh_shut other text may.spells.header 1 c may.spells.parts (whole_gate other text c is) in
        let now : EachNow disk new Left = λ c here_now.
        left_since c (removes.fewer _ _ c removes.later (upto_refl _) here_now) in
        record {
          front = 1 ∷ may.spells.header;
          place = omega (arith, ap length may.spells.parts, length-append may.spells.header (0 ∷ []));
          spelled = text_log text packed other 1 (λ none. absurd (omega (arith, none))) may.spells;
          read = shut (disk.reads new) reads;
          images = λ c here_now. shut c (now c here_now).0;
          newest = text_newest (disk.reads new)
              (newer_none file packed.base.generation (disk.reads new) (none_absent file (disk.reads new) gone));
          newest_images = λ c here_now. text_newest c (now c here_now).1;
        }
