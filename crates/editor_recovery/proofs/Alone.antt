-- Whether a project is there.
use Rattle.editor_recovery.proofs.Common.{◌≡◌, inl, inr, ⊎_elim, ◌∙◌, ℕ, Bool, true, false, refl, sym, ◌||◌}
use Rattle.editor_recovery.proofs.Common.{◌↔◌, IsTrue, Files, bytes_of, Damaged, IsPicked, Form, IsForm, IsProject}
use Rattle.editor_recovery.proofs.Common.{Log, HasLog, NoProject, zero_or_one, HeaderFault, HasNone, HasSome, ◌≤◌}
use Rattle.project_journal.proofs.{Chosen.journal_project}

-- in one of both files
pub some_in : (files : Files) (file : ℕ) → file ≤ 1 → IsProject (bytes_of (files file)) → HasSome files
some_in files file few project =
    elim (zero_or_one file few) [ inl first ↦ inl (rw first at project) | inr second ↦ inr (rw second at project) ]

pub some_picked : (files : Files) (file : ℕ) → IsPicked file files → HasSome files
some_picked files file picked = some_in files file picked.few picked.project

pub some_refused : (files : Files) (file : ℕ) (d : Damaged) → HeaderFault files file d → HasSome files
some_refused files file d (inl choice) = inl choice.first
some_refused files file d (inr header) = some_picked files file header.picked

-- a disk without a project has no journal
pub none_some : (files : Files) → HasNone files → HasSome files → ⊥
none_some files none (inl first) = none.0 first
none_some files none (inr second) = none.1 second

pub none_log : (files : Files) (form : Form) (log : Log) → IsForm form → form.file ≤ 1 → HasLog form log files
    → HasNone files → ⊥
none_log files form log known few has none =
    none_some files none (some_in files form.file few (journal_project form log files known has))

-- neither file has one, and the second after calls that read
pub none_after : {old new : Files} → new ≡ old → HasNone old → NoProject 1 new
none_after same none = rw same none.1

-- by a look at each
pub either_there : (files : Files) (a b : Bool) → IsTrue a ↔ IsProject (bytes_of (files 0))
    → IsTrue b ↔ IsProject (bytes_of (files 1)) → IsTrue (a || b) ↔ HasSome files
either_there files true b p q = (λ t. inl (p.0 refl), λ some. refl)
either_there files false true p q = (λ t. inr (q.0 refl), λ some. refl)
either_there files false false p q = (λ t. let no : false ≡ true = t in absurd cc, ⊎_elim p.1 q.1)

pub none_false : (files : Files) (there : Bool) → there ≡ false → IsTrue there ↔ HasSome files → HasNone files
none_false files there is same = (
  λ first. let no : false ≡ true = sym is ∙ same.1 (inl first) in cc,
  λ second. let no : false ≡ true = sym is ∙ same.1 (inr second) in cc,
)
