-- Where the row of the journal has room for a record, its append takes no memory. None tells of a damaged file.
use Rattle.editor_commits.proofs.Common.{rules, sym, subst, ℕ, ◌+◌, ◌≤◌, ◌<◌, Result, Ok, Err, IfErr, IsErrOf}
use Rattle.editor_commits.proofs.Common.{Refusal, Ghosts, IsUndamaged, Appends, JournalFault, IsNoWant, Settles}
use Rattle.editor_commits.proofs.Common.{Core}
use Rattle.project_journal.specs.declared.fault.JournalFault.TheVariants as journal

abbrev Answer : Type 0
Answer = Result (Unit {0}) Refusal

pub no_want : {D : Type 0} (disk : Ghosts D) (old : Core D) (count : ℕ) (added : Result ℕ JournalFault) (result : Answer)
    (new : Core D) (at len room : ℕ)
    → Appends at len added → (IsErrOf added journal.NoMemory → room < 5 + len) → 5 + len ≤ room
    → Settles disk old count added result new → IfErr result IsNoWant
no_want disk old count (Ok next) result new at len room answer few enough by = search rules
no_want disk old count (Err journal.DiskFault) result new at len room answer few enough by = search rules
no_want disk old count (Err (journal.SpaceSpent have need)) result new at len room answer few enough by = search rules
no_want disk old count (Err journal.NoMemory) result new at len room answer few enough by = search rules
no_want disk old count (Err journal.Absent) result new at len room answer few enough by = absurd answer
no_want disk old count (Err journal.Exists) result new at len room answer few enough by = absurd answer
no_want disk old count (Err (journal.Damaged file place want have)) result new at len room answer few enough by =
    absurd answer

-- what the answer of an append makes of a studio tells of no damaged file
pub undamaged_settle : {D : Type 0} (disk : Ghosts D) (old : Core D) (count : ℕ) (added : Result ℕ JournalFault) (result : Answer)
    (new : Core D) → Settles disk old count added result new → IfErr result IsUndamaged
undamaged_settle disk old count (Ok next) result new by = subst (λ (r : Answer). IfErr r IsUndamaged) (sym by.0) tt
undamaged_settle disk old count (Err journal.DiskFault) result new by = search rules
undamaged_settle disk old count (Err (journal.SpaceSpent have need)) result new by = search rules
undamaged_settle disk old count (Err journal.NoMemory) result new by = search rules
undamaged_settle disk old count (Err journal.Absent) result new by = subst (λ (r : Answer). IfErr r IsUndamaged) (sym by.0) tt
undamaged_settle disk old count (Err journal.Exists) result new by = subst (λ (r : Answer). IfErr r IsUndamaged) (sym by.0) tt
undamaged_settle disk old count (Err (journal.Damaged file place want have)) result new by = search rules
