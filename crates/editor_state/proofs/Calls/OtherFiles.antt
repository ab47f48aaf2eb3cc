-- What a call leaves of other files, by what each of its parts leaves.
use Rattle.editor_state.proofs.Common.{rules, inl, refl, ℕ, ◌+◌, ◌^◌, ◌≤◌, ◌<◌, Call, Line, Reclaim, Files}
use Rattle.editor_state.proofs.Common.{SameElsewhere, Ghosts, LeavesForeign, MayRemove, Core, IsStudio}
use Rattle.std.proofs.lemmas.Bool.{cases_lt}
use Rattle.editor_state.specs.Left.{LeavesOthers}
use Rattle.editor_state.specs.{Made.SameOutside}

-- no file may go
abbrev pub NoneGoes : ℕ → Type 0
NoneGoes file = ⊥

-- what a call that removes none does to the files
abbrev pub Leaving : (first last : ℕ) → Files → Files → Type 0
Leaving first last = LeavesOthers first last NoneGoes

pub others_none : (first last : ℕ) (MayGo : ℕ → Type 0) (c : Files) → LeavesOthers first last MayGo c c
others_none first last MayGo c = record { others = λ file other apart. inl refl }

-- calls in turn
pub others_then : (first last : ℕ) (MayGo : ℕ → Type 0) (d e c : Files) → LeavesOthers first last MayGo d e
    → LeavesOthers first last MayGo e c → LeavesOthers first last MayGo d c
others_then first last MayGo d e c one two = search rules

-- the same of more blocks, and where more may go
pub others_wider : (first last low high : ℕ) (Goes MayGo : ℕ → Type 0) (d c : Files) → low ≤ first → last ≤ high
    → ((file : ℕ) → Goes file → MayGo file) → LeavesOthers first last Goes d c → LeavesOthers low high MayGo d c
others_wider first last low high Goes MayGo d c below above goes step = search rules

-- where more may go
pub others_more : (first last : ℕ) (MayGo : ℕ → Type 0) (d c : Files) → Leaving first last d c
    → LeavesOthers first last MayGo d c
others_more first last MayGo d c step = search (rules, others_wider)

-- a record of the journal
pub others_record : (at first last : ℕ) (MayGo : ℕ → Type 0) → at ≤ 1 → (d c : Files) → SameElsewhere at d c
    → LeavesOthers first last MayGo d c
others_record at first last MayGo few d c same = search (rules, inl)

-- blocks that were made, and that may be
pub others_made : (first n last : ℕ) (MayGo : ℕ → Type 0) (d c : Files) → first + n ≤ last + 1 → first + n ≤ 2 ^ 62
    → SameOutside first n d c → LeavesOthers first last MayGo d c
others_made first n last MayGo d c few most same = search (rules, cases_lt)

-- ---- many calls

-- what a call may remove is a block's
pub removed_block : {D : Type 0} (disk : Ghosts D) (s : Core D) → IsStudio disk s → (call : Call) (file : ℕ)
    → MayRemove call s.counts file
    → (16 ≤ file) × (file < 2 ^ 62)
removed_block disk s is (Line (Reclaim limit)) file free = search (rules, is.given)
removed_block disk s is call file free = absurd free

pub foreign_left : (first last : ℕ) (MayGo : ℕ → Type 0) (d c : Files) → 16 ≤ first
    → ((file : ℕ) → MayGo file → (16 ≤ file) × (file < 2 ^ 62))
    → LeavesOthers first last MayGo d c → LeavesForeign d c
foreign_left first last MayGo d c least goes step = search rules

pub foreign_then : (d e c : Files) → LeavesForeign d e → LeavesForeign e c → LeavesForeign d c
foreign_then d e c one two = search (rules, two.foreign, one.foreign)

pub foreign_same : (c : Files) → LeavesForeign c c
foreign_same c = record { foreign = λ file other apart. refl }

-- what a call leaves, said of all files of others
pub foreign_of : {D : Type 0} (disk : Ghosts D) (s new : Core D) (call : Call) → IsStudio disk s → (d c : Files)
    → LeavesOthers s.next_block new.next_block (MayRemove call s.counts) d c → LeavesForeign d c
foreign_of disk s new call is d c step = search (rules, foreign_left, removed_block)
