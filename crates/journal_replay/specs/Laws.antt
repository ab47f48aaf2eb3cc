-- What is proved of the definitions themselves.
use Rattle.std.specs.Prelude.{◌≡◌, ℕ, ◌≤◌, ◌<◌, ◌^◌, None, List, map}
use Rattle.project_journal.specs.Journal.{body_at}
use Rattle.record_body.specs.Saved.{Saved, LeadIn}
use Rattle.journal_replay.specs.Faults.{first_fault_in}

-- Records that lead from one project to another in a journal of any version have no fault, wherever they stand, at each
-- block size that is a u32 from 4 on.
abbrev pub NoValidRecordIsRefused : Type 0
NoValidRecordIsRefused =
    (version m : ℕ) (from to : Saved) (records : List (ℕ × List ℕ)) → 4 ≤ m → m < 2 ^ 32
    → LeadIn version m from (map body_at records) to → first_fault_in version m from records ≡ None
