-- The journal of a new project begins with the project without commits.
use Rattle.record_body.proofs.Common.{ℕ, arith, Begins, new_project}
use Rattle.project_journal.specs.Journal.{fresh}

pub fresh_begins : (rate m depth : ℕ) → Begins (fresh rate m depth) (new_project depth)
fresh_begins rate m depth = search arith
