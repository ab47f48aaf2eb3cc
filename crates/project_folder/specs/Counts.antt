-- The counts of a store.
use Rattle.project_folder.specs.declared.counts.Counts.{Counts}

-- those of a store that was asked nothing yet
abbrev pub no_counts : Counts
no_counts = record { read_faults = 0; change_faults = 0; change_calls = 0; asked_bytes = 0; absent_writes = 0 }
