-- What is proved of the definitions themselves.
use Rattle.std.specs.Prelude.{◌≡◌, ℕ}
use Rattle.disk_model.specs.Disk.{Files}
use Rattle.project_journal.specs.declared.fault.Damaged.{Damaged}
use Rattle.editor_recovery.specs.Opening.{FirstFault}

-- the first fault of a disk is one, in one file
abbrev pub HasOneFault : Type 0
HasOneFault = (files : Files) (f g : ℕ) (d e : Damaged) → FirstFault files f d → FirstFault files g e
    → (f ≡ g) × (d ≡ e)
