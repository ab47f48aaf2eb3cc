-- What was written and not synced since.
use Rattle.std.specs.Prelude.{◌≢◌, ◌≤◌, ℕ, zero, suc, List, Option, IfSome, All}
use Rattle.project_folder.specs.{declared.span.Span.Span, declared.open_files.Handle.Handle}

-- the span has no byte
abbrev pub IsEmpty : Span → Type 0
IsEmpty span = span.to ≤ span.from

-- the span has each byte from one place to before another
abbrev pub Covers : Span → ℕ → ℕ → Type 0
Covers span from to = (span.from ≤ from) × (to ≤ span.to)

-- nothing of the file waits for a sync, where it is file 0, or among these
abbrev pub IsSynced : {F : Type 0} → ℕ → Option (Handle F) → List (Handle F) → Type 0
IsSynced zero first waiting = IfSome first (λ handle. IsEmpty handle.unsynced)
IsSynced (suc n) first waiting = All (λ handle. handle.file ≢ suc n) waiting
