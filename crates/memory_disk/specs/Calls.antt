-- The history that a list of calls and a row of bytes stand for.
use Rattle.std.specs.Prelude.{◌≡◌, ℕ, ◌+◌, ◌≤◌, ◌<◌, slice_index, Option, Some, None, Vec, List, [], ◌∷◌, length, take}
use Rattle.std.specs.Prelude.{drop}
use Rattle.std.specs.declared.alloc.Global.{Global}
use Rattle.pcm_base.specs.declared.limits.TheConstants.{COUNTER_LIMIT}
use Rattle.memory_disk.specs.History.{Step, Wrote, Synced, Removed}
use Rattle.memory_disk.specs.declared.call.Kind.TheVariants.{Write, Sync, Remove}
use Rattle.memory_disk.specs.{declared.call.Kind.Kind, declared.call.Call.Call}

abbrev pub step_by : Kind → ℕ → ℕ → List ℕ → Step
step_by Write file at bytes = Wrote file at bytes
step_by Sync file at bytes = Synced file
step_by Remove file at bytes = Removed file

abbrev pub step_of : List ℕ → Call → Step
step_of row call = step_by call.kind call.file call.at (take call.len (drop call.from row))

-- the calls come oldest first, on a history that is there
abbrev pub history_on : List Step → List ℕ → List Call → List Step
history_on done row [] = done
history_on done row (call ∷ calls) = history_on (step_of row call ∷ done) row calls

abbrev pub history_of : List ℕ → List Call → List Step
history_of row calls = history_on [] row calls

-- its bytes are in a row of this many
pub record Held (n : ℕ) (call : Call) : Type 0 where
  pub within : call.from + call.len ≤ n
  pub fits : call.at + call.len ≤ COUNTER_LIMIT

abbrev pub AllHeld : ℕ → List Call → Type 0
AllHeld n [] = Unit {0}
AllHeld n (call ∷ calls) = Held n call × AllHeld n calls

-- what is read through a window that begins at this offset; past the end there is 0
abbrev pub IsWindow : List ℕ → ℕ → List ℕ → Type 0
IsWindow content at buf = (j : ℕ) → j < length buf → slice_index buf j ≡ slice_index content (at + j)

abbrev pub items_of : Option (Vec ℕ Global) → Option (List ℕ)
items_of None = None
items_of (Some v) = Some v.items

-- it is no sync of this file
abbrev pub IsNoSync : ℕ → Call → Type 0
IsNoSync file call = call.kind ≡ Sync → call.file ≡ file → ⊥
