-- The pieces of a recording, and the reclaims between them.
use Rattle.std.specs.Prelude.{◌≡◌, ◌⊎◌, ℕ, ◌+◌, ◌≤◌, if◌then◌else◌, Bool, true, false, List, [], ◌∷◌, ◌++◌, None}
use Rattle.pcm_base.specs.{Counters.commits_of, declared.command.Call.Call}
use Rattle.pcm_base.specs.{declared.command.Command.TheVariants.Reclaim, declared.entry.Entry.Entry}
use Rattle.pcm_base.specs.declared.command.Call.TheVariants as call

-- a reclaim of all that nothing names
abbrev pub IsFullReclaim : Call → Type 0
IsFullReclaim c = c ≡ call.Line (Reclaim None)

-- whether a call is of pieces of a recording
abbrev pub makes_piece : Call → Bool
makes_piece (call.Line c) = false
makes_piece (call.Piece track tag samples) = true
makes_piece call.Pin = false
makes_piece (call.PinLen pin) = false
makes_piece (call.ReadPin pin from count) = false
makes_piece (call.LoadPin pin from count) = false
makes_piece (call.Unpin pin) = false

-- the entries that are of pieces, in order
abbrev pub pieces_of : List Entry → List Entry
pieces_of [] = []
pieces_of (e ∷ es) = (if makes_piece e.call then e ∷ [] else []) ++ pieces_of es

-- how many pieces stand after the last other call, with those of this call, where this many stood before it
abbrev pub unfreed_by : ℕ → Call → ℕ
unfreed_by n c = if makes_piece c then n + commits_of c else 0

-- the same with these entries
abbrev pub unfreed : ℕ → List Entry → ℕ
unfreed n [] = n
unfreed n (e ∷ es) = unfreed (unfreed_by n e.call) es

-- Whether another call may come last after this many pieces: after 64, and at the end of a recording after one at least.
abbrev pub IsDue : Bool → ℕ → Type 0
IsDue true n = 1 ≤ n
IsDue false n = n ≡ 64

-- After each of these entries there are 64 at most, so each other call comes after 64 pieces. But the last entry of a
-- recording that ended may be one after fewer.
abbrev pub AreFreed : Bool → ℕ → List Entry → Type 0
AreFreed ended n [] = Unit {0}
AreFreed ended n (e ∷ es) = (makes_piece e.call ≡ false → (n ≡ 64) ⊎ ((es ≡ []) × IsDue ended n))
    × (unfreed_by n e.call ≤ 64) × AreFreed ended (unfreed_by n e.call) es
