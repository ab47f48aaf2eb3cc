-- Sums of a piece of the frames, one list for each way to be heard.
use Rattle.std.specs.Prelude.{◌≡◌, ◌≤◌, ◌<◌, ◌+◌, ◌^◌, ℕ, ℤ, pos, ◌+ℤ◌, nat_abs, List, length, Bool, if◌then◌else◌}
use Rattle.std.specs.Prelude.{slice_index_or}
use Rattle.pcm_base.specs.declared.limits.TheConstants.{MAX_GAIN}
use Rattle.pcm_base.specs.{declared.sound.Frame.Frame, Arithmetic.clamped, Arithmetic.scaled}

abbrev pub sum_in : List ℤ → ℕ → ℤ
sum_in sums k = slice_index_or sums k (pos 0)

-- what the sample at a place adds under a gain
abbrev pub weight_in : ℕ → List ℤ → ℕ → ℤ
weight_in gain samples k = scaled gain (slice_index_or samples k (pos 0))

-- gains that a track may have
abbrev pub AreUsual : List ℕ → Type 0
AreUsual gains = (k : ℕ) → k < length gains → slice_index_or gains k 0 ≤ MAX_GAIN

-- the first n sums are no greater than this in size
abbrev pub AreWithin : ℕ → ℕ → List ℤ → Type 0
AreWithin most n sums = (k : ℕ) → k < n → nat_abs (sum_in sums k) ≤ most

-- the first n sums have grown in size by no more than what a sample can add under a gain that a track may have
abbrev pub Grows : ℕ → List ℤ → List ℤ → Type 0
Grows n old new = (k : ℕ) → k < n → nat_abs (sum_in new k) ≤ nat_abs (sum_in old k) + 2 ^ 19

-- the samples are added to the first sums, each at its place
abbrev pub IsAdded : ℕ → List ℤ → List ℤ → List ℤ → Type 0
IsAdded gain samples old new = (k : ℕ) → k < length samples → sum_in new k ≡ sum_in old k +ℤ weight_in gain samples k

-- what is heard on a side, where two lists of sums are heard together, with the samples added if they are heard there
abbrev pub IsHeard : Bool → ℕ → List ℤ → (List ℤ × List ℤ) → (List ℤ × List ℤ) → Type 0
IsHeard here gain samples old new =
    (k : ℕ) → k < length samples
    → sum_in new.0 k +ℤ sum_in new.1 k
    ≡ (sum_in old.0 k +ℤ sum_in old.1 k) +ℤ (if here then weight_in gain samples k else pos 0)

-- the frame of what is heard on each side, limited once
abbrev pub limited : ℤ → ℤ → Frame
limited left right = record { left = clamped left; right = clamped right }

-- the frame at a place of sums of the tracks that are heard on both sides, on the left and on the right alone
abbrev pub frame_in : List ℤ → List ℤ → List ℤ → ℕ → Frame
frame_in both left right k = limited (sum_in both k +ℤ sum_in left k) (sum_in both k +ℤ sum_in right k)
