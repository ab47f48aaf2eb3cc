-- The mix of the tracks that the model loads is the project's from their place on.
use Rattle.mixdown.proofs.Common.{◌≡◌, ◌<◌, ◌≤◌, ◌+◌, ◌-◌, ℕ, ℤ, pos, List, [], ◌∷◌, Bool, true, false, map, get_or}
use Rattle.mixdown.proofs.Common.{length, refl, sym, ap, ap₂, ◌∙◌, arith, length-map, get_or-map-range_with_len}
use Rattle.mixdown.proofs.Common.{length-map-range_with_len, ◌+ℤ◌, if◌then◌else◌, frame_at, is_on_left, is_on_right}
use Rattle.mixdown.proofs.Common.{loaded_track, mix_of, heard_of, stretch_of, unmuted, Gap, Sample, Cell, Side}
use Rattle.mixdown.proofs.Common.{counted_from, scaled, Project, Track, longest, left_sum, right_sum, heard_track}
use Rattle.mixdown.proofs.Common.{limited}
use Rattle.std.proofs.Common.{min}
use Rattle.pcm_base.specs.Mix.{loaded_of, mix_length}
use Rattle.mixdown.proofs.LaidLaws.{left_first, right_first}
use Rattle.mixdown.proofs.StretchLaws.{left_of, right_of, same_counted}

-- this many samples of each track that is heard, as tracks of the model
abbrev loaded_by : (from k : ℕ) → Project → Project
loaded_by from k p = map heard_track (map (loaded_track from k) (unmuted p))

stretch_sample : (from k i : ℕ) (t : Track) → i < k
    → get_or (stretch_of from k t) i (pos 0) ≡ heard_of (get_or t.cells (from + i) Gap)
stretch_sample from k i t lt =
    get_or-map-range_with_len (λ j. heard_of (get_or t.cells j Gap)) from k i (from + i) (pos 0) lt refl

left_one : (from k i id gain : ℕ) (side : Side) (mute : Bool) (cells : List Cell) (ts : Project) → i < k
    → left_sum (loaded_by from k ts) i ≡ left_sum ts (from + i)
    → left_sum (loaded_by from k (record { id = id; gain = gain; side = side; mute = mute; cells = cells } ∷ ts)) i
    ≡ left_sum (record { id = id; gain = gain; side = side; mute = mute; cells = cells } ∷ ts) (from + i)
left_one from k i id gain side true cells ts lt rest = rest
left_one from k i id gain side false cells ts lt rest =
    let t : Track = record { id = id; gain = gain; side = side; mute = false; cells = cells } in
    left_first gain side (stretch_of from k t) (loaded_by from k ts) i
    ∙ ap₂ (λ (x : ℤ) (z : ℤ). (if is_on_left side then scaled gain x else pos 0) +ℤ z)
    (stretch_sample from k i t lt) rest
    ∙ sym (left_of id gain side false cells ts (from + i))

left_loaded : (from k i : ℕ) (ts : Project) → i < k → left_sum (loaded_by from k ts) i ≡ left_sum ts (from + i)
left_loaded from k i [] lt = refl
left_loaded from k i (t ∷ ts) lt =
    left_one from k i t.id t.gain t.side t.mute t.cells ts lt (left_loaded from k i ts lt)

right_one : (from k i id gain : ℕ) (side : Side) (mute : Bool) (cells : List Cell) (ts : Project) → i < k
    → right_sum (loaded_by from k ts) i ≡ right_sum ts (from + i)
    → right_sum (loaded_by from k (record { id = id; gain = gain; side = side; mute = mute; cells = cells } ∷ ts)) i
    ≡ right_sum (record { id = id; gain = gain; side = side; mute = mute; cells = cells } ∷ ts) (from + i)
right_one from k i id gain side true cells ts lt rest = rest
right_one from k i id gain side false cells ts lt rest =
    let t : Track = record { id = id; gain = gain; side = side; mute = false; cells = cells } in
    right_first gain side (stretch_of from k t) (loaded_by from k ts) i
    ∙ ap₂ (λ (x : ℤ) (z : ℤ). (if is_on_right side then scaled gain x else pos 0) +ℤ z)
    (stretch_sample from k i t lt) rest
    ∙ sym (right_of id gain side false cells ts (from + i))

right_loaded : (from k i : ℕ) (ts : Project) → i < k → right_sum (loaded_by from k ts) i ≡ right_sum ts (from + i)
right_loaded from k i [] lt = refl
right_loaded from k i (t ∷ ts) lt =
    right_one from k i t.id t.gain t.side t.mute t.cells ts lt (right_loaded from k i ts lt)

loaded_frame : (from k i : ℕ) (p : Project) → i < k → frame_at (loaded_by from k p) i ≡ frame_at p (from + i)
loaded_frame from k i p lt = ap₂ limited (left_loaded from k i p lt) (right_loaded from k i p lt)

-- how long they are
loaded_len : (from k : ℕ) (t : Track) → length (map Sample (stretch_of from k t)) ≡ k
loaded_len from k t =
    length-map (stretch_of from k t) Sample
    ∙ length-map-range_with_len (λ j. heard_of (get_or t.cells j Gap)) from k

few_loaded : (from k : ℕ) (ts : Project) → longest (unmuted (map heard_track (map (loaded_track from k) ts))) ≤ k
few_loaded from k [] = omega arith
few_loaded from k (t ∷ ts) =
    omega (arith, loaded_len from k t, few_loaded from k ts)

long_loaded : (from k : ℕ) (t : Track) (ts : Project)
    → longest (unmuted (map heard_track (map (loaded_track from k) (t ∷ ts)))) ≡ k
long_loaded from k t ts =
    omega (arith, loaded_len from k t, few_loaded from k ts)

loaded_length : (from most : ℕ) (ts : Project)
    → longest (unmuted (map heard_track (map (loaded_track from (min most (longest ts - from))) ts)))
    ≡ min most (longest ts - from)
loaded_length from most [] = omega arith
loaded_length from most (t ∷ ts) = long_loaded from (min most (longest (t ∷ ts) - from)) t ts

-- the frames from there on, as many as there are
pub loaded_mix : (from most : ℕ) (p : Project)
    → mix_of (map heard_track (loaded_of from most p))
    ≡ map (frame_at p) (counted_from from (min most (mix_length p - from)))
loaded_mix from most p =
    let k : ℕ = min most (mix_length p - from) in
    ap (λ n. map (frame_at (loaded_by from k p)) (counted_from 0 n)) (loaded_length from most (unmuted p))
    ∙ same_counted (frame_at (loaded_by from k p)) (frame_at p) 0 from k (λ j lt.
    let start : 0 + j ≡ j = omega arith in
    ap (frame_at (loaded_by from k p)) start ∙ loaded_frame from k j p lt)
