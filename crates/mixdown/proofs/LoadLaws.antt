-- The mix of a loaded stretch is that of the project that it shows.
use Rattle.mixdown.proofs.Common.{◌≡◌, ℕ, ℤ, pos, zero, suc, ◌+◌, ◌*◌, ◌≤◌, ◌<◌, List, [], ◌∷◌, length, take, drop, map}
use Rattle.mixdown.proofs.Common.{get_or, refl, sym, ap, ap₂, ◌∙◌, Bool, true, false, arith, length-drop, drop-drop}
use Rattle.mixdown.proofs.Common.{get_or_default, length-map, length-take, same_lists, get_or-map-range_with_len}
use Rattle.mixdown.proofs.Common.{length-map-range_with_len, if◌then◌else◌, Project, Track, longest, frame_at, heard_of}
use Rattle.mixdown.proofs.Common.{loaded_track, mix_of, stretch_of, unmuted, Gap, Sample, Side, counted_from}
use Rattle.mixdown.proofs.Common.{heard_track, AreStretches, gains_of, sides_of, heard, laid}
use Rattle.std.proofs.Common.{Some, slice_get}
use Rattle.std.proofs.lemmas.Option.{none-some, same_Some}
use Rattle.std.specs.{List.AllByRecursion, Prelude.not, Prelude.min}
use Rattle.pcm_base.specs.{declared.lists.LoadedTrack.LoadedTrack}
use Rattle.mixdown.specs.Loads.{IsLoaded, Shows, cut_in, loaded_samples, loaded_tracks, tracks_in}
use Rattle.mixdown.specs.Stretches.{IsStretch}
use Rattle.mixdown.specs.{declared.loaded.Loaded.Loaded}
use Rattle.mixdown.proofs.StretchLaws.{unmuted_frames}

pub shown_frames : (from : ℕ) (p : Project) (l : Loaded) → Shows from p l
    → map (frame_at (loaded_tracks l)) (counted_from 0 l.len) ≡ map (frame_at p) (counted_from from l.len)
shown_frames from p l shows =
    ap₂ (λ (gs : List ℕ) (ss : List Side). map (frame_at (laid l.len (loaded_samples l) gs ss)) (counted_from 0 l.len))
    shows.gains shows.sides
    ∙ unmuted_frames from l.len p (loaded_samples l) shows.samples

-- ---- what the model replies

-- no track is muted
abbrev AreHeard : Project → Type 0
AreHeard p = AllByRecursion (λ (t : Track). t.mute ≡ false) p

heard_first : (t : Track) (b : Bool) (ts us : Project) → AreHeard us → t.mute ≡ not b
    → AreHeard (if b then t ∷ us else us)
heard_first t true ts us all e = (e, all)
heard_first t false ts us all e = all

by_not : (b : Bool) → b ≡ not (not b)
by_not true = refl
by_not false = refl

all_heard : (p : Project) → AreHeard (unmuted p)
all_heard [] = tt
all_heard (t ∷ ts) = heard_first t (not t.mute) ts (unmuted ts) (all_heard ts) (by_not t.mute)

-- a stretch of a track that is heard, sample by sample
one_stretch : (from len : ℕ) (t : Track) (samples : List ℤ) → t.mute ≡ false → length samples ≡ len
    → IsStretch from len t samples → samples ≡ stretch_of from len t
one_stretch from len t samples sounds long is =
    let f : ℕ → ℤ = λ i. heard_of (get_or t.cells i Gap) in
    same_lists samples (stretch_of from len t) (long ∙ sym (length-map-range_with_len f from len)) (λ k d lt.
    let here : k < len = omega (arith, lt, long) in
    sym (get_or_default samples k (pos 0) d lt) ∙ is k here
    ∙ ap (λ (b : Bool). if b then pos 0 else heard_of (get_or t.cells (from + k) Gap)) sounds
    ∙ sym (get_or-map-range_with_len f from len k (from + k) d here refl))

cut_is : (from len : ℕ) (p : Project) (samples : List ℤ) → AreHeard p → length p * len ≤ length samples
    → AreStretches from len p samples
    → cut_in len samples (gains_of p) (sides_of p) ≡ map (loaded_track from len) p
cut_is from len [] samples all room are = refl
cut_is from len (t ∷ ts) samples all room are =
    let long : length (take len samples) ≡ len = omega (arith, length-take len samples, room) in
    ap₂ (λ (cs : List ℤ) us. record { gain = t.gain; side = t.side; samples = cs } ∷ us)
    (one_stretch from len t (take len samples) all.0 long are.0)
    (cut_is from len ts (drop len samples) all.1 (omega (arith, length-drop len samples, room)) are.1)

-- what is loaded of a project is what the model loads of it
pub shown_tracks : (from : ℕ) (p : Project) (l : Loaded) → IsLoaded l → Shows from p l
    → tracks_in l ≡ map (loaded_track from l.len) (unmuted p)
shown_tracks from p l is shows =
    let count : length l.gains.items ≡ length (unmuted p) =
    ap length shows.gains ∙ length-map (unmuted p) (λ (t : Track). t.gain) in
    let rows : length l.gains.items * l.len ≡ length (unmuted p) * l.len = ap (λ n. n * l.len) count in
    let room : length (unmuted p) * l.len ≤ length (loaded_samples l) =
    omega (arith, rows, length-take (length l.gains.items * l.len) l.samples.items, is.samples) in
    ap₂ (λ (gs : List ℕ) (ss : List Side). cut_in l.len (loaded_samples l) gs ss) shows.gains shows.sides
    ∙ cut_is from l.len (unmuted p) (loaded_samples l) (all_heard p) room shows.samples

-- and its frames are those of these tracks
laid_cut : (len : ℕ) (samples : List ℤ) (gains : List ℕ) (sides : List Side)
    → laid len samples gains sides ≡ map heard_track (cut_in len samples gains sides)
laid_cut len samples [] sides = refl
laid_cut len samples (g ∷ gains) [] = refl
laid_cut len samples (g ∷ gains) (s ∷ sides) =
    ap (λ ts. heard g s (take len samples) ∷ ts) (laid_cut len (drop len samples) gains sides)

pub loaded_is : (l : Loaded) → loaded_tracks l ≡ map heard_track (tracks_in l)
loaded_is l = laid_cut l.len (loaded_samples l) l.gains.items l.sides.items

-- ---- one of them

abbrev one_loaded : ℕ → Side → List ℤ → LoadedTrack
one_loaded gain side samples = record { gain = gain; side = side; samples = samples }

-- there is one for each gain
pub length_cut : (len : ℕ) (samples : List ℤ) (gains : List ℕ) (sides : List Side) → length sides ≡ length gains
    → length (cut_in len samples gains sides) ≡ length gains
length_cut len samples [] sides same = refl
length_cut len samples (g ∷ gains) [] same = absurd (omega (arith, same))
length_cut len samples (g ∷ gains) (s ∷ sides) same =
    omega (arith, length_cut len (drop len samples) gains sides (omega (arith, same)))

-- with the gain, the side and the stretch of its place
pub cut_at : (len i : ℕ) (samples : List ℤ) (gains : List ℕ) (sides : List Side) (gain : ℕ) (side : Side)
    → slice_get gains i ≡ Some gain → slice_get sides i ≡ Some side
    → slice_get (cut_in len samples gains sides) i ≡ Some (record {
      gain = gain;
      side = side;
      samples = take len (drop (i * len) samples);
    })
cut_at len i samples [] sides gain side is by = absurd (none-some gain is)
cut_at len i samples (g ∷ gains) [] gain side is by = absurd (none-some side by)
cut_at len zero samples (g ∷ gains) (s ∷ sides) gain side is by =
    let start : 0 ≡ 0 * len = omega arith in
    ap₂ (λ (x : ℕ) (y : Side). Some (one_loaded x y (take len samples))) (same_Some g gain is) (same_Some s side by)
    ∙ ap (λ (n : ℕ). Some (one_loaded gain side (take len (drop n samples)))) start
cut_at len (suc i) samples (g ∷ gains) (s ∷ sides) gain side is by =
    let on : len + i * len ≡ suc i * len = omega arith in
    cut_at len i (drop len samples) gains sides gain side is by
    ∙ ap (λ (xs : List ℤ). Some (one_loaded gain side (take len xs)))
    (drop-drop (i * len) len samples ∙ ap (λ (n : ℕ). drop n samples) on)

-- ---- how long they are

laid_one : (len : ℕ) (samples : List ℤ) → length (map Sample (take len samples)) ≡ min len (length samples)
laid_one len samples = length-map (take len samples) Sample ∙ length-take len samples

laid_few : (len : ℕ) (samples : List ℤ) (gains : List ℕ) (sides : List Side)
    → longest (unmuted (laid len samples gains sides)) ≤ len
laid_few len samples [] sides = omega arith
laid_few len samples (g ∷ gains) [] = omega arith
laid_few len samples (g ∷ gains) (s ∷ sides) =
    omega (arith, laid_one len samples, laid_few len (drop len samples) gains sides)

laid_long : (len g : ℕ) (s : Side) (samples : List ℤ) (gains : List ℕ) (sides : List Side) → len ≤ length samples
    → longest (unmuted (laid len samples (g ∷ gains) (s ∷ sides))) ≡ len
laid_long len g s samples gains sides room =
    omega (arith, room, laid_one len samples, laid_few len (drop len samples) gains sides)

laid_length : (len : ℕ) (samples : List ℤ) (gains : List ℕ) (sides : List Side) → length sides ≡ length gains
    → length gains * len ≤ length samples → (length gains ≡ 0 → len ≡ 0)
    → longest (unmuted (laid len samples gains sides)) ≡ len
laid_length len samples [] sides same room none = sym (none refl)
laid_length len samples (g ∷ gains) [] same room none = absurd (omega (arith, same))
laid_length len samples (g ∷ gains) (s ∷ sides) same room none =
    let first : len ≤ length samples = omega (arith, room) in
    laid_long len g s samples gains sides first

-- the mix of the tracks as the model replies them
pub full_mix : (l : Loaded) → IsLoaded l → (length l.gains.items ≡ 0 → l.len ≡ 0)
    → mix_of (map heard_track (tracks_in l)) ≡ map (frame_at (loaded_tracks l)) (counted_from 0 l.len)
full_mix l is none =
    let room : length l.gains.items * l.len ≤ length (loaded_samples l) =
    omega (arith, length-take (length l.gains.items * l.len) l.samples.items, is.samples) in
    ap mix_of (sym (loaded_is l))
    ∙ ap (λ (n : ℕ). map (frame_at (loaded_tracks l)) (counted_from 0 n))
    (laid_length l.len (loaded_samples l) l.gains.items l.sides.items is.sides room none)
