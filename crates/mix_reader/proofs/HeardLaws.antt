-- Tracks that are heard, one after another.
use Rattle.mix_reader.proofs.Common.{◌≡◌, ℕ, zero, suc, ◌≤◌, ◌+◌, ◌-◌, max, min, Bool, true, false, List, [], ◌∷◌, ◌++◌}
use Rattle.mix_reader.proofs.Common.{length, drop, refl, sym, ap, subst, ◌∙◌, arith, if◌then◌else◌, Cell, Side, Sources}
use Rattle.mix_reader.proofs.Common.{unmuted, layout_blocks, layout_cells, Track, meant, point_blocks, AllNamed}
use Rattle.mix_reader.proofs.Common.{named_front, gains_of, sides_of, heard_count, heard_gains, heard_sides}
use Rattle.mix_reader.proofs.Common.{mix_length_of}
use Rattle.clip_track.specs.Clips.{end_of}
use Rattle.mix_reader.proofs.TrackLaws.{named_drop}
use Rattle.pcm_base.specs.Cells as cells

-- how many there are
pub count_drop : (i : ℕ) (ts : List Track) → heard_count (drop i ts) ≤ heard_count ts
count_drop zero ts = omega arith
count_drop (suc i) [] = omega arith
count_drop (suc i) (t ∷ ts) = omega (arith, count_drop i ts)

one_heard : (gain n : ℕ) (mute : Bool) (gains : List ℕ) → length gains ≡ n
    → length (if mute then gains else gain ∷ gains) ≡ (if mute then 0 else 1) + n
one_heard gain n true gains e = omega (arith, e)
one_heard gain n false gains e = omega (arith, e)

pub count_gains : (ts : List Track) → length (heard_gains ts) ≡ heard_count ts
count_gains [] = refl
count_gains (t ∷ ts) = one_heard t.gain (heard_count ts) t.mute (heard_gains ts) (count_gains ts)

one_side : (side : Side) (n : ℕ) (mute : Bool) (sides : List Side) → length sides ≡ n
    → length (if mute then sides else side ∷ sides) ≡ (if mute then 0 else 1) + n
one_side side n true sides e = omega (arith, e)
one_side side n false sides e = omega (arith, e)

pub count_sides : (ts : List Track) → length (heard_sides ts) ≡ heard_count ts
count_sides [] = refl
count_sides (t ∷ ts) = one_side t.side (heard_count ts) t.mute (heard_sides ts) (count_sides ts)

at_most_one : (mute : Bool) → (if mute then 0 else 1) ≤ 1
at_most_one true = omega arith
at_most_one false = omega arith

pub count_most : (ts : List Track) → heard_count ts ≤ length ts
count_most [] = omega arith
count_most (t ∷ ts) = omega (arith, at_most_one t.mute, count_most ts)

-- their gains and sides are those of the model
gains_more : (id gain : ℕ) (side : Side) (mute : Bool) (cs : List Cell) (ts : cells.Project) (gains : List ℕ)
    → gains ≡ gains_of (unmuted ts)
    → (if mute then gains else gain ∷ gains)
    ≡ gains_of (unmuted (record { id = id; gain = gain; side = side; mute = mute; cells = cs } ∷ ts))
gains_more id gain side true cs ts gains e = e
gains_more id gain side false cs ts gains e = ap (λ gs. gain ∷ gs) e

pub gains_heard : (src : Sources) (ts : List Track) → heard_gains ts ≡ gains_of (unmuted (meant src ts))
gains_heard src [] = refl
gains_heard src (t ∷ ts) =
    gains_more t.id t.gain t.side t.mute (layout_cells src t.layout) (meant src ts) (heard_gains ts)
    (gains_heard src ts)

sides_more : (id gain : ℕ) (side : Side) (mute : Bool) (cs : List Cell) (ts : cells.Project) (sides : List Side)
    → sides ≡ sides_of (unmuted ts)
    → (if mute then sides else side ∷ sides)
    ≡ sides_of (unmuted (record { id = id; gain = gain; side = side; mute = mute; cells = cs } ∷ ts))
sides_more id gain side true cs ts sides e = e
sides_more id gain side false cs ts sides e = ap (λ ss. side ∷ ss) e

pub sides_heard : (src : Sources) (ts : List Track) → heard_sides ts ≡ sides_of (unmuted (meant src ts))
sides_heard src [] = refl
sides_heard src (t ∷ ts) =
    sides_more t.id t.gain t.side t.mute (layout_cells src t.layout) (meant src ts) (heard_sides ts)
    (sides_heard src ts)

-- the blocks of one of the tracks
pub named_at : (k : ℕ) (ts us : List Track) (t : Track) → drop k ts ≡ t ∷ us → AllNamed (point_blocks ts)
    → AllNamed (layout_blocks t.layout)
named_at k ts us t e all =
    named_front (layout_blocks t.layout) (point_blocks us)
    (subst (λ (vs : List Track). AllNamed (point_blocks vs)) e (named_drop k ts all))

-- those of some tracks and then of others
gains_put : (gain : ℕ) (mute : Bool) (front back : List ℕ)
    → (if mute then front ++ back else gain ∷ (front ++ back)) ≡ (if mute then front else gain ∷ front) ++ back
gains_put gain true front back = refl
gains_put gain false front back = refl

pub gains_append : (ts us : List Track) → heard_gains (ts ++ us) ≡ heard_gains ts ++ heard_gains us
gains_append [] us = refl
gains_append (t ∷ ts) us =
    ap (λ gs. if t.mute then gs else t.gain ∷ gs) (gains_append ts us)
    ∙ gains_put t.gain t.mute (heard_gains ts) (heard_gains us)

sides_put : (side : Side) (mute : Bool) (front back : List Side)
    → (if mute then front ++ back else side ∷ (front ++ back)) ≡ (if mute then front else side ∷ front) ++ back
sides_put side true front back = refl
sides_put side false front back = refl

pub sides_append : (ts us : List Track) → heard_sides (ts ++ us) ≡ heard_sides ts ++ heard_sides us
sides_append [] us = refl
sides_append (t ∷ ts) us =
    ap (λ ss. if t.mute then ss else t.side ∷ ss) (sides_append ts us)
    ∙ sides_put t.side t.mute (heard_sides ts) (heard_sides us)

-- ---- where none is heard there is no frame

one_silent : (len n rest : ℕ) (mute : Bool) → (n ≡ 0 → rest ≡ 0) → (if mute then 0 else 1) + n ≡ 0
    → max (if mute then 0 else len) rest ≡ 0
one_silent len n rest true none is =
    let few : n ≡ 0 = omega (arith, is) in
    omega (arith, none few)
one_silent len n rest false none is = absurd (omega (arith, is))

none_heard : (ts : List Track) → heard_count ts ≡ 0 → mix_length_of ts ≡ 0
none_heard [] is = refl
none_heard (t ∷ ts) is =
    one_silent (end_of 0 t.layout) (heard_count ts) (mix_length_of ts) t.mute (none_heard ts) is

pub no_frame : (ts : List Track) (gains : List ℕ) (from most count : ℕ) → gains ≡ heard_gains ts
    → count ≡ min most (mix_length_of ts - from) → length gains ≡ 0 → count ≡ 0
no_frame ts gains from most count are is none =
    let nothing : mix_length_of ts ≡ 0 =
    none_heard ts (sym (count_gains ts) ∙ sym (ap length are) ∙ none) in
    omega (arith, is, nothing)
