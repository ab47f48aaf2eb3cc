-- The mix of stretches of a project's tracks is the mix of the project, from the stretches' place on.
use Rattle.mixdown.proofs.Common.{◌≡◌, ◌<◌, ◌+◌, ℕ, zero, suc, ℤ, pos, List, [], ◌∷◌, Bool, true, false, take, drop}
use Rattle.mixdown.proofs.Common.{map, get_or, refl, sym, ap, ap₂, ◌∙◌, arith, ◌+ℤ◌, if◌then◌else◌, Both, Left, Right}
use Rattle.mixdown.proofs.Common.{heard_of, weight, is_on_left, is_on_right, unmuted, frame_at, Cell, Gap, Side}
use Rattle.mixdown.proofs.Common.{counted_from, scaled, Project, laid, left_sum, right_sum, AreStretches, gains_of}
use Rattle.mixdown.proofs.Common.{sides_of, limited}
use Rattle.std.specs.Prelude.{filter}
use Rattle.pcm_base.specs.Mix.{sum_at}
use Rattle.mixdown.proofs.LaidLaws.{gap_weighs, heard_weighs, left_first, right_first, none_before}

-- a track that is muted adds nothing
muted : (g : ℕ) (z : ℤ) → z ≡ scaled g (pos 0) +ℤ z
muted g z = none_before z ∙ ap (λ (w : ℤ). w +ℤ z) (sym (gap_weighs g))

loud : (g : ℕ) (cells : List Cell) (i : ℕ) (z : ℤ)
    → weight g (get_or cells i Gap) +ℤ z ≡ scaled g (heard_of (get_or cells i Gap)) +ℤ z
loud g cells i z = ap (λ (w : ℤ). w +ℤ z) (heard_weighs g (get_or cells i Gap))

pub left_of : (id gain : ℕ) (side : Side) (mute : Bool) (cells : List Cell) (ts : Project) (i : ℕ)
    → left_sum (record { id = id; gain = gain; side = side; mute = mute; cells = cells } ∷ ts) i
    ≡ (if is_on_left side then scaled gain (if mute then pos 0 else heard_of (get_or cells i Gap)) else pos 0)
    +ℤ left_sum ts i
left_of id gain Both true cells ts i = muted gain (left_sum ts i)
left_of id gain Left true cells ts i = muted gain (left_sum ts i)
left_of id gain Right true cells ts i = none_before (left_sum ts i)
left_of id gain Both false cells ts i = loud gain cells i (left_sum ts i)
left_of id gain Left false cells ts i = loud gain cells i (left_sum ts i)
left_of id gain Right false cells ts i = none_before (left_sum ts i)

pub right_of : (id gain : ℕ) (side : Side) (mute : Bool) (cells : List Cell) (ts : Project) (i : ℕ)
    → right_sum (record { id = id; gain = gain; side = side; mute = mute; cells = cells } ∷ ts) i
    ≡ (if is_on_right side then scaled gain (if mute then pos 0 else heard_of (get_or cells i Gap)) else pos 0)
    +ℤ right_sum ts i
right_of id gain Both true cells ts i = muted gain (right_sum ts i)
right_of id gain Left true cells ts i = none_before (right_sum ts i)
right_of id gain Right true cells ts i = muted gain (right_sum ts i)
right_of id gain Both false cells ts i = loud gain cells i (right_sum ts i)
right_of id gain Left false cells ts i = none_before (right_sum ts i)
right_of id gain Right false cells ts i = loud gain cells i (right_sum ts i)

left_stretches : (from len : ℕ) (p : Project) (samples : List ℤ) (k : ℕ) → k < len → AreStretches from len p samples
    → left_sum (laid len samples (gains_of p) (sides_of p)) k ≡ left_sum p (from + k)
left_stretches from len [] samples k lt are = refl
left_stretches from len (t ∷ ts) samples k lt are =
    left_first t.gain t.side (take len samples) (laid len (drop len samples) (gains_of ts) (sides_of ts)) k
    ∙ ap₂ (λ (x : ℤ) (z : ℤ). (if is_on_left t.side then scaled t.gain x else pos 0) +ℤ z) (are.0 k lt)
    (left_stretches from len ts (drop len samples) k lt are.1)
    ∙ sym (left_of t.id t.gain t.side t.mute t.cells ts (from + k))

right_stretches : (from len : ℕ) (p : Project) (samples : List ℤ) (k : ℕ) → k < len → AreStretches from len p samples
    → right_sum (laid len samples (gains_of p) (sides_of p)) k ≡ right_sum p (from + k)
right_stretches from len [] samples k lt are = refl
right_stretches from len (t ∷ ts) samples k lt are =
    right_first t.gain t.side (take len samples) (laid len (drop len samples) (gains_of ts) (sides_of ts)) k
    ∙ ap₂ (λ (x : ℤ) (z : ℤ). (if is_on_right t.side then scaled t.gain x else pos 0) +ℤ z) (are.0 k lt)
    (right_stretches from len ts (drop len samples) k lt are.1)
    ∙ sym (right_of t.id t.gain t.side t.mute t.cells ts (from + k))

stretches_frame : (from len : ℕ) (p : Project) (samples : List ℤ) (k : ℕ) → k < len → AreStretches from len p samples
    → frame_at (laid len samples (gains_of p) (sides_of p)) k ≡ frame_at p (from + k)
stretches_frame from len p samples k lt are =
    ap₂ limited (left_stretches from len p samples k lt are) (right_stretches from len p samples k lt are)

-- what is made of numbers in a row
pub same_counted : {A : Type 0} (f g : ℕ → A) (a b n : ℕ) → ((k : ℕ) → k < n → f (a + k) ≡ g (b + k))
    → map f (counted_from a n) ≡ map g (counted_from b n)
same_counted f g a b zero same = refl
same_counted f g a b (suc n) same =
    let here : a ≡ a + 0 = omega arith in
    let there : b ≡ b + 0 = omega arith in
    ap₂ ◌∷◌ (ap f here ∙ same 0 (omega arith) ∙ ap g (sym there)) (same_counted f g (a + 1) (b + 1) n (λ k lt.
    let one : a + 1 + k ≡ a + suc k = omega arith in
    let two : b + 1 + k ≡ b + suc k = omega arith in
    ap f one ∙ same (suc k) (omega (arith, lt)) ∙ ap g (sym two)))

-- frames of stretches of tracks are those of the tracks
pub stretches_frames : (from len : ℕ) (p : Project) (samples : List ℤ) → AreStretches from len p samples
    → map (frame_at (laid len samples (gains_of p) (sides_of p))) (counted_from 0 len)
    ≡ map (frame_at p) (counted_from from len)
stretches_frames from len p samples are =
    same_counted (frame_at (laid len samples (gains_of p) (sides_of p))) (frame_at p) 0 from len (λ k lt.
    let start : 0 + k ≡ k = omega arith in
    ap (frame_at (laid len samples (gains_of p) (sides_of p))) start ∙ stretches_frame from len p samples k lt are)

-- muted tracks may be left out
unmuted_first : (id gain : ℕ) (side : Side) (mute : Bool) (cells : List Cell) (ts : Project)
    → unmuted (unmuted ts) ≡ unmuted ts
    → unmuted (unmuted (record { id = id; gain = gain; side = side; mute = mute; cells = cells } ∷ ts))
    ≡ unmuted (record { id = id; gain = gain; side = side; mute = mute; cells = cells } ∷ ts)
unmuted_first id gain side true cells ts rest = rest
unmuted_first id gain side false cells ts rest =
    ap (λ (q : Project). record { id = id; gain = gain; side = side; mute = false; cells = cells } ∷ q) rest

unmuted_again : (p : Project) → unmuted (unmuted p) ≡ unmuted p
unmuted_again [] = refl
unmuted_again (t ∷ ts) = unmuted_first t.id t.gain t.side t.mute t.cells ts (unmuted_again ts)

unmuted_frame : (p : Project) (i : ℕ) → frame_at (unmuted p) i ≡ frame_at p i
unmuted_frame p i =
    ap (λ (q : Project). limited (sum_at i (filter (λ t. is_on_left t.side) q))
    (sum_at i (filter (λ t. is_on_right t.side) q))) (unmuted_again p)

-- frames of stretches of the unmuted tracks are the project's
pub unmuted_frames : (from len : ℕ) (p : Project) (samples : List ℤ) → AreStretches from len (unmuted p) samples
    → map (frame_at (laid len samples (gains_of (unmuted p)) (sides_of (unmuted p)))) (counted_from 0 len)
    ≡ map (frame_at p) (counted_from from len)
unmuted_frames from len p samples are =
    stretches_frames from len (unmuted p) samples are
    ∙ same_counted (frame_at (unmuted p)) (frame_at p) from from len (λ k lt. unmuted_frame p (from + k))
