-- Tracks of a point, one after another.
use Rattle.mix_reader.proofs.Common.{ℤ, ◌≡◌, ℕ, zero, suc, ◌+◌, ◌≤◌, ◌<◌, Bool, true, false, List, [], ◌∷◌, ◌++◌}
use Rattle.mix_reader.proofs.Common.{length, take, drop, max, slice_get, Some, get_or, refl, sym, ap, subst, ◌∙◌, arith}
use Rattle.mix_reader.proofs.Common.{length-take, if◌then◌else◌, Cell, Side, Sources, mix_length, mix_of, unmuted}
use Rattle.mix_reader.proofs.Common.{Files, layout_cells, layout_blocks, Track, meant, meant_track, point_blocks}
use Rattle.mix_reader.proofs.Common.{take_some, AllNamed, IsRestOf, stored_of, take_front, drop_front, IsStretch}
use Rattle.mix_reader.proofs.Common.{AreStretches, gains_of, sides_of, heard_tracks, track_gains, track_sides}
use Rattle.mix_reader.proofs.Common.{TrackPass, AreRestsOf}
use Rattle.std.proofs.Common.{cond, length-append, ap₂}
use Rattle.std.proofs.lemmas.List.Elements.{Contains-append_left, Contains-append_right, filter-append}
use Rattle.std.proofs.lemmas.List.{append-nil}
use Rattle.std.specs.Prelude.{Contains, not}
use Rattle.pcm_base.specs.{declared.block.BlockRef.BlockRef, Cells.longest}
use Rattle.sample_block.specs.Sources.{sources_of, AllWhole}
use Rattle.cell_reader.proofs.SeenLaws.{whole_front, whole_back, named_back}
use Rattle.cell_reader.proofs.{RestLaws.rest_later, StoredLaws.stored_cells}
use Rattle.mix_reader.specs.Tracks.{stored_mix}
use borrow.Rule.Slice.PartMut.{put_mid}
use lib.ListN.{set}
use Rattle.pcm_base.specs.Cells as cells

-- facts of the tracks that are left
pub named_drop : (i : ℕ) (ts : List Track) → AllNamed (point_blocks ts) → AllNamed (point_blocks (drop i ts))
named_drop zero ts all = all
named_drop (suc i) [] all = all
named_drop (suc i) (t ∷ ts) all = named_drop i ts (named_back (layout_blocks t.layout) (point_blocks ts) all)

-- what is left of one of the tracks
pub rests_at : (from : ℕ) (ts : List Track) (ps : List TrackPass) (i : ℕ) (d : Track) (e : TrackPass) → i < length ts
    → AreRestsOf from ts ps → IsRestOf from (get_or ts i d).layout (get_or ps i e).rest
rests_at from [] ps i d e lt are = absurd (omega (arith, lt))
rests_at from (t ∷ ts) [] i d e lt are = absurd are
rests_at from (t ∷ ts) (p ∷ ps) zero d e lt are = are.0
rests_at from (t ∷ ts) (p ∷ ps) (suc i) d e lt are = rests_at from ts ps i d e (omega (arith, lt)) are.1

pub rests_set : (from : ℕ) (ts : List Track) (ps : List TrackPass) (i : ℕ) (d : Track) (p' : TrackPass) → i < length ts
    → AreRestsOf from ts ps → IsRestOf from (get_or ts i d).layout p'.rest → AreRestsOf from ts (set ps i p')
rests_set from [] ps i d p' lt are is = absurd (omega (arith, lt))
rests_set from (t ∷ ts) [] i d p' lt are is = absurd are
rests_set from (t ∷ ts) (p ∷ ps) zero d p' lt are is = (is, are.1)
rests_set from (t ∷ ts) (p ∷ ps) (suc i) d p' lt are is =
    (are.0, rests_set from ts ps i d p' (omega (arith, lt)) are.1 is)

-- there is one for each
pub rests_few : (from : ℕ) (ts : List Track) (ps : List TrackPass) → AreRestsOf from ts ps → length ts ≤ length ps
rests_few from [] ps are = omega arith
rests_few from (t ∷ ts) [] are = absurd are
rests_few from (t ∷ ts) (p ∷ ps) are = omega (arith, rests_few from ts ps are.1)

pub rests_later : (from to : ℕ) (ts : List Track) (ps : List TrackPass) → from ≤ to → AreRestsOf from ts ps
    → AreRestsOf to ts ps
rests_later from to [] ps le are = tt
rests_later from to (t ∷ ts) [] le are = absurd are
rests_later from to (t ∷ ts) (p ∷ ps) le are =
    (rest_later from to t.layout p.rest le are.0, rests_later from to ts ps le are.1)

-- the blocks of one of the tracks that are left
pub blocks_drop : (i : ℕ) (ts : List Track) (b : BlockRef) → Contains (point_blocks (drop i ts)) b
    → Contains (point_blocks ts) b
blocks_drop zero ts b has = has
blocks_drop (suc i) [] b has = has
blocks_drop (suc i) (t ∷ ts) b has =
    Contains-append_right (layout_blocks t.layout) (point_blocks ts) b (blocks_drop i ts b has)

pub blocks_at : (k : ℕ) (ts us : List Track) (t : Track) (b : BlockRef) → drop k ts ≡ t ∷ us
    → Contains (layout_blocks t.layout) b → Contains (point_blocks ts) b
blocks_at k ts us t b e has = blocks_drop k ts b (subst (λ (vs : List Track). Contains (point_blocks vs) b) (sym e)
    (Contains-append_left (layout_blocks t.layout) (point_blocks us) b has))

-- a stretch is put before those of the tracks after
pub stretch_put : (from len a k : ℕ) (xs ys : List ℤ) (t : cells.Track) (ts : cells.Project) → a ≤ length xs
    → length ys ≡ len → k ≡ len → IsStretch from len t ys
    → AreStretches from len ts (drop len (drop a xs)) → AreStretches from len (t ∷ ts) (drop a (put_mid a k xs ys))
stretch_put from len a k xs ys t ts fits size same is are =
    let here : drop a (put_mid a k xs ys) ≡ ys ++ drop k (drop a xs) =
    drop_front a (take a xs) (ys ++ drop k (drop a xs)) (omega (arith, length-take a xs, fits)) in
    let first : take len (drop a (put_mid a k xs ys)) ≡ ys =
    ap (take len) here ∙ take_front len ys (drop k (drop a xs)) size in
    let rest : drop len (drop a (put_mid a k xs ys)) ≡ drop len (drop a xs) =
    ap (drop len) here ∙ drop_front len ys (drop k (drop a xs)) size ∙ ap (λ n. drop n (drop a xs)) same in
    let I : List ℤ → Type 0 = λ zs. IsStretch from len t zs in
    let A : List ℤ → Type 0 = λ zs. AreStretches from len ts zs in
    (subst I (sym first) is, subst A (sym rest) are)

-- what the tracks mean
longest_of : (id gain : ℕ) (side : Side) (mute : Bool) (cs : List Cell) (ts : cells.Project)
    → longest (unmuted (record { id = id; gain = gain; side = side; mute = mute; cells = cs } ∷ ts))
    ≡ max (if mute then 0 else length cs) (longest (unmuted ts))
longest_of id gain side true cs ts = omega arith
longest_of id gain side false cs ts = refl

pub longest_first : (src : Sources) (t : Track) (ts : List Track)
    → mix_length (meant src (t ∷ ts)) ≡ max (if t.mute then 0 else length (layout_cells src t.layout))
    (mix_length (meant src ts))
longest_first src t ts = longest_of t.id t.gain t.side t.mute (layout_cells src t.layout) (meant src ts)

pub gains_meant : (src : Sources) (ts : List Track) → gains_of (meant src ts) ≡ track_gains ts
gains_meant src [] = refl
gains_meant src (t ∷ ts) = ap (λ gs. t.gain ∷ gs) (gains_meant src ts)

pub sides_meant : (src : Sources) (ts : List Track) → sides_of (meant src ts) ≡ track_sides ts
sides_meant src [] = refl
sides_meant src (t ∷ ts) = ap (λ ss. t.side ∷ ss) (sides_meant src ts)

-- of blocks that are whole they mean what stands in the files
pub stored_meant : (files : Files) (ts : List Track) → AllWhole files (point_blocks ts)
    → meant (stored_of files) ts ≡ meant (sources_of files) ts
stored_meant files [] whole = refl
stored_meant files (t ∷ ts) whole =
    ap₂ (λ (cs : List Cell) us. record { id = t.id; gain = t.gain; side = t.side; mute = t.mute; cells = cs } ∷ us)
    (stored_cells files 0 t.layout (whole_front files (layout_blocks t.layout) (point_blocks ts) whole))
    (stored_meant files ts (whole_back files (layout_blocks t.layout) (point_blocks ts) whole))

pub stored_whole : (files : Files) (ts : List Track) → AllWhole files (point_blocks ts)
    → stored_mix files ts ≡ mix_of (meant (sources_of files) ts)
stored_whole files ts whole = ap mix_of (stored_meant files ts whole)

-- ---- the tracks that are heard

pub heard_loud : (t : Track) (ts : List Track) → t.mute ≡ false → heard_tracks (t ∷ ts) ≡ t ∷ heard_tracks ts
heard_loud t ts loud = ap (λ (m : Bool). cond (not m) (t ∷ heard_tracks ts) (heard_tracks ts)) loud

pub heard_silent : (t : Track) (ts : List Track) → t.mute ≡ true → heard_tracks (t ∷ ts) ≡ heard_tracks ts
heard_silent t ts silent = ap (λ (m : Bool). cond (not m) (t ∷ heard_tracks ts) (heard_tracks ts)) silent

pub unmuted_loud : (src : Sources) (t : Track) (ts : cells.Project) → t.mute ≡ false
    → unmuted (meant_track src t ∷ ts) ≡ meant_track src t ∷ unmuted ts
unmuted_loud src t ts loud = ap (λ (m : Bool). cond (not m) (meant_track src t ∷ unmuted ts) (unmuted ts)) loud

pub unmuted_silent : (src : Sources) (t : Track) (ts : cells.Project) → t.mute ≡ true
    → unmuted (meant_track src t ∷ ts) ≡ unmuted ts
unmuted_silent src t ts silent = ap (λ (m : Bool). cond (not m) (meant_track src t ∷ unmuted ts) (unmuted ts)) silent

unmuted_first : (src : Sources) (t : Track) (ts : List Track) (m : Bool) → t.mute ≡ m
    → unmuted (meant src ts) ≡ meant src (heard_tracks ts)
    → unmuted (meant src (t ∷ ts)) ≡ meant src (heard_tracks (t ∷ ts))
unmuted_first src t ts true e rest =
    unmuted_silent src t (meant src ts) e ∙ rest ∙ sym (ap (meant src) (heard_silent t ts e))
unmuted_first src t ts false e rest =
    unmuted_loud src t (meant src ts) e ∙ ap (λ (us : cells.Project). meant_track src t ∷ us) rest
    ∙ sym (ap (meant src) (heard_loud t ts e))

pub unmuted_meant : (src : Sources) (ts : List Track) → unmuted (meant src ts) ≡ meant src (heard_tracks ts)
unmuted_meant src [] = refl
unmuted_meant src (t ∷ ts) = unmuted_first src t ts t.mute refl (unmuted_meant src ts)

-- of the first tracks, with one more that is heard, and with one that is not
pub heard_more : (ts : List Track) (i : ℕ) (t : Track) → slice_get ts i ≡ Some t → t.mute ≡ false
    → heard_tracks (take (i + 1) ts) ≡ heard_tracks (take i ts) ++ t ∷ []
heard_more ts i t e loud =
    ap heard_tracks (take_some ts i t e) ∙ filter-append (λ (u : Track). not u.mute) (take i ts) (t ∷ [])
    ∙ ap (λ (us : List Track). heard_tracks (take i ts) ++ us) (heard_loud t [] loud)

pub heard_same : (ts : List Track) (i : ℕ) (t : Track) → slice_get ts i ≡ Some t → t.mute ≡ true
    → heard_tracks (take (i + 1) ts) ≡ heard_tracks (take i ts)
heard_same ts i t e silent =
    ap heard_tracks (take_some ts i t e) ∙ filter-append (λ (u : Track). not u.mute) (take i ts) (t ∷ [])
    ∙ ap (λ (us : List Track). heard_tracks (take i ts) ++ us) (heard_silent t [] silent)
    ∙ append-nil (heard_tracks (take i ts))

pub heard_count_more : (ts : List Track) (i : ℕ) (t : Track) → slice_get ts i ≡ Some t → t.mute ≡ false
    → length (heard_tracks (take (i + 1) ts)) ≡ length (heard_tracks (take i ts)) + 1
heard_count_more ts i t e loud =
    ap length (heard_more ts i t e loud) ∙ length-append (heard_tracks (take i ts)) (t ∷ [])

pub heard_count_same : (ts : List Track) (i : ℕ) (t : Track) → slice_get ts i ≡ Some t → t.mute ≡ true
    → length (heard_tracks (take (i + 1) ts)) ≡ length (heard_tracks (take i ts))
heard_count_same ts i t e silent = ap length (heard_same ts i t e silent)
