-- The numbers of layouts bear on nothing that records say, and on nothing that points mean.
use Rattle.record_body.proofs.Common.{◌≡◌, refl, sym, ap, ap₂, ◌∙◌, ℕ, ◌+◌, ◌==◌, ◌&&◌, inl, inr, List, [], ◌∷◌, ◌++◌}
use Rattle.record_body.proofs.Common.{map, drop, zero, suc, Option, Some, None, subst, ◌≤◌, cases_Bool, length-map}
use Rattle.record_body.proofs.Common.{flat_map, option_map, little_bytes, History, edited, recorded, BlockRef, Sources}
use Rattle.record_body.proofs.Common.{layout_blocks, Edit, Undo, Redo, Purge, change_bytes, change_of, delta_spelling}
use Rattle.record_body.proofs.Common.{same_but_last, same_clips, same_settings, diff_bytes, Body, current_tracks}
use Rattle.record_body.proofs.Common.{first_tracks, point_bytes, AllValidTracks, IsValidPoint, IsValidTrack}
use Rattle.record_body.proofs.Common.{unnumbered_body, spelling, track_bytes, history_blocks, meant, point_blocks}
use Rattle.record_body.proofs.Common.{AreUnnumbered, unnumbered, Track, AreAbove, track_of}
use Rattle.pcm_base.specs.History.{purged}
use Rattle.pcm_base.specs.{Cells.Project}
use Rattle.record_body.specs.Changes.{delta_bytes}
use Rattle.record_body.specs.{Spelling.project_bytes}
use Rattle.project_state.specs.Meaning.{meant_history, meant_track}
use Rattle.project_state.specs.Numbers.{unnumbered_history}
use Rattle.project_state.proofs.MeantHistories.{mapped_edited, mapped_purged, mapped_recorded}

-- ---- what is said

pub are_unnumbered : (ts : List Track) → AreUnnumbered (map unnumbered ts)
are_unnumbered [] = tt
are_unnumbered (t ∷ ts) = (refl, are_unnumbered ts)

tracks_spelled : (ts : List Track) → flat_map track_bytes (map unnumbered ts) ≡ flat_map track_bytes ts
tracks_spelled [] = refl
tracks_spelled (t ∷ ts) = ap (λ (bytes : List ℕ). track_bytes t ++ bytes) (tracks_spelled ts)

project_spelled : (ts : List Track) → project_bytes (map unnumbered ts) ≡ project_bytes ts
project_spelled ts =
    ap₂ (λ (n : ℕ) (bytes : List ℕ). little_bytes 4 n ++ bytes) (length-map ts unnumbered) (tracks_spelled ts)

pub spelled_alike : (body : Body) → spelling (unnumbered_body body) ≡ spelling body
spelled_alike (Edit tag next_block next_track ts) = ap (λ (bytes : List ℕ). 1 ∷ (little_bytes 8 tag
    ++ (little_bytes 8 next_block ++ (little_bytes 8 next_track ++ bytes)))) (project_spelled ts)
spelled_alike Undo = refl
spelled_alike Redo = refl
spelled_alike (Purge n) = refl

pub point_alike : (ts : List Track) (tag : ℕ) → point_bytes (map unnumbered ts, tag) ≡ point_bytes (ts, tag)
point_alike ts tag = ap (λ (bytes : List ℕ). little_bytes 8 tag ++ bytes) (project_spelled ts)

-- ---- what is said by the current point

pub found_alike : (id : ℕ) (ts : List Track)
    → track_of id (map unnumbered ts) ≡ option_map unnumbered (track_of id ts)
found_alike id [] = refl
found_alike id (t ∷ ts) = elim (cases_Bool (id == t.id)) [
  | inl same ↦ rw same refl
  | inr differ ↦ rw differ (found_alike id ts)
]

change_alike : (old : Option Track) (t : Track)
    → change_bytes (change_of (option_map unnumbered old) (unnumbered t)) ≡ change_bytes (change_of old t)
change_alike None t = refl
change_alike (Some o) t = elim (cases_Bool (same_settings o t && same_clips o.layout t.layout)) [
  | inl whole ↦ rw whole refl
  | inr differ ↦ elim (cases_Bool (same_settings o t && same_but_last o.layout t.layout)) [
    | inl ends ↦ rw (differ, ends) refl
    | inr other ↦ rw (differ, other) refl
  ]
]

diff_alike : (current : List Track) (t : Track) → diff_bytes (map unnumbered current) (unnumbered t)
    ≡ diff_bytes current t
diff_alike current t = ap (λ (bytes : List ℕ). little_bytes 8 t.id ++ bytes)
    (ap (λ (old : Option Track). change_bytes (change_of old (unnumbered t))) (found_alike t.id current)
    ∙ change_alike (track_of t.id current) t)

all_diff_alike : (current ts : List Track)
    → flat_map (diff_bytes (map unnumbered current)) (map unnumbered ts) ≡ flat_map (diff_bytes current) ts
all_diff_alike current [] = refl
all_diff_alike current (t ∷ ts) =
    ap₂ (λ (xs ys : List ℕ). xs ++ ys) (diff_alike current t) (all_diff_alike current ts)

delta_alike : (current ts : List Track)
    → delta_bytes (map unnumbered current) (map unnumbered ts) ≡ delta_bytes current ts
delta_alike current ts =
    ap₂ (λ (n : ℕ) (bytes : List ℕ). little_bytes 4 n ++ bytes) (length-map ts unnumbered) (all_diff_alike current ts)

pub delta_spelled_alike : (current : List Track) (body : Body)
    → delta_spelling (map unnumbered current) (unnumbered_body body) ≡ delta_spelling current body
delta_spelled_alike current (Edit tag next_block next_track ts) = ap (λ (bytes : List ℕ). 5 ∷ (little_bytes 8 tag
    ++ (little_bytes 8 next_block ++ (little_bytes 8 next_track ++ bytes)))) (delta_alike current ts)
delta_spelled_alike current Undo = refl
delta_spelled_alike current Redo = refl
delta_spelled_alike current (Purge n) = refl

-- ---- what is meant, and which blocks are named

pub meant_alike : (src : Sources) (ts : List Track) → meant src (map unnumbered ts) ≡ meant src ts
meant_alike src [] = refl
meant_alike src (t ∷ ts) = ap (λ (rest : Project). meant_track src t ∷ rest) (meant_alike src ts)

points_meant : (src : Sources) (ps : List (List Track × ℕ))
    → map {A = List Track × ℕ} {B = Project × ℕ} (λ p. (meant src p.0, p.1)) (map (λ (p : List Track × ℕ).
    (map unnumbered p.0, p.1)) ps)
    ≡ map {A = List Track × ℕ} {B = Project × ℕ} (λ p. (meant src p.0, p.1)) ps
points_meant src [] = refl
points_meant src (p ∷ ps) =
    ap₂ (λ (m : Project) (rest : List (Project × ℕ)). (m, p.1) ∷ rest) (meant_alike src p.0) (points_meant src ps)

pub history_meant_alike : (src : Sources) (h : History (List Track))
    → meant_history src (unnumbered_history h) ≡ meant_history src h
history_meant_alike src h = ap (λ (ps : List (Project × ℕ)). record { points = ps; cursor = h.cursor; depth = h.depth })
    (points_meant src h.points)

pub point_blocks_alike : (ts : List Track) → point_blocks (map unnumbered ts) ≡ point_blocks ts
point_blocks_alike [] = refl
point_blocks_alike (t ∷ ts) = ap (λ (bs : List BlockRef). layout_blocks t.layout ++ bs) (point_blocks_alike ts)

points_blocks_alike : (ps : List (List Track × ℕ))
    → flat_map (λ (p : List Track × ℕ). point_blocks p.0) (map (λ (p : List Track × ℕ). (map unnumbered p.0, p.1)) ps)
    ≡ flat_map (λ (p : List Track × ℕ). point_blocks p.0) ps
points_blocks_alike [] = refl
points_blocks_alike (p ∷ ps) =
    ap₂ (λ (xs ys : List BlockRef). xs ++ ys) (point_blocks_alike p.0) (points_blocks_alike ps)

pub history_blocks_alike : (h : History (List Track)) → history_blocks (unnumbered_history h) ≡ history_blocks h
history_blocks_alike h = points_blocks_alike h.points

-- ---- what is made of a history

first_alike : (ps : List (List Track × ℕ))
    → first_tracks (map (λ (p : List Track × ℕ). (map unnumbered p.0, p.1)) ps) ≡ map unnumbered (first_tracks ps)
first_alike [] = refl
first_alike (p ∷ ps) = refl

drop_alike : (n : ℕ) (ps : List (List Track × ℕ))
    → first_tracks (drop n (map (λ (p : List Track × ℕ). (map unnumbered p.0, p.1)) ps)) ≡ map unnumbered
    (first_tracks (drop n ps))
drop_alike zero ps = first_alike ps
drop_alike (suc n) [] = refl
drop_alike (suc n) (p ∷ ps) = drop_alike n ps

pub current_alike : (h : History (List Track)) → current_tracks (unnumbered_history h) ≡ map unnumbered
    (current_tracks h)
current_alike h = drop_alike h.cursor h.points

pub recorded_alike : (h : History (List Track)) (ts : List Track) (tag : ℕ)
    → unnumbered_history (recorded h ts tag) ≡ recorded (unnumbered_history h) (map unnumbered ts) tag
recorded_alike = mapped_recorded (map unnumbered)

pub edited_alike : (h : History (List Track)) (ts : List Track) (tag : ℕ)
    → unnumbered_history (edited h ts tag) ≡ edited (unnumbered_history h) (map unnumbered ts) tag
edited_alike = mapped_edited (map unnumbered)

pub purged_alike : (h : History (List Track)) (n : ℕ)
    → unnumbered_history (purged h n) ≡ purged (unnumbered_history h) n
purged_alike = mapped_purged (map unnumbered)

-- ---- what is valid

above_alike : (least : ℕ) (ts : List Track) → AreAbove least ts → AreAbove least (map unnumbered ts)
above_alike least [] above = tt
above_alike least (t ∷ ts) above = (above.0, above_alike (t.id + 1) ts above.1)

-- a track's number bears on none of its bounds
valid_numbered : (m block track number : ℕ) (t : Track) → IsValidTrack m block track t
    → IsValidTrack m block track (record t { number = number })
valid_numbered m block track number t valid = search valid

tracks_valid_alike : (m block track : ℕ) (ts : List Track) → AllValidTracks m block track ts
    → AllValidTracks m block track (map unnumbered ts)
tracks_valid_alike m block track [] valid = tt
tracks_valid_alike m block track (t ∷ ts) valid =
    (valid_numbered m block track 0 t valid.0, tracks_valid_alike m block track ts valid.1)

pub valid_alike : (m block track : ℕ) (ts : List Track) → IsValidPoint m block track ts
    → IsValidPoint m block track (map unnumbered ts)
valid_alike m block track ts valid = record {
  few = subst (λ (n : ℕ). n ≤ 64) (sym (length-map ts unnumbered)) valid.few;
  rising = above_alike 1 ts valid.rising;
  valid = tracks_valid_alike m block track ts valid.valid;
}

-- and back

above_back : (least : ℕ) (ts : List Track) → AreAbove least (map unnumbered ts) → AreAbove least ts
above_back least [] above = tt
above_back least (t ∷ ts) above = (above.0, above_back (t.id + 1) ts above.1)

tracks_back : (m block track : ℕ) (ts : List Track) → AllValidTracks m block track (map unnumbered ts)
    → AllValidTracks m block track ts
tracks_back m block track [] valid = tt
tracks_back m block track (t ∷ ts) valid =
    (valid_numbered m block track t.number (unnumbered t) valid.0, tracks_back m block track ts valid.1)

pub sound_back : (m block track : ℕ) (ts : List Track) → IsValidPoint m block track (map unnumbered ts)
    → IsValidPoint m block track ts
sound_back m block track ts valid = record {
  few = subst (λ (n : ℕ). n ≤ 64) (length-map ts unnumbered) valid.few;
  rising = above_back 1 ts valid.rising;
  valid = tracks_back m block track ts valid.valid;
}
