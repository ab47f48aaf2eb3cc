-- The tracks of a studio's points and pins, the blocks that they name, and what is counted of them.
use Rattle.editor_state.proofs.Common.{rules, ◌≡◌, refl, sym, ap, ◌∙◌, subst, ℕ, ◌≤◌, ◌<◌, List, [], ◌∷◌, ◌++◌, map}
use Rattle.editor_state.proofs.Common.{drop, append_assoc, length, length-append, ◌*◌, ◌^◌, ◌+◌, Some, zero, suc, inl}
use Rattle.editor_state.proofs.Common.{inr, arith, AllByRecursion, BlockRef, History, layout_blocks, Ghosts, Counts}
use Rattle.editor_state.proofs.Common.{occurrences, Track, history_blocks, point_blocks, history_tracks, AreCounts}
use Rattle.editor_state.proofs.Common.{Core, times_named, IsStudio, PinsRise, clip_blocks, named_blocks, pin_blocks}
use Rattle.editor_state.proofs.Common.{pin_tracks, studio_tracks, Pin}
use Rattle.std.proofs.{lemmas.List.append-nil, lemmas.Grind.flat_map-append}
use Rattle.std.specs.List.{flat_map}
use Rattle.record_body.specs.Saved.{current_tracks, first_tracks}
use Rattle.layout_uses.specs.Layouts.{points_tracks, track_blocks}
use Rattle.layout_uses.specs.{Laws.AreAmong, Laws.IsAmong}
use Rattle.layout_uses.proofs.Naming.{counted_is_named, counts_most, free_is_unnamed, named_is_counted}
use Rattle.layout_uses.proofs.{Putting.among_self, Tracks.times_counted}
use Rattle.editor_state.specs.{Occurrences.HasAll, Occurrences.Moves, Occurrences.MovesSingles}
use Rattle.layout_uses.specs.{Layouts.used_blocks, Tallies.Uses, Tallies.unlisted}
use Rattle.layout_uses.proofs.Times.{named_append}
use Rattle.std.specs.Prelude.{Option}
use Rattle.editor_state.proofs.Lists.{all_so}

-- ---- the blocks that they name

tracks_blocks : (xs ys : List Track) → track_blocks (xs ++ ys) ≡ track_blocks xs ++ track_blocks ys
tracks_blocks xs ys = flat_map-append (λ (t : Track). layout_blocks t.layout) xs ys

points_blocks : (ps : List (List Track × ℕ))
    → track_blocks (points_tracks (map (λ (p : List Track × ℕ). p.0) ps)) ≡ flat_map (λ p. point_blocks p.0) ps
points_blocks [] = refl
points_blocks (p ∷ ps) = search (rules, tracks_blocks, points_blocks ps)

pub history_named : (h : History (List Track)) → track_blocks (history_tracks h) ≡ history_blocks h
history_named h = points_blocks h.points

pub pins_named : (pins : List Pin) → track_blocks (pin_tracks pins) ≡ pin_blocks pins
pins_named [] = refl
pins_named (p ∷ ps) = search (rules, tracks_blocks, pins_named ps)

-- of points, pins, and other blocks
pub tracks_named : (h : History (List Track)) (pins : List Pin) (bs : List BlockRef)
    → track_blocks (history_tracks h ++ pin_tracks pins) ++ bs ≡ history_blocks h ++ (pin_blocks pins ++ bs)
tracks_named h pins bs = search (rules, tracks_blocks, history_named, pins_named, append_assoc)

pub studio_named : {D : Type 0} (s : Core D)
    → track_blocks (studio_tracks s) ++ clip_blocks s.clipboard ≡ named_blocks s
studio_named s = tracks_named s.history s.pins (clip_blocks s.clipboard)

-- ---- the current tracks are among them

pub among_front : (xs ys zs : List Track) → AreAmong xs ys → AreAmong xs (ys ++ zs)
among_front [] ys zs all = tt
among_front (x ∷ xs) ys zs all = (one x ys zs all.0, among_front xs ys zs all.1)
  where
    one : (t : Track) (ys zs : List Track) → IsAmong t ys → IsAmong t (ys ++ zs)
    one t [] zs among = absurd among
    one t (y ∷ ys) zs (inl same) = inl same
    one t (y ∷ ys) zs (inr there) = inr (one t ys zs there)

among_back : (xs ys zs : List Track) → AreAmong xs zs → AreAmong xs (ys ++ zs)
among_back [] ys zs all = tt
among_back (x ∷ xs) ys zs all = (one x ys zs all.0, among_back xs ys zs all.1)
  where
    one : (t : Track) (ys zs : List Track) → IsAmong t zs → IsAmong t (ys ++ zs)
    one t [] zs among = among
    one t (y ∷ ys) zs among = inr (one t ys zs among)

among_points : (n : ℕ) (ps : List (List Track × ℕ))
    → AreAmong (first_tracks (drop n ps)) (points_tracks (map (λ (p : List Track × ℕ). p.0) ps))
among_points zero [] = tt
among_points zero (p ∷ ps) = search (rules, among_front, among_self)
among_points (suc n) [] = tt
among_points (suc n) (p ∷ ps) = search (rules, among_back, among_points n ps)

pub current_among : {D : Type 0} (s : Core D) → AreAmong (current_tracks s.history) (studio_tracks s)
current_among s = search (rules, among_front, among_points)

-- ---- what is counted

module _ {D : Type 0} (disk : Ghosts D) (s : Core D) (is : IsStudio disk s) (id : ℕ) where
  named_times : times_named id (track_blocks (studio_tracks s) ++ clip_blocks s.clipboard) ≡ times_named id
      (named_blocks s)
  named_times = ap (times_named id) (studio_named s)

  -- what has an occurrence is named
  pub counted_named : 0 < occurrences (s.counts id) → 0 < times_named id (named_blocks s)
  counted_named some = subst (λ (n : ℕ). 0 < n) named_times
      (counted_is_named (studio_tracks s) (clip_blocks s.clipboard) s.uses s.counts is.numbered is.counted id some)

  -- and what is named has one
  pub named_counted : 0 < times_named id (named_blocks s) → 0 < occurrences (s.counts id)
  named_counted some = named_is_counted (studio_tracks s)
      (clip_blocks s.clipboard) s.uses s.counts is.numbered is.counted
      id (subst (λ (n : ℕ). 0 < n) (sym named_times) some)

  pub free_named : s.counts id ≡ Some 0 → times_named id (named_blocks s) ≡ 0
  free_named free = sym named_times ∙ free_is_unnamed (studio_tracks s) (clip_blocks s.clipboard) s.uses s.counts
      is.numbered is.counted id free

  -- no more occurrences are counted than there are names
  pub counted_most : occurrences (s.counts id) ≤ times_named id (named_blocks s)
  counted_most = subst (λ (n : ℕ). occurrences (s.counts id) ≤ n) named_times
      (counts_most (studio_tracks s) (clip_blocks s.clipboard) s.uses s.counts is.counted id)

-- ---- the clipboard's share

-- what is counted of the clipboard is there
pub others_counted : (ts : List Track) (blocks : List BlockRef) (uses : Uses) (counts : Counts)
    → AreCounts ts blocks uses counts → HasAll counts blocks
others_counted ts blocks uses counts is id = omega (arith, is.fresh_counts id, times_counted id ts blocks)

-- and named by itself
pub others_single : (ts : List Track) (blocks : List BlockRef) (uses : Uses) (counts : Counts)
    → AreCounts ts blocks uses counts → (id : ℕ) → times_named id blocks ≤ uses.singles id
others_single ts blocks uses counts is id =
    omega (arith, is.singles id, named_append id (used_blocks (unlisted uses.lists ts)) blocks)

-- other blocks in the place of the clipboard's
pub others_moved : (ts : List Track) (before after : List BlockRef) (uses uses' : Uses) (counts new : Counts)
    → AreCounts ts before uses counts → Moves counts new before after → MovesSingles uses uses' before after
    → AreCounts ts after uses' new
others_moved ts before after uses uses' counts new is moves singles =
    subst (λ (p : Counts × (ℕ → Option (List ℕ))).
    AreCounts ts after (record { counts = p.0; lists = p.1; singles = uses'.singles }) new)
    (λ i. (sym singles.counts i, sym singles.lists i))
    (record {
      fresh_uses = is.fresh_uses;
      none_free = is.none_free;
      fresh_counts = λ id. omega (
        arith,
        moves.counts id,
        is.fresh_counts id,
        times_counted id ts before,
        times_counted id ts after,
      );
      listed = is.listed;
      no_other = is.no_other;
      singles = λ id. omega (
        arith,
        singles.singles id,
        is.singles id,
        named_append id (used_blocks (unlisted uses.lists ts)) before,
        named_append id (used_blocks (unlisted uses.lists ts)) after,
      );
    })

-- ---- how many there are

-- a pin more
pub tracks_more : (pins : List Pin) (p : Pin) → pin_tracks (pins ++ p ∷ []) ≡ pin_tracks pins ++ p.point
tracks_more [] p = append-nil p.point
tracks_more (q ∷ qs) p = search (rules, append_assoc, tracks_more qs p)

-- pins on both sides
pub tracks_around : (front back : List Pin) → pin_tracks (front ++ back) ≡ pin_tracks front ++ pin_tracks back
tracks_around [] back = refl
tracks_around (p ∷ ps) back = search (rules, append_assoc, tracks_around ps back)

pub points_few : (ps : List (List Track × ℕ)) → AllByRecursion (λ (p : List Track × ℕ). length p.0 ≤ 64) ps
    → length (points_tracks (map (λ (p : List Track × ℕ). p.0) ps)) ≤ length ps * 64
points_few [] all = omega arith
points_few (p ∷ ps) all =
    omega (arith, all.0, points_few ps all.1, length-append p.0 (points_tracks (map (λ (q : List Track × ℕ). q.0) ps)))

pins_few : (pins : List Pin) → AllByRecursion (λ (p : Pin). length p.point ≤ 64) pins
    → length (pin_tracks pins) ≤ length pins * 64
pins_few [] all = omega arith
pins_few (p ∷ ps) all = omega (arith, all.0, pins_few ps all.1, length-append p.point (pin_tracks ps))

-- there are fewer pins than numbers
pub numbers_few : (least next : ℕ) (pins : List Pin) → PinsRise least next pins → least ≤ next
    → length pins + least ≤ next
numbers_few least next [] rise le = omega (arith, le)
numbers_few least next (p ∷ ps) rise le =
    omega (arith, numbers_few (p.number + 1) next ps rise.2 (omega (arith, rise.1)), rise.0)

module _ {D : Type 0} (disk : Ghosts D) (s : Core D) (is : IsStudio disk s) where
  -- no more than 2^80 tracks use layouts
  pub tracks_few : length (studio_tracks s) ≤ 2 ^ 80
  tracks_few = search (rules, points_few, all_so, pins_few, numbers_few, length-append)
