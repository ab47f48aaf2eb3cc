-- What is copied is a range of each track of the run.
use Rattle.editor_tracks.proofs.Common.{◌≡◌, ⊎_elim, refl, sym, ap, ◌∙◌, subst, ℕ, zero, suc, ◌+◌, ◌^◌, ◌≤◌, ◌<◌, ◌==◌}
use Rattle.editor_tracks.proofs.Common.{if◌then◌else◌, List, [], ◌∷◌, ◌++◌, length, map, take, Some, get_or, arith}
use Rattle.editor_tracks.proofs.Common.{ne_eqb, le-leb, lt-leb, eqb_tells, none-some, AllByRecursion, Old, Scaled, Zero}
use Rattle.editor_tracks.proofs.Common.{Given, tracks_from, longest, BlockRef, range_of, Sources, Gap, Sound}
use Rattle.editor_tracks.proofs.Common.{strip_cells, strip_len, strip_blocks, AreItems, Clip, Item, layout_blocks}
use Rattle.editor_tracks.proofs.Common.{length-layout, longest_of, AreCopies, AreClips, Track, meant, point_blocks}
use Rattle.editor_tracks.proofs.Common.{AreAbove, track_of, AllValidTracks, all_append, run_of, strips_blocks, all_left}
use Rattle.editor_tracks.proofs.Common.{all_right, rules}
use Rattle.std.proofs.Common.{flat_map}
use Rattle.clip_track.specs.Items.{item_blocks}
use Rattle.edit_ops.specs.{Strips.ItemsFrom}
use Rattle.pcm_base.specs.Cells as cells

-- ---- the blocks of a strip

-- item by item
pub strip_flat : (xs : List Item) → strip_blocks xs ≡ flat_map item_blocks xs
strip_flat [] = refl
strip_flat (x ∷ xs) = ap (λ (z : List BlockRef). item_blocks x ++ z) (strip_flat xs)

-- no item names more blocks than it has cells
pub items_few : (xs : List Item) → AreItems xs → length (strip_blocks xs) ≤ strip_len xs
items_few [] ok = omega arith
items_few (Gap n ∷ xs) ok = omega (arith, items_few xs ok.1)
items_few (Sound (Old b from to) ∷ xs) ok = omega (arith, items_few xs ok.1, ok.0.0)
items_few (Sound (Scaled b from to gain) ∷ xs) ok = omega (arith, items_few xs ok.1, ok.0.0)
items_few (Sound (Zero len) ∷ xs) ok = omega (arith, items_few xs ok.1)
items_few (Sound (Given from to) ∷ xs) ok = omega (arith, items_few xs ok.1)

-- ---- the run

abbrev pub from_track : ℕ → List Track → List Track
from_track id [] = []
from_track id (t ∷ ts) = if t.id == id then t ∷ ts else from_track id ts

abbrev pub layout_of : Track → List Clip
layout_of t = t.layout

pub run_meant : (src : Sources) (id : ℕ) (ts : List Track)
    → tracks_from id (meant src ts) ≡ meant src (from_track id ts)
run_meant src id [] = refl
run_meant src id (t ∷ ts) = search (rules, eqb_tells, run_meant src id ts)

all_above : (id n : ℕ) (ts : List Track) → AreAbove n ts → id ≤ n → run_of id ts ≡ map layout_of ts
all_above id n [] above le = refl
all_above id n (t ∷ ts) above le =
    search (rules, le-leb, all_above id (t.id + 1) ts above.1 (omega (arith, le, above.0)))

pub found_above : (id n : ℕ) (ts : List Track) (x : Track) → AreAbove n ts → track_of id ts ≡ Some x → n ≤ id
found_above id n [] x above found = absurd (none-some x found)
found_above id n (t ∷ ts) x above found = ⊎_elim
    (λ same. omega (arith, same.1, above.0))
    (λ other.
    let later : track_of id ts ≡ Some x = sym (ap (λ b. if b then Some t else track_of id ts) other.0) ∙ found in
    omega (arith, above.0, found_above id (t.id + 1) ts x above.1 later))
    (eqb_tells id t.id)

pub run_is : (id n : ℕ) (ts : List Track) (x : Track) → AreAbove n ts → track_of id ts ≡ Some x
    → run_of id ts ≡ map layout_of (from_track id ts)
run_is id n [] x above found = refl
run_is id n (t ∷ ts) x above found = ⊎_elim
    (λ same. rw (same.0, le-leb id t.id (omega (arith, same.1)))
    (ap (λ (z : List (List Clip)). t.layout ∷ z) (all_above id (t.id + 1) ts above.1 (omega (arith, same.1)))))
    (λ other.
    let later : track_of id ts ≡ Some x =
    sym (ap (λ b. if b then Some t else track_of id ts) (ne_eqb id t.id (λ e. other.1 (sym e)))) ∙ found in
    let less = found_above id (t.id + 1) ts x above.1 later in
    rw (other.0, lt-leb id t.id (omega (arith, less))) (run_is id (t.id + 1) ts x above.1 later))
    (eqb_tells t.id id)

pub from_valid : (m next_block next_track id : ℕ) (ts : List Track) → AllValidTracks m next_block next_track ts
    → AllValidTracks m next_block next_track (from_track id ts)
from_valid m next_block next_track id [] all = tt
from_valid m next_block next_track id (t ∷ ts) all = ⊎_elim (λ same. rw (same.0) all)
    (λ other. rw (other.0) (from_valid m next_block next_track id ts all.1)) (eqb_tells t.id id)

pub from_few : (id : ℕ) (ts : List Track) → length (from_track id ts) ≤ length ts
from_few id [] = omega arith
from_few id (t ∷ ts) = search (rules, eqb_tells, from_few id ts)

pub from_blocks : (P : BlockRef → Type 0) (id : ℕ) (ts : List Track) → AllByRecursion P (point_blocks ts)
    → AllByRecursion P (point_blocks (from_track id ts))
from_blocks P id [] all = tt
from_blocks P id (t ∷ ts) all = ⊎_elim (λ same. rw (same.0) all) (λ other.
    rw (other.0) (from_blocks P id ts (all_right P (layout_blocks t.layout) (point_blocks ts) all))) (eqb_tells t.id id)

-- ---- its lengths

module _ (m next_block next_track : ℕ) where
  pub longest_is : (src : Sources) (n : ℕ) (ts : List Track) → AllValidTracks m next_block next_track ts
      → longest (take n (meant src ts)) ≡ longest_of (take n (map layout_of ts))
  longest_is src zero ts all = refl
  longest_is src (suc n) [] all = refl
  longest_is src (suc n) (t ∷ ts) all = search (rules, length-layout, longest_is src n ts all.1)

  pub longest_most : (n : ℕ) (ts : List Track) → AllValidTracks m next_block next_track ts
      → longest_of (take n (map layout_of ts)) ≤ 2 ^ 32
  longest_most zero ts all = omega arith
  longest_most (suc n) [] all = omega arith
  longest_most (suc n) (t ∷ ts) all = omega (arith, all.0.layout.few, longest_most n ts all.1)

  -- ---- the strips

  pub copies_fit : (from to n : ℕ) (ts : List Track) (v : List (List Item))
      → AreCopies from to (take n (map layout_of ts)) v → AllValidTracks m next_block next_track ts → AreClips m v
  copies_fit from to zero ts [] all valid = tt
  copies_fit from to zero ts (s ∷ ss) all valid = absurd all
  copies_fit from to (suc n) [] [] all valid = tt
  copies_fit from to (suc n) [] (s ∷ ss) all valid = absurd all
  copies_fit from to (suc n) (t ∷ ts) [] all valid = absurd all
  copies_fit from to (suc n) (t ∷ ts) (s ∷ ss) all valid =
      (all.0.clip m valid.0.half_full, copies_fit from to n ts ss all.1 valid.1)

pub copies_mean : (src : Sources) (from to n : ℕ) (ts : List Track) (v : List (List Item))
    → AreCopies from to (take n (map layout_of ts)) v
    → map (strip_cells src) v ≡ map (λ (t : cells.Track). range_of from to t.cells) (take n (meant src ts))
copies_mean src from to zero ts [] all = refl
copies_mean src from to zero ts (s ∷ ss) all = absurd all
copies_mean src from to (suc n) [] [] all = refl
copies_mean src from to (suc n) [] (s ∷ ss) all = absurd all
copies_mean src from to (suc n) (t ∷ ts) [] all = absurd all
copies_mean src from to (suc n) (t ∷ ts) (s ∷ ss) all =
    search (rules, all.0.cells, copies_mean src from to n ts ss all.1)

pub copies_few : (from to n : ℕ) (ts : List Track) (v : List (List Item))
    → AreCopies from to (take n (map layout_of ts)) v → length v ≤ length ts
copies_few from to zero ts [] all = omega arith
copies_few from to zero ts (s ∷ ss) all = absurd all
copies_few from to (suc n) [] [] all = omega arith
copies_few from to (suc n) [] (s ∷ ss) all = absurd all
copies_few from to (suc n) (t ∷ ts) [] all = absurd all
copies_few from to (suc n) (t ∷ ts) (s ∷ ss) all = omega (arith, copies_few from to n ts ss all.1)

pub copies_short : (from to n : ℕ) (ts : List Track) (v : List (List Item)) → to ≤ 2 ^ 32
    → AreCopies from to (take n (map layout_of ts)) v → AllByRecursion (λ strip. strip_len strip ≤ 2 ^ 32) v
copies_short from to zero ts [] most all = tt
copies_short from to zero ts (s ∷ ss) most all = absurd all
copies_short from to (suc n) [] [] most all = tt
copies_short from to (suc n) [] (s ∷ ss) most all = absurd all
copies_short from to (suc n) (t ∷ ts) [] most all = absurd all
copies_short from to (suc n) (t ∷ ts) (s ∷ ss) most all = search (rules, copies_short from to n ts ss most all.1)

all_at : (P : BlockRef → Type 0) (bs : List BlockRef) (b : BlockRef) → AllByRecursion P bs → (k : ℕ) → k < length bs
    → get_or bs k b ≡ b → P b
all_at P [] b all k lt e = absurd (omega (arith, lt))
all_at P (x ∷ xs) b all zero lt e = subst P e all.0
all_at P (x ∷ xs) b all (suc k) lt e = all_at P xs b all.1 k (omega (arith, lt)) e

origin_all : (P : BlockRef → Type 0) (bs : List BlockRef) (xs : List Item) → AllByRecursion P bs → ItemsFrom bs 0 xs
    → AllByRecursion P (strip_blocks xs)
origin_all P bs [] all from = tt
origin_all P bs (Gap n ∷ xs) all from = origin_all P bs xs all from.1
origin_all P bs (Sound (Old b lo hi) ∷ xs) all from = search (rules, all_at, origin_all P bs xs all from.1)
origin_all P bs (Sound (Scaled b lo hi gain) ∷ xs) all from = search (rules, all_at, origin_all P bs xs all from.1)
origin_all P bs (Sound (Zero len) ∷ xs) all from = origin_all P bs xs all from.1
origin_all P bs (Sound (Given lo hi) ∷ xs) all from = origin_all P bs xs all from.1

pub copies_all : (P : BlockRef → Type 0) (from to n : ℕ) (ts : List Track) (v : List (List Item)) → AreCopies from to
    (take n (map layout_of ts)) v → AllByRecursion P (point_blocks ts) → AllByRecursion P (strips_blocks v)
copies_all P from to zero ts [] all has = tt
copies_all P from to zero ts (s ∷ ss) all has = absurd all
copies_all P from to (suc n) [] [] all has = tt
copies_all P from to (suc n) [] (s ∷ ss) all has = absurd all
copies_all P from to (suc n) (t ∷ ts) [] all has = absurd all
copies_all P from to (suc n) (t ∷ ts) (s ∷ ss) all has =
    search (
      rules,
      all_append,
      origin_all,
      all_left,
      all_right,
      copies_all P from to n ts ss all.1 (all_right P
          (layout_blocks t.layout) (point_blocks ts) has),
    )
