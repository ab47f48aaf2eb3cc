-- Blocks and tracks that are taken one after another.
use Rattle.std.proofs.Common.{◌≡◌, refl, sym, ap, ◌∙◌, subst, ℕ, ◌+◌, ◌≤◌, ◌<◌, Bool, true, false, List, [], ◌∷◌, ◌++◌}
use Rattle.std.proofs.Common.{take, drop, append_assoc, take-append-drop, slice_get, Some, arith, flat_map, eqb, not}
use Rattle.std.proofs.Common.{if◌then◌else◌}
use Rattle.std.proofs.lemmas.Grind.{flat_map-append}
use Rattle.pcm_base.specs.declared.block.BlockRef.{BlockRef}
use Rattle.clip_track.specs.Clips.{layout_blocks}
use Rattle.project_state.specs.declared.track.Track.{Track}
use Rattle.project_state.proofs.Points.{drop_some}
use Rattle.layout_uses.specs.Layouts.{AreNumbered, has_number, track_blocks}
use Rattle.layout_uses.proofs.Moves.{numbered_back}
use Rattle.purge_size.specs.Fits.{AreSmall, HasBlocks, HasTracks, Takes, TakesTracks}
use Rattle.purge_size.specs.{declared.fitting.Fitting.Fitting, Sizes.sizes, Numbers.has}
use Rattle.purge_size.proofs.Sizes.{again_there, ids_there, sizes_behind, sizes_there}

pub took_more : (fits : Bool) (xs ys : List BlockRef) (a b c : Fitting) → Takes true xs a b → Takes fits ys b c
    → Takes fits (ys ++ xs) a c
took_more fits xs ys a b c one two = record {
  taken = λ others was is. subst (λ z. HasBlocks z c) (sym (append_assoc ys xs others))
      (two.taken (xs ++ others) (one.taken others was refl) is);
  over = λ others was is. subst (λ z. a.most < sizes z) (sym (append_assoc ys xs others))
      (omega (arith, two.over (xs ++ others) (one.taken others was refl) is, one.most));
  most = two.most ∙ one.most;
  numbers = two.numbers ∙ one.numbers;
}

-- where some have too many bytes, more of them have
pub took_not : (zs bs : List BlockRef) (a c : Fitting) → Takes false bs a c → Takes false (zs ++ bs) a c
took_not zs bs a c is = record {
  taken = λ others was fits. absurd cc;
  over = λ others was fits. subst (λ z. a.most < sizes z) (sym (append_assoc zs bs others))
      (omega (arith, is.over others was refl, sizes_behind zs (bs ++ others)));
  most = is.most;
  numbers = is.numbers;
}

module _ {X : Type 0} (f : X → List BlockRef) (xs : List X) (i : ℕ) (x : X) (here : slice_get xs i ≡ Some x) where
  abbrev behind : List BlockRef
  behind = flat_map f (drop (i + 1) xs)

  pub from_here : flat_map f (drop i xs) ≡ f x ++ behind
  from_here = ap (flat_map f) (drop_some xs i x here)

  pub all_from : flat_map f xs ≡ flat_map f (take i xs) ++ (f x ++ behind)
  all_from = ap (flat_map f) (sym (take-append-drop i xs)) ∙ flat_map-append f (take i xs) (drop i xs)
      ∙ ap (λ (z : List BlockRef). flat_map f (take i xs) ++ z) from_here

  pub small_here : AreSmall (flat_map f xs) → AreSmall (f x)
  small_here small = small_front (f x) behind
      (small_back (flat_map f (take i xs)) (f x ++ behind) (subst AreSmall all_from small))
    where
      small_front : (ys zs : List BlockRef) → AreSmall (ys ++ zs) → AreSmall ys
      small_front [] zs small = tt
      small_front (y ∷ ys) zs small = (small.0, small_front ys zs small.1)

      small_back : (ys zs : List BlockRef) → AreSmall (ys ++ zs) → AreSmall zs
      small_back [] zs small = small
      small_back (y ∷ ys) zs small = small_back ys zs small.1

  module _ (a b c : Fitting) (was : Takes true behind a b) where
    pub took_here : Takes true (f x) b c → Takes true (flat_map f (drop i xs)) a c
    took_here one = subst (λ z. Takes true z a c) (sym from_here) (took_more true behind (f x) a b c was one)

    pub took_no_more : Takes false (f x) b c → Takes false (flat_map f xs) a c
    took_no_more one = subst (λ z. Takes false z a c) (sym all_from)
        (took_not (flat_map f (take i xs)) (f x ++ behind) a c (took_more false behind (f x) a b c was one))

-- a test that failed
pub same_takes : (fits is : Bool) (bs : List BlockRef) (a b : Fitting) → fits ≡ is → Takes fits bs a b → Takes is bs a b
same_takes fits is bs a b e takes = subst (λ (z : Bool). Takes z bs a b) e takes

pub same_tracks : (fits is : Bool) (ts : List Track) (a b : Fitting) → fits ≡ is → TakesTracks fits ts a b
    → TakesTracks is ts a b
same_tracks fits is ts a b e takes = subst (λ (z : Bool). TakesTracks z ts a b) e takes

-- ---- tracks

pub tracks_more : (fits : Bool) (xs ys : List Track) (a b c : Fitting) → TakesTracks true xs a b
    → TakesTracks fits ys b c → TakesTracks fits (ys ++ xs) a c
tracks_more fits xs ys a b c one two = record {
  taken = λ others numbered was is.
      let same = append_assoc ys xs others in
      let all = subst AreNumbered same numbered in
      subst (λ z. HasTracks z c) (sym same)
      (two.taken (xs ++ others) all (one.taken others (numbered_back ys (xs ++ others) all) was refl) is);
  over = λ others numbered was is.
      let same = append_assoc ys xs others in
      let all = subst AreNumbered same numbered in
      let over = two.over (xs ++ others) all (one.taken others (numbered_back ys (xs ++ others) all) was refl) is in
      subst (λ z. a.most < sizes (track_blocks z)) (sym same) (omega (arith, over, one.most));
  most = two.most ∙ one.most;
}

pub tracks_behind : (zs ts : List Track) → sizes (track_blocks ts) ≤ sizes (track_blocks (zs ++ ts))
tracks_behind [] ts = omega arith
tracks_behind (z ∷ zs) ts = omega (
  arith,
  tracks_behind zs ts,
  sizes_behind (layout_blocks z.layout) (track_blocks
      (zs ++ ts)),
)

pub tracks_not : (zs ts : List Track) (a c : Fitting) → TakesTracks false ts a c → TakesTracks false (zs ++ ts) a c
tracks_not zs ts a c is = record {
  taken = λ others numbered was fits. absurd cc;
  over = λ others numbered was fits.
      let same = append_assoc zs ts others in
      let all = subst AreNumbered same numbered in
      let over = is.over others (numbered_back zs (ts ++ others) all) was refl in
      subst (λ z. a.most < sizes (track_blocks z)) (sym same) (omega (arith, over, tracks_behind zs (ts ++ others)));
  most = is.most;
}

module _ (ts : List Track) (i : ℕ) (t : Track) (here : slice_get ts i ≡ Some t) where
  abbrev later : List Track
  later = drop (i + 1) ts

  tracks_split : ts ≡ take i ts ++ (t ∷ [] ++ later)
  tracks_split = sym (take-append-drop i ts) ∙ ap (λ (z : List Track). take i ts ++ z) (drop_some ts i t here)

  module _ (a b c : Fitting) (was : TakesTracks true later a b) where
    pub track_here : TakesTracks true (t ∷ []) b c → TakesTracks true (drop i ts) a c
    track_here one = subst (λ z. TakesTracks true z a c) (sym (drop_some ts i t here))
        (tracks_more true later (t ∷ []) a b c was one)

    pub track_no_more : TakesTracks false (t ∷ []) b c → TakesTracks false ts a c
    track_no_more one = subst (λ z. TakesTracks false z a c) (sym tracks_split)
        (tracks_not (take i ts) (t ∷ [] ++ later) a c (tracks_more false later (t ∷ []) a b c was one))

-- ---- the track whose layout was taken, and the one whose layout was not

module _ (t : Track) (a c : Fitting) (there : (n : ℕ) → has c.numbers n ≡
    (if eqb t.number n then true else has a.numbers n)) where
  numbers_now : (others : List Track) → HasTracks others a → (n : ℕ) → has c.numbers n ≡ has_number n (t ∷ others)
  numbers_now others was n = there n ∙ ap (λ (b : Bool). if eqb t.number n then true else b) (was.numbers n)

  pub track_again : has a.numbers t.number ≡ true → c.ids ≡ a.ids → c.most ≡ a.most → c.left ≡ a.left
      → TakesTracks true (t ∷ []) a c
  track_again seen ids most left = record {
    taken = λ others numbered was is.
        let again = again_there t others numbered.0 (sym (was.numbers t.number) ∙ seen) in
        record {
          blocks = record {
            ids = λ id. ap (λ s. has s id) ids ∙ was.blocks.ids id
                ∙ sym (ids_there id (layout_blocks t.layout) (track_blocks others) again);
            size = omega (
              arith,
              was.blocks.size,
              left,
              most,
              sizes_there (layout_blocks t.layout) (track_blocks others) again,
            );
          };
          numbers = numbers_now others was;
        };
    over = λ others numbered was is. absurd cc;
    most = most;
  }

pub not_false : (b : Bool) → not b ≡ false → b ≡ true
not_false true is = refl
not_false false is = absurd cc
