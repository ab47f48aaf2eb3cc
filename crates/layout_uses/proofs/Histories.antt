-- Points of a history.
use Rattle.layout_uses.proofs.Common.{◌≡◌, refl, sym, ap, ◌∙◌, subst, ℕ, zero, suc, ◌+◌, ◌-◌, ◌^◌, ◌≤◌, ◌<◌, List, []}
use Rattle.layout_uses.proofs.Common.{◌∷◌, ◌++◌, length, take, drop, append_assoc, take-append-drop, slice_get}
use Rattle.layout_uses.proofs.Common.{Some, arith, length-append, append-nil, drop-map, length-map, length-take}
use Rattle.layout_uses.proofs.Common.{map-append, flat_map-append, BlockRef, History, IsHistory, amended, edited}
use Rattle.layout_uses.proofs.Common.{point_of, points_of, purged, Track, drop_some, take_some, AreDrawn, AreNumbered}
use Rattle.layout_uses.proofs.Common.{history_tracks, points_tracks, track_blocks, Comes, Goes, Has, IsTally, Tally}
use Rattle.layout_uses.proofs.Common.{HasIds, times_named, counts_of}
use Rattle.std.proofs.lemmas.List.{drop-append-le, take-map, take_all, length-take-le}
use Rattle.layout_uses.specs.Tallies.{Becomes, MayBecome}
use Rattle.layout_uses.proofs.Moves.{counts_swapped, drawn_swapped, drawn_without, numbered_swapped, numbered_without}
use Rattle.layout_uses.proofs.Onward.{came_more, has_front, has_rest, times_tracks, went_more, went_none}
use Rattle.layout_uses.proofs.{Times.Few, Turns.take_take}

pub tracks_append : (xs ys : List (List Track)) → points_tracks (xs ++ ys) ≡ points_tracks xs ++ points_tracks ys
tracks_append xs ys = flat_map-append (λ (p : List Track). p) xs ys

-- ---- points from one place to another

module _ (ps : List (List Track)) (a to i : ℕ) (p : List Track) (here : slice_get ps i ≡ Some p)
    (from : a ≤ i) (before : i < to) (within : i < length ps) where
  abbrev done : List Track
  done = points_tracks (drop a (take i ps))

  abbrev ahead : List (List Track)
  ahead = drop (i + 1) (take to ps)

  taken : length (take i ps) ≡ i
  taken = length-take-le i ps (omega (arith, within))

  range_next : points_tracks (drop a (take (i + 1) ps)) ≡ done ++ p
  range_next =
      let one : drop a (take (i + 1) ps) ≡ drop a (take i ps) ++ p ∷ [] =
      ap (drop a) (take_some ps i p here) ∙ drop-append-le a (take i ps) (p ∷ []) (omega (arith, taken, from)) in
      ap points_tracks one ∙ tracks_append (drop a (take i ps)) (p ∷ [])
      ∙ ap (λ (z : List Track). done ++ z) (append-nil p)

  range_split : points_tracks (drop a (take to ps)) ≡ done ++ (p ++ points_tracks ahead)
  range_split =
      let front : take (i + 1) (take to ps) ≡ take i ps ++ p ∷ [] =
      take_take (i + 1) to ps (omega (arith, before)) ∙ take_some ps i p here in
      let all : take to ps ≡ take i ps ++ (p ∷ ahead) = sym (take-append-drop (i + 1) (take to ps))
      ∙ ap (λ (z : List (List Track)). z ++ ahead) front ∙ append_assoc (take i ps) (p ∷ []) ahead in
      let cut : drop a (take to ps) ≡ drop a (take i ps) ++ (p ∷ ahead) =
      ap (drop a) all ∙ drop-append-le a (take i ps) (p ∷ ahead) (omega (arith, taken, from)) in
      ap points_tracks cut ∙ tracks_append (drop a (take i ps)) (p ∷ ahead)

  pub range_has : (o m : Tally) → Has (points_tracks (drop a (take to ps))) o → Goes done o m → Has p m
  range_has o m has went = has_front p (points_tracks ahead) m
      (has_rest done (p ++ points_tracks ahead) o m (subst (λ z. Has z o) range_split has) went)

  pub range_went : (o m n : Tally) → Goes done o m → Goes p m n → Goes (points_tracks (drop a (take (i + 1) ps))) o n
  range_went o m n one two = subst (λ z. Goes z o n) (sym range_next) (went_more done p o m n one two)

pub range_none : (ps : List (List Track)) (a : ℕ) (o : Tally) → Goes (points_tracks (drop a (take a ps))) o o
range_none ps a o = subst (λ z. Goes (points_tracks z) o o) (sym (none a ps)) (went_none o)
  where
    none : {X : Type 0} (a : ℕ) (xs : List X) → drop a (take a xs) ≡ []
    none zero xs = refl
    none (suc a) [] = refl
    none (suc a) (x ∷ xs) = none a xs

-- ---- tracks in the place of others

regrouped : (p k r others : List Track) → p ++ ((k ++ r) ++ others) ≡ (p ++ k) ++ (r ++ others)
regrouped p k r others = search (arith, append_assoc)

module _ (blocks : List BlockRef) (t : Tally) where
  abbrev Over : List Track → Type 0
  Over ts = IsTally ts blocks t

  swapped : (xs ys zs : List Track) → AreNumbered (xs ++ (ys ++ zs)) → Over (xs ++ (ys ++ zs)) → Over (ys ++ (xs ++ zs))
  swapped xs ys zs numbered is = counts_swapped xs ys zs blocks _ _ numbered is

  -- what stands last of what was there, in front
  pub last_in_front : (p k r others : List Track) → AreNumbered (p ++ ((k ++ r) ++ others))
      → Over (p ++ ((k ++ r) ++ others)) → Over (r ++ ((p ++ k) ++ others))
  last_in_front p k r others numbered is = search (arith, regrouped, swapped)

  -- what stands first of what was there, in front
  pub first_in_front : (p o k others : List Track) → AreNumbered (p ++ ((o ++ k) ++ others))
      → Over ((p ++ (o ++ k)) ++ others) → Over (o ++ (p ++ (k ++ others)))
  first_in_front p o k others numbered is = search (arith, append_assoc, swapped)

  -- what came, after what is left
  pub behind : (p k others : List Track) → AreNumbered (p ++ (k ++ others)) → Over (p ++ (k ++ others))
      → Over ((k ++ p) ++ others)
  behind p k others numbered is = subst Over (sym (append_assoc k p others)) (swapped p k others numbered is)

-- what holds of tracks holds of some of them, and in another order
module _ (P : List Track → Type 0) (less : (xs ys zs : List Track) → P (xs ++ (ys ++ zs)) → P (xs ++ zs))
    (moved : (xs ys zs : List Track) → P (xs ++ (ys ++ zs)) → P (ys ++ (xs ++ zs))) where
  -- without what stood last
  pub so_kept : (p k r others : List Track) → P (p ++ ((k ++ r) ++ others)) → P (p ++ (k ++ others))
  so_kept p k r others so = search (arith, append_assoc, regrouped)

  -- without what stood first
  pub so_left : (p o k others : List Track) → P (p ++ ((o ++ k) ++ others)) → P (p ++ (k ++ others))
  so_left p o k others so = search (arith, append_assoc)

  -- with what came after what is left
  pub so_behind : (p k others : List Track) → P (p ++ (k ++ others)) → P ((k ++ p) ++ others)
  so_behind p k others so = subst P (sym (append_assoc k p others)) (moved p k others so)

numbered_kept : (p k r others : List Track) → AreNumbered (p ++ ((k ++ r) ++ others)) → AreNumbered (p ++ (k ++ others))
numbered_kept = so_kept AreNumbered numbered_without numbered_swapped

numbered_left : (p o k others : List Track) → AreNumbered (p ++ ((o ++ k) ++ others)) → AreNumbered (p ++ (k ++ others))
numbered_left = so_left AreNumbered numbered_without numbered_swapped

-- ---- the points of a history

pub points_split : (n : ℕ) (ps : List (List Track))
    → points_tracks ps ≡ points_tracks (take n ps) ++ points_tracks (drop n ps)
points_split n ps = ap points_tracks (sym (take-append-drop n ps)) ∙ tracks_append (take n ps) (drop n ps)

module _ (h : History (List Track)) where
  abbrev ps : List (List Track)
  ps = points_of h

  -- the code goes by all points
  whole : take (length h.points) ps ≡ ps
  whole = take_all (length h.points) ps (omega (arith, length-map h.points point_of))

  pub rest_is : (n : ℕ) → points_tracks (drop n (take (length h.points) ps)) ≡ points_tracks (drop n ps)
  rest_is n = ap (λ z. points_tracks (drop n z)) whole

  -- from a place on up to their number
  pub goes_rest : (n len : ℕ) (a b : Tally) → len ≡ length h.points
      → Goes (points_tracks (drop n (take len ps))) a b → Goes (points_tracks (drop n ps)) a b
  goes_rest n len a b is went = subst (λ z. Goes z a b) (rest_is n)
      (subst (λ (k : ℕ). Goes (points_tracks (drop n (take k ps))) a b) is went)

  module _ (is : IsHistory h) (p : List Track) where
    abbrev c : ℕ
    c = h.cursor + 1

    abbrev gone : ℕ
    gone = c + 1 - h.depth

    taken_length : length (take c ps) ≡ c
    taken_length = length-take-le c ps (omega (arith, length-map h.points point_of, is.current))

    pub edited_tracks : (tag : ℕ) → history_tracks (edited h p tag) ≡ points_tracks (drop gone (take c ps)) ++ p
    edited_tracks tag =
        search (
          arith,
          map-append,
          take-map,
          length-append,
          length-take,
          drop-map,
          drop-append-le,
          taken_length,
          tracks_append,
          append-nil,
        )

    pub amended_tracks : history_tracks (amended h p) ≡ points_tracks (take h.cursor ps) ++ p
    amended_tracks = search (arith, map-append, take-map, length-append, length-take, tracks_append, append-nil)

    -- ---- what holds of all tracks, of those that are left

    module _ (P : List Track → Type 0) (less : (xs ys zs : List Track) → P (xs ++ (ys ++ zs)) → P (xs ++ zs))
        (moved : (xs ys zs : List Track) → P (xs ++ (ys ++ zs)) → P (ys ++ (xs ++ zs))) (others : List Track)
        (so : P (p ++ (history_tracks h ++ others))) where
      so_front : (n : ℕ) → P (p ++ (points_tracks (take n ps) ++ others))
      so_front n = so_kept P less moved p (points_tracks (take n ps)) (points_tracks (drop n ps)) others
          (subst (λ z. P (p ++ (z ++ others))) (points_split n ps) so)

      pub so_amended : P (history_tracks (amended h p) ++ others)
      so_amended = subst (λ z. P (z ++ others)) (sym amended_tracks)
          (so_behind P less moved p (points_tracks (take h.cursor ps)) others (so_front h.cursor))

      pub so_edited : (tag : ℕ) → P (history_tracks (edited h p tag) ++ others)
      so_edited tag =
          let front = take c ps in
          let all = subst (λ z. P (p ++ (z ++ others))) (points_split gone front) (so_front c) in
          subst (λ z. P (z ++ others)) (sym (edited_tracks tag))
          (so_behind P less moved p (points_tracks (drop gone front)) others
          (so_left P less moved p (points_tracks (take gone front)) (points_tracks (drop gone front)) others all))

    -- ---- what stands last goes

    module _ (n : ℕ) (t0 t1 : Tally) (came : Comes p t0 t1) where
      abbrev front : List Track
      front = points_tracks (take n ps)

      abbrev last : List Track
      last = points_tracks (drop n ps)

      numbered_split : (others : List Track) → AreNumbered (p ++ (history_tracks h ++ others))
          → AreNumbered (p ++ ((front ++ last) ++ others))
      numbered_split others numbered = subst (λ z. AreNumbered (p ++ (z ++ others))) (points_split n ps) numbered

      used : (others : List Track) (blocks : List BlockRef) → AreNumbered (p ++ (history_tracks h ++ others))
          → length p + length (history_tracks h ++ others) < 2 ^ 128 → IsTally (history_tracks h ++ others) blocks t0
          → IsTally (last ++ ((p ++ front) ++ others)) blocks t1
      used others blocks numbered few was =
          last_in_front blocks t1 p front last others (numbered_split others numbered)
          (subst (λ z. IsTally (p ++ (z ++ others)) blocks t1) (points_split n ps)
          (came.counted (history_tracks h ++ others) blocks few was))

      pub has_last : MayBecome p (history_tracks h) t0 → Has last t1
      has_last may = record {
        others = (p ++ front) ++ may.others;
        blocks = may.blocks;
        counted = used may.others may.blocks may.numbered may.few may.counted;
      }

      module _ (t2 : Tally) (went : Goes last t1 t2) where
        left : (others : List Track) (blocks : List BlockRef) → AreNumbered (p ++ (history_tracks h ++ others))
            → length p + length (history_tracks h ++ others) < 2 ^ 128 → IsTally (history_tracks h ++ others) blocks t0
            → IsTally ((p ++ front) ++ others) blocks t2
        left others blocks numbered few was =
            went.counted ((p ++ front) ++ others) blocks (used others blocks numbered few was)

        pub became_amended : n ≡ h.cursor → Becomes p (history_tracks h) (history_tracks (amended h p)) t0 t2
        became_amended at = record {
          counted = λ others blocks numbered few was.
              subst (λ z. IsTally (z ++ others) blocks t2)
              (ap (λ (k : ℕ). points_tracks (take k ps) ++ p) at ∙ sym amended_tracks)
              (behind blocks t2 p front others (numbered_kept p front last others (numbered_split others numbered))
              (subst (λ z. IsTally z blocks t2) (append_assoc p front others) (left others blocks numbered few was)));
          numbered = so_amended AreNumbered numbered_without numbered_swapped;
          drawn = λ next. so_amended (AreDrawn next) (drawn_without next) (drawn_swapped next);
          ids = λ id. (λ t. (came.ids id).0 ((went.ids id).0 t), λ t. (went.ids id).1 ((came.ids id).1 t));
        }

        -- ---- and what stands first

        module _ (k : ℕ) (le : k ≤ n) where
          abbrev oldest : List Track
          oldest = points_tracks (take k ps)

          abbrev stays : List Track
          stays = points_tracks (drop k (take n ps))

          front_split : front ≡ oldest ++ stays
          front_split = points_split k (take n ps) ∙ ap (λ z. points_tracks z ++ stays) (take_take k n ps le)

          numbered_front : (others : List Track) → AreNumbered (p ++ (history_tracks h ++ others))
              → AreNumbered (p ++ ((oldest ++ stays) ++ others))
          numbered_front others numbered = search (arith, front_split, numbered_kept, numbered_split)

          old_in_front : (others : List Track) (blocks : List BlockRef)
              → AreNumbered (p ++ (history_tracks h ++ others))
              → length p + length (history_tracks h ++ others) < 2 ^ 128
              → IsTally (history_tracks h ++ others) blocks t0
              → IsTally (oldest ++ (p ++ (stays ++ others))) blocks t2
          old_in_front others blocks numbered few was =
              first_in_front blocks t2 p oldest stays others (numbered_front others numbered)
              (subst (λ z. IsTally ((p ++ z) ++ others) blocks t2) front_split (left others blocks numbered few was))

          pub has_oldest : MayBecome p (history_tracks h) t0 → Has oldest t2
          has_oldest may = record {
            others = p ++ (stays ++ may.others);
            blocks = may.blocks;
            counted = old_in_front may.others may.blocks may.numbered may.few may.counted;
          }

          pub became_edited : (t3 : Tally) (tag : ℕ) → Goes oldest t2 t3 → n ≡ c → k ≡ gone
              → Becomes p (history_tracks h) (history_tracks (edited h p tag)) t0 t3
          became_edited t3 tag more at away = record {
            counted = λ others blocks numbered few was.
                subst (λ z. IsTally (z ++ others) blocks t3)
                (ap (λ (m : ℕ). points_tracks (drop m (take n ps)) ++ p) away
                ∙ ap (λ (m : ℕ). points_tracks (drop gone (take m ps)) ++ p) at ∙ sym (edited_tracks tag))
                (behind blocks t3 p stays others (numbered_left p oldest stays others (numbered_front others numbered))
                (more.counted (p ++ (stays ++ others)) blocks (old_in_front others blocks numbered few was)));
            numbered = λ others so. so_edited AreNumbered numbered_without numbered_swapped others so tag;
            drawn = λ next others so. so_edited (AreDrawn next) (drawn_without next) (drawn_swapped next) others so tag;
            ids = λ id. (
              λ t. (came.ids id).0 ((went.ids id).0 ((more.ids id).0 t)),
              λ t. (more.ids id).1 ((went.ids id).1 ((came.ids id).1 t)),
            );
          }

  -- ---- the oldest points go

  module _ (n : ℕ) (t0 : Tally) where
    pub has_first : MayBecome [] (history_tracks h) t0 → Has (points_tracks (take n ps)) t0
    has_first may = record {
      others = points_tracks (drop n ps) ++ may.others;
      blocks = may.blocks;
      counted = subst (λ z. IsTally z may.blocks t0)
          (ap (λ z. z ++ may.others) (points_split n ps)
          ∙ append_assoc (points_tracks (take n ps)) (points_tracks (drop n ps)) may.others) may.counted;
    }

    so_purged : (P : List Track → Type 0) → ((xs ys zs : List Track) → P (xs ++ (ys ++ zs)) → P (xs ++ zs))
        → (others : List Track) → P (history_tracks h ++ others) → P (history_tracks (purged h n) ++ others)
    so_purged P less others so = subst (λ z. P (points_tracks z ++ others)) (drop-map point_of n h.points)
        (less [] (points_tracks (take n ps)) (points_tracks (drop n ps) ++ others)
        (subst P (ap (λ z. z ++ others) (points_split n ps)
        ∙ append_assoc (points_tracks (take n ps)) (points_tracks (drop n ps)) others) so))

    pub became_purged : (t1 : Tally) → Goes (points_tracks (take n ps)) t0 t1
        → Becomes [] (history_tracks h) (history_tracks (purged h n)) t0 t1
    became_purged t1 went = record {
      counted = λ others blocks numbered few was.
          subst (λ z. IsTally (points_tracks z ++ others) blocks t1) (drop-map point_of n h.points)
          (went.counted (points_tracks (drop n ps) ++ others) blocks
          (subst (λ z. IsTally z blocks t0)
          (ap (λ z. z ++ others) (points_split n ps)
          ∙ append_assoc (points_tracks (take n ps)) (points_tracks (drop n ps)) others) was));
      numbered = so_purged AreNumbered numbered_without;
      drawn = λ next. so_purged (AreDrawn next) (drawn_without next);
      ids = went.ids;
    }

-- ---- the points of a history, from the last one on

points_at : (ps : List (List Track)) (i : ℕ) (p : List Track) → slice_get ps i ≡ Some p
    → points_tracks (drop i ps) ≡ p ++ points_tracks (drop (i + 1) ps)
points_at ps i p here = ap points_tracks (drop_some ps i p here)

module _ (ps : List (List Track)) (i : ℕ) (p : List Track) (here : slice_get ps i ≡ Some p) (a b : Tally)
    (came : Comes (points_tracks (drop (i + 1) ps)) a b) where
  rest_times : (id : ℕ) → times_named id (track_blocks (points_tracks ps))
      ≡ times_named id (track_blocks (points_tracks (take i ps)))
      + (times_named id (track_blocks p) + times_named id (track_blocks (points_tracks (drop (i + 1) ps))))
  rest_times id = omega (
    arith,
    ap (λ z. times_named id (track_blocks z)) (points_split i ps),
    times_tracks id (points_tracks (take i ps)) (points_tracks (drop i ps)),
    ap (λ z. times_named id (track_blocks z)) (points_at ps i p here),
    times_tracks id p (points_tracks (drop (i + 1) ps)),
  )

  pub point_there : HasIds (counts_of a.ledger) (track_blocks (points_tracks ps))
      → HasIds (counts_of b.ledger) (track_blocks p)
  point_there all = λ id some. (came.ids id).1 (all id (omega (arith, some, rest_times id)))

  pub point_few : Few (counts_of a.ledger) (track_blocks (points_tracks ps)) → Few (counts_of b.ledger) (track_blocks p)
  point_few all = λ id. omega (arith, all id, came.most id, rest_times id)

  pub point_came : (d : Tally) → Comes p b d → Comes (points_tracks (drop i ps)) a d
  point_came d more = subst (λ z. Comes z a d) (sym (points_at ps i p here))
      (came_more (points_tracks (drop (i + 1) ps)) p a b d came more)
