-- Tracks that come or go one after another.
use Rattle.layout_uses.proofs.Common.{◌≡◌, refl, sym, ap, ◌∙◌, subst, ℕ, ◌+◌, ◌≤◌, List, [], ◌∷◌, ◌++◌, take, drop}
use Rattle.layout_uses.proofs.Common.{append_assoc, take-append-drop, slice_get, Some, IsSome, arith, length-append}
use Rattle.layout_uses.proofs.Common.{BlockRef, Counts, occurrences, count_of, layout_blocks, Track, take_some}
use Rattle.layout_uses.proofs.Common.{drop_some, HasIds, times_named, AreCounts, IsTally, Comes, Goes, Has, Tally}
use Rattle.layout_uses.proofs.Common.{track_blocks, RowsState, Uses, counts_of, list_of, singles_of, uses_of}
use Rattle.std.proofs.Common.{◌↔◌}
use Rattle.layout_uses.proofs.Times.{named_append, Few}

pub times_tracks : (id : ℕ) (xs ys : List Track)
    → times_named id (track_blocks (xs ++ ys)) ≡ times_named id (track_blocks xs) + times_named id (track_blocks ys)
times_tracks id [] ys = omega arith
times_tracks id (x ∷ xs) ys = search (arith, times_tracks id xs ys, named_append)

pub came_more : (xs ys : List Track) (a b c : Tally) → Comes xs a b → Comes ys b c → Comes (ys ++ xs) a c
came_more xs ys a b c one two = record {
  counted = λ others blocks few is.
      subst (λ ts. IsTally ts blocks c) (sym (append_assoc ys xs others))
      (two.counted (xs ++ others) blocks
      (omega (arith, few, length-append ys xs, length-append xs others))
      (one.counted others blocks (omega (arith, few, length-append ys xs)) is));
  ids = λ id. (λ h. (one.ids id).0 ((two.ids id).0 h), λ h. (two.ids id).1 ((one.ids id).1 h));
  most = λ id. omega (arith, one.most id, two.most id, times_tracks id ys xs);
  room = omega (arith, one.room, two.room, length-append ys xs);
}

pub went_none : (t : Tally) → Goes [] t t
went_none t = record { counted = λ others blocks is. is; ids = λ id. (λ h. h, λ h. h); room = refl }

pub went_more : (xs ys : List Track) (a b c : Tally) → Goes xs a b → Goes ys b c → Goes (xs ++ ys) a c
went_more xs ys a b c one two = record {
  counted = λ others blocks is.
      two.counted others blocks (one.counted (ys ++ others) blocks
      (subst (λ ts. IsTally ts blocks a) (append_assoc xs ys others) is));
  ids = λ id. (λ h. (one.ids id).0 ((two.ids id).0 h), λ h. (two.ids id).1 ((one.ids id).1 h));
  room = two.room ∙ one.room;
}

-- some of the tracks went, and the others are still counted
pub has_rest : (xs ys : List Track) (a b : Tally) → Has (xs ++ ys) a → Goes xs a b → Has ys b
has_rest xs ys a b has went = record {
  others = has.others;
  blocks = has.blocks;
  counted = went.counted (ys ++ has.others) has.blocks
      (subst (λ ts. IsTally ts has.blocks a) (append_assoc xs ys has.others) has.counted);
}

pub has_front : (xs ys : List Track) (a : Tally) → Has (xs ++ ys) a → Has xs a
has_front xs ys a has = search (arith, append_assoc)

-- ---- the track at a place

module _ (ts : List Track) (i : ℕ) (t : Track) (here : slice_get ts i ≡ Some t) where
  split : ts ≡ take i ts ++ (t ∷ [] ++ drop (i + 1) ts)
  split = sym (take-append-drop i ts) ∙ ap (λ (z : List Track). take i ts ++ z) (drop_some ts i t here)

  module _ (a b : Tally) where
    pub has_here : Has ts a → Goes (take i ts) a b → Has (t ∷ []) b
    has_here has went = has_front (t ∷ []) (drop (i + 1) ts) b
        (has_rest (take i ts) (t ∷ [] ++ drop (i + 1) ts) a b (subst (λ z. Has z a) split has) went)

    pub went_here : (c : Tally) → Goes (take i ts) a b → Goes (t ∷ []) b c → Goes (take (i + 1) ts) a c
    went_here c one two = subst (λ z. Goes z a c) (sym (take_some ts i t here)) (went_more (take i ts)
        (t ∷ []) a b c one two)

    pub came_here : (c : Tally) → Comes (drop (i + 1) ts) a b → Comes (t ∷ []) b c → Comes (drop i ts) a c
    came_here c one two = subst (λ z. Comes z a c) (sym (drop_some ts i t here))
        (came_more (drop (i + 1) ts) (t ∷ []) a b c one two)

    times_here : (id : ℕ) → times_named id (track_blocks ts) ≡ times_named id (track_blocks (take i ts))
        + (times_named id (layout_blocks t.layout) + times_named id (track_blocks (drop (i + 1) ts)))
    times_here id = search (arith, split, times_tracks, named_append)

    pub there_here : HasIds (counts_of a.ledger) (track_blocks ts) → Comes (drop (i + 1) ts) a b
        → HasIds (counts_of b.ledger) (layout_blocks t.layout)
    there_here all came = λ id some. (came.ids id).1 (all id (omega (arith, some, times_here id)))

    pub few_here : Few (counts_of a.ledger) (track_blocks ts) → Comes (drop (i + 1) ts) a b
        → Few (counts_of b.ledger) (layout_blocks t.layout)
    few_here all came = λ id. omega (arith, all id, came.most id, times_here id)

-- ---- more room for uses

same_counted : (ts : List Track) (blocks : List BlockRef) (u : Uses) (k c : Counts) → ((n : ℕ) → k n ≡ u.counts n)
    → AreCounts ts blocks u c
    → AreCounts ts blocks (record { counts = k; lists = u.lists; singles = u.singles }) c
same_counted ts blocks u k c same is =
    subst (λ (z : Counts). AreCounts ts blocks (record { counts = z; lists = u.lists; singles = u.singles }) c)
    (λ i n. sym (same n) i) is

pub came_roomy : (ts : List Track) (a b c : Tally) → Comes ts a b
    → ((n : ℕ) → count_of c.uses n ≡ count_of b.uses n) → c.ledger ≡ b.ledger → b.uses.spare ≤ c.uses.spare
    → Comes ts a c
came_roomy ts a b c came uses ledger room = record {
  counted = λ others blocks few is.
      subst (λ (k : RowsState). AreCounts (ts ++ others) blocks
      (record { counts = count_of c.uses; lists = list_of k; singles = singles_of k }) (counts_of k)) (sym ledger)
      (same_counted (ts ++ others) blocks (uses_of b) (count_of c.uses) (counts_of b.ledger) uses
      (came.counted others blocks few is));
  ids = λ id. subst (λ k. IsSome (counts_of k id) ↔ IsSome (counts_of a.ledger id)) (sym ledger) (came.ids id);
  most = λ id. subst (λ k. occurrences (counts_of k id) ≤ occurrences (counts_of a.ledger id)
      + times_named id (track_blocks ts)) (sym ledger) (came.most id);
  room = omega (arith, came.room, room);
}
