-- The order of tracks does not matter to what is counted over them.
use Rattle.layout_uses.proofs.Common.{◌≡◌, refl, sym, ap, subst, ◌∙◌, ℕ, ◌+◌, List, [], ◌∷◌, ◌++◌, IsListed, Uses}
use Rattle.layout_uses.proofs.Common.{unlisted, used_blocks}
use Rattle.layout_uses.proofs.Common.{arith, map-append, BlockRef, Counts, times, Track, numbers_of}
use Rattle.layout_uses.proofs.Common.{has_number, Agree, AgreesWith, AreDrawn, AreNumbered, AreCounts}
use Rattle.block_ledger.proofs.Times.{times_append}
use Rattle.layout_uses.proofs.Layouts.{times_used, each_again, each_first, number_cases, number_moved, times_moved}
use Rattle.layout_uses.proofs.Listing.{Listing, all_swapped, listed_all, listed_each, numbered_unlisted}
use Rattle.layout_uses.proofs.{Listing.unlisted_append, Times.named_append, Tracks.times_counted}

-- ---- parts of what is numbered

pub agrees_front : (t : Track) (xs ys : List Track) → AgreesWith t (xs ++ ys) → AgreesWith t xs
agrees_front t [] ys h = tt
agrees_front t (x ∷ xs) ys h = (h.0, agrees_front t xs ys h.1)

pub agrees_back : (t : Track) (xs ys : List Track) → AgreesWith t (xs ++ ys) → AgreesWith t ys
agrees_back t [] ys h = h
agrees_back t (x ∷ xs) ys h = agrees_back t xs ys h.1

pub agrees_both : (t : Track) (xs ys : List Track) → AgreesWith t xs → AgreesWith t ys → AgreesWith t (xs ++ ys)
agrees_both t [] ys h k = k
agrees_both t (x ∷ xs) ys h k = (h.0, agrees_both t xs ys h.1 k)

pub numbered_back : (xs ys : List Track) → AreNumbered (xs ++ ys) → AreNumbered ys
numbered_back [] ys h = h
numbered_back (x ∷ xs) ys h = numbered_back xs ys h.1

pub numbered_without : (xs ys zs : List Track) → AreNumbered (xs ++ (ys ++ zs)) → AreNumbered (xs ++ zs)
numbered_without [] ys zs h = numbered_back ys zs h
numbered_without (x ∷ xs) ys zs h =
    search (arith, numbered_without xs ys zs h.1, agrees_both, agrees_front, agrees_back)

pub flipped : (t u : Track) → Agree t u → Agree u t
flipped t u agree = λ e. sym (agree (sym e))

agrees_among : (x t : Track) (xs ys : List Track) → Agree x t → AgreesWith x (xs ++ ys) → AgreesWith x (xs ++ t ∷ ys)
agrees_among x t [] ys one agree = (one, agree)
agrees_among x t (z ∷ zs) ys one agree = (agree.0, agrees_among x t zs ys one agree.1)

numbered_among : (t : Track) (xs ys : List Track) → AgreesWith t (xs ++ ys) → AreNumbered (xs ++ ys)
    → AreNumbered (xs ++ t ∷ ys)
numbered_among t [] ys agree numbered = (agree, numbered)
numbered_among t (x ∷ xs) ys agree numbered =
    search (arith, numbered_among t xs ys agree.1 numbered.1, agrees_among, flipped)

agrees_swapped : (t : Track) (xs ys zs : List Track) → AgreesWith t (xs ++ (ys ++ zs)) → AgreesWith t (ys ++ (xs ++ zs))
agrees_swapped t xs ys zs h = search (arith, agrees_both, agrees_front, agrees_back)

pub numbered_swapped : (xs ys zs : List Track) → AreNumbered (xs ++ (ys ++ zs)) → AreNumbered (ys ++ (xs ++ zs))
numbered_swapped [] ys zs h = h
numbered_swapped (x ∷ xs) ys zs h =
    numbered_among x ys (xs ++ zs) (agrees_swapped x xs ys zs h.0) (numbered_swapped xs ys zs h.1)

-- ---- numbers below a bound

drawn_front : (next : ℕ) (xs ys : List Track) → AreDrawn next (xs ++ ys) → AreDrawn next xs
drawn_front next [] ys h = tt
drawn_front next (x ∷ xs) ys h = (h.0, drawn_front next xs ys h.1)

drawn_back : (next : ℕ) (xs ys : List Track) → AreDrawn next (xs ++ ys) → AreDrawn next ys
drawn_back next [] ys h = h
drawn_back next (x ∷ xs) ys h = drawn_back next xs ys h.1

drawn_both : (next : ℕ) (xs ys : List Track) → AreDrawn next xs → AreDrawn next ys → AreDrawn next (xs ++ ys)
drawn_both next [] ys h k = k
drawn_both next (x ∷ xs) ys h k = (h.0, drawn_both next xs ys h.1 k)

pub drawn_without : (next : ℕ) (xs ys zs : List Track) → AreDrawn next (xs ++ (ys ++ zs)) → AreDrawn next (xs ++ zs)
drawn_without next xs ys zs h = search (arith, drawn_both, drawn_front, drawn_back)

pub drawn_swapped : (next : ℕ) (xs ys zs : List Track) → AreDrawn next (xs ++ (ys ++ zs))
    → AreDrawn next (ys ++ (xs ++ zs))
drawn_swapped next xs ys zs h = search (arith, drawn_back, drawn_both, drawn_front)

-- ---- some tracks in front of others

pub number_swapped : (n : ℕ) (xs ys zs : List Track)
    → has_number n (xs ++ (ys ++ zs)) ≡ has_number n (ys ++ (xs ++ zs))
number_swapped n [] ys zs = refl
number_swapped n (x ∷ xs) ys zs = search (arith, number_swapped n xs ys zs, number_moved)

times_behind : (id : ℕ) (t : Track) (xs ys : List Track) → has_number t.number xs ≡ has_number t.number ys
    → times_used id xs ≡ times_used id ys → times_used id (t ∷ xs) ≡ times_used id (t ∷ ys)
times_behind id t xs ys number used = search (arith, each_again, each_first, number_cases)

pub times_swapped : (id : ℕ) (xs ys zs : List Track) → AreNumbered (xs ++ (ys ++ zs))
    → times_used id (xs ++ (ys ++ zs)) ≡ times_used id (ys ++ (xs ++ zs))
times_swapped id [] ys zs numbered = refl
times_swapped id (x ∷ xs) ys zs numbered =
    search (
      arith,
      times_swapped id xs ys zs numbered.1,
      times_behind,
      number_swapped,
      times_moved,
      agrees_front,
      agrees_back,
    )

pub numbers_append : (n : ℕ) (xs ys : List Track)
    → times n (numbers_of (xs ++ ys)) ≡ times n (numbers_of xs) + times n (numbers_of ys)
numbers_append n xs ys = search (arith, map-append, times_append)

numbers_swapped : (n : ℕ) (xs ys zs : List Track)
    → times n (numbers_of (xs ++ (ys ++ zs))) ≡ times n (numbers_of (ys ++ (xs ++ zs)))
numbers_swapped n xs ys zs = search (arith, numbers_append)

-- those without a list
unlisted_parts : (l : Listing) (xs ys zs : List Track)
    → unlisted l (xs ++ (ys ++ zs)) ≡ unlisted l xs ++ (unlisted l ys ++ unlisted l zs)
unlisted_parts l xs ys zs =
    unlisted_append l xs (ys ++ zs) ∙ ap (λ (z : List Track). unlisted l xs ++ z) (unlisted_append l ys zs)

alone_swapped : (l : Listing) (id : ℕ) (xs ys zs : List Track) → AreNumbered (xs ++ (ys ++ zs))
    → times_used id (unlisted l (xs ++ (ys ++ zs))) ≡ times_used id (unlisted l (ys ++ (xs ++ zs)))
alone_swapped l id xs ys zs numbered =
    ap (times_used id) (unlisted_parts l xs ys zs)
    ∙ times_swapped id (unlisted l xs) (unlisted l ys) (unlisted l zs)
    (subst AreNumbered (unlisted_parts l xs ys zs) (numbered_unlisted l (xs ++ (ys ++ zs)) numbered))
    ∙ sym (ap (times_used id) (unlisted_parts l ys xs zs))

-- what is counted over some tracks is counted over them in another order
pub counts_swapped : (xs ys zs : List Track) (blocks : List BlockRef) (u : Uses) (c : Counts)
    → AreNumbered (xs ++ (ys ++ zs)) → AreCounts (xs ++ (ys ++ zs)) blocks u c
    → AreCounts (ys ++ (xs ++ zs)) blocks u c
counts_swapped xs ys zs blocks u c numbered is = record {
  fresh_uses = λ n. is.fresh_uses n ∙ numbers_swapped n xs ys zs;
  none_free = is.none_free;
  fresh_counts = λ id. omega (
    arith,
    is.fresh_counts id,
    times_counted id (xs ++ (ys ++ zs)) blocks,
    times_counted id (ys ++ (xs ++ zs)) blocks,
    times_swapped id xs ys zs numbered,
  );
  listed = listed_each u.lists (ys ++ (xs ++ zs)) (all_swapped (IsListed u.lists) xs ys zs
      (listed_all u.lists (xs ++ (ys ++ zs)) numbered is.listed));
  no_other = λ n absent. is.no_other n (number_swapped n xs ys zs ∙ absent);
  singles = λ id. omega (
    arith,
    is.singles id,
    named_append id (used_blocks (unlisted u.lists (xs ++ (ys ++ zs)))) blocks,
    named_append id (used_blocks (unlisted u.lists (ys ++ (xs ++ zs)))) blocks,
    alone_swapped u.lists id xs ys zs numbered,
  );
}
