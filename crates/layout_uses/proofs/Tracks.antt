-- A use of a layout that comes or goes.
use Rattle.layout_uses.proofs.Common.{◌≡◌, ⊎_elim, refl, sym, ap, ◌∙◌, subst, ℕ, zero, suc, ◌+◌, ◌≤◌, ◌<◌, true, length}
use Rattle.layout_uses.proofs.Common.{false, List, [], ◌∷◌, ◌++◌, inl, inr, Option, Some, None, IsSome, arith}
use Rattle.layout_uses.proofs.Common.{cases_eq, BlockRef, Counts, SetsCount, occurrences, one_more, one_less}
use Rattle.layout_uses.proofs.Common.{layout_blocks, Track, HasAll, HasLayout, RowsState, counts_of, list_of, singles_of}
use Rattle.layout_uses.proofs.Common.{ids_of, one_each, times_named, numbers_of, has_number, used_blocks, unlisted, Uses}
use Rattle.layout_uses.proofs.Common.{AreCounts}
use Rattle.std.proofs.Common.{◌≢◌, is_none}
use Rattle.block_ledger.specs.Counts.{IsFreshCount}
use Rattle.layout_uses.proofs.Times.{named_append}
use Rattle.layout_uses.proofs.Layouts.{times_in, times_used, each_again, each_first, number_cases, times_number}
use Rattle.layout_uses.proofs.Layouts.{times_no_number}
use Rattle.layout_uses.proofs.Listing.{AreListed, Listing, absent_here, absent_more, absent_rest, alone_again}
use Rattle.layout_uses.proofs.Listing.{alone_first, alone_listed, listed_same, one_again, one_first, unlisted_same}

-- how often an id comes in what is counted
pub times_counted : (id : ℕ) (ts : List Track) (blocks : List BlockRef)
    → times_named id (used_blocks ts ++ blocks) ≡ times_used id ts + times_named id blocks
times_counted id ts blocks = named_append id (used_blocks ts) blocks

pub true_false : true ≡ false → ⊥
true_false e = absurd cc

pub not_free : (o : Option ℕ) → IsSome o → (o ≡ Some 0 → ⊥) → 0 < occurrences o
not_free None some free = absurd cc
not_free (Some zero) some free = absurd (free refl)
not_free (Some (suc n)) some free = omega arith

more_than_none : (o : Option ℕ) → Some (one_more o) ≡ Some 0 → ⊥
more_than_none None e = absurd cc
more_than_none (Some n) e = search arith

pub none_is : {X : Type 0} (o : Option X) → is_none o ≡ true → o ≡ None
none_is None is = refl
none_is (Some x) is = absurd cc

pub some_is : {X : Type 0} (o : Option X) → is_none o ≡ false → IsSome o
some_is None is = absurd cc
some_is (Some x) is = refl

module _ (ts : List Track) (blocks : List BlockRef) (u : Uses) (c : Counts) (is : AreCounts ts blocks u c)
    (t : Track) where
  unused : u.counts t.number ≡ None → has_number t.number ts ≡ false
  unused none = search (arith, times_number, number_cases)

  used : IsSome (u.counts t.number) → has_number t.number ts ≡ true
  used some = search (arith, times_no_number, not_free, number_cases)

  module _ (k : Counts) (set : SetsCount u.counts k t.number (Some (one_more (u.counts t.number))))
      (fresh : IsFreshCount (t.number ∷ numbers_of ts) k) where
    still_used : (n : ℕ) → k n ≡ Some 0 → ⊥
    still_used n free = search (arith, more_than_none, cases_eq)

    -- the layout comes to have a list
    pub came_listed : (l : Listing) (s : ℕ → ℕ) (c' : Counts) → u.counts t.number ≡ None
        → l t.number ≡ Some (ids_of (layout_blocks t.layout)) → ((m : ℕ) → m ≢ t.number → l m ≡ u.lists m)
        → ((id : ℕ) → s id ≡ u.singles id)
        → ((id : ℕ) → occurrences (c' id) ≡ occurrences (c id) + times_in id t)
        → AreCounts (t ∷ ts) blocks (record { counts = k; lists = l; singles = s }) c'
    came_listed l s c' none here others same held = record {
      fresh_uses = fresh;
      none_free = still_used;
      fresh_counts = λ id. omega (
        arith,
        held id,
        is.fresh_counts id,
        times_counted id ts blocks,
        times_counted id (t ∷ ts) blocks,
        each_first id t ts (unused none),
      );
      listed = subst (AreListed l) (sym (one_first t ts (unused none)))
          (inr here, listed_same u.lists l t.number ts (unused none) others is.listed);
      no_other = λ n absent. others n (λ e. absent_here n t ts absent (sym e)) ∙ is.no_other n (absent_rest n t ts absent);
      singles = λ id. omega (
        arith,
        same id,
        is.singles id,
        named_append id (used_blocks (unlisted u.lists ts)) blocks,
        named_append id (used_blocks (unlisted l (t ∷ ts))) blocks,
        alone_listed l id t ts (ap is_none here),
        ap (times_used id) (unlisted_same u.lists l t.number ts (unused none) others),
      );
    }

    -- its blocks come to be named by themselves
    pub came_single : (l : Listing) (s : ℕ → ℕ) (c' : Counts) → u.counts t.number ≡ None
        → ((n : ℕ) → l n ≡ u.lists n) → ((id : ℕ) → s id ≡ u.singles id + times_in id t)
        → ((id : ℕ) → occurrences (c' id) ≡ occurrences (c id) + times_in id t)
        → AreCounts (t ∷ ts) blocks (record { counts = k; lists = l; singles = s }) c'
    came_single l s c' none lists more held =
        subst (λ (m : Listing). AreCounts (t ∷ ts) blocks (record { counts = k; lists = m; singles = s }) c')
        (λ i n. sym (lists n) i)
        (record {
          fresh_uses = fresh;
          none_free = still_used;
          fresh_counts = λ id. omega (
            arith,
            held id,
            is.fresh_counts id,
            times_counted id ts blocks,
            times_counted id (t ∷ ts) blocks,
            each_first id t ts (unused none),
          );
          listed = subst (AreListed u.lists) (sym (one_first t ts (unused none)))
              (inl (is.no_other t.number (unused none)), is.listed);
          no_other = λ n absent. is.no_other n (absent_rest n t ts absent);
          singles = λ id. omega (
            arith,
            more id,
            is.singles id,
            named_append id (used_blocks (unlisted u.lists ts)) blocks,
            named_append id (used_blocks (unlisted u.lists (t ∷ ts))) blocks,
            alone_first u.lists id t ts (ap is_none (is.no_other t.number (unused none))) (unused none),
          );
        })

    pub came_again : IsSome (u.counts t.number)
        → AreCounts (t ∷ ts) blocks (record { counts = k; lists = u.lists; singles = u.singles }) c
    came_again some = record {
      fresh_uses = fresh;
      none_free = still_used;
      fresh_counts = λ id. omega (
        arith,
        is.fresh_counts id,
        times_counted id ts blocks,
        times_counted id (t ∷ ts) blocks,
        each_again id t ts (used some),
      );
      listed = subst (AreListed u.lists) (sym (one_again t ts (used some))) is.listed;
      no_other = λ n absent. is.no_other n (absent_rest n t ts absent);
      singles = λ id. omega (
        arith,
        is.singles id,
        named_append id (used_blocks (unlisted u.lists ts)) blocks,
        named_append id (used_blocks (unlisted u.lists (t ∷ ts))) blocks,
        alone_again u.lists id t ts (used some),
      );
    }

module _ (ts : List Track) (blocks : List BlockRef) (u : Uses) (c : Counts) (t : Track)
    (is : AreCounts (t ∷ ts) blocks u c) where
  module _ (k : Counts) (set : SetsCount u.counts k t.number (Some (one_less (u.counts t.number))))
      (fresh : IsFreshCount (numbers_of ts) k) where
    last : k t.number ≡ Some 0 → has_number t.number ts ≡ false
    last free = search (arith, times_number, number_cases)

    listed_last : k t.number ≡ Some 0 → AreListed u.lists (t ∷ one_each ts)
    listed_last free = subst (AreListed u.lists) (one_first t ts (last free)) is.listed

    has_all : k t.number ≡ Some 0 → HasAll c (layout_blocks t.layout)
    has_all free = λ id. omega (
      arith,
      is.fresh_counts id,
      times_counted id (t ∷ ts) blocks,
      each_first id t ts (last free),
    )

    has_singles : k t.number ≡ Some 0 → u.lists t.number ≡ None → (id : ℕ) → times_in id t ≤ u.singles id
    has_singles free none id = omega (
      arith,
      is.singles id,
      named_append id (used_blocks (unlisted u.lists (t ∷ ts))) blocks,
      alone_first u.lists id t ts (ap is_none none) (last free),
    )

    module _ (k' : Counts) (l : Listing) (s : ℕ → ℕ) (c' : Counts) (free : k t.number ≡ Some 0)
        (gone : SetsCount k k' t.number None) (fresh' : IsFreshCount (numbers_of ts) k')
        (dropped : (id : ℕ) → occurrences (c' id) + times_in id t ≡ occurrences (c id)) where
      none_zero : (n : ℕ) → k' n ≡ Some 0 → ⊥
      none_zero n nothing = ⊎_elim
          (λ same. absurd (none_some (sym gone.here ∙ ap k' (sym same) ∙ nothing)))
          (λ ne. is.none_free n (sym (set.others n ne) ∙ sym (gone.others n ne) ∙ nothing))
          (cases_eq n t.number)
        where
          none_some : {n : ℕ} → None ≡ Some n → ⊥
          none_some e = absurd cc

      still_fresh : (id : ℕ) → occurrences (c' id) ≡ times_named id (used_blocks ts ++ blocks)
      still_fresh id = omega (
        arith,
        is.fresh_counts id,
        times_counted id (t ∷ ts) blocks,
        times_counted id ts blocks,
        each_first id t ts (last free),
        dropped id,
      )

      -- its list goes
      pub left_listed : l t.number ≡ None → ((m : ℕ) → m ≢ t.number → l m ≡ u.lists m)
          → u.lists t.number ≡ Some (ids_of (layout_blocks t.layout)) → ((id : ℕ) → s id ≡ u.singles id)
          → AreCounts ts blocks (record { counts = k'; lists = l; singles = s }) c'
      left_listed here others was same = record {
        fresh_uses = fresh';
        none_free = none_zero;
        fresh_counts = still_fresh;
        listed = listed_same u.lists l t.number ts (last free) others (listed_last free).1;
        no_other = λ n absent. ⊎_elim
            (λ e. ap l e ∙ here)
            (λ ne. others n ne ∙ is.no_other n (absent_more n t ts (λ e. ne (sym e)) absent))
            (cases_eq n t.number);
        singles = λ id. omega (
          arith,
          same id,
          is.singles id,
          named_append id (used_blocks (unlisted u.lists (t ∷ ts))) blocks,
          named_append id (used_blocks (unlisted l ts)) blocks,
          alone_listed u.lists id t ts (ap is_none was),
          ap (times_used id) (unlisted_same u.lists l t.number ts (last free) others),
        );
      }

      -- or what is named of it by itself
      pub left_single : ((n : ℕ) → l n ≡ u.lists n) → u.lists t.number ≡ None
          → ((id : ℕ) → s id + times_in id t ≡ u.singles id)
          → AreCounts ts blocks (record { counts = k'; lists = l; singles = s }) c'
      left_single lists none less =
          subst (λ (m : Listing). AreCounts ts blocks (record { counts = k'; lists = m; singles = s }) c')
          (λ i n. sym (lists n) i)
          (record {
            fresh_uses = fresh';
            none_free = none_zero;
            fresh_counts = still_fresh;
            listed = (listed_last free).1;
            no_other = λ n absent. ⊎_elim
                (λ e. ap u.lists e ∙ none)
                (λ ne. is.no_other n (absent_more n t ts (λ e. ne (sym e)) absent))
                (cases_eq n t.number);
            singles = λ id. omega (
              arith,
              less id,
              is.singles id,
              named_append id (used_blocks (unlisted u.lists (t ∷ ts))) blocks,
              named_append id (used_blocks (unlisted u.lists ts)) blocks,
              alone_first u.lists id t ts (ap is_none none) (last free),
            );
          })

    pub left_used : (k t.number ≡ Some 0 → ⊥)
        → AreCounts ts blocks (record { counts = k; lists = u.lists; singles = u.singles }) c
    left_used more =
        let again : has_number t.number ts ≡ true = still more in
        record {
          fresh_uses = fresh;
          none_free = λ n nothing. ⊎_elim
              (λ same. more (ap k (sym same) ∙ nothing))
              (λ ne. is.none_free n (sym (set.others n ne) ∙ nothing))
              (cases_eq n t.number);
          fresh_counts = λ id. omega (
            arith,
            is.fresh_counts id,
            times_counted id (t ∷ ts) blocks,
            times_counted id ts blocks,
            each_again id t ts again,
          );
          listed = subst (AreListed u.lists) (one_again t ts again) is.listed;
          no_other = λ n absent. ⊎_elim
              (λ e. absurd (true_false (sym again ∙ ap (λ (m : ℕ). has_number m ts) (sym e) ∙ absent)))
              (λ ne. is.no_other n (absent_more n t ts (λ e. ne (sym e)) absent))
              (cases_eq n t.number);
          singles = λ id. omega (
            arith,
            is.singles id,
            named_append id (used_blocks (unlisted u.lists (t ∷ ts))) blocks,
            named_append id (used_blocks (unlisted u.lists ts)) blocks,
            alone_again u.lists id t ts again,
          );
        }
      where
        still : (k t.number ≡ Some 0 → ⊥) → has_number t.number ts ≡ true
        still more = search (arith, times_no_number, not_free, number_cases, set)

    -- how the layout is named that goes
    pub has_last : (kept : RowsState) → c ≡ counts_of kept → u.lists ≡ list_of kept → u.singles ≡ singles_of kept
        → k t.number ≡ Some 0 → HasLayout kept t.number (layout_blocks t.layout)
    has_last kept counts lists singles free = ⊎_elim
        (λ none. inr (
          sym (λ i. lists i t.number) ∙ none,
          record {
            all = subst (λ (z : Counts). HasAll z (layout_blocks t.layout)) counts (has_all free);
            singles = λ id. subst (λ (z : ℕ → ℕ). times_in id t ≤ z id) singles (has_singles free none id);
          },
        ))
        (λ some. inl (sym (λ i. lists i t.number) ∙ some))
        (listed_last free).0

pub numbers_length : (ts : List Track) → length (numbers_of ts) ≡ length ts
numbers_length [] = refl
numbers_length (t ∷ ts) = omega (arith, numbers_length ts)
