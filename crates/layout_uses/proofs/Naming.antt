-- The ids that counts over layouts name.
use Rattle.layout_uses.proofs.Common.{◌≡◌, ℕ, ◌+◌, ◌≤◌, ◌<◌, List, ◌++◌, ⊎_elim, ap, Option, Some, None, IsSome, arith}
use Rattle.layout_uses.proofs.Common.{subst, sym, AreSingle, BlockRef, Counts, IsNamed, Names, RowsState, Track, Unnames}
use Rattle.layout_uses.proofs.Common.{AreCounts, AreNumbered, Uses, counts_of, list_of, occurrences, singles_of}
use Rattle.layout_uses.proofs.Common.{times_named, track_blocks, unlisted, used_blocks}
use Rattle.std.proofs.Common.{IfSome, IfNone}
use Rattle.layout_uses.specs.{Laws.SameNames}
use Rattle.layout_uses.proofs.Layouts.{used_all, used_most, pos_cases}
use Rattle.layout_uses.proofs.{Times.named_append, Times.named_of, Tracks.not_free, Tracks.times_counted}

pub named_some : (o : Option ℕ) → IsNamed o → 0 < occurrences o
named_some None h = absurd h
named_some (Some n) h = h

module _ (ts : List Track) (others : List BlockRef) (u : Uses) (c : Counts) (numbered : AreNumbered ts)
    (is : AreCounts ts others u c) (id : ℕ) where
  all_times : times_named id (track_blocks ts ++ others) ≡ times_named id (track_blocks ts) + times_named id others
  all_times = named_append id (track_blocks ts) others

  pub counted_is_named : 0 < occurrences (c id) → 0 < times_named id (track_blocks ts ++ others)
  counted_is_named some = search (arith, times_counted, all_times, used_most)

  pub named_is_counted : 0 < times_named id (track_blocks ts ++ others) → 0 < occurrences (c id)
  named_is_counted some = search (arith, all_times, times_counted, used_all, pos_cases)

-- no more occurrences are counted than tracks and others name
pub counts_most : (ts : List Track) (others : List BlockRef) (u : Uses) (c : Counts) → AreCounts ts others u c → (id : ℕ)
    → occurrences (c id) ≤ times_named id (track_blocks ts ++ others)
counts_most ts others u c is id = search (arith, times_counted, named_append, used_most)

pub same_names : SameNames
same_names ts others u c all numbered is fresh id = (
  λ one. named_of (all id) (omega (
    arith,
    fresh id,
    counted_is_named ts others u c numbered is id (named_some (c id) one),
  )),
  λ one. named_of (c id) (named_is_counted ts others u c numbered is id
      (omega (arith, fresh id, named_some (all id) one))),
)

module _ (ts : List Track) (others : List BlockRef) (u : Uses) (c : Counts) (numbered : AreNumbered ts)
    (is : AreCounts ts others u c) (id : ℕ) where
  pub free_is_unnamed : c id ≡ Some 0 → times_named id (track_blocks ts ++ others) ≡ 0
  free_is_unnamed free = ⊎_elim
      (λ none. none)
      (λ some. absurd (omega (arith, named_is_counted ts others u c numbered is id some, ap occurrences free)))
      (pos_cases (times_named id (track_blocks ts ++ others)))

  pub rest_is_named : IsSome (c id) → (c id ≡ Some 0 → ⊥) → 0 < times_named id (track_blocks ts ++ others)
  rest_is_named there free = counted_is_named ts others u c numbered is id (not_free (c id) there free)

pub some_so : {X : Type 0} (P Q : X → Type 0) (o : Option X) → ((x : X) → P x → Q x) → IfSome o P → IfSome o Q
some_so P Q None so h = tt
some_so P Q (Some x) so h = so x h

pub none_so : {X P Q : Type 0} (o : Option X) → (P → Q) → IfNone o P → IfNone o Q
none_so None so h = so h
none_so (Some x) so h = tt

module _ (ts : List Track) (bs others : List BlockRef) (k : Counts) (o n : RowsState) where
  abbrev before : Uses
  before = record { counts = k; lists = list_of o; singles = singles_of o }

  abbrev After : (ℕ → Option (List ℕ)) → List BlockRef → Type 0
  After l blocks = AreCounts ts blocks (record { counts = k; lists = l; singles = singles_of n }) (counts_of n)

  abbrev alone : List BlockRef
  alone = used_blocks (unlisted (list_of o) ts)

  pub named_others : AreCounts ts others before (counts_of o) → Names o n bs → After (list_of n) (bs ++ others)
  named_others is names = subst (λ l. After l (bs ++ others)) (λ i m. sym (names.lists m) i) (record {
    fresh_uses = is.fresh_uses;
    none_free = is.none_free;
    fresh_counts = λ id. omega (
      arith,
      names.held.counts id,
      is.fresh_counts id,
      times_counted id ts others,
      times_counted id ts (bs ++ others),
      named_append id bs others,
    );
    listed = is.listed;
    no_other = is.no_other;
    singles = λ id. omega (
      arith,
      names.singles id,
      is.singles id,
      named_append id alone others,
      named_append id alone (bs ++ others),
      named_append id bs others,
    );
  })

  pub unnamed_others : AreCounts ts (bs ++ others) before (counts_of o) → Unnames o n bs → After (list_of n) others
  unnamed_others is names = subst (λ l. After l others) (λ i m. sym (names.lists m) i) (record {
    fresh_uses = is.fresh_uses;
    none_free = is.none_free;
    fresh_counts = λ id. omega (
      arith,
      names.dropped.counts id,
      is.fresh_counts id,
      times_counted id ts others,
      times_counted id ts (bs ++ others),
      named_append id bs others,
    );
    listed = is.listed;
    no_other = is.no_other;
    singles = λ id. omega (
      arith,
      names.singles id,
      is.singles id,
      named_append id alone others,
      named_append id alone (bs ++ others),
      named_append id bs others,
    );
  })

  -- the other blocks are named by themselves
  pub single_others : AreCounts ts (bs ++ others) before (counts_of o) → AreSingle o bs
  single_others is = record {
    all = λ id. omega (arith, is.fresh_counts id, times_counted id ts (bs ++ others), named_append id bs others);
    singles = λ id. omega (arith, is.singles id, named_append id alone (bs ++ others), named_append id bs others);
  }
