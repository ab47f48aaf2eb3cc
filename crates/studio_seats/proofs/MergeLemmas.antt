-- One list of deeds, by their makers: what follows.
use Rattle.studio_seats.proofs.Common.{◌≡◌, ℕ, zero, suc, ◌+◌, ◌<◌, ◌≤◌, nat_lt, ◌&&◌, if◌then◌else◌, ℤ, Bool, true}
use Rattle.studio_seats.proofs.Common.{false, List, [], ◌∷◌, ◌++◌, length, take, drop, Result, Ok, Err, refl, sym, ◌∙◌}
use Rattle.studio_seats.proofs.Common.{ap, subst, arith, append_assoc, eq-eqb, lt-ltb, append-nil, Each, ByOthers}
use Rattle.studio_seats.proofs.Common.{parts_of, pieces_in, pieces_of, counted_from, commits_of, Reply, Refusal, Call}
use Rattle.studio_seats.proofs.Common.{numbered_pieces, actor_of, commits, number_after, raised_by, by_seat, deeds_of}
use Rattle.studio_seats.proofs.Common.{Deed, piece_in, piece_by, pieces_by}
use Rattle.std.specs.List.{zip}
use Rattle.pin_turn.specs.{Counts.times, Counts.once_below}
use Rattle.pin_turn.proofs.Sums.{times-append, times_else, once_more}
use Rattle.pcm_base.specs.{declared.chunk.TheConstants.CHUNK_SAMPLES}
use Rattle.studio_seats.specs.Deeds.{made}
use Rattle.studio_seats.specs.Merge.{any_seat, numbers_if, numbers_of, Rises, one_if, SplitsIn, MergedNumbers, is_piece}
use Rattle.studio_seats.specs.Merge.{OnlyPieces, numbers_in, PieceNumbers, OwnOrder}
use Rattle.studio_seats.proofs.PieceLemmas.{not_mine, pieces_append, pieces_others}
use Rattle.studio_seats.proofs.{Grown.number_append, Turns.number_grows}

-- the numbers of some commits are those that come next
counted_next : (k n m : ℕ) → once_below k (n + 1) + times k (counted_from (n + 1) m) ≡ once_below k (n + m + 1)
counted_next k n zero = ap (λ (z : ℕ). once_below k z + 0) {x = n + 1} {y = n + 0 + 1} (omega arith) ∙ omega arith
counted_next k n (suc m) =
    let one = once_more k (n + 1) in
    let split = times-append k ((n + 1) ∷ []) (counted_from (n + 1 + 1) m) in
    let rest = counted_next k (n + 1) m in
    let end : once_below k (n + 1 + m + 1) ≡ once_below k (n + suc m + 1) =
    ap (once_below k) {x = n + 1 + m + 1} {y = n + suc m + 1} (omega arith) in
    omega (arith, one, split, rest, end)

none_counted : (c : Bool) (k n : ℕ) → times k (numbers_if c 0 n) ≡ 0
none_counted true k n = refl
none_counted false k n = refl

-- one deed, of one of two kinds
one_deed : (k n m : ℕ) (a b : Bool) → (nat_lt 0 m ≡ true → one_if a + one_if b ≡ 1)
    → once_below k (n + 1) + (times k (numbers_if a m n) + times k (numbers_if b m n)) ≡ once_below k (n + m + 1)
one_deed k n zero a b h =
    let none : (c : Bool) → times k (numbers_if c 0 n) ≡ 0 = λ c. none_counted c k n in
    omega (arith, none a, none b, counted_next k n 0)
one_deed k n (suc m) true true h = let x = h (lt-ltb 0 (suc m) (omega arith)) in absurd (omega (arith, x))
one_deed k n (suc m) false false h = let x = h (lt-ltb 0 (suc m) (omega arith)) in absurd (omega (arith, x))
one_deed k n (suc m) true false h = omega (arith, counted_next k n (suc m))
one_deed k n (suc m) false true h = omega (arith, counted_next k n (suc m))

both_kinds : (one two : Deed → Bool) (n : ℕ) (es : List Deed) → SplitsIn one two es → (k : ℕ) → once_below k
    (n + 1) + (times k (numbers_of one n es) + times k (numbers_of two n es)) ≡ once_below k (number_after n es + 1)
both_kinds one two n [] h k = omega arith
both_kinds one two n (e ∷ es) h k =
    let here = one_deed k n (made e) (one e) (two e) h.0 in
    let later = both_kinds one two (raised_by e n) es h.1 k in
    let a = times-append k (numbers_if (one e) (made e) n) (numbers_of one (raised_by e n) es) in
    let b = times-append k (numbers_if (two e) (made e) n) (numbers_of two (raised_by e n) es) in
    omega (arith, here, later, a, b)

abbrev no_seat : Deed → Bool
no_seat e = false

none_of : (n : ℕ) (es : List Deed) → numbers_of no_seat n es ≡ []
none_of n [] = refl
none_of n (e ∷ es) = none_of (raised_by e n) es

splits_all : (es : List Deed) → SplitsIn any_seat no_seat es
splits_all [] = tt
splits_all (e ∷ es) = (λ _. refl, splits_all es)

-- a list that rises from above a number rises from above a lower one
rises_from : (m n : ℕ) (xs : List ℕ) → m ≤ n → Rises n xs → Rises m xs
rises_from m n [] le h = tt
rises_from m n (x ∷ xs) le h = let low = h.0 in (omega (arith, le, low), h.1)

rise_if : (a : Bool) (m n : ℕ) (xs : List ℕ) → Rises (n + m) xs → Rises n (numbers_if a m n ++ xs)
rise_if true zero n xs h = rises_from n (n + 0) xs (omega arith) h
rise_if true (suc m) n xs h = (
  omega arith,
  rise_if true m (n + 1) xs (subst (λ (z : ℕ). Rises z xs) {x = n + suc m} {y = n + 1 + m} (omega arith) h),
)
rise_if false m n xs h = rises_from n (n + m) xs (omega arith) h

numbers_rise : (kind : Deed → Bool) (n : ℕ) (es : List Deed) → Rises n (numbers_of kind n es)
numbers_rise kind n [] = tt
numbers_rise kind n (e ∷ es) =
    rise_if (kind e) (made e) n (numbers_of kind (raised_by e n) es) (numbers_rise kind (raised_by e n) es)

pub merged_numbers : MergedNumbers
merged_numbers first log seats commits h =
    let mid : ℕ = number_after first h.opening in
    let last : number_after first log ≡ number_after mid h.rest =
    ap (number_after first) h.split ∙ number_append first h.opening h.rest in
    let grown : first ≤ mid = number_grows first h.opening in record {
      each = λ k.
          let a = both_kinds any_seat no_seat first h.opening (splits_all h.opening) k in
          let none : times k (numbers_of no_seat first h.opening) ≡ 0 = ap (times k) (none_of first h.opening) in
          let b = both_kinds (by_seat seats.script) (by_seat seats.recorder) mid h.rest h.kinds k in
          rw (h.opening_is, h.script_is, h.pieces_is, last) (omega (arith, a, none, b));
      opening_rises = rw h.opening_is (numbers_rise any_seat first h.opening);
      script_rises = rw h.script_is (rises_from first mid (numbers_of (by_seat seats.script) mid h.rest) grown
          (numbers_rise (by_seat seats.script) mid h.rest));
      pieces_rise = rw h.pieces_is (rises_from first mid (numbers_of (by_seat seats.recorder) mid h.rest) grown
          (numbers_rise (by_seat seats.recorder) mid h.rest));
    }

-- deeds of seats with lower numbers are by others
pub lower_others : (seat : ℕ) (es : List Deed) → Each (λ e. e.actor < seat) es → ByOthers actor_of (seat ∷ []) es
lower_others seat [] h = tt
lower_others seat (e ∷ es) h =
    let low = h.0 in
    (times_else e.actor seat (λ same. omega (arith, low, same)), lower_others seat es h.1)

pieces_numbers : (xs ys : List (List ℤ × ℕ)) → numbers_in (xs ++ ys) ≡ numbers_in xs ++ numbers_in ys
pieces_numbers [] ys = refl
pieces_numbers (x ∷ xs) ys = ap (λ (l : List ℕ). x.1 ∷ l) (pieces_numbers xs ys)

-- the numbers of pieces that come together
numbers_counted : (n : ℕ) (xs : List (List ℤ)) → numbers_in (numbered_pieces n xs) ≡ counted_from (n + 1) (length xs)
numbers_counted n [] = refl
numbers_counted n (x ∷ xs) = ap (λ (l : List ℕ). (n + 1) ∷ l) (numbers_counted (n + 1) xs)

parts_many : (size count : ℕ) (xs : List ℤ) → length (parts_of size count xs) ≡ count
parts_many size zero xs = refl
parts_many size (suc count) xs = ap suc (parts_many size count (drop size xs))

piece_number : (to by : ℕ) (asked : Call) (n : ℕ) → is_piece to by asked ≡ true
    → numbers_in (piece_in to by asked n) ≡ counted_from (n + 1) (commits_of asked)
piece_number to by (Call.Piece track tag samples) n h =
    rw h (numbers_counted n (pieces_of samples)
    ∙ ap (counted_from (n + 1)) (parts_many CHUNK_SAMPLES (pieces_in (length samples)) samples))
piece_number to by _ n h = let e : false ≡ true = h in absurd cc

-- of a deed that made commits they are those of its call, and of another there are none
one_number : (to by : ℕ) (mine : Bool) (what : Result Reply Refusal) (asked : Call) (n : ℕ)
    → (mine && nat_lt 0 (commits what asked) ≡ true → is_piece to by asked ≡ true)
    → numbers_in (if mine && nat_lt 0 (commits what asked) then piece_in to by asked n else [])
    ≡ numbers_if mine (commits what asked) n
one_number to by false what asked n h = refl
one_number to by true (Err why) asked n h = refl
one_number to by true (Ok r) asked n h = some (commits_of asked) refl
  where
    some : (m : ℕ) → commits_of asked ≡ m
        → numbers_in (if nat_lt 0 (commits_of asked) then piece_in to by asked n else [])
        ≡ counted_from (n + 1) (commits_of asked)
    some zero is = rw is
    some (suc m) is =
        let yes : nat_lt 0 (commits_of asked) ≡ true = ap (nat_lt 0) is ∙ lt-ltb 0 (suc m) (omega arith) in
        rw yes (piece_number to by asked n (h yes))

piece_numbers : (to by seat n : ℕ) (es : List Deed) → OnlyPieces to by seat es
    → numbers_in (pieces_by to by seat n es) ≡ numbers_of (by_seat seat) n es
piece_numbers to by seat n [] h = refl
piece_numbers to by seat n (e ∷ es) h =
    pieces_numbers (piece_by to by seat e n) (pieces_by to by seat (raised_by e n) es)
    ∙ (λ i. one_number to by (by_seat seat e) e.what e.call n h.0 i
    ++ piece_numbers to by seat (raised_by e n) es h.1 i)

pub pieces_are_chunks : PieceNumbers
pieces_are_chunks to by seat first before seen more chunks numbers fresh took others only =
    let whole : pieces_by to by seat first (seen ++ more) ≡ zip (take (length numbers) chunks) numbers =
    rw (
      pieces_append to by seat first seen more,
      pieces_others to by seat (number_after first seen) more others,
      append-nil (pieces_by to by seat first seen),
      took,
      pieces_others to by seat first before (lower_others seat before fresh),
    ) in
    (whole, sym (piece_numbers to by seat first (seen ++ more) only) ∙ ap numbers_in whole)

pub deeds_append : (kind : Deed → Bool) (xs ys : List Deed)
    → deeds_of kind (xs ++ ys) ≡ deeds_of kind xs ++ deeds_of kind ys
deeds_append kind [] ys = refl
deeds_append kind (e ∷ es) ys = ap (λ (l : List Deed). (if kind e then e ∷ [] else []) ++ l) (deeds_append kind es ys)
    ∙ sym (append_assoc (if kind e then e ∷ [] else []) (deeds_of kind es) (deeds_of kind ys))

pub deeds_others : (seat : ℕ) (more : List Deed) → ByOthers actor_of (seat ∷ []) more
    → deeds_of (by_seat seat) more ≡ []
deeds_others seat [] h = refl
deeds_others seat (e ∷ es) h =
    rw (not_mine (by_seat seat e) h.0) (deeds_others seat es h.1)

pub numbers_append : (kind : Deed → Bool) (n : ℕ) (xs ys : List Deed)
    → numbers_of kind n (xs ++ ys) ≡ numbers_of kind n xs ++ numbers_of kind (number_after n xs) ys
numbers_append kind n [] ys = refl
numbers_append kind n (e ∷ es) ys =
    let here = numbers_if (kind e) (made e) n in
    ap (λ (l : List ℕ). here ++ l) (numbers_append kind (raised_by e n) es ys)
    ∙ sym (append_assoc here (numbers_of kind (raised_by e n) es)
    (numbers_of kind (number_after (raised_by e n) es) ys))

-- deeds of others have no numbers of the seat
pub numbers_others : (seat n : ℕ) (more : List Deed) → ByOthers actor_of (seat ∷ []) more
    → numbers_of (by_seat seat) n more ≡ []
numbers_others seat n [] h = refl
numbers_others seat n (e ∷ es) h =
    rw (not_mine (by_seat seat e) h.0) (numbers_others seat (raised_by e n) es h.1)

pub own_order : OwnOrder
own_order seat seen between e mine others =
    rw (
      deeds_append (by_seat seat) (seen ++ between) (e ∷ []),
      deeds_append (by_seat seat) seen between,
      deeds_others seat between others,
      append-nil (deeds_of (by_seat seat) seen),
      eq-eqb seat e.actor (sym mine),
    )
