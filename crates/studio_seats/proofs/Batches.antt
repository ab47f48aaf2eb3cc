-- The samples of several chunks, put together.
use Rattle.studio_seats.proofs.Common.{◌≡◌, ◌⊎◌, inl, inr, ℕ, zero, suc, ◌+◌, ◌-◌, ◌*◌, ◌<◌, ◌≤◌, ℤ, List, [], ◌∷◌}
use Rattle.studio_seats.proofs.Common.{◌++◌, length, take, drop, Result, Ok, Err, refl, sym, ◌∙◌, ap}
use Rattle.studio_seats.proofs.Common.{arith, length-append, length-map, length-take-le, IfErr, IfOk, MatchResult}
use Rattle.studio_seats.proofs.Common.{OnOk, is_err, parts_of, pieces_in, pieces_of, Part, Refusal, AreTaken}
use Rattle.studio_seats.proofs.Common.{numbered_pieces, samples_of}
use Rattle.std.proofs.Common.{get_or}
use Rattle.std.proofs.lemmas.List.{length-drop, take_all, take-map, take-take, take_more, take-append-drop, map-append}
use Rattle.std.proofs.lemmas.Slice.{drop-put_mid, take-put_mid}
use Rattle.edit_ports.specs.{declared.pieces.Taken.Taken}
use Rattle.pcm_base.proofs.ListFacts.{parts_append}
use borrow.Rule.Slice.PartMut.{put_mid}

-- one chunk more
pub joined_more : (chunks : List Part) (d : Part) (done joined : List ℤ) (count : ℕ) → count < length chunks
    → length done ≡ count * 256 → length (get_or chunks count d).samples ≤ 256
    → parts_of 256 count done ≡ take count (samples_of chunks) → joined ≡ done ++ (get_or chunks count d).samples
    → parts_of 256 (count + 1) joined ≡ take (count + 1) (samples_of chunks)
joined_more chunks d done joined count below len short parts is =
    let piece : List ℤ = (get_or chunks count d).samples in
    let one : parts_of 256 1 piece ≡ piece ∷ [] = ap (λ (t : List ℤ). t ∷ []) (take_all 256 piece short) in
    ap (parts_of 256 (count + 1)) is ∙ parts_append 256 count 1 (count + 1) done piece refl len
    ∙ (λ i. parts i ++ one i)
    ∙ sym (rw (
      take-map (λ (c : Part). c.samples) (count + 1) chunks,
      take_more chunks count d below,
      map-append (λ (c : Part). c.samples) (take count chunks) (get_or chunks count d ∷ []),
      ← (take-map (λ (c : Part). c.samples) count chunks),
    ))

-- it stands in the batch after the others
pub joined_put : (chunks : List Part) (d : Part) (batch new : List ℤ) (count k n : ℕ) → count < length chunks
    → count * 256 ≤ length batch → new ≡ (get_or chunks count d).samples → length new ≤ 256
    → n ≡ count * 256 + length new → parts_of 256 count (take (count * 256) batch) ≡ take count (samples_of chunks)
    → parts_of 256 (count + 1) (take n (put_mid (count * 256) k batch new)) ≡ take (count + 1) (samples_of chunks)
joined_put chunks d batch new count k n below room is short end parts =
    let same = ap length is in
    joined_more chunks d (take (count * 256) batch) (take n (put_mid (count * 256) k batch new)) count below
    (length-take-le (count * 256) batch room) (omega (arith, same, short)) parts
    (take-put_mid (count * 256) k batch new n end room
    ∙ ap (λ (l : List ℤ). take (count * 256) batch ++ l) is)

pub joined_length : (batch new : List ℤ) (from k n : ℕ) → from ≤ length batch → n ≡ from + length new
    → length (take n (put_mid from k batch new)) ≡ n
joined_length batch new from k n room end =
    let all = ap length (take-put_mid from k batch new n end room) in
    let sum = length-append (take from batch) new in
    let front = length-take-le from batch room in
    omega (arith, all, sum, front, end)

-- the batch is as wide as before
pub put_length : (batch new : List ℤ) (from k : ℕ) → from + k ≤ length batch → length new ≡ k
    → length (put_mid from k batch new) ≡ length batch
put_length batch new from k room same =
    let n : ℕ = from + k in
    let all : List ℤ = put_mid from k batch new in
    let cut = ap length (take-append-drop n all) in
    let sum = length-append (take n all) (drop n all) in
    let front = joined_length batch new from k n (omega (arith, room)) (omega (arith, same)) in
    let back = ap length (drop-put_mid from k batch new n (omega arith) (omega (arith, room)) same) in
    let left = length-drop n batch in
    omega (arith, cut, sum, front, back, left, room)

-- whole chunks, and samples that are one piece more
pub one_more : (count more : ℕ) → more ≤ 256 → (0 < count → 0 < more) → pieces_in (count * 256 + more) ≡ count + 1
one_more zero more few some = omega (arith, few)
one_more (suc count) more few some = let low = some (omega arith) in omega (arith, few, low)

-- and no more
pub joined_end : (chunks : List Part) (joined : List ℤ) (n count : ℕ) → length joined ≡ n → pieces_in n ≡ count
    → parts_of 256 count joined ≡ take count (samples_of chunks)
    → pieces_of joined ≡ take (pieces_in n) (samples_of chunks)
joined_end chunks joined n count len is parts =
    ap (λ (m : ℕ). parts_of 256 (pieces_in m) joined) len
    ∙ (ap (λ (m : ℕ). parts_of 256 m joined) is ∙ (parts ∙ ap (λ (m : ℕ). take m (samples_of chunks)) (sym is)))

-- samples that are the first of some chunks, at most this many
pub record FirstOf (chunks : List Part) (samples : List ℤ) (count most : ℕ) : Type 0 where
  pub many : pieces_in (length samples) ≡ count
  pub are : pieces_of samples ≡ take count (samples_of chunks)
  pub known : count ≤ length chunks
  pub few : count ≤ most

-- of all that were joined, or of the first chunk alone
pub tried_first : (chunks : List Part) (batch : List ℤ) (n count most : ℕ) → n ≤ length batch
    → pieces_of (take n batch) ≡ take (pieces_in n) (samples_of chunks) → pieces_in n ≤ length chunks
    → pieces_in n ≤ most → (count ≡ length (take n batch)) ⊎ ((count ≡ 256) × (256 < length (take n batch)))
    → FirstOf chunks (take count (take n batch)) (pieces_in count) most
tried_first chunks batch n count most wide are known few (inl all) =
    let xs : List ℤ = take n batch in
    let len : length xs ≡ n = length-take-le n batch wide in
    let same : take count xs ≡ xs = take_all count xs (omega (arith, all)) in
    let is : pieces_in n ≡ pieces_in count = ap pieces_in (sym len ∙ sym all) in record {
      many = ap (λ (l : List ℤ). pieces_in (length l)) same ∙ ap pieces_in (sym all);
      are = ap pieces_of same ∙ (are ∙ ap (λ (m : ℕ). take m (samples_of chunks)) is);
      known = omega (arith, known, is);
      few = omega (arith, few, is);
    }
tried_first chunks batch n count most wide are known few (inr (is, more)) =
    let xs : List ℤ = take n batch in
    let len : length xs ≡ n = length-take-le n batch wide in
    let first : List ℤ = take 256 xs in
    let cut : take count xs ≡ first = ap (λ (m : ℕ). take m xs) is in
    let long : length first ≡ 256 = length-take-le 256 xs (omega (arith, more)) in
    let one : pieces_in count ≡ 1 = ap pieces_in is in
    let many : pieces_in (length (take count xs)) ≡ 1 =
    ap (λ (l : List ℤ). pieces_in (length l)) cut ∙ ap pieces_in long in
    let alone : pieces_of (take count xs) ≡ first ∷ [] =
    ap (λ (m : ℕ). parts_of 256 m (take count xs)) many ∙ (ap (λ (l : List ℤ). parts_of 256 1 l) cut
    ∙ ap (λ (t : List ℤ). t ∷ []) (take_all 256 first (omega (arith, long)))) in
    let low : 1 ≤ pieces_in n = omega arith in
    let head : take 1 (samples_of chunks) ≡ first ∷ [] =
    sym (take-take 1 (pieces_in n) (samples_of chunks) low) ∙ ap (take 1) (sym are) in record {
      many = many ∙ sym one;
      are = alone ∙ (sym head ∙ ap (λ (m : ℕ). take m (samples_of chunks)) (sym one));
      known = omega (arith, known, one);
      few = omega (arith, few, one);
    }

-- the pieces of a call are those of the first chunks
pub are_taken : (old new : List (List ℤ × ℕ)) (chunks : List Part) (samples : List ℤ) (count most number : ℕ)
    → FirstOf chunks samples count most → pieces_in (length samples) ≤ number
    → new ≡ old ++ numbered_pieces (number - pieces_in (length samples)) (pieces_of samples)
    → AreTaken old (samples_of chunks) new record { count = count; last = number }
are_taken old new chunks samples count most number first high is =
    let all = length-map chunks (λ (c : Part). c.samples) in
    let many = first.many in record {
      some = omega (arith, many);
      few = omega (arith, all, first.known);
      high = omega (arith, many, high);
      are = is ∙ (λ i. old ++ numbered_pieces (number - first.many i) (first.are i));
    }

-- ---- the same answer, with how many pieces it was about

abbrev WithCount : ℕ → Result ℕ Refusal → Result Taken Refusal → Type 0
WithCount count what result =
    MatchResult what (λ (last : ℕ). result ≡ Ok (record { count = count; last = last }))
    (λ (why : Refusal). result ≡ Err why)

pub if_ok_as : {A : Type 0} (what : Result A Refusal) (P Q : A → Type 0) → ((x : A) → P x → Q x) → IfOk what P
    → IfOk what Q
if_ok_as (Ok x) P Q f h = f x h
if_ok_as (Err why) P Q f h = tt

module _ (result : Result Taken Refusal) (count : ℕ) where
  pub taken_ok : (what : Result ℕ Refusal) → WithCount count what result → (P : Taken → Type 0)
      → IfOk what (λ (last : ℕ). P record { count = count; last = last }) → IfOk result P
  taken_ok (Ok last) is P h = rw is h
  taken_ok (Err why) is P h = rw is tt

  pub taken_on : (what : Result ℕ Refusal) → WithCount count what result → (P : Type 0) → OnOk what P → OnOk result P
  taken_on (Ok last) is P h = rw is h
  taken_on (Err why) is P h = rw is tt

  pub taken_err : (what : Result ℕ Refusal) → WithCount count what result → (P : Refusal → Type 0) → IfErr what P
      → IfErr result P
  taken_err (Ok last) is P h = rw is tt
  taken_err (Err why) is P h = rw is h

  pub taken_is_err : (what : Result ℕ Refusal) → WithCount count what result → is_err result ≡ is_err what
  taken_is_err (Ok last) is = rw is
  taken_is_err (Err why) is = rw is
