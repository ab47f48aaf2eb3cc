-- The blocks of a last clip of which the end is replaced.
use Rattle.record_body.proofs.Common.{◌≡◌, ℕ, suc, ◌+◌, ◌-◌, ◌<◌, ◌≤◌, ◌^◌, inl, inr, List, [], ◌∷◌, ◌++◌, length}
use Rattle.record_body.proofs.Common.{get_or, take, drop, refl, ap, subst, arith, length-append, Bool, true}
use Rattle.record_body.proofs.Common.{nat_lt, zero, ◌&&◌, ◌==◌, if◌then◌else◌, cases_Bool, lt-ltb, eqb-false, drop_more}
use Rattle.record_body.proofs.Common.{AllByRecursion, field, is_lone, kept_blocks, tail_head_tests, tail_tests, Limits}
use Rattle.record_body.proofs.Common.{gone_at, fresh_at, blocks_tests, blocks_at, AllGiven}
use Rattle.record_body.proofs.Common.{last_blocks, last_start, with_last, Pass, BlockRef, NoneEmpty, AllFull}
use Rattle.record_body.proofs.Common.{IsHalfFull, block_lens, blocks_len, Clip, AreClips, AllHalfFull, IsLayout}
use Rattle.record_body.proofs.Common.{clip_end, end_of}
use Rattle.record_body.proofs.Common.{least_len, ◌∙◌}
use Rattle.std.proofs.lemmas.Bool.{ltb-false}
use Rattle.std.proofs.lemmas.List.{length-take-le}
use Rattle.record_body.proofs.SavedBounds.{all_append}
use Rattle.record_body.proofs.ValidBodies.{bounded, full_blocks, same_lens, valid_blocks}
use Rattle.record_body.proofs.{Passing.pass_parts, Sizes.length-blocks_at}

pub take_len : (n : ℕ) (bs : List BlockRef) → blocks_len (take n bs) ≤ blocks_len bs
take_len zero bs = omega arith
take_len (suc n) [] = omega arith
take_len (suc n) (b ∷ bs) = omega (arith, take_len n bs)

pub less_of : (len n : ℕ) (bs : List BlockRef) → len ≡ blocks_len (take n bs) → len ≤ blocks_len bs
less_of len n bs is = omega (arith, is, take_len n bs)

pub len_append : (xs ys : List BlockRef) → blocks_len (xs ++ ys) ≡ blocks_len xs + blocks_len ys
len_append [] ys = omega arith
len_append (x ∷ xs) ys = omega (arith, len_append xs ys)

pub none_append : (xs ys : List BlockRef) → NoneEmpty xs → NoneEmpty ys → NoneEmpty (xs ++ ys)
none_append [] ys p q = q
none_append (x ∷ xs) ys p q = (p.0, none_append xs ys p.1 q)

pub none_take : (n : ℕ) (bs : List BlockRef) → NoneEmpty bs → NoneEmpty (take n bs)
none_take zero bs p = tt
none_take (suc n) [] p = tt
none_take (suc n) (b ∷ bs) p = (p.0, none_take n bs p.1)

some_len : (bs : List BlockRef) → NoneEmpty bs → 0 < length bs → 0 < blocks_len bs
some_len [] p some = absurd (omega (arith, some))
some_len (b ∷ bs) p some = omega (arith, p.0)

-- ---- half full

-- each block has 1 to m samples
abbrev pub AllFit : ℕ → List BlockRef → Type 0
AllFit m = AllByRecursion (λ (b : BlockRef). (0 < b.len) × (b.len ≤ m))

abbrev pub AreFull : ℕ → List BlockRef → Type 0
AreFull m bs = AllFull m (block_lens bs)

half_of : (m : ℕ) (bs : List BlockRef) → AllFit m bs → (1 < length bs → AreFull m bs) → IsHalfFull m (block_lens bs)
half_of m [] fit full = tt
half_of m (b ∷ []) fit full = fit.0
half_of m (b ∷ c ∷ bs) fit full = full (omega arith)

fit_full : (m : ℕ) (bs : List BlockRef) → AreFull m bs → NoneEmpty bs → AllFit m bs
fit_full m [] full none = tt
fit_full m (b ∷ bs) full none = ((none.0, full.0.1), fit_full m bs full.1 none.1)

fit_half : (m : ℕ) (bs : List BlockRef) → IsHalfFull m (block_lens bs) → NoneEmpty bs → AllFit m bs
fit_half m [] half none = tt
fit_half m (b ∷ []) half none = (half, tt)
fit_half m (b ∷ c ∷ bs) half none = fit_full m (b ∷ c ∷ bs) half none

fit_take : (m n : ℕ) (bs : List BlockRef) → AllFit m bs → AllFit m (take n bs)
fit_take m zero bs p = tt
fit_take m (suc n) [] p = tt
fit_take m (suc n) (b ∷ bs) p = (p.0, fit_take m n bs p.1)

full_append : (m : ℕ) (xs ys : List BlockRef) → AreFull m xs → AreFull m ys → AreFull m (xs ++ ys)
full_append m [] ys p q = q
full_append m (x ∷ xs) ys p q = (p.0, full_append m xs ys p.1 q)

full_take : (m n : ℕ) (bs : List BlockRef) → AreFull m bs → AreFull m (take n bs)
full_take m zero bs p = tt
full_take m (suc n) [] p = tt
full_take m (suc n) (b ∷ bs) p = (p.0, full_take m n bs p.1)

fit_fresh : (l : Limits) (several : Bool) (count before at : ℕ) (bytes : List ℕ)
    → Pass (blocks_tests l several count before at bytes) → AllFit l.block_size (blocks_at count at bytes)
fit_fresh l several zero before at bytes pass = tt
fit_fresh l several (suc count) before at bytes pass =
    search (arith, fit_fresh l several count (before + field (at + 8) 4 bytes) (at + 12) bytes, pass_parts, bounded)

-- the blocks that are kept of a clip are full where the clip will have several
kept_full : (m k n : ℕ) (olds : List BlockRef) → IsHalfFull m (block_lens olds) → k ≤ length olds → 1 < k + n
    → ((if is_lone m olds && nat_lt 0 n then 1 else 0) ≤ length olds - k) → AreFull m (take k olds)
kept_full m zero n olds half le several lone = tt
kept_full m (suc k) n [] half le several lone = absurd (omega (arith, le))
kept_full m (suc k) n (b ∷ []) half le several lone = search (arith, lt-ltb, ltb-false, full_take)
kept_full m (suc k) n (b ∷ c ∷ bs) half le several lone = full_take m (suc k) (b ∷ c ∷ bs) half

-- ---- what passes its tests

pub record IsTail (l : Limits) (start : ℕ) (olds : List BlockRef) (at : ℕ) (bytes : List ℕ)
    (blocks : List BlockRef) : Type 0 where
  pub half_full : IsHalfFull l.block_size (block_lens blocks)
  pub none_empty : NoneEmpty blocks
  pub some : 0 < blocks_len blocks
  pub end : start + blocks_len blocks ≤ 2 ^ 32
  pub given : AllGiven l.next_block (blocks_at (fresh_at at bytes) (at + 17) bytes)

pub valid_tail : (l : Limits) (start : ℕ) (olds : List BlockRef) (at : ℕ) (bytes : List ℕ)
    → IsHalfFull l.block_size (block_lens olds) → NoneEmpty olds → start + blocks_len olds ≤ 2 ^ 32
    → Pass (tail_tests l start olds at bytes)
    → IsTail l start olds at bytes
    (kept_blocks olds (gone_at at bytes) ++ blocks_at (fresh_at at bytes) (at + 17) bytes)
valid_tail l start olds at bytes half none near pass =
    let gone = gone_at at bytes in
    let n = fresh_at at bytes in
    let k = length olds - gone in
    let kept = kept_blocks olds gone in
    let fresh = blocks_at n (at + 17) bytes in
    let several = nat_lt 1 (k + n) in
    let before = start + blocks_len kept in
    let parts = pass_parts (tail_head_tests l olds at bytes) (blocks_tests l several n before (at + 17) bytes) pass in
    let within : gone ≤ length olds = omega (arith, parts.0.0) in
    let goes : (if is_lone l.block_size olds && nat_lt 0 n then 1 else 0) ≤ gone = omega (arith, parts.0.1.0) in
    let comes : (if gone == length olds then 1 else 0) ≤ n = omega (arith, parts.0.1.1.0) in
    let close : before ≤ 2 ^ 32 = omega (arith, near, take_len k olds) in
    let valid = valid_blocks l several n before (at + 17) bytes close parts.1 in
    let size : length kept ≡ k = length-take-le k olds (omega arith) in
    let count : length fresh ≡ n = length-blocks_at bytes n (at + 17) in
    let long : length (kept ++ fresh) ≡ k + n = omega (arith, length-append kept fresh, size, count) in
    let all : NoneEmpty (kept ++ fresh) = none_append kept fresh (none_take k olds none) valid.1 in
    let left : 1 ≤ k + n = some_left gone (length olds) n within comes in
    let m = l.block_size in
    record {
      half_full = half_of m (kept ++ fresh)
          (all_append (λ (b : BlockRef). (0 < b.len) × (b.len ≤ m)) kept fresh
          (fit_take m k olds (fit_half m olds half none))
          (fit_fresh l several n before (at + 17) bytes parts.1))
          (λ more.
          let two : 1 < k + n = omega (arith, more, long) in
          let true_now : several ≡ true = lt-ltb 1 (k + n) two in
          full_append m kept fresh
          (kept_full m k n olds half (omega arith) two (omega (arith, goes, within)))
          (full_blocks l n before (at + 17) bytes
          (subst (λ (s : Bool). Pass (blocks_tests l s n before (at + 17) bytes)) true_now parts.1)));
      none_empty = all;
      some = some_len (kept ++ fresh) all (omega (arith, long, left));
      end = omega (arith, len_append kept fresh, valid.2, same_lens n (at + 17) bytes);
      given = valid.0;
    }
  where
    some_left : (gone len n : ℕ) → gone ≤ len → (if gone == len then 1 else 0) ≤ n → 1 ≤ len - gone + n
    some_left gone len n within comes = elim (cases_Bool (gone == len)) [
      | inl same ↦ let one : 1 ≤ n = rw same at comes in omega (arith, one)
      | inr differ ↦ let ne = eqb-false gone len differ in omega (arith, within, ne)
    ]

pub tail_within : (l : Limits) (start : ℕ) (olds : List BlockRef) (at : ℕ) (bytes : List ℕ)
    → Pass (tail_tests l start olds at bytes) → gone_at at bytes ≤ length olds
tail_within l start olds at bytes pass =
    let k = length olds - gone_at at bytes in
    let n = fresh_at at bytes in
    let several = nat_lt 1 (k + n) in
    let before = start + blocks_len (kept_blocks olds (gone_at at bytes)) in
    let parts = pass_parts (tail_head_tests l olds at bytes) (blocks_tests l several n before (at + 17) bytes) pass in
    omega (arith, parts.0.0)

-- one block alone has the samples of all
pub lone_by_len : (m : ℕ) (bs : List BlockRef)
    → is_lone m bs ≡ (length bs == 1) && nat_lt (blocks_len bs) (least_len m true)
lone_by_len m [] = search arith
lone_by_len m (b ∷ []) = search arith
lone_by_len m (b ∷ c ∷ bs) = search arith

-- others come after those that are kept
pub ended_tail : (olds fresh bs : List BlockRef) (k n gone : ℕ) → n ≡ length olds → k ≡ n - gone → fresh ≡ bs
    → take k olds ++ fresh ≡ kept_blocks olds gone ++ bs
ended_tail olds fresh bs k n gone all kept same =
    let from : k ≡ length olds - gone = omega (arith, all, kept) in
    ap (λ xs. take k olds ++ xs) same ∙ ap (λ m. take m olds ++ bs) from

-- ---- the clips

pub record IsEnd (m : ℕ) (cs : List Clip) : Type 0 where
  pub none_empty : NoneEmpty (last_blocks cs)
  pub half_full : IsHalfFull m (block_lens (last_blocks cs))

pub last_end : (m from : ℕ) (cs : List Clip) → AreClips from cs → AllHalfFull m cs → IsEnd m cs
last_end m from [] apart half = record { none_empty = tt; half_full = tt }
last_end m from (c ∷ []) apart half = record { none_empty = apart.2; half_full = half.0 }
last_end m from (c ∷ d ∷ cs) apart half = search (arith, last_end m (clip_end c + 1) (d ∷ cs) apart.3 half.1)

pub end_last : (at : ℕ) (cs : List Clip) → 0 < length cs
    → end_of at cs ≡ last_start cs + blocks_len (last_blocks cs)
end_last at [] some = absurd (omega (arith, some))
end_last at (c ∷ []) some = refl
end_last at (c ∷ d ∷ cs) some = end_last (clip_end c) (d ∷ cs) (omega arith)

clips_with : (from : ℕ) (cs : List Clip) (bs : List BlockRef) → AreClips from cs → NoneEmpty bs → 0 < blocks_len bs
    → AreClips from (with_last bs cs)
clips_with from [] bs apart none some = tt
clips_with from (c ∷ []) bs apart none some = (apart.0, some, none, tt)
clips_with from (c ∷ d ∷ cs) bs apart none some =
    (apart.0, apart.1, apart.2, clips_with (clip_end c + 1) (d ∷ cs) bs apart.3 none some)

end_with : (at : ℕ) (cs : List Clip) (bs : List BlockRef) → 0 < length cs
    → end_of at (with_last bs cs) ≡ last_start cs + blocks_len bs
end_with at [] bs some = absurd (omega (arith, some))
end_with at (c ∷ []) bs some = refl
end_with at (c ∷ d ∷ cs) bs some = end_with (clip_end c) (d ∷ cs) bs (omega arith)

pub layout_with : (cs : List Clip) (bs : List BlockRef) → 0 < length cs → IsLayout cs → NoneEmpty bs → 0 < blocks_len bs
    → last_start cs + blocks_len bs ≤ 2 ^ 32 → IsLayout (with_last bs cs)
layout_with cs bs there is none some near = search (arith, clips_with, end_with)

pub half_with : (m : ℕ) (cs : List Clip) (bs : List BlockRef) → AllHalfFull m cs → IsHalfFull m (block_lens bs)
    → AllHalfFull m (with_last bs cs)
half_with m [] bs all half = tt
half_with m (c ∷ []) bs all half = (half, tt)
half_with m (c ∷ d ∷ cs) bs all half = (all.0, half_with m (d ∷ cs) bs all.1 half)

-- the clips before the last, and the last with other blocks
pub front_and_last : (cs : List Clip) (c : Clip) (bs : List BlockRef) → 0 < length cs → c ≡ get_or cs (length cs - 1) c
    → take (length cs - 1) cs ++ (record c { blocks = bs }) ∷ [] ≡ with_last bs cs
front_and_last [] c bs some is = absurd (omega (arith, some))
front_and_last (x ∷ []) c bs some is = ap (λ (k : Clip). record k { blocks = bs } ∷ []) is
front_and_last (x ∷ y ∷ cs) c bs some is = search (arith, front_and_last (y ∷ cs) c bs)

pub blocks_next : (bs : List BlockRef) (i : ℕ) (d : BlockRef) → i < length bs
    → blocks_len (drop i bs) ≡ (get_or bs i d).len + blocks_len (drop (i + 1) bs)
blocks_next bs i d h = ap blocks_len (drop_more bs i d h)
