-- The end of a last clip, as the writer tells it, meets the bounds of a reader.
use Rattle.record_body.proofs.Common.{◌≡◌, ℕ, zero, suc, ◌+◌, ◌-◌, ◌^◌, ◌≤◌, ◌<◌, ◌==◌, ◌&&◌, Bool, true, false, inl}
use Rattle.record_body.proofs.Common.{inr, List, [], ◌∷◌, length, take, drop, nat_lt, sym, subst, arith}
use Rattle.record_body.proofs.Common.{length-drop, if◌then◌else◌, cases_Bool, eqb-true, lt-ltb, blocks_len, BlockRef}
use Rattle.record_body.proofs.Common.{Clip, clip_end, is_block, common, last_blocks, last_start, same_but_last, is_lone}
use Rattle.record_body.proofs.Common.{kept_blocks, Limits, least_len, Track}
use Rattle.std.proofs.lemmas.Bool.{le-ltb}
use Rattle.record_body.proofs.ChangeLaws.{last_starts}
use Rattle.record_body.proofs.{ClipsBack.AreGoodBlocks, ClipsBack.AreGoodClips, TracksBack.IsGoodTrack}
use Rattle.block_sequence.proofs.Fronts.{block_same, common_take, common_within}

-- blocks that go from the end of the last clip, and that come
pub record IsGoodTail (l : Limits) (o : Track) (gone : ℕ) (bs : List BlockRef) : Type 0 where
  pub some : 0 < length o.layout
  pub within : gone ≤ length (last_blocks o.layout)
  pub short : gone < 2 ^ 32
  pub few : length bs < 2 ^ 32
  pub goes : (if is_lone l.block_size (last_blocks o.layout) && nat_lt 0 (length bs) then 1 else 0) ≤ gone
  pub comes : (if gone == length (last_blocks o.layout) then 1 else 0) ≤ length bs
  pub blocks : AreGoodBlocks l (nat_lt 1 (length (last_blocks o.layout) - gone + length bs))
      (last_start o.layout + blocks_len (kept_blocks (last_blocks o.layout) gone)) bs

-- the last clip of a track that meets its bounds
record IsGoodLast (l : Limits) (cs : List Clip) : Type 0 where
  some : 1 ≤ length (last_blocks cs)
  few : length (last_blocks cs) < 2 ^ 32
  blocks : AreGoodBlocks l (nat_lt 1 (length (last_blocks cs))) (last_start cs) (last_blocks cs)

good_last : (l : Limits) (from : ℕ) (cs : List Clip) → 0 < length cs → AreGoodClips l from cs → IsGoodLast l cs
good_last l from [] some good = absurd (omega (arith, some))
good_last l from (c ∷ []) some good = search arith
good_last l from (c ∷ d ∷ cs) some good = search (arith, good_last l (clip_end c + 1) (d ∷ cs) (omega arith) good.1)

good_drop : (l : Limits) (several : Bool) (before k : ℕ) (bs : List BlockRef) → AreGoodBlocks l several before bs
    → AreGoodBlocks l several (before + blocks_len (take k bs)) (drop k bs)
good_drop l several before zero bs good = search arith
good_drop l several before (suc k) [] good = tt
good_drop l several before (suc k) (b ∷ bs) good = search (arith, good_drop l several (before + b.len) k bs good.1)

-- one block that is less than half full goes where others come
lone_goes : (l : Limits) (before : ℕ) (olds news : List BlockRef)
    → AreGoodBlocks l (nat_lt 1 (length news)) before news
    → (if is_lone l.block_size olds && nat_lt 0 (length (drop (common olds news) news)) then 1 else 0)
    ≤ length olds - common olds news
lone_goes l before [] news good = omega arith
lone_goes l before (b ∷ c ∷ bs) news good = omega arith
lone_goes l before (b ∷ []) [] good = by_test (nat_lt b.len (least_len l.block_size true))
  where
    by_test : (t : Bool) → (if t && false then 1 else 0) ≤ 1
    by_test true = omega arith
    by_test false = omega arith
lone_goes l before (b ∷ []) (n ∷ []) good = omega_cases (is_block b n) (nat_lt b.len (least_len l.block_size true))
  where
    omega_cases : (s t : Bool) → (if t && nat_lt 0 (length (drop (if s then 1 else 0) (n ∷ []))) then 1 else 0)
        ≤ 1 - (if s then 1 else 0)
    omega_cases true true = omega arith
    omega_cases true false = omega arith
    omega_cases false true = omega arith
    omega_cases false false = omega arith
lone_goes l before (b ∷ []) (n ∷ m ∷ ns) good = elim (cases_Bool (is_block b n)) [
  | inl same ↦
      let is : b ≡ n = block_same b n same in
      let several : nat_lt 1 (length (n ∷ m ∷ ns)) ≡ true = lt-ltb 1 (length (n ∷ m ∷ ns)) (omega arith) in
      let full : least_len l.block_size true ≤ b.len = subst (λ (s : Bool). least_len l.block_size s ≤ b.len) several
      (subst (λ (x : BlockRef). least_len l.block_size (nat_lt 1 (length (n ∷ m ∷ ns))) ≤ x.len) (sym is)
      good.0.enough) in
      let not_short : nat_lt b.len (least_len l.block_size true) ≡ false = le-ltb _ _ full in
      rw (same, not_short) (omega arith)
  | inr differ ↦
      rw differ (at_most_one (nat_lt b.len (least_len l.block_size true)) (nat_lt 0 (length (n ∷ m ∷ ns))))
]
  where
    at_most_one : (s t : Bool) → (if s && t then 1 else 0) ≤ 1
    at_most_one true true = omega arith
    at_most_one true false = omega arith
    at_most_one false t = omega arith

pub good_tail : (l : Limits) (from : ℕ) (o t : Track) → length (last_blocks o.layout) < 2 ^ 32 → IsGoodTrack l from t
    → same_but_last o.layout t.layout ≡ true
    → IsGoodTail l o (length (last_blocks o.layout) - common (last_blocks o.layout) (last_blocks t.layout))
    (drop (common (last_blocks o.layout) (last_blocks t.layout)) (last_blocks t.layout))
good_tail l from o t small good alike =
    let olds = last_blocks o.layout in
    let news = last_blocks t.layout in
    let k = common olds news in
    search (
      arith,
      last_starts o.layout t.layout alike,
      good_last l 0 t.layout,
      common_within olds news,
      length-drop k news,
      common_take olds news,
      lone_goes l (last_start t.layout) olds news,
      eqb-true (length olds - k) (length olds),
      good_drop l (nat_lt 1 (length news)) (last_start t.layout) k news,
    )
