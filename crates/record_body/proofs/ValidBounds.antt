-- Valid blocks, clips and tracks meet their bounds.
use Rattle.record_body.proofs.Common.{ℕ, ◌+◌, ◌*◌, ◌^◌, ◌≤◌, ◌<◌, Bool, true, false, List, [], ◌∷◌, length, nat_lt}
use Rattle.record_body.proofs.Common.{arith, AllByRecursion, BlockRef, NoneEmpty, AllFull, IsHalfFull, block_lens}
use Rattle.record_body.proofs.Common.{blocks_len, Clip, AreClips, IsLayout, AllHalfFull, clip_end, end_of, Track}
use Rattle.record_body.proofs.Common.{AreUnnumbered, AreAbove, AllGiven, AllClipsGiven, AllValidTracks, Limits, least}
use Rattle.record_body.proofs.Common.{least_len}
use Rattle.record_body.proofs.{ClipsBack.AreGoodBlocks, ClipsBack.AreGoodClips, TracksBack.AreGoodTracks}

-- Valid blocks, clips and tracks meet their bounds.
least_half : (m : ℕ) (several : Bool) (n : ℕ) → m ≤ 2 * n → least_len m several ≤ n
least_half m true n h = omega arith
least_half m false n h = omega arith

-- a block that is neither too short nor too long
abbrev IsFit : Limits → Bool → BlockRef → Type 0
IsFit l several b = (least_len l.block_size several ≤ b.len) × (b.len ≤ l.block_size)

full_fit : (l : Limits) (several : Bool) (bs : List BlockRef) → AllFull l.block_size (block_lens bs)
    → AllByRecursion (IsFit l several) bs
full_fit l several [] full = tt
full_fit l several (b ∷ bs) full = search (arith, full_fit l several bs full.1, least_half)

fit_good : (l : Limits) (several : Bool) (before : ℕ) (bs : List BlockRef)
    → NoneEmpty bs → before + blocks_len bs ≤ 2 ^ 32 → AllGiven l.next_block bs → AllByRecursion (IsFit l several) bs
    → AreGoodBlocks l several before bs
fit_good l several before [] some short given fit = tt
fit_good l several before (b ∷ bs) some short given fit =
    search (arith, fit_good l several (before + b.len) bs some.1 (omega arith) given.2 fit.1)

blocks_good : (l : Limits) (before : ℕ) (bs : List BlockRef) → NoneEmpty bs
    → before + blocks_len bs ≤ 2 ^ 32 → AllGiven l.next_block bs → IsHalfFull l.block_size (block_lens bs)
    → AreGoodBlocks l (nat_lt 1 (length bs)) before bs
blocks_good l before [] some short given full = tt
blocks_good l before (b ∷ []) some short given full = search (arith, fit_good)
blocks_good l before (b ∷ c ∷ bs) some short given full = search (arith, fit_good, full_fit)

full_blocks_few : (m : ℕ) (bs : List BlockRef) → 4 ≤ m → AllFull m (block_lens bs) → 2 * length bs ≤ blocks_len bs
full_blocks_few m [] large full = omega arith
full_blocks_few m (b ∷ bs) large full = omega (arith, full.0.0, full_blocks_few m bs large full.1)

pub half_full_few : (m : ℕ) (bs : List BlockRef) → 4 ≤ m → IsHalfFull m (block_lens bs) → blocks_len bs ≤ 2 ^ 32
    → length bs < 2 ^ 32
half_full_few m [] large full short = omega arith
half_full_few m (b ∷ []) large full short = omega arith
half_full_few m (b ∷ c ∷ bs) large full short = omega (arith, short, full_blocks_few m (b ∷ c ∷ bs) large full)

some_block : (bs : List BlockRef) → 0 < blocks_len bs → 1 ≤ length bs
some_block [] some = omega arith
some_block (b ∷ bs) some = omega arith

-- each clip has a sample, and a gap before it
clips_short : (at : ℕ) (cs : List Clip) → AreClips (at + 1) cs → at + 2 * length cs ≤ end_of at cs
clips_short at [] apart = omega arith
clips_short at (c ∷ cs) apart = omega (arith, apart.0, apart.1, clips_short (clip_end c) cs apart.3)

layout_few : (cs : List Clip) → IsLayout cs → length cs < 2 ^ 32
layout_few [] is = omega arith
layout_few (c ∷ cs) is = omega (arith, is.few, clips_short (clip_end c) cs is.apart.3)

clips_good : (l : Limits) (at from : ℕ) (cs : List Clip) → 4 ≤ l.block_size → AreClips from cs → end_of at cs ≤ 2 ^ 32
    → AllHalfFull l.block_size cs → AllClipsGiven l.next_block cs → AreGoodClips l from cs
clips_good l at from [] large apart short full given = tt
clips_good l at from (c ∷ cs) large apart short full given =
    search (
      arith,
      clips_good l (clip_end c) (clip_end c + 1) cs large apart.3 short full.1 given.1,
      clips_short (clip_end c) cs apart.3,
      some_block c.blocks apart.1,
      half_full_few l.block_size c.blocks large full.0,
      blocks_good l c.start c.blocks apart.2,
    )

pub tracks_good : (l : Limits) (from least : ℕ) (ts : List Track) → 4 ≤ l.block_size → from ≤ least → 1 ≤ least
    → AreAbove least ts → AllValidTracks l.block_size l.next_block l.next_track ts → AreUnnumbered ts
    → AreGoodTracks l from ts
tracks_good l from least [] large le some above valid none = tt
tracks_good l from least (t ∷ ts) large le some above valid none =
    search (arith, tracks_good l (t.id + 1) (t.id + 1) ts large, layout_few, clips_good)
