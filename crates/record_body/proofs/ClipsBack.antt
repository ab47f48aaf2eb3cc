-- Blocks and clips that meet their bounds pass their tests and are read back.
use Rattle.record_body.proofs.Common.{◌≡◌, ℕ, ◌+◌, ◌^◌, ◌≤◌, ◌<◌, Bool, List, [], ◌∷◌, ◌++◌, length, drop, nat_lt, refl}
use Rattle.record_body.proofs.Common.{arith, append_assoc, length-append, flat_map}
use Rattle.record_body.proofs.Common.{little_bytes, BlockRef, blocks_len, Clip, clip_end, field, blocks_at, lens_at}
use Rattle.record_body.proofs.Common.{block_count, clip_at, clip_end_at, clip_size, clips_at, clips_size, least_len}
use Rattle.record_body.proofs.Common.{block_tests, blocks_tests, clip_tests, clips_tests, Limits}
use Rattle.record_body.proofs.Common.{block_bytes, clip_bytes}
use Rattle.record_body.proofs.Parts.{length_clip}
use Rattle.record_body.proofs.FieldsBack.{NoneFails, both_pass, least_passes, most_passes, no_test, number_there, past}

-- a block that meets its bounds, after this many cells
pub record IsGoodBlock (l : Limits) (several : Bool) (before : ℕ) (b : BlockRef) : Type 0 where
  pub valid : 16 ≤ b.id
  pub given : b.id < l.next_block
  pub short : before + b.len ≤ 2 ^ 32
  pub some : 1 ≤ b.len
  pub fits : b.len ≤ l.block_size
  pub enough : least_len l.block_size several ≤ b.len

abbrev pub AreGoodBlocks : Limits → Bool → ℕ → List BlockRef → Type 0
AreGoodBlocks l several before [] = Unit {0}
AreGoodBlocks l several before (b ∷ bs) = IsGoodBlock l several before b × AreGoodBlocks l several (before + b.len) bs

record HasBlock (b : BlockRef) (at : ℕ) (bytes rest : List ℕ) : Type 0 where
  id : field at 8 bytes ≡ b.id
  len : field (at + 8) 4 bytes ≡ b.len
  left : drop (at + 12) bytes ≡ rest

has_block : (b : BlockRef) (at : ℕ) (bytes rest : List ℕ) → b.id < 2 ^ 64 → b.len < 2 ^ 32
    → drop at bytes ≡ block_bytes b ++ rest → HasBlock b at bytes rest
has_block b at bytes rest i n e =
    search (
      arith,
      past at (at + 8) bytes (little_bytes 8 b.id) (little_bytes 4 b.len ++ rest) e refl,
      past (at + 8) (at + 12) bytes (little_bytes 4 b.len) rest,
      number_there 8 b.id at bytes (little_bytes 4 b.len ++ rest) e i,
      number_there 4 b.len (at + 8) bytes rest,
    )

block_passes : (l : Limits) (several : Bool) (before : ℕ) (b : BlockRef) (at : ℕ) (bytes rest : List ℕ)
    → IsGoodBlock l several before b → HasBlock b at bytes rest → NoneFails (block_tests l several before at bytes)
block_passes l several before b at bytes rest good has = search (arith, least_passes, most_passes, no_test)

-- blocks where their bytes stand, which pass
pub record HasBlocks (l : Limits) (several : Bool) (before : ℕ) (bs : List BlockRef) (at : ℕ) (bytes : List ℕ)
    : Type 0 where
  pub blocks : blocks_at (length bs) at bytes ≡ bs
  pub lens : lens_at (length bs) at bytes ≡ blocks_len bs
  pub passes : NoneFails (blocks_tests l several (length bs) before at bytes)

-- the bounds by which ids and lengths fit their fields
pub record AreNarrow (l : Limits) : Type 0 where
  pub ids : l.next_block ≤ 2 ^ 62
  pub tracks : l.next_track ≤ 2 ^ 62
  pub lens : l.block_size < 2 ^ 32

pub has_blocks : (l : Limits) (several : Bool) (before : ℕ) (bs : List BlockRef) (at : ℕ) (bytes rest : List ℕ)
    → AreNarrow l → AreGoodBlocks l several before bs → drop at bytes ≡ flat_map block_bytes bs ++ rest
    → HasBlocks l several before bs at bytes
has_blocks l several before [] at bytes rest narrow good e = record { blocks = refl; lens = refl; passes = no_test }
has_blocks l several before (b ∷ bs) at bytes rest narrow good e =
    search (
      arith,
      has_blocks l several (before + b.len) bs (at + 12) bytes rest narrow good.1,
      has_block b at bytes (flat_map block_bytes bs ++ rest),
      append_assoc (block_bytes b) (flat_map block_bytes bs) rest,
      both_pass (block_tests l several before at bytes),
      block_passes l several before b at bytes,
    )

-- a clip that meets its bounds, from a cell on
pub record IsGoodClip (l : Limits) (from : ℕ) (c : Clip) : Type 0 where
  pub behind : from ≤ c.start
  pub reached : c.start ≤ 2 ^ 32
  pub some : 1 ≤ length c.blocks
  pub few : length c.blocks < 2 ^ 32
  pub blocks : AreGoodBlocks l (nat_lt 1 (length c.blocks)) c.start c.blocks

abbrev pub AreGoodClips : Limits → ℕ → List Clip → Type 0
AreGoodClips l from [] = Unit {0}
AreGoodClips l from (c ∷ cs) = IsGoodClip l from c × AreGoodClips l (clip_end c + 1) cs

record HasClip (c : Clip) (at : ℕ) (bytes rest : List ℕ) : Type 0 where
  start : field at 8 bytes ≡ c.start
  count : block_count at bytes ≡ length c.blocks
  clip : clip_at at bytes ≡ c
  end : clip_end_at at bytes ≡ clip_end c
  size : clip_size at bytes ≡ length (clip_bytes c)
  left : drop (at + clip_size at bytes) bytes ≡ rest
  blocks : drop (at + 12) bytes ≡ flat_map block_bytes c.blocks ++ rest

has_clip : (l : Limits) (from : ℕ) (c : Clip) (at : ℕ) (bytes rest : List ℕ) → AreNarrow l → IsGoodClip l from c
    → drop at bytes ≡ clip_bytes c ++ rest → HasClip c at bytes rest
has_clip l from c at bytes rest narrow good e =
    let all = flat_map block_bytes c.blocks ++ rest in
    let counted = little_bytes 4 (length c.blocks) ++ all in
    search (
      arith,
      past at (at + 8) bytes (little_bytes 8 c.start) counted e refl,
      past (at + 8) (at + 12) bytes (little_bytes 4 (length c.blocks)) all,
      past at (at + clip_size at bytes) bytes (clip_bytes c) rest e,
      number_there 8 c.start at bytes counted e,
      number_there 4 (length c.blocks) (at + 8) bytes all,
      length_clip c,
      has_blocks l (nat_lt 1 (length c.blocks)) c.start c.blocks (at + 12) bytes rest narrow good.blocks,
    )

clip_passes : (l : Limits) (from : ℕ) (c : Clip) (at : ℕ) (bytes rest : List ℕ) → AreNarrow l → IsGoodClip l from c
    → HasClip c at bytes rest → NoneFails (clip_tests l from at bytes)
clip_passes l from c at bytes rest narrow good has =
    search (arith, least_passes, most_passes, no_test, has_blocks, both_pass)

-- clips where their bytes stand, which pass
pub record HasClips (l : Limits) (from : ℕ) (cs : List Clip) (at : ℕ) (bytes : List ℕ) : Type 0 where
  pub clips : clips_at (length cs) at bytes ≡ cs
  pub size : clips_size (length cs) at bytes ≡ length (flat_map clip_bytes cs)
  pub passes : NoneFails (clips_tests l (length cs) from at bytes)

pub has_clips : (l : Limits) (from : ℕ) (cs : List Clip) (at : ℕ) (bytes rest : List ℕ) → AreNarrow l
    → AreGoodClips l from cs → drop at bytes ≡ flat_map clip_bytes cs ++ rest → HasClips l from cs at bytes
has_clips l from [] at bytes rest narrow good e = record { clips = refl; size = refl; passes = no_test }
has_clips l from (c ∷ cs) at bytes rest narrow good e =
    search (
      arith,
      has_clips l (clip_end c + 1) cs (at + clip_size at bytes) bytes rest narrow good.1,
      has_clip l from c at bytes (flat_map clip_bytes cs ++ rest) narrow good.0,
      append_assoc (clip_bytes c) (flat_map clip_bytes cs) rest,
      length-append (clip_bytes c) (flat_map clip_bytes cs),
      both_pass (clip_tests l from at bytes),
      clip_passes l from c at bytes,
    )
