-- The keys of the pages that a read still wants are there.
use Rattle.block_cache.proofs.Common.{◌≤◌, ◌<◌, ◌+◌, ◌/◌, ℕ, BlockRef, Level, Entries, HasFrames, HasSamples, SameCache}
use Rattle.block_cache.proofs.Common.{HasKey, frame_key, sample_key}
use Rattle.block_cache.proofs.ListLaws.{keys_same}

-- the key of the next page
pub samples_next : (a b : Entries) (block : BlockRef) (from n at : ℕ) → SameCache a b
    → HasSamples a block from n → from ≤ at
    → at < from + n → HasKey b.samples (sample_key block (at / 4096))
samples_next a b block from n at same has low high =
    (keys_same a.samples b.samples same.samples (sample_key block (at / 4096))).1 (has at low high)

pub frames_next : (a b : Entries) (level : Level) (block : BlockRef) (from n at : ℕ) → SameCache a b
    → HasFrames a level block from n → from ≤ at
    → at < from + n → HasKey b.frames (frame_key level block (at / 256))
frames_next a b level block from n at same has low high =
    (keys_same a.frames b.frames same.frames (frame_key level block (at / 256))).1 (has at low high)
