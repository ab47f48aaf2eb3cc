-- Room to make a block in, and for bytes of a sound.
use Rattle.std.specs.Prelude.{ℕ, ◌≤◌}
use Rattle.pcm_base.specs.declared.limits.TheConstants.{MAX_BLOCK_SAMPLES}
use Rattle.sample_block.specs.Spelling.{size_of}

-- this many samples are those of a block, this many bytes those of its file, and this many those of a piece of a sound
pub record IsRoomy (block_size samples bytes sound : ℕ) : Type 0 where
  pub few : block_size ≤ MAX_BLOCK_SAMPLES
  pub samples_fit : block_size ≤ samples
  pub bytes_fit : size_of block_size ≤ bytes
  pub sound_fits : 65536 ≤ sound
