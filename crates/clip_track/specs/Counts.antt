-- How many samples the clips of a layout have.
use Rattle.std.specs.Prelude.{ℕ, ◌+◌, List, [], ◌∷◌}
use Rattle.pcm_base.specs.Blocks.{blocks_len}
use Rattle.clip_track.specs.declared.clips.Clip.{Clip}

-- how many samples the blocks of some clips have
abbrev pub clips_len : List Clip → ℕ
clips_len [] = 0
clips_len (c ∷ cs) = blocks_len c.blocks + clips_len cs
