-- The bounds of the numbers that words give.
use Rattle.std.specs.Prelude.{◌≡◌, ◌≤◌, ◌%◌}
use Rattle.pcm_base.specs.declared.limits.TheConstants.{MAX_BLOCK_SAMPLES, MAX_DEPTH}
use Rattle.call_words.specs.{declared.asked.NewProject.NewProject, declared.asked.Words.Words}
use Rattle.call_words.specs.declared.asked.Words.TheVariants as words

pub record IsNewProject (new : NewProject) : Type 0 where
  pub rate_least : 1 ≤ new.rate
  pub even : new.block_size % 2 ≡ 0
  pub block_least : 4 ≤ new.block_size
  pub block_most : new.block_size ≤ MAX_BLOCK_SAMPLES
  pub depth_least : 1 ≤ new.depth
  pub depth_most : new.depth ≤ MAX_DEPTH

abbrev pub IsInBounds : Words → Type 0
IsInBounds (words.New new) = IsNewProject new
IsInBounds (words.Run records plays) = Unit {0}
IsInBounds words.Try = Unit {0}
IsInBounds words.List = Unit {0}
IsInBounds words.Check = Unit {0}
IsInBounds (words.Gen number lines) = (2 ≤ lines) × (lines ≤ 4096)
