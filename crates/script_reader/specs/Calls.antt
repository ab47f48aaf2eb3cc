-- The calls of a script.
use Rattle.std.specs.Prelude.{◌⊎◌}
use Rattle.pcm_base.specs.declared.command.Call.{Call}
use Rattle.studio_seats.specs.Onward.{IsLine}
use Rattle.sound_bounce.specs.Bounces.{IsOfBounce}

-- a line, or a turn of a bounce
abbrev pub IsOfScript : Call → Type 0
IsOfScript c = IsLine c ⊎ IsOfBounce c
