-- How long the track and the clipboard of a script are.
use Rattle.std.specs.Prelude.{◌≤◌}
use Rattle.script_gen.specs.declared.place.Place.{Place}

-- no range is empty, and nothing is too long
pub record IsPlace (p : Place) : Type 0 where
  pub least : 1000 ≤ p.len
  pub most : p.len ≤ 102000
  pub copied : p.copied ≤ 500
