-- The tracks so far are listed.
use Rattle.mix_reader.proofs.Common.{◌≡◌, take, heard_gains, heard_sides}
use Rattle.mix_reader.proofs.loads.list_heard.Given as goal

abbrev pub invariant-rows : goal.invariant-rows
invariant-rows l = record {
  gains : l.gains.items ≡ heard_gains (take l.i l.point);
  sides : l.sides.items ≡ heard_sides (take l.i l.point);
}
