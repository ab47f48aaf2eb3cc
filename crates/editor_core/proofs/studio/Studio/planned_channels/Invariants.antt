-- A track for each channel so far.
use Rattle.editor_core.proofs.Common.{◌≡◌, ◌+◌, take, core_of, AreGrown, AllInOrder}
use Rattle.editor_core.proofs.studio.Studio.planned_channels.Given as goal

abbrev pub invariant-channels : goal.invariant-channels
invariant-channels g l = record {
  grown : AreGrown (core_of l.self) (take l.count-index l.counts) l.growing;
  order : AllInOrder 0 l.growing.brought l.growing.makes.items;
  next_id : l.id ≡ l.self.next_track + l.count-index;
}
