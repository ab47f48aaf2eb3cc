-- The first files are synced.
use Rattle.editor_core.proofs.Common.{◌≡◌, core_of, ids_from, Synced}
use Rattle.editor_core.proofs.studio.Studio.sync_blocks.Given as goal

abbrev pub invariant-rows : goal.invariant-rows
invariant-rows g l = record {
  synced : Synced g.S.Store (core_of l.fn.self) (ids_from l.first l.i) (core_of l.self);
  history : l.self.history ≡ l.fn.self.history;
  body : l.self.body ≡ l.fn.self.body;
  row : l.self.row ≡ l.fn.self.row;
  uses : l.self.tally.uses ≡ l.fn.self.tally.uses;
}
