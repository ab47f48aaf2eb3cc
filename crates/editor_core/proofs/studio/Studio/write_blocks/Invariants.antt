-- The first blocks are written, and the buffers have room.
use Rattle.editor_core.proofs.Common.{◌≡◌, ◌+◌, ◌≤◌, core_of}
use Rattle.block_writer.specs.Bringers.{StillBrings}
use Rattle.row_ledger.specs.Lists.{spare_of}
use Rattle.editor_blocks.proofs.BroughtSamples.{IsBrought}
use Rattle.editor_core.proofs.studio.Studio.write_blocks.Given as goal

abbrev pub invariant-rows : goal.invariant-rows
invariant-rows g l = record {
  brought : IsBrought g.S.Store (core_of l.fn.self) (g.G.Brings.brings l.fn.given) l.makes l.block-index
      (core_of l.self);
  still : StillBrings g.G.Brings l.fn.given l.given;
  faults : g.G.Brings.fault_count l.given ≡ g.G.Brings.fault_count l.fn.given;
  spare : spare_of l.fn.self.tally.ledger ≤ spare_of l.self.tally.ledger + l.block-index;
  history : l.self.history ≡ l.fn.self.history;
  body : l.self.body ≡ l.fn.self.body;
  row : l.self.row ≡ l.fn.self.row;
  uses : l.self.tally.uses ≡ l.fn.self.tally.uses;
}
