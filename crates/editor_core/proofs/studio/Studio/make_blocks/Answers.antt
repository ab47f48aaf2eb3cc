-- All blocks are written, and then they are synced.
use Rattle.editor_core.proofs.Common.{after_err, core_of, batch_of}
use Rattle.editor_state.specs.{Makes.Makes}
use Rattle.editor_blocks.proofs.BlocksWritten.{makes_both}
use Rattle.editor_core.proofs.studio.Studio.make_blocks.Goals as goal

pub returns-in_err-write_blocks-clause-made : goal.returns-in_err-write_blocks-clause-made
returns-in_err-write_blocks-clause-made g c =
    let by = c.in_err-write_blocks.ensures.written in (
      by.0,
      by.1,
      after_err (λ r. Makes g.S.Store (core_of c.args.self.now) (batch_of by.0 c.args.makes.now) r
          (core_of c.write_blocks.new.self)) _ c.from_residual.result c.from_residual.ensures.1 by.2,
    )

pub returns-clause-made : goal.returns-clause-made
returns-clause-made g c =
    let by = c.in_ok-write_blocks.ensures.written in (
      by.0,
      by.1,
      makes_both g.S.Store (core_of c.args.self.now) by.0 c.args.makes.now c.sync_blocks.result
          (core_of c.write_blocks.new.self) (core_of c.sync_blocks.new.self) by.2 c.sync_blocks.ensures.synced,
    )
