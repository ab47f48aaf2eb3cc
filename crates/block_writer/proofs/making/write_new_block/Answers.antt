-- A block that is there has no fault.
use Rattle.std.proofs.Common.{List, subst}
use Rattle.disk_model.specs.Disk.{Files}
use Rattle.pcm_base.specs.declared.piece.Piece.{Piece}
use Rattle.block_writer.specs.Making.{IsFaultRead}
use Rattle.block_writer.proofs.ReadLaws.{valid_made}
use Rattle.block_writer.proofs.making.write_new_block.Goals as goal

pub returns-in-Err-clause-valid : goal.returns-in-Err-clause-valid
returns-in-Err-clause-valid g c = λ told there.
    let files : Files = g.S.Store.reads c.args.store.now in
    let F : List Piece → Type 0 = λ ps. IsFaultRead files ps c.in-Err.why in
    valid_made files c.args.block.now.pieces c.in-Err.why there
    (subst F c.as_slice.ensures (c.in-Err.ensures.damaged told))
