-- So many blocks fit as there are 12 bytes for; one of the next block's two fields does not.
use Rattle.record_body.proofs.Common.{arith}
use Rattle.record_body.proofs.Reaching.{sum_blocks, blocks_past}
use Rattle.record_body.proofs.measuring.fit_blocks.Goals as goal

pub returns-then-count-whole : goal.returns-then-count-whole
returns-then-count-whole c =
    (omega (arith, sum_blocks c.args.count), omega (arith, c.if-count-whole.true, c.requires.within))

pub returns : goal.returns
returns c = search (arith, c.if-count-whole.false, c.requires.within, c.fit_all.ensures, blocks_past)
