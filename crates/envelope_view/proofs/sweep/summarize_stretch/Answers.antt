-- Gaps have no sample, and a block has those of its part.
use Rattle.envelope_view.proofs.Common.{sym, ap, subst, arith, exit_err, sources_of, summary_of, reads_err, reads_more}
use Rattle.envelope_view.proofs.Common.{reads_none, IsInBlock, stretch_blocks}
use Rattle.envelope_view.proofs.AheadLaws.{block_read, blocks_one, gaps_read, named_one}
use Rattle.envelope_view.proofs.{BlockReads.hits_none, KeptLaws.block_pages}
use Rattle.envelope_view.proofs.sweep.summarize_stretch.Goals as goal

pub returns-in-Gaps-clause-read : goal.returns-in-Gaps-clause-read
returns-in-Gaps-clause-read g c = λ told whole.
    ap summary_of (sym (gaps_read
    (sources_of (g.S.Store.reads c.args.reader.now.store)) c.args.stretch _ c.args.count c.in-Gaps.is
    c.requires.within))

pub summarize_block-requires-clause-block : goal.summarize_block-requires-clause-block
summarize_block-requires-clause-block g c = named_one c.args.stretch _ _ c.in-Block.is c.requires.named

pub returns-in_ok-summary-in-Block-clause-read : goal.returns-in_ok-summary-in-Block-clause-read
returns-in_ok-summary-in-Block-clause-read g c = λ told whole.
    block_read (g.S.Store.reads c.args.reader.now.store) c.args.stretch _ _ _ c.args.count _ c.in-Block.is
    (subst IsInBlock c.in-Block.is c.requires.stretch) c.requires.within (omega arith)
    whole (c.in_ok-summary-in-Block.ensures.sum.read told)

pub returns-in_ok-summary-in-Block-clause-reads : goal.returns-in_ok-summary-in-Block-clause-reads
returns-in_ok-summary-in-Block-clause-reads g c =
    reads_more _ (stretch_blocks c.args.stretch) (blocks_one c.args.stretch _ _ c.in-Block.is)
    c.in_ok-summary-in-Block.ensures.sum.reads

pub returns-in_err-summary-in-Block-clause-reads : goal.returns-in_err-summary-in-Block-clause-reads
returns-in_err-summary-in-Block-clause-reads g c =
    rw (exit_err c.from_residual.result c.from_residual.ensures.1) (reads_err
    (reads_more _ (stretch_blocks c.args.stretch) (blocks_one c.args.stretch _ _ c.in-Block.is)
    c.in_err-summary-in-Block.ensures.sum.reads))

pub returns-in-Gaps-clause-reads : goal.returns-in-Gaps-clause-reads
returns-in-Gaps-clause-reads g c = reads_none _ (g.met.S.Store.may_fewer _)

pub returns-in-Gaps-clause-hit : goal.returns-in-Gaps-clause-hit
returns-in-Gaps-clause-hit g c = hits_none

pub returns-in_ok-summary-in-Block-clause-hit : goal.returns-in_ok-summary-in-Block-clause-hit
returns-in_ok-summary-in-Block-clause-hit g c = λ has. c.in_ok-summary-in-Block.ensures.sum.hit
    (block_pages _ c.args.stretch _ _ _ c.args.count c.args.reach c.in-Block.is (omega arith) has)

pub returns-in_err-summary-in-Block-clause-hit : goal.returns-in_err-summary-in-Block-clause-hit
returns-in_err-summary-in-Block-clause-hit g c =
    rw (exit_err c.from_residual.result c.from_residual.ensures.1) (λ has. c.in_err-summary-in-Block.ensures.sum.hit
    (block_pages _ c.args.stretch _ _ _ c.args.count c.args.reach c.in-Block.is (omega arith) has))
