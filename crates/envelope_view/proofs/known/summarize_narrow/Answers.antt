-- The answer is that of the reads.
use Rattle.envelope_view.proofs.Common.{◌+◌, min, arith}
use Rattle.envelope_view.proofs.{BlockReads.block_err, BlockReads.block_ok, BlockReads.block_weaker, KeptLaws.part_in}
use Rattle.envelope_view.proofs.known.summarize_narrow.Goals as goal

pub returns-in_err-halves-clause-sum : goal.returns-in_err-halves-clause-sum
returns-in_err-halves-clause-sum g c = block_err _ c.from_residual.ensures.1 c.in_err-halves.ensures
    (part_in _ c.args.block c.args.from (min c.args.block.len (c.args.to + c.args.reach)) c.args.from _ (omega arith)
    (omega (arith, c.in-Some.ensures.near, c.short_stop-stop.ensures.within, c.short_stop-stop.ensures.few)))

pub returns-clause-known : goal.returns-clause-known
returns-clause-known g c = λ told xs e len. (c.in_ok-halves.ensures.read told xs e len).1

pub returns-clause-sum : goal.returns-clause-sum
returns-clause-sum g c = block_ok c.in_ok-halves.ensures
    (part_in _ c.args.block c.args.from (min c.args.block.len (c.args.to + c.args.reach)) c.args.from _ (omega arith)
    (omega (arith, c.in-Some.ensures.near, c.short_stop-stop.ensures.within, c.short_stop-stop.ensures.few)))
    (λ xs of got. got.0)

pub returns-in_default-clause-sum : goal.returns-in_default-clause-sum
returns-in_default-clause-sum g c = block_weaker _ c.summarize.ensures
    (part_in _ c.args.block c.args.from (min c.args.block.len (c.args.to + c.args.reach)) c.args.from c.args.to
    (omega arith) (omega (arith, c.requires.within))) (λ xs of s got. got)
