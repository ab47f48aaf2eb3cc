-- The goals of `len` that the search leaves open.
use Rattle.std.proofs.Common.{sym, ap, ◌∙◌}
use Rattle.pcm_base.specs.Blocks.{blocks_len}
use Rattle.block_sequence.proofs.Whole.{length-blocks}
use Rattle.block_sequence.proofs.seq.Sequence.len.Goals as goal

pub returns-clause-samples : goal.returns-clause-samples
returns-clause-samples c src =
    length-blocks src c.args.self.now ∙ sym (ap blocks_len c.self.view_is) ∙ c.self.invariant.same_len
