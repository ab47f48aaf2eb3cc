-- One stretch more is read.
use Rattle.std.proofs.{Common.◌+◌, Common.◌*◌, Common.arith, Common.◌∙◌, Common.refl, lemmas.Grind.common_steps}
use Rattle.disk_model.proofs.Frames.{tells_on, kept_turn, kept_none}
use Rattle.block_store.proofs.PieceLaws.{samples_on, samples_there}
use Rattle.block_store.proofs.reads.read_buffers.Goals as goal

pub buffers-init : goal.buffers-init
buffers-init g c = record {
  within = omega arith;
  kept = kept_none _ (g.met.S.Store.may_fewer _);
  count = refl;
  whole = λ told some. absurd (omega arith);
  samples = λ told. refl;
}

pub buffers-preserved : goal.buffers-preserved
buffers-preserved g c = record {
  within = grind (arith, common_steps);
  kept = kept_turn c.buffers.invariant.kept c.read_buffer.ensures.kept;
  count = c.in_default.ensures.faults ∙ c.buffers.invariant.count;
  whole = λ told some.
      let still = tells_on c.buffers.invariant.kept told in
      samples_there (g.S.Store.reads c.args.store.now) (g.S.Store.reads c.buffers.store) c.args.block.id c.args.from
      c.buffers.done c.min.result _ c.buffers.invariant.kept.same_reads (c.in_default.ensures.whole still)
      (grind (arith, common_steps));
  samples = λ told.
      let still = tells_on c.buffers.invariant.kept told in
      samples_on (g.S.Store.reads c.args.store.now) (g.S.Store.reads c.buffers.store) c.args.block.id
      (16 + 2 * c.args.from) c.args.from c.buffers.done c.min.result _ _ c.buffers.out c.read_buffer.new.out
      c.buffers.invariant.kept.same_reads c.buffers.invariant.within refl (c.buffers.invariant.samples told)
      (c.in_default.ensures.samples still) (grind (arith, common_steps));
}
