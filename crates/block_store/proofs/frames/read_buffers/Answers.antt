-- One stretch more is read.
use Rattle.std.proofs.{Common.arith, Common.◌∙◌, Common.refl, lemmas.Grind.common_steps}
use Rattle.block_store.specs.Reads.{level_place}
use Rattle.disk_model.proofs.Frames.{tells_on, kept_turn, kept_none}
use Rattle.block_store.proofs.PieceLaws.{frames_on, frames_there}
use Rattle.block_store.proofs.frames.read_buffers.Goals as goal

pub buffers-init : goal.buffers-init
buffers-init g c = record {
  within = omega arith;
  kept = kept_none _ (g.met.S.Store.may_fewer _);
  count = refl;
  whole = λ told some. absurd (omega arith);
  frames = λ told. refl;
}

pub buffers-preserved : goal.buffers-preserved
buffers-preserved g c = record {
  within = grind (arith, common_steps);
  kept = kept_turn c.buffers.invariant.kept c.read_buffer.ensures.kept;
  count = c.in_default.ensures.faults ∙ c.buffers.invariant.count;
  whole = λ told some.
      let still = tells_on c.buffers.invariant.kept told in
      frames_there (g.S.Store.reads c.args.store.now) (g.S.Store.reads c.buffers.store) c.args.block.id
      (level_place c.args.level c.args.block.len) c.args.from c.buffers.done c.min.result _
      c.buffers.invariant.kept.same_reads (c.in_default.ensures.whole still) (grind (arith, common_steps));
  frames = λ told.
      let still = tells_on c.buffers.invariant.kept told in
      frames_on (g.S.Store.reads c.args.store.now) (g.S.Store.reads c.buffers.store) c.args.block.id
      c.args.level c.args.block.len c.args.from c.buffers.done c.min.result _ _ c.buffers.out c.read_buffer.new.out
      c.buffers.invariant.kept.same_reads c.buffers.invariant.within (c.buffers.invariant.frames told)
      (c.in_default.ensures.frames still) (grind (arith, common_steps));
}
