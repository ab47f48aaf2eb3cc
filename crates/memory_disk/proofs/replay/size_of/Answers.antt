-- One call more.
use Rattle.memory_disk.proofs.Common.{length, sym, ap, ◌∙◌, List, arith, option_map, Step, reads_of}
use Rattle.memory_disk.proofs.CallsLemmas.{held_at, history_next}
use Rattle.memory_disk.proofs.replay.size_of.Goals as goal

pub size_after-size-requires : goal.size_after-size-requires
size_after-size-requires c = held_at _ c.args.calls.now c.loop-call.call-index _ (omega arith) c.requires

pub loop-call-preserved : goal.loop-call-preserved
loop-call-preserved c = record {
  size = c.size_after-size.ensures.size _ c.loop-call.invariant.size
      ∙ ap (λ (h : List Step). option_map length (reads_of h c.args.file))
      (sym (history_next c.args.row.now c.args.calls.now c.loop-call.call-index _ (omega arith)));
  bounded = c.size_after-size.ensures.bounded c.loop-call.invariant.bounded;
}
