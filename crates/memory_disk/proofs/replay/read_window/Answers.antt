-- One call more.
use Rattle.memory_disk.proofs.Common.{sym, subst, List, arith, bytes_of, Step, reads_of, IsWindow}
use Rattle.memory_disk.proofs.CallsLemmas.{held_at, history_next}
use Rattle.memory_disk.proofs.replay.read_window.Goals as goal

pub show_call-requires-clause-held : goal.show_call-requires-clause-held
show_call-requires-clause-held c = held_at _ c.args.calls.now c.loop-call.call-index _ (omega arith) c.requires.held

pub loop-call-preserved : goal.loop-call-preserved
loop-call-preserved c =
    subst (λ (h : List Step). IsWindow (bytes_of (reads_of h c.args.file)) c.args.at c.show_call.new.buf)
    (sym (history_next c.args.row.now c.args.calls.now c.loop-call.call-index _ (omega arith)))
    (c.show_call.ensures _ c.loop-call.invariant)
