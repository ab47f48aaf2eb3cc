-- One call more.
use Rattle.memory_disk.proofs.Common.{◌≡◌, None, List, sym, subst, arith, Step, reads_of, IsUnnamed}
use Rattle.memory_disk.proofs.CallsLemmas.{history_next}
use Rattle.memory_disk.proofs.build.named.Goals as goal

pub loop-call-preserved : goal.loop-call-preserved
loop-call-preserved c = λ f absent.
    subst (λ (h : List Step). IsUnnamed h f × (reads_of h f ≡ None))
    (sym (history_next c.args.row.now c.args.calls.now c.loop-call.call-index _ (omega arith)))
    (c.in_ok-name_call.ensures _ c.loop-call.invariant f absent)
