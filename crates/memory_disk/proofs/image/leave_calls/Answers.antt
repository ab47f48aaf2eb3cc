-- One call more.
use Rattle.memory_disk.proofs.Common.{ℕ, take, sym, ◌∙◌, subst, arith, history_on, items_of, Call, Write, IsLeft}
use Rattle.memory_disk.proofs.{CallsLemmas.held_at, LeftCalls.left_next}
use Rattle.memory_disk.proofs.image.leave_calls.Goals as goal

pub leave_call-requires-clause-held : goal.leave_call-requires-clause-held
leave_call-requires-clause-held c = held_at _ c.args.calls.now c.loop-call.call-index _ (omega arith) c.requires.held

pub loop-call-preserved : goal.loop-call-preserved
loop-call-preserved c =
    let was = c.loop-call.invariant in
    let file = c.args.file in
    let row = c.args.row.now in
    let i = c.loop-call.call-index in
    record {
      choice = c.leave_call.ensures.choice ∙ was.choice;
      left = λ h start first.
          let none : Call = record { kind = Write; file = 0; at = 0; from = 0; len = 0 } in
          let earlier = history_on h row (take i c.args.calls.now) in
          let before =
          subst (λ (k : ℕ). IsLeft k file earlier start (items_of c.loop-call.image) c.loop-call.draws.state)
          (sym was.choice) (was.left h start first) in
          left_next row c.args.calls.now i c.args.draws.now.choice c.loop-call.draws.choice file start
          c.leave_call.new.draws.state none h (items_of c.in_ok-image.image) (omega arith) was.choice
          (c.in_ok-image.ensures.left earlier start before);
    }
