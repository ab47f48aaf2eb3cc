-- One call of the file more, and the last.
use Rattle.memory_disk.proofs.Common.{◌≡◌, ℕ, Option, List, sym, subst, arith, bytes_of, IsWindow, reads_at, no_call}
use Rattle.memory_disk.proofs.{CallsLemmas.held_at, ReadChain.shows_next, ReadChain.shows_all}
use Rattle.memory_disk.proofs.chain.show_chain.Goals as goal

pub show_call-requires-clause-held : goal.show_call-requires-clause-held
show_call-requires-clause-held c =
    held_at _ c.args.calls.now c.loop-next.next no_call (omega (arith, c.requires.chain.bound)) c.requires.held

pub loop-next-preserved : goal.loop-next-preserved
loop-next-preserved c =
    let was = c.loop-next.invariant in
    let step = c.requires.chain.leads c.loop-next.next was.from c.loop-next-test.true was.of_file in
    record {
      from = omega (arith, step.later, was.from);
      to = step.within;
      of_file = step.of_file;
      shows = subst (λ (o : Option (List ℕ)). IsWindow (bytes_of o) c.args.at c.show_call.new.buf) (sym step.between)
          (shows_next c.args.row.now c.args.calls.now c.loop-next.next c.args.at c.args.head.now.file
          c.show_call.new.buf (omega (arith, c.requires.chain.bound)) (c.show_call.ensures _ was.shows));
    }

pub show_call-requires-2-clause-held : goal.show_call-requires-2-clause-held
show_call-requires-2-clause-held c =
    held_at _ c.args.calls.now c.args.head.now.last no_call c.requires.chain.bound c.requires.held

pub returns : goal.returns
returns c =
    let was = c.loop-next.invariant in
    let last : c.loop-next.next ≡ c.args.head.now.last = omega arith in
    let shown = subst (λ (k : ℕ). IsWindow (bytes_of (reads_at c.args.row.now c.args.calls.now k c.args.head.now.file))
    c.args.at c.loop-next.buf) last was.shows in
    shows_all c.args.row.now c.args.calls.now c.args.links.now c.args.head.now c.args.at c.show_call-2.new.buf
    c.requires.chain
    (shows_next c.args.row.now c.args.calls.now c.args.head.now.last c.args.at c.args.head.now.file
    c.show_call-2.new.buf c.requires.chain.bound (c.show_call-2.ensures _ shown))
