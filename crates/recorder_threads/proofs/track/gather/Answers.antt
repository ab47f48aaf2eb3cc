-- What was received stands in the buffer.
use Rattle.std.proofs.Common.{[], ◌++◌, take, refl, sym, ap, ◌∙◌, arith, rules}
use Rattle.std.proofs.{lemmas.Grind.common_steps, lemmas.List.append-nil, lemmas.List.nil_from_length}
use Rattle.edit_ports.specs.Answers.{samples_of}
use Rattle.pcm_base.specs.Recordings.{numbered}
use Rattle.record_ring.specs.Ends.{received, SameOut-trans}
use Rattle.recorder_threads.proofs.DrainLemmas.{holds-end, holds-next, holds-number, holds-stored}
use Rattle.recorder_threads.proofs.track.gather.Goals as goal

pub chunks-init : goal.chunks-init
chunks-init g c = record {
  ring = c.receive-chunk.ensures.ring;
  size = refl;
  room = c.requires.room;
  holds = λ before is. holds-next (received c.args.output.now) (received c.receive-chunk.new.output) (before ++ [])
      c.receive-chunk.result (is ∙ ap (numbered 0) (sym (append-nil before))) c.receive-chunk.ensures.received
      c.receive-chunk.ensures.order;
}

pub chunks-preserved : goal.chunks-preserved
chunks-preserved g c = record {
  ring = SameOut-trans c.args.output.now c.chunks.output c.pop.new.self c.chunks.invariant.ring c.pop.ensures.ring;
  size = grind (arith, common_steps, c.chunks.invariant.size);
  room = grind (arith, common_steps, c.chunks.invariant.room, c.if-count-batch.false);
  holds = λ before is. holds-next (received c.chunks.output) (received c.pop.new.self) _ c.in-Some.next
      (holds-stored (received c.chunks.output) before c.chunks.batch c.chunks.count c.chunks.chunk
      c.chunks.invariant.room (c.chunks.invariant.holds before is)) c.in-Some.ensures.some c.in-Some.ensures.order;
}

pub returns-then-count-batch-clause-bound : goal.returns-then-count-batch-clause-bound
returns-then-count-batch-clause-bound g c = λ before is.
    let n = holds-number (received c.chunks.output) before c.chunks.batch c.chunks.count c.chunks.chunk
    (omega (arith, c.chunks.invariant.room)) (c.chunks.invariant.holds before is) in
    omega (arith, n, c.is_end.ensures.bound)

pub returns-then-count-batch-clause-received : goal.returns-then-count-batch-clause-received
returns-then-count-batch-clause-received g c = λ before is.
    holds-stored (received c.chunks.output) before c.chunks.batch c.chunks.count c.chunks.chunk
    c.chunks.invariant.room (c.chunks.invariant.holds before is)

pub returns-in-None-clause-bound : goal.returns-in-None-clause-bound
returns-in-None-clause-bound g c = λ before is.
    let n = holds-number (received c.chunks.output) before c.chunks.batch c.chunks.count c.chunks.chunk
    (omega (arith, c.chunks.invariant.room)) (c.chunks.invariant.holds before is) in
    omega (arith, n, c.is_end.ensures.bound)

pub returns-in-None-clause-received : goal.returns-in-None-clause-received
returns-in-None-clause-received g c = λ before is.
    c.in-None.ensures.none.0
    ∙ holds-stored (received c.chunks.output) before c.chunks.batch c.chunks.count c.chunks.chunk
    c.chunks.invariant.room (c.chunks.invariant.holds before is)

pub returns-clause-bound : goal.returns-clause-bound
returns-clause-bound g c = λ before is.
    let n = holds-number (received c.chunks.output) before c.chunks.batch c.chunks.count c.chunks.chunk
    (omega (arith, c.chunks.invariant.room)) (c.chunks.invariant.holds before is) in
    omega (arith, n, c.is_end.ensures.bound)

pub returns-clause-received : goal.returns-clause-received
returns-clause-received g c = λ before is.
    holds-end (received c.chunks.output) (before ++ samples_of (take c.chunks.count c.chunks.batch)) c.chunks.chunk
    (nil_from_length c.chunks.chunk.samples (c.is_end.ensures.end.0 (search rules)))
    (c.chunks.invariant.holds before is)
