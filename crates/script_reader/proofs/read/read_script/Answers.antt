-- One buffer more, and each end.
use Rattle.std.proofs.Common.{◌≡◌, ◌<◌, ℕ, zero, suc, Ok, refl, inl, inr, subst, ◌∙◌, arith, length, take, drop}
use Rattle.std.proofs.{lemmas.Grind.common_steps, lemmas.List.take-append-le, lemmas.List.length-take-le}
use Rattle.edit_ports.specs.Told.{Course, Open, Over, after_bytes}
use Rattle.script_reader.specs.{declared.stop.Stop.Stop, Change.Change, Progress.IsCourse, Progress.IsSinkCauseOf}
use Rattle.script_reader.proofs.ReadingLemmas.{Reading-start, Reading-more, Ran-source, Ran-limit, Ran-end, Ran-out}
use Rattle.script_reader.proofs.ReadingLemmas.{end_cause}
use Rattle.script_reader.specs.declared.stop.Stop.TheVariants as stop
use Rattle.script_reader.proofs.read.read_script.Goals as goal

-- a read that gave bytes leaves more to come, and one that gave none found the end
goes_on : (n : ℕ) → 0 < n → after_bytes (Ok n) ≡ Open
goes_on zero some = absurd (omega (arith, some))
goes_on (suc n) some = refl

is_over : (n : ℕ) → n ≡ 0 → after_bytes (Ok n) ≡ Over
is_over zero none = refl
is_over (suc n) none = absurd (omega (arith, none))

-- at its end a script stops by that, or by a fault of the output
at_end : (stop : Stop) (sink : Change ℕ) → IsSinkCauseOf stop sink → IsCourse stop Over
at_end stop.End sink is = refl
at_end stop.OutFault sink is = inr refl
at_end stop.SourceFault sink is = absurd is
at_end stop.Limit sink is = absurd is

pub loop-total-init : goal.loop-total-init
loop-total-init g c = record {
  goes = λ start going. Reading-start _ _ _ going;
  follows = λ first h. h;
  reads = λ first h. h;
  bound = omega arith;
  source = refl;
  sink = refl;
}

pub returns-in-Err-clause-ran : goal.returns-in-Err-clause-ran
returns-in-Err-clause-ran g c =
    λ start going. Ran-source _ _ _ _ _ _ c.in-Err.ensures.err (c.loop-total.invariant.goes start going)

pub returns-then-count-eq0-clause-ran : goal.returns-then-count-eq0-clause-ran
returns-then-count-eq0-clause-ran g c = λ start going.
    let moves = rw c.if-count-eq0.true at c.in-Ok.ensures.bytes in
    let room : 0 < length (take c.min-most.result c.loop-total.buffer) = grind (arith, common_steps) in
    Ran-end c.end_script.result _ _ _ _ _ _ _
    (omega arith) moves (c.in-Ok.ensures.end c.if-count-eq0.true room) (c.end_script.ensures.ended start)
    (c.loop-total.invariant.goes start going)

pub returns-in-Err-clause-reads : goal.returns-in-Err-clause-reads
returns-in-Err-clause-reads g c = record {
  course = _;
  is = refl;
  goes = λ first h.
      let room : 0 < length (take c.min-most.result c.loop-total.buffer) = grind (arith, common_steps) in
      c.in-Err.ensures.goes first (c.loop-total.invariant.reads first h) room;
}

pub returns-then-count-eq0-clause-reads : goal.returns-then-count-eq0-clause-reads
returns-then-count-eq0-clause-reads g c = record {
  course = Over;
  is = at_end c.end_script.result _ c.end_script.ensures.cause;
  goes = λ first h.
      let room : 0 < length (take c.min-most.result c.loop-total.buffer) = grind (arith, common_steps) in
      subst (λ (r : Course). g.A.Source.follows first r c.read.new.self) (is_over c.in-Ok.count c.if-count-eq0.true)
      (c.in-Ok.ensures.goes first (c.loop-total.invariant.reads first h) room);
}

pub returns-in-Err-take_buffer-clause-reads : goal.returns-in-Err-take_buffer-clause-reads
returns-in-Err-take_buffer-clause-reads g c = record {
  course = Open;
  is = inl refl;
  goes = λ first h.
      let room : 0 < length (take c.min-most.result c.loop-total.buffer) = grind (arith, common_steps) in
      subst (λ (r : Course). g.A.Source.follows first r c.read.new.self) (goes_on c.in-Ok.count (omega arith))
      (c.in-Ok.ensures.goes first (c.loop-total.invariant.reads first h) room);
}

pub returns-clause-reads : goal.returns-clause-reads
returns-clause-reads g c = record { course = Open; is = refl; goes = c.loop-total.invariant.reads }

pub returns-then-count-eq0-clause-cause : goal.returns-then-count-eq0-clause-cause
returns-then-count-eq0-clause-cause g c =
    end_cause c.end_script.result _ _ (c.in-Ok.ensures.cause.kept ∙ c.loop-total.invariant.source)
    (rw c.loop-total.invariant.sink at c.end_script.ensures.cause)

pub returns-in-Err-take_buffer-clause-ran : goal.returns-in-Err-take_buffer-clause-ran
returns-in-Err-take_buffer-clause-ran g c = λ start going.
    let front = take-append-le c.in-Ok.count c.read.new.buf
    (drop c.min-most.result c.loop-total.buffer) c.in-Ok.ensures.bound in
    let halts = rw front at (c.in-Err-take_buffer.ensures.goes start) in
    Ran-out _ _ _ _ _ _ c.in-Err-take_buffer.field-0 _ _ c.in-Ok.ensures.bytes halts
    (c.loop-total.invariant.goes start going)

pub loop-total-preserved : goal.loop-total-preserved
loop-total-preserved g c = record {
  goes = λ start going.
      let front = take-append-le c.in-Ok.count c.read.new.buf
      (drop c.min-most.result c.loop-total.buffer) c.in-Ok.ensures.bound in
      let goes = rw front at (c.in-Ok-take_buffer.ensures.goes start) in
      Reading-more _ _ _ _ _ _ _ _ c.in-Ok.count _ c.in-Ok.ensures.bytes
      (length-take-le _ _ c.in-Ok.ensures.bound) goes (c.loop-total.invariant.goes start going);
  follows = λ first h. c.in-Ok-take_buffer.ensures.follows first (c.loop-total.invariant.follows first h);
  reads = λ first h.
      let room : 0 < length (take c.min-most.result c.loop-total.buffer) = grind (arith, common_steps) in
      subst (λ (r : Course). g.A.Source.follows first r c.read.new.self) (goes_on c.in-Ok.count (omega arith))
      (c.in-Ok.ensures.goes first (c.loop-total.invariant.reads first h) room);
  bound = grind (arith, common_steps);
  source = c.in-Ok.ensures.cause.kept ∙ c.loop-total.invariant.source;
  sink = c.in-Ok-take_buffer.ensures.cause.kept ∙ c.loop-total.invariant.sink;
}

pub returns-clause-ran : goal.returns-clause-ran
returns-clause-ran g c =
    λ start going. Ran-limit _ _ _ _ _ (omega arith) (c.loop-total.invariant.goes start going)
