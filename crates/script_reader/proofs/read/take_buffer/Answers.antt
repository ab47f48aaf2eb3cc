-- One line more, and the rest of the buffer.
use Rattle.std.proofs.Common.{◌≡◌, ◌+◌, ◌-◌, ◌++◌, ◌∙◌, take, drop, arith}
use Rattle.std.proofs.lemmas.List.{take_rest}
use Rattle.pcm_base.proofs.Exits.{exit_err}
use Rattle.script_reader.proofs.GoingLemmas.{Going-more, Halted-more}
use Rattle.script_reader.proofs.BufferLemmas.{line_front, no_line, line_end, buffer_line, buffer_whole}
use Rattle.script_reader.proofs.read.take_buffer.Goals as goal

pub end_line-requires : goal.end_line-requires
end_line-requires g c =
    let found = rw take_rest at c.in-Some.ensures in
    let k : c.loop-len.at + c.in-Some.len - c.loop-len.at ≡ c.in-Some.len = omega arith in (
      c.type_bounds.sync-R,
      rw k (line_front (drop c.loop-len.at c.args.buffer.now) c.in-Some.len found.0),
    )

pub returns-in_err-end_line-clause-goes : goal.returns-in_err-end_line-clause-goes
returns-in_err-end_line-clause-goes g c = λ start read going.
    let buffer = c.args.buffer.now in
    let at = c.loop-len.at in
    let len = c.in-Some.len in
    let found = rw take_rest at c.in-Some.ensures in
    let k : at + len - at ≡ len = omega arith in
    let halted = rw (k, buffer_line read buffer at len c.loop-len.invariant.bound found.0 found.1) at
    (c.in_err-end_line.ensures.goes start (read ++ take at buffer) (c.loop-len.invariant.goes start read going)) in
    rw (exit_err c.from_residual.result c.from_residual.ensures.1, ← buffer_whole read buffer (at + (len + 1)))
    (Halted-more _ _ _ (drop (at + (len + 1)) buffer) halted)

pub loop-len-preserved : goal.loop-len-preserved
loop-len-preserved g c =
    let buffer = c.args.buffer.now in
    let at = c.loop-len.at in
    let len = c.in-Some.len in
    let found = rw take_rest at c.in-Some.ensures in
    let ends = line_end buffer at len c.loop-len.invariant.bound found.0 found.1 in
    let k : at + len - at ≡ len = omega arith in
    record {
      bound = omega (arith, ends.0);
      goes = λ start read going.
          rw (k, buffer_line read buffer at len c.loop-len.invariant.bound found.0 found.1) at
          (c.in_ok-end_line.ensures.goes start (read ++ take at buffer) (c.loop-len.invariant.goes start read going));
      follows = λ first h. c.in_ok-end_line.ensures.follows first (c.loop-len.invariant.follows first h);
      count = c.in_ok-end_line.ensures.cause.kept ∙ c.loop-len.invariant.count;
    }

pub returns-clause-goes : goal.returns-clause-goes
returns-clause-goes g c = λ start read going.
    let buffer = c.args.buffer.now in
    let at = c.loop-len.at in
    let none = rw take_rest at c.in_default.ensures in
    let grows = rw take_rest at c.extend.ensures in
    rw (← buffer_whole read buffer at) (Going-more _ _ _ (read ++ take at buffer) (drop at buffer)
    (no_line (drop at buffer) none) grows (c.loop-len.invariant.goes start read going))
