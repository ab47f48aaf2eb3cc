-- What is before the frame, the frame, and its front.
use Rattle.envelope_view.proofs.Common.{◌≡◌, ◌+◌, ◌-◌, ◌*◌, ◌∙◌, ℕ, ℤ, List, length, min, ap, arith, summary_of}
use Rattle.envelope_view.proofs.BlockReads.{block_err, block_ok, on_back, part_frames_next, three_reads}
use Rattle.envelope_view.proofs.{KeptLaws.part_in, SumLaws.part_end, SumLaws.part_joined, SumLaws.stop_same}
use Rattle.envelope_view.proofs.halves.up_to_edge.Goals as goal

pub sides-requires-clause-whole : goal.sides-requires-clause-whole
sides-requires-clause-whole g c = on_back {was = λ xs. Unit {0}} c.in_ok-whole.ensures (λ xs of was got.
    let start : ℕ = 65536 * c.args.frame in
    let end : ℕ = 65536 * (c.args.frame + 1) in
    let stop : c.args.at.to ≡ min c.args.at.to end = omega (arith, c.requires.few) in
    let same : min end (length xs) ≡ min c.args.at.to (length xs) =
    stop_same end c.args.at.to c.args.block.len c.args.at.to
    (length xs) stop (λ lt. c.requires.last (omega (arith, lt))) c.requires.within of.len in
    got ∙ ap (λ (ys : List ℤ). summary_of ys) (part_end start end c.args.at.to xs same))
    (λ told xs e len. tt)

pub returns-in_err-front : goal.returns-in_err-front
returns-in_err-front g c = block_err _ c.from_residual.ensures.1 c.in_err-front.ensures
    (part_in _ c.args.block c.args.at.from c.args.at.to c.args.at.from _ (omega arith)
    (omega (arith, c.requires.before, c.requires.behind)))

pub returns-in_err-whole : goal.returns-in_err-whole
returns-in_err-whole g c = block_err _ c.from_residual-in_err-whole.ensures.1
    (part_frames_next (c.args.frame + 1 - c.args.frame) c.args.at.from c.args.at.to c.in_ok-front.ensures
    c.in_err-whole.ensures (omega (arith, c.requires.before, c.requires.behind)) c.requires.rising
    (omega (arith, c.requires.before, c.requires.behind)))
    (λ has. has)

pub returns-in_err-halves : goal.returns-in_err-halves
returns-in_err-halves g c = block_err _ c.from_residual-in_err-halves.ensures.1
    (three_reads (c.args.frame + 1 - c.args.frame) c.args.at.from c.args.at.to c.in_ok-front.ensures
    c.in_ok-whole.ensures c.in_err-halves.ensures (omega (arith, c.requires.before, c.requires.behind))
    c.requires.rising (omega (arith, c.requires.before, c.requires.behind)) c.requires.rising)
    (λ has. has)

pub returns : goal.returns
returns g c = block_ok
    (three_reads (c.args.frame + 1 - c.args.frame) c.args.at.from c.args.at.to c.in_ok-front.ensures
    c.in_ok-whole.ensures c.in_ok-halves.ensures (omega (arith, c.requires.before, c.requires.behind))
    c.requires.rising (omega (arith, c.requires.before, c.requires.behind)) c.requires.rising)
    (λ has. has) (λ xs of got. (
      c.join.ensures.exact ∙ part_joined c.args.at.from (65536 * c.args.frame) c.args.at.edge xs c.in_ok-front.front
          c.in_ok-halves.halves.before of.fit of.few c.requires.rising (omega (arith, c.requires.before)) got.0.0 got.1.0,
      got.1.1,
    ))
