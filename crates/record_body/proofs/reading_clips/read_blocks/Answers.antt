-- The block at hand stands in front of those that are left.
use Rattle.record_body.proofs.Common.{◌≡◌, List, ◌+◌, ◌-◌, ◌*◌, ◌<◌, refl, sym, ap, arith, exit_err, BlockRef, field}
use Rattle.record_body.proofs.Common.{block_tests, all_pass}
use Rattle.record_body.proofs.Steps.{row_next, row_passes, row_stops, row_values}
use Rattle.record_body.specs.declared.limits.BadBody.TheVariants as bad
use Rattle.record_body.proofs.reading_clips.read_blocks.Goals as goal

pub returns-in_err-block : goal.returns-in_err-block
returns-in_err-block c =
    let any : List BlockRef → Type 0 = λ x. Unit {0} in
    let fails = row_stops _ _ _ _ _ _ _ _ c.loop-i.invariant.0 (λ n. refl) any any
    (bad.Damaged c.in_err-block.field-0.0) (omega (arith, c.loop-i-test.true)) c.in_err-block.ensures in
    rw (exit_err c.from_residual-in_err-block.result c.from_residual-in_err-block.ensures.1) fails

pub loop-i-preserved : goal.loop-i-preserved
loop-i-preserved c =
    let bytes = c.args.bytes.now in
    let at = c.args.row.at + 12 * c.loop-i.i in
    let before = c.loop-i.before in
    let some : 0 < c.args.row.count - c.loop-i.i = omega (arith, c.loop-i-test.true) in
    let less : c.args.row.count - (c.loop-i.i + 1) ≡ c.args.row.count - c.loop-i.i - 1 = omega arith in
    let ends : at + 12 ≡ c.args.row.at + 12 * (c.loop-i.i + 1) = omega arith in
    let len : before + field (at + 8) 4 bytes ≡ before + c.in_ok-block.block.len =
    ap (λ b. before + b.len) (sym c.in_ok-block.ensures.1) in
    let pass =
    all_pass (block_tests c.args.limits c.args.several before at bytes) c.in_ok-block.ensures.0 in (
      row_next _ _ _ _ _ _ _ _ c.loop-i.invariant.0 (λ n. refl) (λ n. refl) _ _ _ _ _ some less
          c.in_ok-block.ensures.0 (sym c.in_ok-block.ensures.1) len ends c.push_reserved.ensures.items,
      omega (arith, pass.1.1.0, len, c.loop-i.invariant.1),
      omega (arith, c.push_reserved.ensures.len, c.loop-i.invariant.2),
      omega (arith, c.push_reserved.ensures.capacity, c.loop-i.invariant.3),
    )

pub returns : goal.returns
returns c =
    let none : c.args.row.count - c.loop-i.i ≡ 0 = omega (arith, c.loop-i-test.false) in (
      row_passes _ _ _ _ _ _ _ _ none refl c.loop-i.invariant.0,
      row_values _ _ _ _ _ _ _ _ none refl c.loop-i.invariant.0,
    )
