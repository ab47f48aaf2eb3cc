-- A row of blocks stands in front of those that are left.
use Rattle.record_body.proofs.Common.{◌≡◌, List, ◌+◌, ◌-◌, ◌*◌, ◌^◌, ◌≤◌, ap, sym, subst, ◌∙◌, arith, exit_err, length}
use Rattle.record_body.proofs.Common.{BlockRef, blocks_tests, blocks_at, blocks_len, lens_at, all_pass}
use Rattle.record_body.proofs.Steps.{SoFar, blocks_row}
use Rattle.record_body.proofs.RowSteps.{blocks_split, some_next, some_stop, tests_split}
use Rattle.record_body.proofs.{Sizes.length-blocks_at, Tails.len_append}
use Rattle.record_body.proofs.ValidBodies.{same_lens, valid_blocks}
use Rattle.std.specs.Global.{Vec}
use Rattle.record_body.proofs.reading_clips.read_rows.Goals as goal

pub returns-in_err-blocks : goal.returns-in_err-blocks
returns-in_err-blocks c =
    let r = c.args.row in
    let bytes = c.args.bytes.now in
    let row = blocks_row c.args.limits bytes c.args.several in
    let at = c.loop-left.at in
    let left = c.loop-left.left in
    let rows = c.loop-left.rows in
    let k = c.min-count.result in
    let before = c.args.start + c.len.result in
    let far = subst (λ n. SoFar row r.count c.args.start r.at left (c.args.start + n) at rows)
    (sym c.len.ensures.value) c.loop-left.invariant.0 in
    let found : Vec BlockRef → Type 0 = λ v. v.items ≡ blocks_at k at bytes in
    let all : List BlockRef → Type 0 = λ l. l ≡ blocks_at r.count r.at bytes in
    let within : k ≤ left = omega (arith, c.min-count.ensures) in
    let tests = tests_split c.args.limits c.args.several bytes k left before at within in
    rw (exit_err c.from_residual.result c.from_residual.ensures.1)
    (some_stop row r.count c.args.start r.at left before at rows far k (before + lens_at k at bytes) (at + 12 * k) tests
    found all c.in_err-blocks.field-0.0 c.in_err-blocks.ensures)

pub push-requires-clause-short : goal.push-requires-clause-short
push-requires-clause-short c =
    let count = length-blocks_at c.args.bytes.now c.min-count.result c.loop-left.at in
    omega (arith, ap length c.in_ok-blocks.ensures.1, count, c.min-count.ensures, c.row_size.ensures.short)

pub push-requires-clause-few : goal.push-requires-clause-few
push-requires-clause-few c =
    let l = c.args.limits in
    let bytes = c.args.bytes.now in
    let at = c.loop-left.at in
    let k = c.min-count.result in
    let before = c.args.start + c.len.result in
    let near : before ≤ 2 ^ 32 = omega (arith, c.len.ensures.value, c.loop-left.invariant.1) in
    let pass = all_pass (blocks_tests l c.args.several k before at bytes) c.in_ok-blocks.ensures.0 in
    let valid = valid_blocks l c.args.several k before at bytes near pass in
    let len = ap blocks_len c.in_ok-blocks.ensures.1 in
    omega (arith, valid.2, same_lens k at bytes, len, c.len.ensures.value)

pub loop-left-preserved : goal.loop-left-preserved
loop-left-preserved c =
    let l = c.args.limits in
    let r = c.args.row in
    let bytes = c.args.bytes.now in
    let several = c.args.several in
    let row = blocks_row l bytes several in
    let start = c.args.start in
    let at = c.loop-left.at in
    let left = c.loop-left.left in
    let rows = c.loop-left.rows in
    let k = c.min-count.result in
    let before = start + c.len.result in
    let far = subst (λ n. SoFar row r.count start r.at left (start + n) at rows) (sym c.len.ensures.value)
    c.loop-left.invariant.0 in
    let within : k ≤ left = omega (arith, c.min-count.ensures) in
    let near : before ≤ 2 ^ 32 = omega (arith, c.len.ensures.value, c.loop-left.invariant.1) in
    let pass = all_pass (blocks_tests l several k before at bytes) c.in_ok-blocks.ensures.0 in
    let valid = valid_blocks l several k before at bytes near pass in
    let blocks = c.in_ok-blocks.blocks.items in
    let next = c.push.new.self in
    let len : blocks_len blocks ≡ lens_at k at bytes =
    omega (arith, ap blocks_len c.in_ok-blocks.ensures.1, same_lens k at bytes) in
    let sum = ap blocks_len c.in_ok-push.ensures ∙ len_append rows blocks in
    let goes : start + blocks_len next ≡ before + lens_at k at bytes = omega (arith, sum, len, c.len.ensures.value) in (
      subst (λ n. SoFar row r.count start r.at (left - k) n (at + 12 * k) next) (sym goes)
          (some_next row r.count start r.at left before at rows far k (before + lens_at k at bytes) (at + 12 * k)
          (tests_split l several bytes k left before at within) (blocks_split bytes k left at within) blocks next
          c.in_ok-blocks.ensures.0 c.in_ok-blocks.ensures.1 c.in_ok-push.ensures),
      omega (arith, valid.2, goes),
      omega (arith, within, c.loop-left.invariant.2),
    )
