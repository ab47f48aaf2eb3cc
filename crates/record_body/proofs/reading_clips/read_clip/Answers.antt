-- All tests of the clip passed.
use Rattle.record_body.proofs.Common.{◌+◌, ◌^◌, ◌≤◌, nat_lt, [], ◌∷◌, ap, arith}
use Rattle.record_body.proofs.Common.{blocks_tests, all_pass}
use Rattle.record_body.proofs.ValidBodies.{valid_blocks, half_full}
use Rattle.record_body.proofs.reading_clips.read_clip.Goals as goal

pub of_rows-blocks-requires : goal.of_rows-blocks-requires
of_rows-blocks-requires c =
    let count = c.u32_at-count.result in
    let start = c.u64_at-start.result in
    let tests = blocks_tests c.args.limits (nat_lt 1 count) count start (c.args.at + 12) c.args.bytes.now in
    let head = all_pass (c.least.result ∷ c.most.result ∷ c.least-2.result ∷ []) c.in_ok-first_failure.ensures in
    let near : start ≤ 2 ^ 32 =
    omega (arith, head.1.0, ap (λ d. d.want) c.most.ensures, ap (λ d. d.have) c.most.ensures) in
    let pass = all_pass tests c.in_ok-rows.ensures.0 in
    let valid = valid_blocks c.args.limits (nat_lt 1 count) count start (c.args.at + 12) c.args.bytes.now near pass in
    let full = half_full c.args.limits count start (c.args.at + 12) c.args.bytes.now pass in
    rw c.in_ok-rows.ensures.1 (record { full = (c.args.limits.block_size, full); none_empty = valid.1 })
