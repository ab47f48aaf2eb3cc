-- Two fields, and the blocks.
use Rattle.record_body.proofs.Common.{◌+◌, [], ◌∷◌, arith, blocks_widths}
use Rattle.record_body.proofs.Reaching.{counted_on}
use Rattle.record_body.proofs.changes_measuring.fit_fresh.Goals as goal

pub returns : goal.returns
returns c = counted_on c.args.bytes.now (4 ∷ 4 ∷ []) (λ n at. blocks_widths n)
    (c.args.at + 9) (c.args.at + 13) (c.args.at + 17) _ _ c.fit_blocks.result (omega arith)
    (omega arith) c.in_ok-end.ensures.0 c.in_ok-end.ensures.1 c.u32_at.ensures c.fit_blocks.ensures
