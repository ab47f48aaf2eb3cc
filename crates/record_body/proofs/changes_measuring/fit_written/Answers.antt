-- Four fields, and the clips.
use Rattle.record_body.proofs.Common.{◌+◌, [], ◌∷◌, arith, clips_widths}
use Rattle.record_body.proofs.Reaching.{counted_on}
use Rattle.record_body.proofs.changes_measuring.fit_written.Goals as goal

pub returns : goal.returns
returns c = counted_on c.args.bytes.now (4 ∷ 1 ∷ 1 ∷ 4 ∷ []) (λ n at. clips_widths n at c.args.bytes.now)
    (c.args.at + 8) (c.args.at + 14) (c.args.at + 18) _ _ c.fit_clips.result (omega arith)
    (omega arith) c.in_ok-end.ensures.0 c.in_ok-end.ensures.1 c.u32_at.ensures c.fit_clips.ensures
