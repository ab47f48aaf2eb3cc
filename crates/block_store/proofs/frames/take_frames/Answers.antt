-- One frame more is stored.
use Rattle.std.proofs.Common.{◌≡◌, ◌*◌, ◌+◌, ℕ, ℤ, arith, refl}
use Rattle.std.proofs.{lemmas.List.take_more_set, lemmas.List.FromFn.map-range_with_len_more}
use Rattle.peak_summary.specs.declared.stretch.Summary.{Summary}
use Rattle.sample_block.specs.Faults.{frame_in}
use Rattle.block_store.specs.Reads.{frame_samples}
use Rattle.block_store.proofs.frames.take_frames.Goals as goal

summary_is : (s : Summary) (a b : ℤ) (c d : ℕ) → s.min ≡ a → s.max ≡ b → s.squares ≡ c → s.count ≡ d
    → s ≡ record { min = a; max = b; squares = c; count = d }
summary_is s a b c d ea eb ec ed = rw (← ea, ← eb, ← ec, ← ed) refl

pub loop-i-preserved : goal.loop-i-preserved
loop-i-preserved c =
    let more = map-range_with_len_more (λ k. frame_in c.args.bytes.now (12 * k)
    (frame_samples c.args.level c.args.len (c.args.from + k))) 0 c.loop-i.i c.loop-i.i (omega arith) in
    let stored = take_more_set c.loop-i.out c.loop-i.i c.frame_at.result (omega arith) in
    let count = c.samples_of_frame-count.ensures in
    let here : c.frame_at.result ≡ frame_in c.args.bytes.now (12 * c.loop-i.i)
    (frame_samples c.args.level c.args.len (c.args.from + c.loop-i.i)) =
    summary_is c.frame_at.result _ _ _ _ c.frame_at.ensures.min c.frame_at.ensures.max c.frame_at.ensures.squares
    (let four = c.frame_at.ensures.count in cc) in
    cc
