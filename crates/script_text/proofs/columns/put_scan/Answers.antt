-- One number after another.
use Rattle.std.proofs.Common.{codes, w16, SFits, arith}
use Rattle.std.proofs.{lemmas.Grind.common_steps, lemmas.Int.to_z-of_z}
use Rattle.pcm_base.specs.Envelope.{rms_of}
use Rattle.script_text.specs.Text.{with_number, with_signed}
use Rattle.script_text.proofs.GatheringLemmas.{adds_then}
use Rattle.script_text.proofs.columns.put_scan.Goals as goal

pub returns-clause-bytes : goal.returns-clause-bytes
returns-clause-bytes g c =
    let x = c.args.scan.now in
    let low : SFits w16 x.min = grind (arith, common_steps) in
    let high : SFits w16 x.max = grind (arith, common_steps) in
    let min = adds_then _ _ _ _ _ _ (codes "\ncol") (with_signed x.min) c.put.ensures.bytes
    (rw (to_z-of_z w16 x.min low) at c.put_signed.ensures.bytes) in
    let max = adds_then _ _ _ _ _ _ _ (with_signed x.max) min
    (rw (to_z-of_z w16 x.max high) at c.put_signed-2.ensures.bytes) in
    let squares = adds_then _ _ _ _ _ _ _ (with_number x.squares) max c.put_number.ensures.bytes in
    let count = adds_then _ _ _ _ _ _ _ (with_number x.count) squares c.put_number-2.ensures.bytes in
    adds_then _ _ _ _ _ _ _ (with_number (rms_of x)) count (rw c.rms.ensures at c.put_number-3.ensures.bytes)
