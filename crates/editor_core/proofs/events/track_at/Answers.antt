-- The place of its stretch, and what stands there.
use Rattle.editor_core.proofs.Common.{◌≤◌, ◌+◌, ◌*◌, ◌∙◌, ℤ, List, length, Some, sym, ap, arith, LoadedTrack}
use Rattle.std.proofs.Math.Nat.{mul-le-mul_right}
use Rattle.mixdown.proofs.LoadLaws.{cut_at}
use Rattle.editor_core.proofs.events.track_at.Goals as goal

pub overflow_mul-from : goal.overflow_mul-from
overflow_mul-from c =
    let rows : (c.args.i + 1) * c.args.len ≤ length c.args.gains.now * c.args.len =
    mul-le-mul_right c.args.len (omega (arith, c.requires.within)) in
    omega (arith, rows, c.requires.samples)

pub samples_from-requires : goal.samples_from-requires
samples_from-requires c =
    let rows : (c.args.i + 1) * c.args.len ≤ length c.args.gains.now * c.args.len =
    mul-le-mul_right c.args.len (omega (arith, c.requires.within)) in
    omega (arith, rows, c.requires.samples)

pub returns : goal.returns
returns c =
    let one : List ℤ → LoadedTrack = λ xs. record {
      gain = c.gain_at-gain.result;
      side = c.side_at-side.result;
      samples = xs;
    } in
    cut_at c.args.len c.args.i c.args.samples.now c.args.gains.now c.args.sides.now c.gain_at-gain.result
    c.side_at-side.result c.gain_at-gain.ensures c.side_at-side.ensures
    ∙ ap (λ (xs : List ℤ). Some (one xs)) (sym (c.new.ensures ∙ c.in_ok-part.ensures))
