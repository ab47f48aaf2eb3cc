-- One sample more, and all of them.
use Rattle.std.proofs.Common.{◌<◌, ◌+◌, ◌*◌, ◌/◌, ◌≡◌, length, arith, ap, ◌∙◌}
use Rattle.std.proofs.lemmas.List.{length-set}
use Rattle.pcm_base.specs.Recordings.{numbered_part}
use Rattle.recorder_threads.proofs.WaveLemmas.{store-sample, samples-take_all}
use Rattle.recorder_threads.proofs.block.chunk_of.Goals as goal

pub loop-i-preserved : goal.loop-i-preserved
loop-i-preserved c =
    let room : c.loop-i.i < length c.loop-i.samples = omega (arith, c.loop-i.invariant.wide) in
    let within : 2 * c.loop-i.i + 1 < length c.args.bytes.now = omega arith in
    record {
      wide = length-set c.loop-i.samples c.loop-i.i _ ∙ c.loop-i.invariant.wide;
      done = store-sample c.loop-i.samples c.args.bytes.now c.loop-i.i c.from_le_bytes.result room within
          (λ k. omega (arith, c.type_inv.bytes k)) c.from_le_bytes.ensures c.loop-i.invariant.done;
    }

pub returns : goal.returns
returns c =
    let n : c.loop-i.i ≡ length c.args.bytes.now / 2 = omega arith in
    c.new.ensures ∙ ap (numbered_part c.args.number)
    (rw (← n) c.loop-i.invariant.done ∙ samples-take_all c.args.bytes.now c.loop-i.i n)
