-- Each block goes on with the recording, and each end is told.
use Rattle.std.proofs.Common.{◌≡◌, ◌^◌, [], ◌++◌, length, take, arith, refl, sym, ◌∙◌}
use Rattle.record_ring.specs.Ends.{SameIn-trans}
use Rattle.recorder_threads.proofs.WaveLemmas.{length-chunks}
use Rattle.recorder_threads.proofs.CaptureLemmas.{Reads-start, Reads-follows, Captures-end, after_block}
use Rattle.recorder_threads.specs.declared.microphone.MicEnd.TheVariants as mic
use Rattle.recorder_threads.proofs.microphone.capture.Goals as goal

pub loop-number-init : goal.loop-number-init
loop-number-init g c = record {
  done = [];
  whole = refl;
  reads = Reads-start _ _ c.requires;
  goes = λ first h. h;
  ring = ((refl, refl, refl, refl), refl);
  count = refl;
  wide = refl;
}

pub send_bytes-requires-clause-order : goal.send_bytes-requires-clause-order
send_bytes-requires-clause-order g c =
    let i = c.loop-number.invariant in
    Reads-follows c.loop-number.number [] i.reads (sym (length-chunks c.loop-number.number i.done i.whole))

pub loop-number-preserved : goal.loop-number-preserved
loop-number-preserved g c =
    let i = c.loop-number.invariant in
    let h = after_block c.loop-number.number c.read_block-block.result.len i.done c.read_block-block.new.bytes
    (c.read_block-block.auto.bytes ∙ i.wide) c.read_block-block.ensures.bound i.whole i.reads
    c.read_block-block.ensures.read c.send_bytes.ensures.sent in
    let block = take c.read_block-block.result.len c.read_block-block.new.bytes in
    let full = rw c.in-Full.is at c.read_block-block.ensures.end in
    record {
      done = i.done ++ block;
      whole = omega (arith, h.long, full.0);
      reads = h.reads;
      goes = λ first kept. rw c.in-Full.is at (c.read_block-block.ensures.goes first (i.goes first kept));
      ring = SameIn-trans c.args.input c.loop-number.input c.send_bytes.new.input i.ring c.send_bytes.ensures.ring;
      count = full.1 ∙ i.count;
      wide = c.read_block-block.auto.bytes ∙ i.wide;
    }

pub finish-requires : goal.finish-requires
finish-requires g c =
    let i = c.loop-number.invariant in
    let h = after_block c.loop-number.number c.read_block-block.result.len i.done c.read_block-block.new.bytes
    (c.read_block-block.auto.bytes ∙ i.wide) c.read_block-block.ensures.bound i.whole i.reads
    c.read_block-block.ensures.read c.send_bytes.ensures.sent in
    Reads-follows c.number_after-next.result [] h.reads (c.number_after-next.ensures ∙ h.count)

pub returns-in-End : goal.returns-in-End
returns-in-End g c =
    let i = c.loop-number.invariant in
    let h = after_block c.loop-number.number c.read_block-block.result.len i.done c.read_block-block.new.bytes
    (c.read_block-block.auto.bytes ∙ i.wide) c.read_block-block.ensures.bound i.whole i.reads
    c.read_block-block.ensures.read c.send_bytes.ensures.sent in
    let end = rw c.in-End.is at c.read_block-block.ensures.end in
    Captures-end _ _ _ _ _ mic.End c.number_after-next.result _ c.finish.ensures.back h.reads
    (c.number_after-next.ensures ∙ h.count) c.finish.ensures.sent
    (omega (arith, h.long, end.0, c.loop-number-test.true), end.1 ∙ i.count, end.2)
    (λ first kept. rw c.in-End.is at (c.read_block-block.ensures.goes first (i.goes first kept)))
    (SameIn-trans c.args.input c.send_bytes.new.input c.finish.result.input (SameIn-trans c.args.input
    c.loop-number.input c.send_bytes.new.input i.ring c.send_bytes.ensures.ring) c.finish.ensures.ring)

pub finish-requires-in-Fault : goal.finish-requires-in-Fault
finish-requires-in-Fault g c =
    let i = c.loop-number.invariant in
    let h = after_block c.loop-number.number c.read_block-block.result.len i.done c.read_block-block.new.bytes
    (c.read_block-block.auto.bytes ∙ i.wide) c.read_block-block.ensures.bound i.whole i.reads
    c.read_block-block.ensures.read c.send_bytes.ensures.sent in
    Reads-follows c.number_after-next-in-Fault.result [] h.reads (c.number_after-next-in-Fault.ensures ∙ h.count)

pub returns-in-Fault : goal.returns-in-Fault
returns-in-Fault g c =
    let i = c.loop-number.invariant in
    let h = after_block c.loop-number.number c.read_block-block.result.len i.done c.read_block-block.new.bytes
    (c.read_block-block.auto.bytes ∙ i.wide) c.read_block-block.ensures.bound i.whole i.reads
    c.read_block-block.ensures.read c.send_bytes.ensures.sent in
    let end = rw c.in-Fault.is at c.read_block-block.ensures.end in
    Captures-end _ _ _ _ _ mic.Fault c.number_after-next-in-Fault.result _ c.finish-in-Fault.ensures.back h.reads
    (c.number_after-next-in-Fault.ensures ∙ h.count) c.finish-in-Fault.ensures.sent
    (omega (arith, h.long, end.0, c.loop-number-test.true), rw (← i.count) end.1)
    (λ first kept. rw c.in-Fault.is at (c.read_block-block.ensures.goes first (i.goes first kept)))
    (SameIn-trans c.args.input c.send_bytes.new.input c.finish-in-Fault.result.input (SameIn-trans c.args.input
    c.loop-number.input c.send_bytes.new.input i.ring c.send_bytes.ensures.ring) c.finish-in-Fault.ensures.ring)

pub finish-requires-2 : goal.finish-requires-2
finish-requires-2 g c =
    let i = c.loop-number.invariant in
    let all : c.loop-number.number ≡ 16777216 = omega arith in
    Reads-follows 16777216 [] i.reads (sym (length-chunks c.loop-number.number i.done i.whole ∙ all))

pub returns : goal.returns
returns g c =
    let i = c.loop-number.invariant in
    let all : c.loop-number.number ≡ 16777216 = omega arith in
    let long : length i.done ≡ 2 ^ 33 = omega (arith, i.whole, all) in
    let ring = SameIn-trans c.args.input c.loop-number.input c.finish-2.result.input i.ring c.finish-2.ensures.ring in
    Captures-end _ _ _ _ _ mic.Limit 16777216 i.done c.finish-2.ensures.back i.reads (sym
    (length-chunks c.loop-number.number i.done i.whole ∙ all)) c.finish-2.ensures.sent (long, i.count) i.goes ring
