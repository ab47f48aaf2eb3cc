-- The samples of one frame more are taken, and their frame is stored.
use Rattle.std.proofs.Common.{◌≡◌, ◌∙◌, ℕ, ℤ, List, map, ◌≤◌, ◌<◌, ◌+◌, ◌*◌, ◌++◌, sym, ap, length, take, drop, arith}
use Rattle.std.proofs.lemmas.List.{take_more_set, take_all}
use Rattle.std.proofs.{lemmas.List.FromFn.map-range_with_len_more, Math.Seq.take-add}
use Rattle.std.specs.{Prelude.set, List.range_with_len}
use Rattle.peak_summary.specs.{declared.stretch.Summary.Summary, Peaks.frame_of, Peaks.frame_count, Peaks.frames_of}
use Rattle.sample_block.specs.Faults.{samples_in}
use Rattle.sample_block.proofs.Laws.{length_samples}
use Rattle.sample_block.proofs.reading.take_samples.Goals as goal

taken_more : (xs out new : List ℤ) (i : ℕ) → out ≡ take (256 * i) xs → new ≡ out ++ take 256 (drop (256 * i) xs)
    → new ≡ take (256 * (i + 1)) xs
taken_more xs out new i before is =
    let next : 256 * i + 256 ≡ 256 * (i + 1) = omega arith in
    is ∙ ap (λ (ys : List ℤ). ys ++ take 256 (drop (256 * i) xs)) before ∙ sym (take-add (256 * i) 256 xs)
    ∙ ap (λ (n : ℕ). take n xs) next

frame_more : (xs : List ℤ) (short : List Summary) (i : ℕ) (s : Summary) → i < length short → s ≡ frame_of 256 xs i
    → take i short ≡ map (frame_of 256 xs) (range_with_len 0 i)
    → take (i + 1) (set short i s) ≡ map (frame_of 256 xs) (range_with_len 0 (i + 1))
frame_more xs short i s lt here before =
    let more = map-range_with_len_more (frame_of 256 xs) 0 i i (omega arith) in
    let stored = take_more_set short i s lt in
    cc

pub loop-i-preserved : goal.loop-i-preserved
loop-i-preserved c =
    let xs : List ℤ = samples_in c.args.bytes.now 16 c.args.len in
    record {
      samples = taken_more xs c.loop-i.out.items c.take_frame.new.out.items c.loop-i.i c.loop-i.invariant.samples
          c.in_ok-short.ensures.samples;
      stored = frame_more xs c.loop-i.short c.loop-i.i c.in_ok-short.field-0
          (omega (arith, c.loop-i-test.true, c.loop-i.auto.short)) c.in_ok-short.ensures.frame
          c.loop-i.invariant.stored;
    }

all_stored : (short : List Summary) (bytes : List ℕ) (len i : ℕ) → length short ≤ i → length short ≡ frame_count 256 len
    → i ≤ length short → take i short ≡ map (frame_of 256 (samples_in bytes 16 len)) (range_with_len 0 i)
    → short ≡ frames_of 256 (samples_in bytes 16 len)
all_stored short bytes len i last long far stored =
    let size : i ≡ frame_count 256 (length (samples_in bytes 16 len)) =
    omega (arith, last, far) ∙ long ∙ ap (frame_count 256) (sym (length_samples bytes 16 len)) in
    sym (take_all i short last) ∙ stored
    ∙ ap (λ (n : ℕ). map (frame_of 256 (samples_in bytes 16 len)) (range_with_len 0 n)) size

pub returns-clause-samples : goal.returns-clause-samples
returns-clause-samples c =
    let xs : List ℤ = samples_in c.args.bytes.now 16 c.args.len in
    let long = length_samples c.args.bytes.now 16 c.args.len in
    c.loop-i.invariant.samples
    ∙ take_all (256 * c.loop-i.i) xs (omega (arith, long, c.loop-i-test.false, c.requires.count))

pub returns-clause-short : goal.returns-clause-short
returns-clause-short c = all_stored c.loop-i.short c.args.bytes.now c.args.len c.loop-i.i
    (omega (arith, c.loop-i.auto.short, c.loop-i-test.false)) (c.loop-i.auto.short ∙ c.requires.count)
    (omega (arith, c.loop-i.auto.short, c.loop-i.auto.i-end)) c.loop-i.invariant.stored
