-- The samples of one frame more are written, and their frame is stored.
use Rattle.std.proofs.Common.{◌≡◌, ◌≤◌, ◌<◌, ◌+◌, ◌-◌, ◌*◌, ◌++◌, ℕ, List, length, min, take, drop, map, arith, sym, ap}
use Rattle.std.proofs.Common.{◌∙◌, inl, inr}
use Rattle.std.proofs.lemmas.List.{take_more_set, take_all, length-take, length-drop, length-append}
use Rattle.std.proofs.{lemmas.Bool.cases_lt, lemmas.List.FromFn.map-range_with_len_more, lemmas.Grind.flat_map-append}
use Rattle.std.proofs.{lemmas.Slice.take-put_mid, Math.Seq.take-add}
use Rattle.std.specs.{Prelude.ℤ, Prelude.set, List.range_with_len, List.flat_map}
use Rattle.peak_summary.specs.{Peaks.frame_of, Peaks.summary_of, declared.stretch.Summary.Summary}
use Rattle.sample_block.specs.Spelling.{sample_bytes}
use borrow.Rule.Slice.PartMut.{put_mid}
use Rattle.sample_block.proofs.writing.write_samples.Goals as goal

pub slice_bounds-write_i16_into-end : goal.slice_bounds-write_i16_into-end
slice_bounds-write_i16_into-end c = omega (arith, c.frame_samples-part.ensures.count, c.requires, c.loop-i.auto.out)

put_long : (i k : ℕ) (out dst : List ℕ) → k ≡ length dst → i + k ≤ length out
    → length (put_mid i k out dst) ≡ length out
put_long i k out dst same within =
    let post : List ℕ = drop k (drop i out) in
    omega (
      arith,
      length-append (take i out) (dst ++ post),
      length-append dst post,
      length-take i out,
      length-drop i out,
      length-drop k (drop i out),
      same,
      within,
    )

-- the bytes of a frame that may be short, after those of the frames before it
bytes_put : (i k n all : ℕ) (out dst : List ℕ) → n ≡ min 256 (all - 256 * i) → 256 * i < all → length out ≡ 2 * all
    → length dst ≡ 2 * n → k ≡ 2 * n → take (512 * (i + 1)) (put_mid (512 * i) k out dst) ≡ take (512 * i) out ++ dst
bytes_put i k n all out dst few some room long wide = elim (cases_lt n 256) [
  | inl short ↦
      let size = put_long (512 * i) k out dst (omega (arith, long, wide)) (omega (arith, room, few, some, wide)) in
      let whole = take-put_mid (512 * i) k out dst (512 * i + 2 * n) (omega (arith, long))
      (omega (arith, room, some)) in
      let last : length (put_mid (512 * i) k out dst) ≡ 512 * i + 2 * n =
      omega (arith, size, few, short, some, room, long, wide) in
      take_all (512 * (i + 1)) (put_mid (512 * i) k out dst) (omega (arith, last, short))
      ∙ sym (take_all (512 * i + 2 * n) (put_mid (512 * i) k out dst) (omega (arith, last))) ∙ whole
  | inr full ↦
      take-put_mid (512 * i) k out dst (512 * (i + 1)) (omega (arith, long, few, full)) (omega (arith, room, some))
]

samples_more : (xs : List ℤ) (i : ℕ) (part : List ℤ) → part ≡ take 256 (drop (256 * i) xs)
    → flat_map sample_bytes (take (256 * i) xs) ++ flat_map sample_bytes part
    ≡ flat_map sample_bytes (take (256 * (i + 1)) xs)
samples_more xs i part is =
    let next : 256 * i + 256 ≡ 256 * (i + 1) = omega arith in
    sym (flat_map-append sample_bytes (take (256 * i) xs) part)
    ∙ ap (λ (ys : List ℤ). flat_map sample_bytes (take (256 * i) xs ++ ys)) is
    ∙ ap (flat_map sample_bytes) (sym (take-add (256 * i) 256 xs) ∙ ap (λ (n : ℕ). take n xs) next)

frame_more : (xs : List ℤ) (short : List Summary) (i : ℕ) (s : Summary) (part : List ℤ) → i < length short
    → part ≡ take 256 (drop (256 * i) xs) → s ≡ summary_of part
    → take i short ≡ map (frame_of 256 xs) (range_with_len 0 i)
    → take (i + 1) (set short i s) ≡ map (frame_of 256 xs) (range_with_len 0 (i + 1))
frame_more xs short i s part lt is sum before =
    let more = map-range_with_len_more (frame_of 256 xs) 0 i i (omega arith) in
    let stored = take_more_set short i s lt in
    let here : s ≡ frame_of 256 xs i = sum ∙ ap summary_of is in
    cc

pub loop-i-preserved : goal.loop-i-preserved
loop-i-preserved c =
    let i : ℕ = c.loop-i.i in
    let n : ℕ = length c.frame_samples-part.result.now in
    let all : ℕ = length c.args.samples.now in
    record {
      written = bytes_put i (512 * i + 2 * n - 512 * i) n all c.loop-i.out c.write_i16_into.new.dst
          c.frame_samples-part.ensures.count (omega (arith, c.requires.count, c.loop-i-test.true))
          (omega (arith, c.requires.room, c.loop-i.auto.out)) (omega (
            arith,
            c.write_i16_into.auto.dst,
            length-take (512 * i + 2 * n - 512 * i) (drop (512 * i) c.loop-i.out),
            length-drop (512 * i) c.loop-i.out,
            c.requires.room,
            c.loop-i.auto.out,
            c.frame_samples-part.ensures.count,
          )) (omega arith)
          ∙ ap (λ (ys : List ℕ). ys ++ c.write_i16_into.new.dst) c.loop-i.invariant.written
          ∙ ap (λ (ys : List ℕ). flat_map sample_bytes (take (256 * i) c.args.samples.now) ++ ys)
          c.write_i16_into.ensures
          ∙ samples_more c.args.samples.now i c.frame_samples-part.result.now c.frame_samples-part.ensures.value;
      stored = frame_more c.args.samples.now c.loop-i.short i c.of.result c.frame_samples-part.result.now
          (omega (arith, c.loop-i-test.true, c.loop-i.auto.short)) c.frame_samples-part.ensures.value
          c.of.ensures.exact c.loop-i.invariant.stored;
    }
