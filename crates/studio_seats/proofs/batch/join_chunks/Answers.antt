-- One chunk more, and the end.
use Rattle.studio_seats.proofs.Common.{◌≡◌, ℕ, ◌+◌, ◌-◌, ◌*◌, ◌<◌, ◌≤◌, ℤ, List, length, take, ap, ◌∙◌, arith}
use Rattle.studio_seats.proofs.Common.{length-take-le, Part}
use Rattle.studio_seats.proofs.Batches.{joined_end, joined_length, joined_put, one_more, put_length}
use Rattle.studio_seats.proofs.batch.join_chunks.Goals as goal

pub returns-then-ends_before-clause-pieces : goal.returns-then-ends_before-clause-pieces
returns-then-ends_before-clause-pieces c =
    let i = c.chunks.invariant in
    let count : ℕ = c.chunks.count in
    let some : 0 < count = c.ends_before.ensures.some c.if-ends_before.true in
    let long : length (take (count * 256) c.chunks.batch) ≡ count * 256 = length-take-le (count * 256) c.chunks.batch
    (omega (arith, i.wide, c.chunks-test.true, c.min-all.ensures, c.requires.few)) in
    joined_end c.args.chunks.now (take (count * 256) c.chunks.batch) (count * 256) count long (omega (arith, some))
    i.parts

pub returns-then-samples-lt-CHUNK_SAMPLES-clause-pieces :
    goal.returns-then-samples-lt-CHUNK_SAMPLES-clause-pieces
returns-then-samples-lt-CHUNK_SAMPLES-clause-pieces c =
    let i = c.chunks.invariant in
    let chunks = c.args.chunks.now in
    let count : ℕ = c.chunks.count in
    let new : List ℤ = c.copy_from_slice.new.self in
    let size : ℕ = length c.as_slice-samples.result.now in
    let same : length new ≡ size = ap length c.copy_from_slice.ensures.after in
    let piece = c.copy_from_slice.ensures.after ∙ c.as_slice-samples.ensures.samples
    ∙ ap (λ (p : Part). p.samples) c.index-chunks-count.is in
    let room : count * 256 ≤ length c.chunks.batch =
    omega (arith, i.wide, c.chunks-test.true, c.min-all.ensures, c.requires.few) in
    let below : count < length chunks = omega (arith, c.chunks-test.true, c.min-all.ensures) in
    let short : size < 256 = c.if-samples-lt-CHUNK_SAMPLES.true in
    let end : count * 256 + size ≡ count * 256 + length new = omega (arith, same) in
    joined_end chunks _ (count * 256 + size) (count + 1)
    (joined_length c.chunks.batch new (count * 256) _ (count * 256 + size) room end)
    (one_more count size (omega (arith, short)) (c.ends_before.ensures.none c.if-ends_before.false))
    (joined_put chunks c.index-chunks-count.result c.chunks.batch new count _ (count * 256 + size) below room piece
    (omega (arith, same, short)) end i.parts)

pub chunks-preserved : goal.chunks-preserved
chunks-preserved c =
    let i = c.chunks.invariant in
    let chunks = c.args.chunks.now in
    let count : ℕ = c.chunks.count in
    let new : List ℤ = c.copy_from_slice.new.self in
    let size : ℕ = length c.as_slice-samples.result.now in
    let same : length new ≡ size = ap length c.copy_from_slice.ensures.after in
    let piece = c.copy_from_slice.ensures.after ∙ c.as_slice-samples.ensures.samples
    ∙ ap (λ (p : Part). p.samples) c.index-chunks-count.is in
    let bound = ap length c.as_slice-samples.ensures.samples in
    let whole : size ≡ 256 =
    omega (arith, bound, c.as_slice-samples.ensures.bound, c.if-samples-lt-CHUNK_SAMPLES.false) in
    let most : count < 64 = omega (arith, c.chunks-test.true, c.min-all.ensures, c.requires.few) in
    let room : count * 256 + size ≤ length c.chunks.batch = omega (arith, i.wide, most, whole) in
    let below : count < length chunks = omega (arith, c.chunks-test.true, c.min-all.ensures) in record {
      wide = put_length c.chunks.batch new (count * 256) (count * 256 + size - count * 256) (omega (arith, room))
          (omega (arith, same)) ∙ i.wide;
      low = omega (arith, c.chunks-test.true);
      parts = joined_put chunks c.index-chunks-count.result c.chunks.batch new count _ ((count + 1) * 256) below
          (omega (arith, room)) piece (omega (arith, same, whole)) (omega (arith, same, whole)) i.parts;
    }

pub returns-clause-pieces : goal.returns-clause-pieces
returns-clause-pieces c =
    let i = c.chunks.invariant in
    let count : ℕ = c.chunks.count in
    let some : 0 < count =
    omega (arith, c.chunks-test.false, c.min-all.ensures, c.requires.some.0, c.requires.some.1) in
    let long : length (take (count * 256) c.chunks.batch) ≡ count * 256 = length-take-le (count * 256) c.chunks.batch
    (omega (arith, i.wide, i.low, c.min-all.ensures, c.requires.few)) in
    joined_end c.args.chunks.now (take (count * 256) c.chunks.batch) (count * 256) count long (omega (arith, some))
    i.parts
