-- The bytes that were read are those of the samples.
use Rattle.std.proofs.Common.{◌≡◌, ◌+◌, ◌*◌, ◌≤◌, ℕ, ℤ, List, ◌++◌, take, drop, arith, length, length-drop, ◌∙◌, ap}
use Rattle.std.proofs.Common.{subst}
use Rattle.std.proofs.{lemmas.List.take_at, lemmas.List.length-take, lemmas.Grind.common_steps}
use Rattle.std.specs.Int.{w16, cast_signed}
use Rattle.byteorder.specs.Endian.{little_number, IsReadBy}
use Rattle.disk_model.specs.Disk.{bytes_of}
use Rattle.sample_block.specs.Faults.{samples_in}
use Rattle.sample_block.proofs.Laws.{samples_read_at}
use Rattle.block_store.proofs.reads.read_buffer.Goals as goal

buffer_read : (bytes new rest : List ℕ) (out : List ℤ) (at n size : ℕ) → length out ≡ n → size ≡ 2 * n
    → (at + size ≤ length bytes) × (new ≡ take size (drop at bytes))
    → IsReadBy (λ ys. cast_signed w16 (little_number 2 ys)) 2 (take (2 * n) (new ++ rest)) out
    → out ≡ samples_in bytes at n
buffer_read bytes new rest out at n size len e part got =
    let long : length new ≡ 2 * n =
    omega (arith, e, ap length part.1, length-take size (drop at bytes), length-drop at bytes) in
    let cut : take (2 * n) (new ++ rest) ≡ take (2 * n) (drop at bytes) =
    take_at new rest (2 * n) long ∙ part.1 ∙ ap (λ (m : ℕ). take m (drop at bytes)) e in
    let P : List ℕ → Type 0 = λ src. IsReadBy (λ ys. cast_signed w16 (little_number 2 ys)) 2 src out in
    samples_read_at bytes out at n len (subst P cut got)

pub returns-clause-samples : goal.returns-clause-samples
returns-clause-samples g c = λ told.
    let len : length c.read_i16_into.new.dst ≡ length c.args.out.now = omega (arith, c.read_i16_into.auto.dst) in
    buffer_read (bytes_of (g.S.Store.reads c.args.store.now c.args.block.id)) c.read_part.new.buf
    _ c.read_i16_into.new.dst (16 + 2 * c.args.from) (length c.args.out.now) _ len (grind (arith, common_steps))
    (c.in_default.ensures.ok told) c.read_i16_into.ensures
