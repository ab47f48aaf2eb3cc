-- What was read are the samples.
use Rattle.std.proofs.Common.{◌≡◌, ◌+◌, ◌*◌, ◌-◌, ℕ, ℤ, List, length, take, drop, arith, subst}
use Rattle.std.specs.Int.{w16, cast_signed}
use Rattle.byteorder.specs.Endian.{little_number, IsReadBy}
use Rattle.sample_block.specs.Faults.{samples_in}
use Rattle.sample_block.proofs.Laws.{samples_read_at}
use Rattle.sample_block.proofs.samples.read_samples.Goals as goal

all_read : (bytes : List ℕ) (out : List ℤ) (at n size : ℕ) → length out ≡ n → size ≡ 2 * n
    → IsReadBy (λ ys. cast_signed w16 (little_number 2 ys)) 2 (take size (drop at bytes)) out
    → out ≡ samples_in bytes at n
all_read bytes out at n size len wide got =
    samples_read_at bytes out at n len (subst
    (λ (m : ℕ). IsReadBy (λ ys. cast_signed w16 (little_number 2 ys)) 2 (take m (drop at bytes)) out) wide got)

pub returns : goal.returns
returns c =
    all_read c.args.bytes.now c.read_i16_into.new.dst c.args.at (length c.args.out.now)
    (c.args.at + 2 * length c.args.out.now - c.args.at) (omega (arith, c.read_i16_into.auto.dst))
    (omega arith) c.read_i16_into.ensures
