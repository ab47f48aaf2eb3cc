-- The order of moments.
use Rattle.std.proofs.Common.{arith}
use Rattle.disk_model.specs.Moment.{Moment, At, Both, IsUpTo}

pub upto_refl : (a : Moment) → IsUpTo a a
upto_refl (At n) = omega arith
upto_refl (Both i a b) = (omega arith, upto_refl a, upto_refl b)

pub upto_trans : (a b c : Moment) → IsUpTo a b → IsUpTo b c → IsUpTo a c
upto_trans (At m) (At n) (At k) p q = omega (arith, p, q)
upto_trans (Both i a b) (Both j c d) (Both k e f) p q =
    (omega (arith, p.0, q.0), upto_trans a c e p.1 q.1, upto_trans b d f p.2 q.2)
upto_trans (At m) (Both j c d) z p q = absurd p
upto_trans (Both i a b) (At n) z p q = absurd p
upto_trans (At m) (At n) (Both k e f) p q = absurd q
upto_trans (Both i a b) (Both j c d) (At k) p q = absurd q
