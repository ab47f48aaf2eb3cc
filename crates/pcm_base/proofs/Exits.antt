-- What a `?` returns where the call failed.
use Rattle.std.proofs.Common.{◌≡◌, Result, Ok, Err, sym, ap, subst}
use Rattle.std.specs.Prelude.{IsErrAnd}

-- it is the error that the call's own became
pub exit_err : {T E : Type 0} {why : E} (r : Result T E) → IsErrAnd r (λ y. y ≡ why) → r ≡ Err why
exit_err (Ok x) is = absurd is
exit_err (Err y) is = ap Err is

-- and what holds of that error holds of it
pub after_err : {T E : Type 0} (P : Result T E → Type 0) (why : E) (r : Result T E) → IsErrAnd r (λ y. y ≡ why)
    → P (Err why) → P r
after_err P why r is held = subst P (sym (exit_err r is)) held
