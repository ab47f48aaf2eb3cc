-- What may refuse an opening, by what its steps tell.
use Rattle.editor_recovery.proofs.Common.{◌≡◌, ◌∙◌, refl, sym, ap, ℕ, Bool, true, false, cond, List, [], ◌∷◌}
use Rattle.editor_recovery.proofs.Common.{Option, Some, Result, Err, Ok, find, BlockRef, OpenFault, TestsMeasured}
use Rattle.editor_recovery.proofs.Common.{IfErr}
use Rattle.editor_recovery.specs.Listing.{IsOpenRefusal, IsRefusal}

pub refusal_opens : (e : OpenFault) → IsRefusal e → IsOpenRefusal e
refusal_opens OpenFault.DiskFault is = tt
refusal_opens OpenFault.NoMemory is = tt
refusal_opens e is = absurd is

step : (p : ℕ → Bool) (x n : ℕ) (rest : Option ℕ) → (rest ≡ Some n → p n ≡ true) → (b : Bool) → p x ≡ b
    → cond b (Some x) rest ≡ Some n → p n ≡ true
step p x n rest later true same e = ap p (sym cc) ∙ same
step p x n rest later false same e = later e

pub found_passes : (p : ℕ → Bool) (xs : List ℕ) (n : ℕ) → find p xs ≡ Some n → p n ≡ true
found_passes p [] n e = absurd cc
found_passes p (x ∷ xs) n e = step p x n (find p xs) (found_passes p xs n) (p x) refl e

pub measured_opens : {T : Type 0} (sizes : ℕ → ℕ) (blocks : List BlockRef) (r : Result T OpenFault)
    → TestsMeasured sizes blocks r → IfErr r IsOpenRefusal
measured_opens sizes blocks (Ok x) is = tt
measured_opens sizes blocks (Err (OpenFault.Damaged file at want have)) is = tt
measured_opens sizes blocks (Err OpenFault.NoMemory) is = tt
measured_opens sizes blocks (Err e) is = absurd is

pub memory_opens : {T : Type 0} (r : Result T OpenFault) → IfErr r (λ e. e ≡ OpenFault.NoMemory) → IfErr r IsOpenRefusal
memory_opens (Ok x) is = tt
memory_opens (Err e) is = rw is tt
