-- Laws of bytes that are told: more after more, and nothing more.
use Rattle.std.specs.Prelude.{◌≡◌, ℕ, ◌+◌, List, [], ◌++◌, take, drop, Option, Some, None, refl}
use Rattle.std.proofs.Common.{ap, sym, ◌∙◌, append_assoc}
use Rattle.std.proofs.{lemmas.List.append-nil, Math.Seq.take-add}
use Rattle.edit_ports.specs.Told.{grown, preceded}

pub grown-grown : (o : Option (List ℕ)) (a b : List ℕ) → grown (grown o a) b ≡ grown o (a ++ b)
unfolding grown
grown-grown None a b = refl
grown-grown (Some bytes) a b = ap Some (append_assoc bytes a b)

pub grown-nil : (o : Option (List ℕ)) → grown o [] ≡ o
unfolding grown
grown-nil None = refl
grown-nil (Some bytes) = ap Some (append-nil bytes)

pub preceded-preceded : (o : Option (List ℕ)) (a b : List ℕ) → preceded a (preceded b o) ≡ preceded (a ++ b) o
unfolding preceded
preceded-preceded None a b = refl
preceded-preceded (Some bytes) a b = ap Some (sym (append_assoc a b bytes))

pub preceded-nil : (o : Option (List ℕ)) → preceded [] o ≡ o
unfolding preceded
preceded-nil None = refl
preceded-nil (Some bytes) = refl

-- the next bytes after the first n
pub grown-take : (o : Option (List ℕ)) (n m : ℕ) (bs : List ℕ)
    → grown (grown o (take n bs)) (take m (drop n bs)) ≡ grown o (take (n + m) bs)
grown-take o n m bs = grown-grown o (take n bs) (take m (drop n bs)) ∙ ap (grown o) (sym (take-add n m bs))
