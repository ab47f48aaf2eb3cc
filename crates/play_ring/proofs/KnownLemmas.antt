-- What an end knew, as it is taken out.
use Rattle.std.proofs.Common.{List, [], ◌∷◌, ◌++◌, ap, sym, ◌∙◌, append_assoc}
use mathlib.Core.List.{IsPrefix}

-- one item more was taken: what was known at first begins what was taken and what is known now
pub IsPrefix-pop : {A : Type 0} (xs taken known known' : List A) (x : A) → IsPrefix xs (taken ++ known)
    → IsPrefix known (x ∷ known') → IsPrefix xs ((taken ++ x ∷ []) ++ known')
IsPrefix-pop xs taken known known' x p q = (
  p.0 ++ q.0,
  sym (append_assoc xs p.0 q.0) ∙ ap (λ t. t ++ q.0) p.1 ∙ append_assoc taken known q.0 ∙ ap (λ t. taken ++ t) q.1
      ∙ sym (append_assoc taken (x ∷ []) known'),
)
