-- Facts on each element of a list.
use Rattle.editor_state.proofs.Common.{List, [], ◌∷◌, ◌++◌, take, drop, ℕ, zero, suc, flat_map, AllByRecursion}
use Rattle.editor_state.proofs.Common.{all_append}
use Rattle.project_state.proofs.Meanings.{all_parts}

module _ {X : Type 0} (P : X → Type 0) where
  pub all_left : (xs ys : List X) → AllByRecursion P (xs ++ ys) → AllByRecursion P xs
  all_left xs ys h = (all_parts P xs ys h).0

  pub all_right : (xs ys : List X) → AllByRecursion P (xs ++ ys) → AllByRecursion P ys
  all_right xs ys h = (all_parts P xs ys h).1

  pub all_take : (n : ℕ) (xs : List X) → AllByRecursion P xs → AllByRecursion P (take n xs)
  all_take zero xs h = tt
  all_take (suc n) [] h = tt
  all_take (suc n) (x ∷ xs) h = (h.0, all_take n xs h.1)

  pub all_drop : (n : ℕ) (xs : List X) → AllByRecursion P xs → AllByRecursion P (drop n xs)
  all_drop zero xs h = h
  all_drop (suc n) [] h = tt
  all_drop (suc n) (x ∷ xs) h = all_drop n xs h.1

-- one fact on each from another
pub all_so : {X : Type 0} (P Q : X → Type 0) → ((x : X) → P x → Q x) → (xs : List X) → AllByRecursion P xs
    → AllByRecursion Q xs
all_so P Q f [] h = tt
all_so P Q f (x ∷ xs) h = (f x h.0, all_so P Q f xs h.1)

-- from two others
pub all_both : {X : Type 0} (P Q R : X → Type 0) → ((x : X) → P x → Q x → R x) → (xs : List X) → AllByRecursion P xs
    → AllByRecursion Q xs → AllByRecursion R xs
all_both P Q R f [] h k = tt
all_both P Q R f (x ∷ xs) h k = (f x h.0 k.0, all_both P Q R f xs h.1 k.1)

-- on each element of each part
pub all_each : {X Y : Type 0} (P : Y → Type 0) (f : X → List Y) (xs : List X) → AllByRecursion P (flat_map f xs)
    → AllByRecursion (λ x. AllByRecursion P (f x)) xs
all_each P f [] h = tt
all_each P f (x ∷ xs) h = (all_left P (f x) (flat_map f xs) h, all_each P f xs (all_right P (f x) (flat_map f xs) h))

pub all_joined : {X Y : Type 0} (P : Y → Type 0) (f : X → List Y) (xs : List X)
    → AllByRecursion (λ x. AllByRecursion P (f x)) xs → AllByRecursion P (flat_map f xs)
all_joined P f [] h = tt
all_joined P f (x ∷ xs) h = all_append P (f x) (flat_map f xs) h.0 (all_joined P f xs h.1)
