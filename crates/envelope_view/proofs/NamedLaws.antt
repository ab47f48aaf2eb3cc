-- Facts on the blocks of a list.
use Rattle.envelope_view.proofs.Common.{List, [], ◌∷◌, refl, arith, Contains}
use Rattle.std.specs.{List.AllByRecursion}
use Rattle.pcm_base.proofs.ListFacts.{each_at}

pub each_of : {X : Type 0} (P : X → Type 0) (xs : List X) → AllByRecursion P xs → (x : X) → Contains xs x → P x
each_of P xs all x there = each_at P xs all there.0 x there.1 there.2

pub one_there : {X : Type 0} (x : X) → Contains (x ∷ []) x
one_there x = (0, omega arith, refl)
