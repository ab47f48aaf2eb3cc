-- What holds of each of some blocks holds of one of them.
use Rattle.editor_state.proofs.Common.{List, Contains, All-from_recursion, AllByRecursion, BlockRef, AreAmong}
use Rattle.std.proofs.lemmas.List.Elements.{All-contains, All-contains_itself, recursion_from_All}
use Rattle.editor_state.proofs.Lists.{all_so}

pub contained : (P : BlockRef → Type 0) (xs : List BlockRef) (x : BlockRef) → AllByRecursion P xs → Contains xs x → P x
contained P xs x all has = All-contains P xs x (All-from_recursion P xs all) has

pub among_all : (P : BlockRef → Type 0) (every bs : List BlockRef) → AreAmong every bs → AllByRecursion P every
    → AllByRecursion P bs
among_all P every bs among all = all_so (Contains every) P (λ b h. contained P every b all h) bs among

pub among_itself : (every : List BlockRef) → AreAmong every every
among_itself every = recursion_from_All (Contains every) every (All-contains_itself every)
