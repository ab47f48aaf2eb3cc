-- The head at its place, or nowhere.
use Rattle.memory_disk.proofs.Common.{refl, sym, arith, no_head}
use Rattle.memory_disk.proofs.HeadLists.{head_found, head_nowhere}
use Rattle.memory_disk.proofs.heads.find.Goals as goal

pub bounds-heads-place : goal.bounds-heads-place
bounds-heads-place c = (c.if-is_at.ensures.yes refl no_head).0

pub returns-then-is_at : goal.returns-then-is_at
returns-then-is_at c = sym (head_found c.args.heads.now c.place_of-place.result c.args.file no_head
    (c.if-is_at.ensures.yes refl no_head).0 (c.if-is_at.ensures.yes refl no_head).1
    (λ k lt e. omega (arith, c.place_of-place.ensures.before k no_head lt, e)))

pub returns-else-is_at : goal.returns-else-is_at
returns-else-is_at c = sym (head_nowhere c.args.heads.now c.place_of-place.result c.args.file no_head c.requires
    (λ k. c.place_of-place.ensures.before k no_head)
    (c.place_of-place.ensures.behind c.place_of-place.result no_head (omega arith))
    (c.if-is_at.ensures.no refl no_head))
