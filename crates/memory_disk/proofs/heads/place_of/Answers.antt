-- The heads below the file come first.
use Rattle.memory_disk.proofs.Common.{ltb, ltb-true, arith, rules, ltb-false, IsPartitionPoint-from_clause}
use Rattle.memory_disk.proofs.Common.{IsPartitionedBy-ltb, Head}
use Rattle.memory_disk.proofs.HeadLists.{not_falling}
use Rattle.memory_disk.proofs.heads.place_of.Goals as goal

pub returns-clause-before : goal.returns-clause-before
returns-clause-before c =
    let parted = IsPartitionedBy-ltb (λ (h : Head). h.file) c.args.heads.now c.args.file (not_falling _ c.requires) in
    let point = IsPartitionPoint-from_clause (λ (h : Head). ltb h.file c.args.file) _ _
    c.partition_point.ensures.partitioned parted (λ a r q k. search rules) in
    λ k d lt. ltb-true _ _ (point.0 k d (omega arith) lt)

pub returns-clause-behind : goal.returns-clause-behind
returns-clause-behind c =
    let parted = IsPartitionedBy-ltb (λ (h : Head). h.file) c.args.heads.now c.args.file (not_falling _ c.requires) in
    let point = IsPartitionPoint-from_clause (λ (h : Head). ltb h.file c.args.file) _ _
    c.partition_point.ensures.partitioned parted (λ a r q k. search rules) in
    λ k d le lt. ltb-false _ _ (point.1 k d le lt)
