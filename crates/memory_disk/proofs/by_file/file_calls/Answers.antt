-- Those below come before the file's own, and those above after.
use Rattle.memory_disk.proofs.Common.{◌-◌, ◌≡◌, ◌≤◌, ltb, ltb-true, true, false, arith, rules, ltb-false}
use Rattle.memory_disk.proofs.Common.{IsPartitionPoint-from_clause, IsPartitionedBy-ltb, no_call, Call}
use Rattle.std.proofs.Common.{leb}
use Rattle.std.proofs.lemmas.Bool.{leb-true, leb-false}
use Rattle.std.proofs.lemmas.List.Sorted.{IsPartitionedBy-leb}
use Rattle.memory_disk.proofs.FileCalls.{in_order, own_part}
use Rattle.std.specs.List.Sorted.{IsPartitionPoint}
use Rattle.memory_disk.proofs.by_file.file_calls.Goals.{After-partition_point-to}
use Rattle.memory_disk.proofs.by_file.file_calls.Goals as goal

lower : (c : After-partition_point-to) → IsPartitionPoint (λ (call : Call). ltb call.file c.args.file ≡ true)
    (λ (call : Call). ltb call.file c.args.file ≡ false) c.args.sorted.now c.partition_point-from.result
lower c = IsPartitionPoint-from_clause (λ (call : Call). ltb call.file c.args.file) _ _
    c.partition_point-from.ensures.partitioned
    (IsPartitionedBy-ltb (λ (call : Call). call.file) c.args.sorted.now c.args.file c.requires)
    (λ a r q k. search rules)

upper : (c : After-partition_point-to) → IsPartitionPoint (λ (call : Call). leb call.file c.args.file ≡ true)
    (λ (call : Call). leb call.file c.args.file ≡ false) c.args.sorted.now c.partition_point-to.result
upper c = IsPartitionPoint-from_clause (λ (call : Call). leb call.file c.args.file) _ _
    c.partition_point-to.ensures.partitioned
    (IsPartitionedBy-leb (λ (call : Call). call.file) c.args.sorted.now c.args.file c.requires)
    (λ a r q k. search rules)

ordered : (c : After-partition_point-to) → c.partition_point-from.result ≤ c.partition_point-to.result
ordered c =
    let below = lower c in
    let above = upper c in
    in_order c.args.sorted.now c.partition_point-from.result c.partition_point-to.result c.args.file
    c.partition_point-from.ensures.bound
    (λ k lt. ltb-true _ _ (below.0 k no_call (omega arith) lt)) (λ k le lt. leb-false _ _ (above.1 k no_call le lt))

pub slice_bounds-result-count : goal.slice_bounds-result-count
slice_bounds-result-count c = ordered (goal.at.slice_bounds-result-count c).After-partition_point-to

pub slice_bounds-result-start : goal.slice_bounds-result-start
slice_bounds-result-start c = ordered (goal.at.slice_bounds-result-start c).After-partition_point-to

pub returns : goal.returns
returns c =
    let here = (goal.at.returns c).After-partition_point-to in
    let below = lower here in
    let above = upper here in
    let order = ordered here in
    let from = c.partition_point-from.result in
    let bound = c.partition_point-to.ensures.bound in
    own_part c.args.sorted.now from (c.partition_point-to.result - from) c.args.file (omega (arith, order, bound))
    (λ k lt. ltb-true _ _ (below.0 k no_call (omega arith) lt))
    (λ k le lt.
    let low = ltb-false _ _ (below.1 k no_call le (omega (arith, lt, bound, order))) in
    let high = leb-true _ _ (above.0 k no_call (omega arith) (omega (arith, lt, order))) in omega (arith, low, high))
    (λ k le lt. leb-false _ _ (above.1 k no_call (omega (arith, le, order)) lt))
