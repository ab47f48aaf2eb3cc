-- Clips rise by their starts.
use Rattle.cell_reader.proofs.Common.{arith, Clip}
use Rattle.std.proofs.Common.{leb, leb-true, rules}
use Rattle.std.proofs.lemmas.List.Sorted.{IsPartitionPoint-from_clause, IsPartitionedBy-leb}
use Rattle.cell_reader.proofs.NearLaws.{starts_rise}
use Rattle.cell_reader.proofs.rest.started.Goals as goal

pub returns-clause-started : goal.returns-clause-started
returns-clause-started c =
    let clips = c.args.clips.now in
    let rise = IsPartitionedBy-leb (λ (x : Clip). x.start) clips c.args.from (starts_rise 0 clips c.requires) in
    let point = IsPartitionPoint-from_clause (λ (x : Clip). leb x.start c.args.from) clips _
    c.partition_point.ensures.partitioned rise (λ a r q k. search rules) in
    λ k d lt. leb-true _ _ (point.0 k d (omega arith) lt)
