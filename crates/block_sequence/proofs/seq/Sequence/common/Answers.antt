-- There are at most as many as blocks.
use Rattle.std.proofs.Common.{length, ap, ap₂, ◌∙◌, arith}
use Rattle.block_sequence.specs.{Fronts.common, Rows.flat}
use Rattle.block_sequence.proofs.{FlatRows.length_few, Fronts.common_within}
use Rattle.block_sequence.proofs.seq.Sequence.common.Goals as goal

pub common_count-requires-clause-few : goal.common_count-requires-clause-few
common_count-requires-clause-few c =
    let r = c.rows-mine.ensures in
    omega (arith, ap length r.value, length_few _ r.none_empty, r.few)

pub returns-clause-value : goal.returns-clause-value
returns-clause-value c =
    c.common_count.ensures ∙ ap₂ common c.rows-mine.ensures.value c.rows-others.ensures.value

pub returns-clause-few : goal.returns-clause-few
returns-clause-few c =
    let r = c.rows-mine.ensures in
    let within = common_within (flat c.rows-mine.result.now) (flat c.rows-others.result.now) in
    omega (arith, c.common_count.ensures, within.0, ap length r.value, length_few _ r.none_empty, r.few)
