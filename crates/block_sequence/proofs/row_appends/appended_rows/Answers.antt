-- Copied references, shared rows, and copied references.
use Rattle.std.proofs.Common.{◌≤◌, ◌-◌, ◌++◌, List, take, drop, ap, ap₂, ◌∙◌, arith}
use Rattle.pcm_base.specs.{declared.block.BlockRef.BlockRef, Blocks.blocks_len}
use Rattle.block_sequence.specs.Rows.{flat, from_to}
use Rattle.block_sequence.proofs.FlatRows.{flat-append}
use Rattle.block_sequence.proofs.Appended.{back_few, edges_rise, flat_between, from_to_by, front_few, three_parts}
use Rattle.block_sequence.proofs.row_appends.appended_rows.Goals as goal

pub with_copied-requires-2-clause-few : goal.with_copied-requires-2-clause-few
with_copied-requires-2-clause-few c =
    let others = c.args.others.now in
    let all = flat others in
    let from = c.args.from in
    let to = c.args.to in
    let start = c.edge_after-start in
    let end = c.edge_before-end in
    let rising = edges_rise others start.result.row start.result.at end.result.row end.result.at
    start.ensures.edge end.ensures.edge (omega (arith, c.if-end-start.false)) in
    let by = from_to_by from start.result.at to all start.ensures.after (omega (arith, rising, end.ensures.before)) in
    let few = front_few (flat c.args.rows.now) (from_to from start.result.at all) (from_to start.result.at to all)
    (from_to from to all) by in
    omega (arith, few, c.requires.few)

pub lay_rows-requires : goal.lay_rows-requires
lay_rows-requires c =
    let others = c.args.others.now in
    let all = flat others in
    let from = c.args.from in
    let to = c.args.to in
    let start = c.edge_after-start in
    let end = c.edge_before-end in
    let rising = edges_rise others start.result.row start.result.at end.result.row end.result.at
    start.ensures.edge end.ensures.edge (omega (arith, c.if-end-start.false)) in
    let by = from_to_by from end.result.at to all (omega (arith, rising, start.ensures.after)) end.ensures.before in
    let few = back_few (flat c.args.rows.now) (from_to from end.result.at all) (from_to end.result.at to all)
    (from_to from to all) by in
    let rest = c.in_ok-append_blocks.ensures
    ∙ ap (λ (bs : List BlockRef). bs ++ from_to end.result.at to all) c.new-rest.ensures.items in
    omega (arith, ap blocks_len rest, few, c.requires.few)

pub returns : goal.returns
returns c =
    let others = c.args.others.now in
    let all = flat others in
    let from = c.args.from in
    let to = c.args.to in
    let start = c.edge_after-start in
    let end = c.edge_before-end in
    let at = start.result.at in
    let stop = end.result.at in
    let within : start.result.row ≤ end.result.row = omega (arith, c.if-end-start.false) in
    let rising = edges_rise others start.result.row at end.result.row stop start.ensures.edge end.ensures.edge within in
    let shared = flat_between others start.result.row at end.result.row stop start.ensures.edge end.ensures.edge within in
    let rest = c.in_ok-append_blocks.ensures
    ∙ ap (λ (bs : List BlockRef). bs ++ from_to stop to all) c.new-rest.ensures.items in
    let rows = ap flat c.in_ok-share_rows.ensures
    ∙ flat-append c.in_ok-out.out.items (take (end.result.row - start.result.row) (drop start.result.row others))
    ∙ ap₂ (λ (bs cs : List BlockRef). bs ++ cs) c.in_ok-out.ensures shared in
    c.in_ok-lay_rows.ensures
    ∙ ap₂ (λ (bs cs : List BlockRef). bs ++ cs) rows rest
    ∙ three_parts (flat c.args.rows.now) from at stop to all start.ensures.after rising end.ensures.before
