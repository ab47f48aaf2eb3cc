-- A column begins within the range.
use Rattle.envelope_view.proofs.Common.{◌-◌, arith}
use Rattle.envelope_view.proofs.EdgeLaws.{share_within}
use Rattle.envelope_view.proofs.edges.edge.Goals as goal

pub overflow_cast-result : goal.overflow_cast-result
overflow_cast-result c =
    let within = share_within c.args.i c.args.columns (c.args.to - c.args.from) c.requires.among in
    grind arith

pub overflow_add-result : goal.overflow_add-result
overflow_add-result c =
    let within = share_within c.args.i c.args.columns (c.args.to - c.args.from) c.requires.among in
    grind arith

pub returns-clause-within : goal.returns-clause-within
returns-clause-within c =
    let within = share_within c.args.i c.args.columns (c.args.to - c.args.from) c.requires.among in
    grind arith
