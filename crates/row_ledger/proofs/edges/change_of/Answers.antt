-- What is left between rows at the front and rows at the end.
use Rattle.std.proofs.Common.{◌-◌, length, take, drop}
use Rattle.std.proofs.lemmas.List.{take_rest}
use Rattle.row_ledger.proofs.Ends.{few_after, is_change}
use Rattle.row_ledger.proofs.edges.change_of.Goals as goal

pub overflow_sub-to-2 : goal.overflow_sub-to-2
overflow_sub-to-2 c =
    let ids = c.args.ids.now in
    let ks = c.args.rows.now in
    let f = c.front_of-front.result in
    let e = c.end_of-end.result in
    few_after c.args.table.now.rows ks ids (take (length ks - f.row) (drop f.row ks))
    (take (length ids - f.at) (drop f.at ids)) c.in_ok-count.count f.row f.at e.row e.at c.in_ok-count.ensures.value
    c.front_of-front.ensures.edge c.front_of-front.ensures.same (take_rest ks f.row) (take_rest ids f.at)
    c.end_of-end.ensures.within c.end_of-end.ensures.same

pub returns : goal.returns
returns c =
    let ids = c.args.ids.now in
    let ks = c.args.rows.now in
    let f = c.front_of-front.result in
    let e = c.end_of-end.result in
    is_change c.args.table.now.rows ks ids (take (length ks - f.row) (drop f.row ks))
    (take (length ids - f.at) (drop f.at ids)) c.in_ok-count.count f.row f.at e.row e.at c.in_ok-count.ensures.value
    c.front_of-front.ensures.edge c.front_of-front.ensures.same (take_rest ks f.row) (take_rest ids f.at)
    c.end_of-end.ensures.within c.end_of-end.ensures.same c.in_ok-count.ensures.few c.if-ids-gt-IDS_MOST.false
