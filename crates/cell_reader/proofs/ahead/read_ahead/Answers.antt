-- What is seen of the rest, and gaps after it.
use Rattle.cell_reader.proofs.Common.{◌≡◌, ◌+◌, ◌-◌, List, ◌++◌, length, take, drop, get_or, arith, ◌∙◌, ap}
use Rattle.cell_reader.proofs.Common.{length-drop, length-take, exit_err, Files, Cell, Gap, layout_blocks, end_of, View}
use Rattle.cell_reader.proofs.Common.{rest_blocks, place_in, stored_of, reads_more}
use Rattle.cell_reader.proofs.{SeenLaws.fault_among, SeenLaws.valid_in, RestLaws.seen, RestLaws.put_tail}
use Rattle.cell_reader.proofs.{StoredLaws.stored_cells}
use Rattle.cell_reader.proofs.ahead.read_ahead.Goals as goal

pub returns-in_err-put_rest-clause-valid : goal.returns-in_err-put_rest-clause-valid
returns-in_err-put_rest-clause-valid g c = λ told whole.
    let files : Files = g.S.Store.reads c.args.reader.now.store in
    rw (exit_err c.from_residual.result c.from_residual.ensures.1)
    (valid_in files (layout_blocks c.args.layout.now) _ whole
    (fault_among files (rest_blocks c.args.rest.now) (layout_blocks c.args.layout.now) _ c.requires.rest.blocks
    (c.in_err-put_rest.ensures.reads.damaged told)))

pub returns-clause-stored : goal.returns-clause-stored
returns-clause-stored g c = λ told.
    let a = c.args in
    let files : Files = g.S.Store.reads c.args.reader.now.store in
    let count = c.place_in-count.result in
    let mid = c.put_rest.new.out in
    let k = length mid - count in
    let m = length (take k (drop count mid)) in
    let many : m ≡ length mid - count = omega (arith, length-take k (drop count mid), length-drop count mid) in
    let view : View = record { from = a.from; to = a.from + length a.out.now } in
    let place : count ≡ place_in view (end_of 0 a.layout.now) =
    c.place_in-count.ensures ∙ ap (place_in view) c.len.ensures.value in
    seen g.T.FromCell.made (stored_of files) view a.layout.now a.rest.now count m a.out.now mid _ c.requires.rest (omega arith) place
    (c.in_ok-put_rest.ensures.stored told) many
    (put_tail count k mid c.fill_gaps.new.out (omega arith) ∙ ap (λ ys. take count mid ++ ys) c.fill_gaps.ensures)

pub returns-clause-read : goal.returns-clause-read
returns-clause-read g c = λ told whole k lt.
    let files : Files = g.S.Store.reads c.args.reader.now.store in
    returns-clause-stored g c told k lt
    ∙ ap (λ (cs : List Cell). g.T.FromCell.made (get_or cs (c.args.from + k) Gap)) (stored_cells files 0 c.args.layout.now whole)

pub returns-in_err-put_rest-clause-reads : goal.returns-in_err-put_rest-clause-reads
returns-in_err-put_rest-clause-reads g c =
    rw (exit_err c.from_residual.result c.from_residual.ensures.1)
    (reads_more (rest_blocks c.args.rest.now) (layout_blocks c.args.layout.now)
    c.requires.rest.blocks c.in_err-put_rest.ensures.reads)

pub returns-clause-reads : goal.returns-clause-reads
returns-clause-reads g c = reads_more (rest_blocks c.args.rest.now) (layout_blocks c.args.layout.now)
    c.requires.rest.blocks c.in_ok-put_rest.ensures.reads

pub returns-in_err-put_rest-clause-hit : goal.returns-in_err-put_rest-clause-hit
returns-in_err-put_rest-clause-hit g c =
    let a = c.args in
    rw (exit_err c.from_residual.result c.from_residual.ensures.1) (λ has.
    c.in_err-put_rest.ensures.hit
    (c.requires.rest.kept a.reader.now.cache a.from (a.from + length a.out.now) has))

pub returns-clause-hit : goal.returns-clause-hit
returns-clause-hit g c =
    let a = c.args in
    λ has. c.in_ok-put_rest.ensures.hit
    (c.requires.rest.kept a.reader.now.cache a.from (a.from + length a.out.now) has)
