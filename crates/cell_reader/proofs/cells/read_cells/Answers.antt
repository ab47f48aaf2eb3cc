-- The cells that are seen from the place on are those of the layout.
use Rattle.cell_reader.proofs.Common.{◌≡◌, ◌+◌, ◌-◌, min, List, length, take, drop, arith, ap, ◌∙◌, length-take}
use Rattle.cell_reader.proofs.Common.{exit_err, Files, Cell, layout_cells, reads_err, stored_of}
use Rattle.block_cache.proofs.ReaderLaws.{reads_ok}
use Rattle.cell_reader.proofs.KeptLaws.{seen_part}
use Rattle.cell_reader.proofs.{PartLists.drop_front, RestLaws.seen_cells, StoredLaws.stored_cells}
use Rattle.cell_reader.proofs.cells.read_cells.Goals as goal

pub returns-clause-stored : goal.returns-clause-stored
returns-clause-stored g c = λ told.
    let a = c.args in
    let files : Files = g.S.Store.reads c.args.reader.now.store in
    let out : List Cell = a.out.now in
    let count = c.place_in-count.result in
    let size : length (take count out) ≡ count = omega (arith, length-take count out, c.place_in-count.ensures) in
    let few : count ≡ min (length out) (length (layout_cells (stored_of files) a.layout.now) - a.from) =
    omega (arith, c.place_in-count.ensures, c.len.ensures.cells (stored_of files)) in
    seen_cells (stored_of files) a.from (length out) a.layout.now count c.read_ahead.new.out (drop count out)
    (omega (arith, c.read_ahead.auto.out, size)) few (c.in_ok-read_ahead.ensures.stored told)

pub returns-clause-read : goal.returns-clause-read
returns-clause-read g c = λ told whole.
    let files : Files = g.S.Store.reads c.args.reader.now.store in
    returns-clause-stored g c told
    ∙ ap (λ (cs : List Cell). take (length c.args.out.now) (drop c.args.from cs))
    (stored_cells files 0 c.args.layout.now whole)

pub returns-clause-rest : goal.returns-clause-rest
returns-clause-rest g c =
    let count = c.place_in-count.result in
    let out : List Cell = c.args.out.now in
    let size : length (take count out) ≡ count = omega (arith, length-take count out, c.place_in-count.ensures) in
    drop_front count c.read_ahead.new.out (drop count out) (omega (arith, c.read_ahead.auto.out, size))

pub returns-in_err-read_ahead-clause-reads : goal.returns-in_err-read_ahead-clause-reads
returns-in_err-read_ahead-clause-reads g c =
    rw (exit_err c.from_residual.result c.from_residual.ensures.1) (reads_err c.in_err-read_ahead.ensures.reads)

pub returns-clause-reads : goal.returns-clause-reads
returns-clause-reads g c = reads_ok {y = c.place_in-count.result} c.in_ok-read_ahead.ensures.reads

pub returns-in_err-read_ahead-clause-hit : goal.returns-in_err-read_ahead-clause-hit
returns-in_err-read_ahead-clause-hit g c =
    let a = c.args in
    let out : List Cell = a.out.now in
    let count = c.place_in-count.result in
    rw (exit_err c.from_residual.result c.from_residual.ensures.1) (λ has.
    c.in_err-read_ahead.ensures.hit
    (seen_part a.reader.now.cache a.from (a.from + length out) a.from (a.from + length (take count out)) a.layout.now
    (omega arith) (omega (arith, length-take count out)) has))

pub returns-clause-hit : goal.returns-clause-hit
returns-clause-hit g c =
    let a = c.args in
    let out : List Cell = a.out.now in
    let count = c.place_in-count.result in
    λ has. c.in_ok-read_ahead.ensures.hit
    (seen_part a.reader.now.cache a.from (a.from + length out) a.from (a.from + length (take count out)) a.layout.now
    (omega arith) (omega (arith, length-take count out)) has)
