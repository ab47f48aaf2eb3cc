-- The last file is the greatest, and none is foreign.
use Rattle.editor_recovery.proofs.Common.{◌-◌, length, get_or, arith}
use Rattle.editor_recovery.proofs.Highest.{listed_small, last_in, last_above}
use Rattle.editor_recovery.proofs.listing.block_above.Goals as goal

pub overflow_add-files : goal.overflow_add-files
overflow_add-files c =
    let xs = c.args.files.now in
    let small = listed_small xs (get_or xs (length xs - 1) 0) c.requires.known
    (last_in xs (omega (arith, c.if-files-eq0.false))) in
    omega (arith, small)

pub returns-clause-next : goal.returns-clause-next
returns-clause-next c = last_above c.args.files.now c.args.recorded c.max.result
    (omega (arith, c.if-files-eq0.false)) c.requires.rising c.max.ensures

pub returns-clause-bound : goal.returns-clause-bound
returns-clause-bound c =
    let xs = c.args.files.now in
    let small = listed_small xs (get_or xs (length xs - 1) 0) c.requires.known
    (last_in xs (omega (arith, c.if-files-eq0.false))) in
    omega (arith, small, c.requires.recorded, c.max.ensures)
