-- The samples are read as they are.
use Rattle.cell_reader.proofs.Common.{◌+◌, ◌*◌, length, sym, ◌∙◌, on_ok_weaker, bytes_of, samples_in}
use Rattle.std.proofs.{lemmas.List.map-id}
use Rattle.cell_reader.proofs.forms.I16FromCell.read.Goals as goal

pub returns-then-out-le-LARGE-clause-stored : goal.returns-then-out-le-LARGE-clause-stored
returns-then-out-le-LARGE-clause-stored g c = λ told.
    let a = c.args in
    on_ok_weaker c.samples.result (λ is. is ∙ sym (map-id (samples_in
    (bytes_of (g.S.Store.reads a.reader.now.store a.block.id)) (16 + 2 * a.from) (length a.out.now))))
    (c.samples.ensures.samples told)

pub returns-clause-stored : goal.returns-clause-stored
returns-clause-stored g c = λ told.
    let a = c.args in
    on_ok_weaker c.samples_once.result (λ is. is ∙ sym (map-id (samples_in
    (bytes_of (g.S.Store.reads a.reader.now.store a.block.id)) (16 + 2 * a.from) (length a.out.now))))
    (c.samples_once.ensures.samples told)
