-- The sizes, and then the parts.
use Rattle.editor_recovery.proofs.Common.{arith}
use Rattle.record_body.proofs.SavedBounds.{valid_blocks}
use Rattle.editor_recovery.proofs.{Counted.causes_none, Counted.memory_none, Opens.parts_result, Opens.unsized}
use Rattle.editor_recovery.proofs.{Plain.numbered_kept, Plain.valid_back, Refusals.memory_opens}
use Rattle.editor_recovery.proofs.{ValidParts.valid_result}
use Rattle.editor_recovery.proofs.finding.size_parts.Goals as goal

pub test_files-requires-clause-blocks : goal.test_files-requires-clause-blocks
test_files-requires-clause-blocks g c =
    let s = c.requires.valid in
    let f = c.args.folded in
    let kept = numbered_kept f.project in
    valid_blocks f.block_size kept.history.depth kept.commit kept (omega (arith, s.format.block_most))
    (valid_back f.block_size f.project s.kept)

pub test_files-requires-clause-numbered : goal.test_files-requires-clause-numbered
test_files-requires-clause-numbered g c = c.requires.valid.numbers.numbered

pub returns-in-Ok-clause-opens : goal.returns-in-Ok-clause-opens
returns-in-Ok-clause-opens g c = λ form j tells is fold.
    parts_result (g.S.Store.reads c.args.store.now) form j c.args.files.now c.args.folded is fold c.parts_of.result
    c.requires.valid (c.in-Ok.ensures.tests tells is.listed) c.parts_of.ensures.parts c.parts_of.ensures.memory

pub returns-in-Err-clause-opens : goal.returns-in-Err-clause-opens
returns-in-Err-clause-opens g c = λ form j tells is fold.
    unsized (g.S.Store.reads c.args.store.now) form j c.args.files.now c.args.folded is fold c.in-Err.fault
    (c.in-Err.ensures.tests tells is.listed)

pub returns-in-Ok-clause-valid : goal.returns-in-Ok-clause-valid
returns-in-Ok-clause-valid g c =
    valid_result c.args.files.now c.args.folded c.parts_of.result c.requires.valid c.requires.known
    c.in-Ok.ensures.one_length c.parts_of.ensures.parts

pub returns-in-Ok-clause-cause : goal.returns-in-Ok-clause-cause
returns-in-Ok-clause-cause g c =
    causes_none g.S.Store c.args.store.now c.test_files.new.store c.parts_of.result c.in-Ok.ensures.cause
    (memory_none c.parts_of.result c.parts_of.ensures.memory)

pub returns-in-Ok-clause-opening : goal.returns-in-Ok-clause-opening
returns-in-Ok-clause-opening g c = memory_opens c.parts_of.result c.parts_of.ensures.memory
