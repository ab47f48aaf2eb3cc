-- Calls that write nothing, and then the journal is made.
use Rattle.editor_recovery.proofs.Common.{ap, refl, ◌∙◌, arith, Files, changed_kept}
use Rattle.disk_model.specs.{Room.files_made}
use Rattle.disk_model.proofs.Frames.{changed_turn}
use Rattle.editor_recovery.proofs.{Alone.none_after, Counted.causes_turn, Created.any_moment_both, Created.either_none}
use Rattle.editor_recovery.proofs.{Created.still_honest, Created.made_honest, Created.made_done, Created.left_turn}
use Rattle.editor_recovery.proofs.creating.create.Goals as goal

pub returns-in-Ok-clause-any_moment : goal.returns-in-Ok-clause-any_moment
returns-in-Ok-clause-any_moment g c = λ tells.
    let kept = c.may_create.ensures.kept in
    let told = kept.same_tells ∙ tells in
    let alone = none_after kept.same_reads (c.in-Ok.ensures.answer tells).0 in
    any_moment_both g.S.Store c.args.rate c.args.block_size c.args.depth c.args.store.now c.may_create.new.store
    c.make.new.store kept.same_images c.make.ensures.changed.images
    (λ image since. either_none image (c.make.ensures.any_moment told alone image since)
    (c.make.ensures.other_moment told alone image since))

pub returns-in-Ok-clause-done : goal.returns-in-Ok-clause-done
returns-in-Ok-clause-done g c = λ tells.
    let kept = c.may_create.ensures.kept in
    made_done g.S.Store c.args.rate c.args.block_size c.args.depth c.make.new.store c.make.result
    (c.make.ensures.done (kept.same_tells ∙ tells) (none_after kept.same_reads (c.in-Ok.ensures.answer tells).0))

pub returns-in-Ok-clause-journal : goal.returns-in-Ok-clause-journal
returns-in-Ok-clause-journal g c = λ tells.
    let kept = c.may_create.ensures.kept in
    c.make.ensures.done (kept.same_tells ∙ tells) (none_after kept.same_reads (c.in-Ok.ensures.answer tells).0)

pub returns-in-Ok-clause-honest : goal.returns-in-Ok-clause-honest
returns-in-Ok-clause-honest g c = λ honest.
    let kept = c.may_create.ensures.kept in
    let tells = (g.met.S.Store.may_stay c.args.store.now honest.model).0 in
    let told = kept.same_tells ∙ tells in
    let alone = none_after kept.same_reads (c.in-Ok.ensures.answer tells).0 in
    made_honest g.S.Store c.may_create.new.store c.make.new.store c.args.rate c.args.block_size c.args.depth
    c.make.ensures.changed.images c.make.ensures.changed.model
    (λ image since. either_none image (c.make.ensures.any_moment told alone image since)
    (c.make.ensures.other_moment told alone image since))
    (still_honest g.S.Store c.args.store.now c.may_create.new.store kept.same_images kept.same_model honest)

pub returns-in-Ok-clause-cause : goal.returns-in-Ok-clause-cause
returns-in-Ok-clause-cause g c = causes_turn g.S.Store c.args.store.now c.may_create.new.store c.make.new.store
    c.make.result c.in-Ok.ensures.cause c.make.ensures.cause

pub returns-in-Ok-clause-left : goal.returns-in-Ok-clause-left
returns-in-Ok-clause-left g c = left_turn g.S.Store c.args.store.now c.may_create.new.store c.make.new.store
    c.make.result c.may_create.ensures.kept c.make.ensures.left

pub returns-in-Ok-clause-changed : goal.returns-in-Ok-clause-changed
returns-in-Ok-clause-changed g c =
    let same = ap (λ (f : Files). files_made (f 0)) c.may_create.ensures.kept.same_reads in
    changed_turn {one = record { files = 0; bytes = 0; calls = 0 }} (λ d e s. s) (λ d e c s t o ne. t o ne ∙ s o ne)
    (record { files = omega (arith, same); bytes = omega arith; calls = omega arith })
    (changed_kept (λ d o ne. refl) c.may_create.ensures.kept) c.make.ensures.changed

pub returns-in-Err-clause-honest : goal.returns-in-Err-clause-honest
returns-in-Err-clause-honest g c = λ honest.
    still_honest g.S.Store c.args.store.now c.may_create.new.store c.may_create.ensures.kept.same_images
    c.may_create.ensures.kept.same_model honest

pub returns-in-Err-clause-changed : goal.returns-in-Err-clause-changed
returns-in-Err-clause-changed g c = changed_kept (λ d o ne. refl) c.may_create.ensures.kept
