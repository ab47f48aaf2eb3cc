-- Redo is a step.
use Rattle.editor_core.proofs.Common.{◌≡◌, ◌∙◌, refl, sym, ap, subst, ◌+◌, ◌<◌, ◌==◌, [], ◌∷◌, length, arith, Line}
use Rattle.editor_core.proofs.Common.{at_cursor, spelling, silent, Adds, single, Core, core_of, moved, fails, none_made}
use Rattle.editor_core.proofs.Common.{pages_of_blocks}
use Rattle.pcm_base.specs.{declared.refusal.Refusal.TheVariants.NothingToRedo}
use Rattle.record_body.specs.{declared.body.Body.TheVariants.Redo}
use Rattle.editor_commits.proofs.MoveSteps.{redo_call, redoes}
use Rattle.editor_commits.proofs.{HistoryMoves.behind, HistoryMoves.own_is, HistoryMoves.redone}
use Rattle.pcm_base.specs.declared.command.Command.TheVariants as command
use Rattle.editor_core.proofs.MoveAnswers.{IsMove, refused, unadded}
use Rattle.editor_core.proofs.studio.Studio.redo.Given.{Over}
use Rattle.editor_core.proofs.studio.Studio.redo.Goals as goal

-- a test refused it
early : (g : Over) (c : goal.After-from_residual g) → IsMove g.S.Store (core_of c.args.self.now) (Line command.Redo)
    c.from_residual.result (core_of c.args.self.now)
early g c =
    let s = core_of c.args.self.now in
    refused g.S.Store s c.requires (g.met.S.Store.may_fewer s.store) (Line command.Redo) 1
    (s.history.cursor + 1 == length s.history.points) NothingToRedo c.redo_refusal.result
    c.in_err-may_commit.field-0.0 tt tt redo_call (omega arith) (λ held. (refl, refl)) c.redo_refusal.ensures.value
    (own_is g.S.Store s c.redo_refusal.result c.redo_refusal.ensures.value) c.in_err-may_commit.ensures
    c.from_residual.result c.from_residual.ensures.1

-- its record was not added
late : (g : Over) (c : goal.After-from_residual-in_err-commit_small g) → IsMove g.S.Store (core_of c.args.self.now)
    (Line command.Redo) c.from_residual-in_err-commit_small.result (core_of c.commit_small.new.self)
late g c =
    let s = core_of c.args.self.now in
    let mid = core_of c.commit_small.new.self in
    let may = c.in_ok-may_commit.ensures in
    let why = c.in_err-commit_small.field-0.0 in
    let own = sym (own_is g.S.Store s c.redo_refusal.result c.redo_refusal.ensures.value) ∙ may.1 in
    let some = behind s.history NothingToRedo c.redo_refusal.ensures.whole (sym c.redo_refusal.ensures.value ∙ may.1) in
    unadded g.S.Store s mid (Line command.Redo) why c.from_residual-in_err-commit_small.result
    c.from_residual-in_err-commit_small.ensures.1
    (fails g.S.Store s [] (Line command.Redo) silent 0 (single Redo) (at_cursor s.history (s.history.cursor + 1))
    s.clipboard s.next_track c.requires (none_made g.S.Store s) (redoes g.S.Store s c.requires some) may.0 own may.2
    (omega (arith, may.3)) (omega (arith, c.requires.layouts)) why mid (g.met.S.Store.may_fewer s.store)
    c.in_err-commit_small.ensures.record) c.in_err-commit_small.ensures.memory c.in_err-commit_small.ensures.undamaged

pub returns-in_err-may_commit : goal.returns-in_err-may_commit
returns-in_err-may_commit g c =
    let is = early g c in
    record { took = is.took; number = is.number; memory = is.memory; undamaged = is.undamaged }

pub returns-in_err-commit_small : goal.returns-in_err-commit_small
returns-in_err-commit_small g c =
    let is = late g c in
    record { took = is.took; number = is.number; memory = is.memory; undamaged = is.undamaged }

pub returns-clause-took : goal.returns-clause-took
returns-clause-took g c =
    let s = core_of c.args.self.now in
    let mid = core_of c.commit_small.new.self in
    let may = c.in_ok-may_commit.ensures in
    let own = sym (own_is g.S.Store s c.redo_refusal.result c.redo_refusal.ensures.value) ∙ may.1 in
    let some = behind s.history NothingToRedo c.redo_refusal.ensures.whole (sym c.redo_refusal.ensures.value ∙ may.1) in
    let adds = subst (λ r. Adds g.S.Store s (spelling Redo ∷ []) 1 1 r mid) c.in_ok-commit_small.was c.commit_small.ensures.record in
    let same : mid.history ≡ s.history = ap (λ (z : Core g.row.S.Denot). z.history) adds.fields.0 in
    let some' = subst (λ h. h.cursor + 1 < length h.points) (sym same) some in
    let gone = redone c.commit_small.new.self.history c.redo.new.self c.redo.result some' c.redo.ensures.ok
    c.redo.ensures.err in
    moved g.S.Store s c.requires (Line command.Redo) Redo (at_cursor s.history (s.history.cursor + 1)) mid
    c.redo.new.self.history (redoes g.S.Store s c.requires some) refl may.0 own refl may.3 adds
    (gone ∙ ap (λ h. at_cursor h (h.cursor + 1)) same)

pub commit_small-requires-clause-file : goal.commit_small-requires-clause-file
commit_small-requires-clause-file g c = c.requires.journal.among

pub commit_small-requires-clause-pages : goal.commit_small-requires-clause-pages
commit_small-requires-clause-pages g c =
    let s = core_of c.args.self.now in
    pages_of_blocks s.next_block s.cache c.requires.pages
