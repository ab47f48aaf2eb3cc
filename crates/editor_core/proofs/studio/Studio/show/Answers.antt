-- Showing a track is a step that changes nothing.
use Rattle.editor_core.proofs.Common.{◌∙◌, sym, ap, subst, Err, err_from_is_err_and, after_err, Line, layout_blocks}
use Rattle.editor_core.proofs.Common.{core_of, lacks, Sees, layout_may_read, layout_named, layout_whole, idle_sees}
use Rattle.editor_core.proofs.Common.{read_sees, unread_sees, seen, reads_among}
use Rattle.pcm_base.specs.{declared.answer.Reply.TheVariants.Cells, declared.command.Command.TheVariants.Show}
use Rattle.editor_views.proofs.CellViews.{show_stopped, show_lacks, show_beyond, show_done, show_failed}
use Rattle.pcm_base.specs.declared.refusal.Refusal.TheVariants as refusal
use Rattle.editor_core.proofs.studio.Studio.show.Goals as goal

pub returns-in-Some-clause-seen : goal.returns-in-Some-clause-seen
returns-in-Some-clause-seen g c =
    let s = core_of c.args.self.now in
    let fewer = g.met.S.Store.may_fewer s.store in
    let call = Line (Show c.args.track c.args.from c.args.to) in
    idle_sees g.S.Store s call Cells c.args.out.now fewer (refusal.Stopped c.in-Some.faults) tt tt
    (show_stopped g.S.Store s c.requires.studio c.args.track c.args.from c.args.to fewer c.in-Some.faults c.in-Some.is)

pub returns-in_err-layout-clause-seen : goal.returns-in_err-layout-clause-seen
returns-in_err-layout-clause-seen g c =
    let p = err_from_is_err_and c.from_residual.result c.from_residual.ensures.1 in
    let s = core_of c.args.self.now in
    let fewer = g.met.S.Store.may_fewer s.store in
    let call = Line (Show c.args.track c.args.from c.args.to) in
    let why = refusal.NoTrack c.args.track in
    subst (λ r. Sees g.S.Store s (seen call Cells c.args.out.now r) s)
    (sym (p.1 ∙ ap Err (p.2 ∙ c.in_err-layout.ensures.0)))
    (idle_sees g.S.Store s call Cells c.args.out.now fewer why tt tt
    (show_lacks g.S.Store s c.requires.studio c.args.track c.args.from c.args.to fewer why c.in_default.is
    (ap (lacks c.args.track) c.in_err-layout.ensures.1)))

pub returns-in_err-may_view-clause-seen : goal.returns-in_err-may_view-clause-seen
returns-in_err-may_view-clause-seen g c =
    let p = err_from_is_err_and c.from_residual-in_err-may_view.result c.from_residual-in_err-may_view.ensures.1 in
    let s = core_of c.args.self.now in
    let fewer = g.met.S.Store.may_fewer s.store in
    let call = Line (Show c.args.track c.args.from c.args.to) in
    subst (λ r. Sees g.S.Store s (seen call Cells c.args.out.now r) s)
    (sym (p.1 ∙ ap Err (p.2 ∙ c.in_err-may_view.ensures.0)))
    (idle_sees g.S.Store s call Cells c.args.out.now fewer refusal.BadRange tt tt
    (show_beyond g.S.Store s c.requires.studio c.args.track c.args.from c.args.to fewer c.in_ok-layout.layout.now
    c.in_ok-layout.ensures c.in_default.is refusal.BadRange c.in_err-may_view.ensures.1))

pub read_view-requires-clause-named : goal.read_view-requires-clause-named
read_view-requires-clause-named g c =
    let s = core_of c.args.self.now in
    layout_may_read g.S.Store s c.requires.studio c.args.track c.in_ok-layout.layout.now c.in_ok-layout.ensures

pub returns-in_err-count-clause-seen : goal.returns-in_err-count-clause-seen
returns-in_err-count-clause-seen g c =
    let s = core_of c.args.self.now in
    let fewer = g.met.S.Store.may_fewer s.store in
    let call = Line (Show c.args.track c.args.from c.args.to) in
    let store = c.read_view.new.reader.store in
    let layout = c.in_ok-layout.layout.now in
    let has = c.in_ok-layout.ensures in
    let cache = c.read_view.new.reader.cache in
    let keeps = reads_among g.S.Store s (layout_blocks layout) cache
    (layout_named g.S.Store s c.requires.studio c.args.track layout has) c.in_err-count.ensures.reads.cache in
    let fault = c.in_err-count.field-0.0 in
    after_err
    (λ r. Sees g.S.Store s (seen call Cells c.read_view.new.out r) (record s { store = store; cache = cache })) _
    c.from_residual-in_err-count.result c.from_residual-in_err-count.ensures.1
    (unread_sees g.S.Store s call store c.in_err-count.ensures.reads.kept cache Cells c.read_view.new.out fault
    (λ held. c.in_err-count.ensures.valid held.tells
    (layout_whole g.S.Store s c.requires.studio c.args.track layout has held))
    (show_failed g.S.Store s c.requires.studio c.args.track c.args.from c.args.to fewer layout has c.in_default.is store
    c.in_err-count.ensures.reads.kept cache keeps fault c.in_err-count.ensures.reads.faults
    c.in_err-count.ensures.reads.damaged))

pub returns-clause-seen : goal.returns-clause-seen
returns-clause-seen g c =
    let s = core_of c.args.self.now in
    let fewer = g.met.S.Store.may_fewer s.store in
    let call = Line (Show c.args.track c.args.from c.args.to) in
    let store = c.read_view.new.reader.store in
    let layout = c.in_ok-layout.layout.now in
    let has = c.in_ok-layout.ensures in
    let cache = c.read_view.new.reader.cache in
    let keeps = reads_among g.S.Store s (layout_blocks layout) cache
    (layout_named g.S.Store s c.requires.studio c.args.track layout has) c.in_ok-count.ensures.reads.cache in
    let n = c.in_ok-count.count in
    read_sees g.S.Store s call store c.in_ok-count.ensures.reads.kept cache Cells c.read_view.new.out n
    c.in_ok-count.ensures.count
    (show_done g.S.Store s c.requires.studio c.args.track c.args.from c.args.to fewer layout has c.in_default.is store
    c.in_ok-count.ensures.reads.kept cache keeps _ c.in_ok-may_view.ensures c.in_ok-count.ensures.reads.faults
    (λ held. c.in_ok-count.ensures.read held.tells
    (layout_whole g.S.Store s c.requires.studio c.args.track layout has held)))
