-- Scanning a track is a step that changes nothing.
use Rattle.editor_core.proofs.Common.{◌∙◌, sym, ap, subst, Ok, Err, err_from_is_err_and, exit_err, Line, layout_blocks}
use Rattle.editor_core.proofs.Common.{core_of, lacks, as_reply, layout_may_read, layout_named, layout_whole, idle_looks}
use Rattle.editor_core.proofs.Common.{read_looks, reads_among}
use Rattle.pcm_base.specs.{declared.command.Command.TheVariants.Envelope}
use Rattle.envelope_view.proofs.AnswerLaws.{counted_of, damaged_of}
use Rattle.editor_state.specs.{Reads.Looks}
use Rattle.editor_state.proofs.Calls.LookAnswers.{unread_looks}
use Rattle.editor_views.proofs.CellViews.{scan_stopped, scan_lacks, scan_done, scan_failed}
use Rattle.pcm_base.specs.declared.answer.Reply.TheVariants as reply
use Rattle.pcm_base.specs.declared.refusal.Refusal.TheVariants as refusal
use Rattle.editor_core.proofs.studio.Studio.envelope.Goals as goal

pub returns-in-Some-clause-looks : goal.returns-in-Some-clause-looks
returns-in-Some-clause-looks g c =
    let s = core_of c.args.self.now in
    let fewer = g.met.S.Store.may_fewer s.store in
    idle_looks g.S.Store s (Line (Envelope c.args.track c.args.from c.args.to c.args.columns)) fewer
    (refusal.Stopped c.in-Some.faults) tt
    (scan_stopped g.S.Store s c.requires c.args.track c.args.from c.args.to fewer c.args.columns c.in-Some.faults
    c.in-Some.is)

pub returns-in_err-layout-clause-looks : goal.returns-in_err-layout-clause-looks
returns-in_err-layout-clause-looks g c =
    let p = err_from_is_err_and c.from_residual.result c.from_residual.ensures.1 in
    let s = core_of c.args.self.now in
    let fewer = g.met.S.Store.may_fewer s.store in
    let call = Line (Envelope c.args.track c.args.from c.args.to c.args.columns) in
    let why = refusal.NoTrack c.args.track in
    subst (λ r. Looks g.S.Store s call (as_reply reply.Columns r) s)
    (sym (p.1 ∙ ap Err (p.2 ∙ c.in_err-layout.ensures.0)))
    (idle_looks g.S.Store s call fewer why tt
    (scan_lacks g.S.Store s c.requires c.args.track c.args.from c.args.to fewer c.args.columns why c.in_default.is
    (ap (lacks c.args.track) c.in_err-layout.ensures.1)))

pub columns-requires : goal.columns-requires
columns-requires g c =
    let s = core_of c.args.self.now in
    record {
      named = layout_may_read g.S.Store s c.requires c.args.track c.in_ok-layout.layout.now c.in_ok-layout.ensures;
    }

pub returns-in_err-scans-clause-looks : goal.returns-in_err-scans-clause-looks
returns-in_err-scans-clause-looks g c =
    let s = core_of c.args.self.now in
    let fewer = g.met.S.Store.may_fewer s.store in
    let call = Line (Envelope c.args.track c.args.from c.args.to c.args.columns) in
    let store = c.columns.new.reader.store in
    let layout = c.in_ok-layout.layout.now in
    let has = c.in_ok-layout.ensures in
    let cache = c.columns.new.reader.cache in
    let keeps = reads_among g.S.Store s (layout_blocks layout) cache
    (layout_named g.S.Store s c.requires c.args.track layout has) c.in_err-scans.ensures.reads.cache in
    let why = c.in_err-scans.field-0.0 in
    subst (λ r. Looks g.S.Store s call (as_reply reply.Columns r) (record s { store = store; cache = cache })) (sym
    (exit_err c.from_residual-in_err-scans.result c.from_residual-in_err-scans.ensures.1))
    (unread_looks g.S.Store s call store c.in_err-scans.ensures.reads.kept cache why
    (λ held. c.in_err-scans.ensures.valid held.tells (layout_whole g.S.Store s c.requires c.args.track layout has held))
    (scan_failed g.S.Store s c.requires c.args.track c.args.from c.args.to fewer c.args.columns layout
    has c.in_default.is store c.in_err-scans.ensures.reads.kept cache keeps why c.in_err-scans.ensures.tests
    (counted_of why _ _ c.in_err-scans.ensures.reads.faults)
    (λ told. damaged_of (g.S.Store.reads s.store) (layout_blocks layout) why
    (c.in_err-scans.ensures.reads.damaged told))))

pub returns-clause-looks : goal.returns-clause-looks
returns-clause-looks g c =
    let s = core_of c.args.self.now in
    let fewer = g.met.S.Store.may_fewer s.store in
    let call = Line (Envelope c.args.track c.args.from c.args.to c.args.columns) in
    let store = c.columns.new.reader.store in
    let layout = c.in_ok-layout.layout.now in
    let has = c.in_ok-layout.ensures in
    let cache = c.columns.new.reader.cache in
    let keeps = reads_among g.S.Store s (layout_blocks layout) cache
    (layout_named g.S.Store s c.requires c.args.track layout has) c.in_ok-scans.ensures.reads.cache in
    let found = c.in_ok-scans.scans.items in
    subst (λ xs. Looks g.S.Store s call (Ok (reply.Columns xs)) (record s { store = store; cache = cache })) (sym
    c.new.ensures)
    (read_looks g.S.Store s call store c.in_ok-scans.ensures.reads.kept cache (reply.Columns found)
    (scan_done g.S.Store s c.requires c.args.track c.args.from c.args.to fewer c.args.columns layout has c.in_default.is
    store c.in_ok-scans.ensures.reads.kept cache keeps found c.in_ok-scans.ensures.tests
    c.in_ok-scans.ensures.reads.faults
    (λ held. c.in_ok-scans.ensures.read held.tells (layout_whole g.S.Store s c.requires c.args.track layout has held))))
