-- Room in memory leaves the current point as it was. The numbers of layouts, or the records, refuse what is to be
-- prepared.
use Rattle.editor_core.proofs.Common.{ℕ, inl, inr, ⊎_elim, subst, sym, ◌∙◌, ◌+◌, IfErr, after_err, record_test}
use Rattle.editor_core.proofs.Common.{Writing, all_len, whole_len, writing, Undrawn, NotPrepared, Core, current_tracks}
use Rattle.editor_core.proofs.Common.{BodyAgrees, AgreeById, core_of, ◌otherwise◌}
use Rattle.record_body.specs.Numbers.{BodyKeeps}
use Rattle.editor_state.proofs.Refusals.CommitTests.{outgrows}
use Rattle.editor_core.proofs.studio.Studio.prepare.Goals as goal

pub write_records-requires-clause-numbers : goal.write_records-requires-clause-numbers
write_records-requires-clause-numbers g c =
    subst (λ (z : Core g.row.S.Denot). BodyAgrees (current_tracks z.history) c.args.body.now)
    (sym c.ready_counts.ensures.same) c.requires.numbers

pub write_records-requires-clause-kept : goal.write_records-requires-clause-kept
write_records-requires-clause-kept g c =
    subst (λ (z : Core g.row.S.Denot). BodyKeeps c.args.kept (current_tracks z.history) c.args.body.now)
    (sym c.ready_counts.ensures.same) c.requires.kept

pub write_records-requires-clause-again : goal.write_records-requires-clause-again
write_records-requires-clause-again g c =
    subst (λ (z : Core g.row.S.Denot). AgreeById (current_tracks z.history) (current_tracks z.history))
    (sym c.ready_counts.ensures.same) c.requires.again

pub returns-in_err-write_records-clause-same : goal.returns-in_err-write_records-clause-same
returns-in_err-write_records-clause-same g c = c.write_records.ensures.same ∙ c.ready_counts.ensures.same

pub returns-clause-same : goal.returns-clause-same
returns-clause-same g c = c.write_records.ensures.same ∙ c.ready_counts.ensures.same

-- numbers of layouts are not left
pub returns-in_err-may_draw-clause-err : goal.returns-in_err-may_draw-clause-err
returns-in_err-may_draw-clause-err g c =
    let s = core_of c.args.self.now in
    let w : Writing = writing c.args.more c.args.body.now in
    let why = c.in_err-may_draw.field-0.0 in
    let lacks : Undrawn s.journal_end s.next_layout c.args.layouts (whole_len s w) why =
    subst (λ (n : ℕ). Undrawn s.journal_end s.next_layout c.args.layouts n why) c.in_ok-whole.ensures.value
    c.in_err-may_draw.ensures.err in
    after_err (λ r. IfErr r (NotPrepared s c.args.blocks c.args.tracks c.args.layouts (c.args.more + 1) (whole_len s w)
    (all_len s w))) _ c.from_residual-in_err-may_draw.result c.from_residual-in_err-may_draw.ensures.1
    (inr (inr (
      c.in_ok-may_make.ensures.blocks,
      c.in_ok-may_make.ensures.ids,
      c.in_ok-may_make.ensures.number,
      inl (λ i. (lacks i) otherwise (record_test (whole_len s w))),
    )))

-- the journal has no places for the records, or they are too long
pub returns-in_err-may_write-clause-err : goal.returns-in_err-may_write-clause-err
returns-in_err-may_write-clause-err g c =
    let s = core_of c.args.self.now in
    let w : Writing = writing c.args.more c.args.body.now in
    let why = c.in_err-may_write.field-0.0 in
    let room = c.in_ok-may_draw.ensures.ok in
    after_err (λ r. IfErr r (NotPrepared s c.args.blocks c.args.tracks c.args.layouts (c.args.more + 1) (whole_len s w)
    (all_len s w))) _ c.from_residual-in_err-may_write.result c.from_residual-in_err-may_write.ensures.1
    (⊎_elim
    (λ memory. inl memory)
    (λ over. inr (inr (
      c.in_ok-may_make.ensures.blocks,
      c.in_ok-may_make.ensures.ids,
      c.in_ok-may_make.ensures.number,
      ⊎_elim
          (λ whole. inl (outgrows s.journal_end s.next_layout c.args.layouts (whole_len s w) why room whole))
          (λ last. inr (outgrows s.journal_end s.next_layout c.args.layouts (all_len s w) why room last)) over,
    )))
    c.in_err-may_write.ensures.err)
