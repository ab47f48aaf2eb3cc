-- The body's tracks are those of the point. Numbers of layouts are not left, or the record is added or is not.
use Rattle.editor_core.proofs.Common.{◌∙◌, inl, inr, refl, sym, ap, subst, ℕ, ◌+◌, List, Err, err_from_is_err_and, Edit}
use Rattle.editor_core.proofs.Common.{Track, Ghosts, Refusal, AddsBody, AddsDrawn, Undrawn, Writing, single, whole_len}
use Rattle.editor_core.proofs.Common.{Core, core_of}
use Rattle.editor_core.proofs.studio.Studio.commit_point.Goals as goal

pub commit_body-requires-clause-numbers : goal.commit_body-requires-clause-numbers
commit_body-requires-clause-numbers g c = c.requires.numbers

pub returns-in_err-may_draw-clause-record : goal.returns-in_err-may_draw-clause-record
returns-in_err-may_draw-clause-record g c =
    let p = err_from_is_err_and c.from_residual.result c.from_residual.ensures.1 in
    let s = core_of c.args.self.now in
    let w = single (Edit 0 s.next_block (s.next_track + c.args.tracks) c.args.point) in
    let why = c.in_err-may_draw.field-0.0 in
    let lacks : Undrawn s.journal_end s.next_layout c.args.layouts (whole_len s w) why =
    subst (λ (n : ℕ). Undrawn s.journal_end s.next_layout c.args.layouts n why) c.body_len.ensures.value
    c.in_err-may_draw.ensures.err in
    subst (λ r. AddsDrawn {R = List Track} g.S.Store s c.args.layouts w r s) (sym (p.1 ∙ ap Err p.2))
    (inr (refl, lacks))

-- a refusal says nothing of what an answer would be
refused_as : {D Q R : Type 0} (disk : Ghosts D) (old : Core D) (w : Writing) (why : Refusal) (new : Core D)
    → AddsBody {R = Q} disk old w (Err why) new → AddsBody {R = R} disk old w (Err why) new
refused_as disk old w why new a = record {
  fields = a.fields;
  any_moment = a.any_moment;
  done = a.done;
  changed = a.changed;
  read_faults = a.read_faults;
}

pub returns-in_err-commit_body-clause-record : goal.returns-in_err-commit_body-clause-record
returns-in_err-commit_body-clause-record g c =
    let p =
    err_from_is_err_and c.from_residual-in_err-commit_body.result c.from_residual-in_err-commit_body.ensures.1 in
    let s = core_of c.args.self.now in
    let mid = core_of c.commit_body.new.self in
    let w = single (Edit 0 s.next_block (s.next_track + c.args.tracks) c.args.point) in
    subst (λ r. AddsDrawn {R = List Track} g.S.Store s c.args.layouts w r mid) (sym (p.1 ∙ ap Err p.2))
    (inl (
      c.in_ok-may_draw.ensures.ok,
      refused_as g.S.Store s w c.in_err-commit_body.field-0.0 mid c.in_err-commit_body.ensures.record,
    ))
