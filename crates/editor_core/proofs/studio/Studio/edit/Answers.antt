-- An edit that makes no blocks is a step.
use Rattle.editor_core.proofs.Common.{◌≡◌, ◌∙◌, refl, sym, ap, subst, ℕ, ◌+◌, ◌≤◌, ◌<◌, ◌^◌, List, length, Err, Ok}
use Rattle.editor_core.proofs.Common.{IfOk, None, ⊎_elim, arith, after_err, Done, Line, record_test, History, edited}
use Rattle.editor_core.proofs.Common.{◌otherwise◌, Counts, AllPass, Stored, IsUndamaged, Edit, current_tracks}
use Rattle.editor_core.proofs.Common.{Track, point_blocks, AgreeById, AllBelow, Tally, history_tracks, Becomes}
use Rattle.editor_core.proofs.Common.{MayBecome, Took, quietly, silent, as_reply, AddsBody, AddsDrawn, all_bytes}
use Rattle.editor_core.proofs.Common.{single, whole_len, Core, HasIds, is_block, core_of, few_more, named_there}
use Rattle.editor_core.proofs.Common.{TellsNone, undamaged_test, wants, pages_of_blocks, current_below, tested_out, Few}
use Rattle.std.specs.Prelude.{IfErr}
use Rattle.editor_state.specs.{Adding.Tested}
use Rattle.editor_commits.specs.declared.plain_edit.PlainEdit.{PlainEdit}
use Rattle.editor_commits.specs.Plain.{layouts_by, line_of, tracks_by, refusal_by, IsEdited}
use Rattle.editor_state.proofs.Refusals.DamageTests.{outgrowing}
use Rattle.editor_state.proofs.{Calls.FileRemovals.commit_removes_none}
use Rattle.editor_commits.proofs.PlainEdits.{own_is, needs_none, names, valid, edit_counts, edit_done, edit_fails}
use Rattle.editor_commits.proofs.PlainEdits.{edit_agrees, edit_may}
use Rattle.editor_commits.proofs.{CommitStudios.CountsAfter, PlainLines.call_by, CallsWithoutReads.adding_tells}
use Rattle.editor_commits.proofs.{CallsWithoutReads.refusal_tells}
use Rattle.pcm_base.specs.declared.refusal.Refusal.TheVariants as refusal
use Rattle.editor_core.proofs.studio.Studio.edit.Given.{Over}
use Rattle.editor_core.proofs.studio.Studio.edit.Goals.{After-make_room, In_ok-point, In_ok-point-2}
use Rattle.editor_core.proofs.studio.Studio.edit.Goals as goal
use Rattle.layout_uses.specs.Tallies.{uses_of}
use Rattle.row_ledger.specs.Lists.{counts_of}

-- the edit passed its tests, and makes this point
record IsReady {D : Type 0} (s : Core D) (e : PlainEdit) (p : List Track) : Type 0 where
  going : s.stopped ≡ None
  none : refusal_by e (current_tracks s.history) ≡ None
  tracks : s.next_track + tracks_by e ≤ 2 ^ 62
  number : s.commit_number < 2 ^ 62
  made : IsEdited e s.next_track s.next_layout (current_tracks s.history) p

ready : (g : Over) (c : In_ok-point g) → IsReady (core_of c.args.self.now) c.args.edit c.in_ok-point.point
ready g c =
    let s = core_of c.args.self.now in
    let may = subst (λ (n : ℕ). (s.stopped ≡ None) × (c.edit_refusal.result ≡ None) × (s.next_track + n ≤ 2 ^ 62)
    × (s.commit_number < 2 ^ 62)) c.tracks_for-tracks.ensures c.in_ok-may_commit.ensures in record {
      going = may.0;
      none = sym c.edit_refusal.ensures ∙ may.1;
      tracks = may.2;
      number = may.3;
      made = subst (λ (z : Core g.row.S.Denot). IsEdited c.args.edit z.next_track z.next_layout
          (current_tracks z.history) c.in_ok-point.point) c.make_room.ensures.same c.in_ok-point.ensures;
    }

-- with no memory the studio stays as it is
idle : (g : Over) (c : After-make_room g) → Took g.S.Store (core_of c.args.self.now)
    (quietly (Line (line_of c.args.edit)) (Err refusal.NoMemory)) (core_of c.make_room.new.self)
idle g c =
    let s = core_of c.args.self.now in
    let call = Line (line_of c.args.edit) in
    subst (λ (z : Core g.row.S.Denot). Took g.S.Store s (quietly call (Err refusal.NoMemory)) z)
    (sym c.make_room.ensures.same) (wants g.S.Store s call silent c.requires.studio (g.met.S.Store.may_fewer s.store)
    (commit_removes_none call (call_by c.args.edit).many) refl 0
    (λ held. (0, needs_none g.S.Store s c.requires.studio c.args.edit)))

-- the point, history and tally that a commit leaves are those of before it
left : (g : Over) (c : In_ok-point-2 g) → c.in_ok-point-2.point ≡ c.in_ok-point.point
    × ((core_of c.commit_point.new.self).history ≡ c.args.self.now.history.history)
    × (c.commit_point.new.self.tally ≡ c.make_room.new.self.tally)
left g c = (
  c.in_ok-point-2.ensures.same,
  ap (λ (z : Stored (List Track)). z.history) c.in_ok-point-2.ensures.history
      ∙ ap (λ (z : Core g.row.S.Denot). z.history) c.make_room.ensures.same,
  c.in_ok-point-2.ensures.ledger,
)

-- and what holds of the counts and the point holds of those left
of_left : (g : Over) (c : In_ok-point-2 g) (P : Counts → List Track → Type 0)
    → P (core_of c.args.self.now).counts c.in_ok-point.point
    → P (counts_of c.commit_point.new.self.tally.ledger) c.in_ok-point-2.point
of_left g c P =
    let l = left g c in
    let counts = sym (ap (λ (t : Tally). counts_of t.ledger) l.2
    ∙ ap (λ (z : Core g.row.S.Denot). z.counts) c.make_room.ensures.same) in
    subst (λ (w : Counts × List Track). P w.0 w.1) (λ i. (counts i, sym l.0 i))

pub returns-in_err-may_commit-clause-took : goal.returns-in_err-may_commit-clause-took
returns-in_err-may_commit-clause-took g c =
    let s = core_of c.args.self.now in
    let e = c.args.edit in
    let is = c.requires.studio in
    let why = c.in_err-may_commit.field-0.0 in
    after_err (λ r. Took g.S.Store s (quietly (Line (line_of e)) (as_reply (λ (n : ℕ). Done) r)) s) _
    c.from_residual.result c.from_residual.ensures.1
    (tested_out g.S.Store s (Line (line_of e)) (tracks_by e) 0 c.edit_refusal.result why is
    (g.met.S.Store.may_fewer s.store) (call_by e) (omega arith) (λ held. needs_none g.S.Store s is e)
    (c.edit_refusal.ensures ∙ own_is g.S.Store s is e)
    (subst (λ (n : ℕ). Tested s c.edit_refusal.result n (Err why))
    c.tracks_for-tracks.ensures c.in_err-may_commit.ensures))

pub returns-in_err-make_room-clause-took : goal.returns-in_err-make_room-clause-took
returns-in_err-make_room-clause-took g c =
    after_err (λ r. Took g.S.Store (core_of c.args.self.now) (quietly (Line (line_of c.args.edit))
    (as_reply (λ (n : ℕ). Done) r)) (core_of c.make_room.new.self)) _ c.from_residual-in_err-make_room.result
    c.from_residual-in_err-make_room.ensures.1
    (idle g (goal.at.returns-in_err-make_room-clause-took g c).After-make_room)

pub edited-requires-clause-there : goal.edited-requires-clause-there
edited-requires-clause-there g c =
    let none = sym c.edit_refusal.ensures ∙ c.in_ok-may_commit.ensures.1 in
    subst (λ (z : Core g.row.S.Denot). refusal_by c.args.edit (current_tracks z.history) ≡ None)
    (sym c.make_room.ensures.same) none

pub edited-requires-clause-below : goal.edited-requires-clause-below
edited-requires-clause-below g c =
    let s = core_of c.args.self.now in
    subst (λ (z : Core g.row.S.Denot). AllBelow z.next_track (current_tracks z.history)) (sym c.make_room.ensures.same)
    (current_below g.S.Store s c.requires.studio)

pub returns-in_err-point-clause-took : goal.returns-in_err-point-clause-took
returns-in_err-point-clause-took g c =
    let idle = idle g (goal.at.returns-in_err-point-clause-took g c).After-make_room in
    after_err (λ r. Took g.S.Store (core_of c.args.self.now) (quietly (Line (line_of c.args.edit))
    (as_reply (λ (n : ℕ). Done) r)) (core_of c.make_room.new.self)) _ c.from_residual-in_err-point.result
    c.from_residual-in_err-point.ensures.1 idle

pub commit_point-requires-clause-numbers : goal.commit_point-requires-clause-numbers
commit_point-requires-clause-numbers g c =
    let s = core_of c.args.self.now in
    let p = c.in_ok-point.point in
    let r = ready g (goal.at.commit_point-requires-clause-numbers g c).In_ok-point in
    subst (λ (z : Core g.row.S.Denot). AgreeById (current_tracks z.history) p) (sym c.make_room.ensures.same)
    (edit_agrees g.S.Store s c.requires.studio c.args.edit c.requires.good r.none p r.made)

pub commit_point-requires-clause-layouts : goal.commit_point-requires-clause-layouts
commit_point-requires-clause-layouts g c = omega (
  arith,
  c.requires.studio.layouts,
  ap (λ (z : Core g.row.S.Denot). z.next_layout) c.make_room.ensures.same,
)

pub returns-in_err-point-2-clause-took : goal.returns-in_err-point-2-clause-took
returns-in_err-point-2-clause-took g c =
    let s = core_of c.args.self.now in
    let e = c.args.edit in
    let p = c.in_ok-point.point in
    let r = ready g (goal.at.returns-in_err-point-2-clause-took g c).In_ok-point in
    let mid = core_of c.commit_point.new.self in
    let why = c.in_err-point-2.field-0.0 in
    let adds = subst (λ (w : Core g.row.S.Denot × ℕ × ℕ). AddsDrawn {R = List Track} g.S.Store w.0 w.1
    (single (Edit 0 w.0.next_block (w.0.next_track + w.2) p)) (Err why) mid)
    (λ i. (c.make_room.ensures.same i, c.layouts_for-layouts.ensures i, c.tracks_for-tracks.ensures i))
    c.in_err-point-2.ensures.record in
    after_err (λ x. Took g.S.Store s (quietly (Line (line_of e)) (as_reply (λ (n : ℕ). Done) x))
    mid) _ c.from_residual-in_err-point-2.result c.from_residual-in_err-point-2.ensures.1
    (edit_fails g.S.Store s c.requires.studio e c.requires.good r.none p r.made r.tracks r.going r.number why mid
    (g.met.S.Store.may_fewer s.store) adds)

pub take_point-requires-clause-there : goal.take_point-requires-clause-there
take_point-requires-clause-there g c =
    let s = core_of c.args.self.now in
    let at = goal.at.take_point-requires-clause-there g c in
    let r = ready g at.In_ok-point in
    of_left g at.In_ok-point-2 (λ z q. HasIds z (point_blocks q))
    (named_there g.S.Store s c.requires.studio (point_blocks c.in_ok-point.point)
    (names g.S.Store s c.requires.studio c.args.edit c.requires.good r.none c.in_ok-point.point r.made))

pub take_point-requires-clause-few : goal.take_point-requires-clause-few
take_point-requires-clause-few g c =
    let s = core_of c.args.self.now in
    let e = c.args.edit in
    let p = c.in_ok-point.point in
    let at = goal.at.take_point-requires-clause-few g c in
    let r = ready g at.In_ok-point in
    of_left g at.In_ok-point-2 (λ z q. Few z (point_blocks q)) (few_more g.S.Store s c.requires.studio p
    (s.next_track + tracks_by e) (valid g.S.Store s c.requires.studio e c.requires.good r.none p r.made))

-- of the tracks of the new point
pub take_point-requires-clause-uses : goal.take_point-requires-clause-uses
take_point-requires-clause-uses g c =
    let s = core_of c.args.self.now in
    let r = ready g (goal.at.take_point-requires-clause-uses g c).In_ok-point in omega (
      arith,
      c.in_ok-make_room.ensures.uses,
      ap (λ (t : Tally). t.uses.spare) c.in_ok-point-2.ensures.ledger,
      ap (λ (z : List Track). length z) c.in_ok-point-2.ensures.same,
      (valid g.S.Store s c.requires.studio c.args.edit c.requires.good r.none c.in_ok-point.point r.made).few,
    )

pub take_point-requires-clause-layouts : goal.take_point-requires-clause-layouts
take_point-requires-clause-layouts g c = omega (
  arith,
  c.in_ok-point-2.ensures.record.0,
  ap (λ (z : Core g.row.S.Denot). z.next_layout) c.in_ok-point-2.ensures.record.1.fields.0,
)

pub take_point-requires-clause-counted : goal.take_point-requires-clause-counted
take_point-requires-clause-counted g c =
    let s = core_of c.args.self.now in
    let p = c.in_ok-point.point in
    let at = goal.at.take_point-requires-clause-counted g c in
    let r = ready g at.In_ok-point in
    let l = left g at.In_ok-point-2 in
    subst (λ (w : List Track × History (List Track) × Tally). MayBecome w.0 (history_tracks w.1) w.2)
    (λ i. (sym l.0 i, sym l.1 i, sym l.2 i))
    (edit_may g.S.Store s c.requires.studio c.args.edit c.requires.good r.none p r.made c.make_room.new.self.tally
    (ap (λ (z : Core g.row.S.Denot). z.uses) c.make_room.ensures.same)
    (ap (λ (z : Core g.row.S.Denot). z.counts) c.make_room.ensures.same))

pub returns-clause-took : goal.returns-clause-took
returns-clause-took g c =
    let s = core_of c.args.self.now in
    let same : core_of c.make_room.new.self ≡ s = c.make_room.ensures.same in
    let is = c.requires.studio in
    let e = c.args.edit in
    let p = c.in_ok-point.point in
    let at = goal.at.returns-clause-took g c in
    let r = ready g at.In_ok-point in
    let l = left g at.In_ok-point-2 in
    let mid = core_of c.commit_point.new.self in
    let tracks : c.tracks_for-tracks.result ≡ tracks_by e = c.tracks_for-tracks.ensures in
    let adds = subst (λ (w : Core g.row.S.Denot × ℕ). AddsBody {R = List Track} g.S.Store w.0
    (single (Edit 0 w.0.next_block (w.0.next_track + w.1) p)) (Ok c.in_ok-point-2.point) mid)
    (λ i. (same i, tracks i)) c.in_ok-point-2.ensures.record.1 in
    let before = c.make_room.new.self.tally in
    let after = c.take_point.new.self.tally in
    let becomes : Becomes p (history_tracks s.history) (history_tracks (edited s.history p 0)) before after =
    subst (λ (w : List Track × History (List Track) × Tally). Becomes w.0 (history_tracks w.1)
    (history_tracks (edited w.1 w.0 0)) w.2 after) (λ i. (l.0 i, l.1 i, l.2 i)) c.take_point.ensures.counts in
    let next : mid.next_track ≡ s.next_track = ap (λ (z : Core g.row.S.Denot). z.next_track) adds.fields.0 in
    let layout : mid.next_layout ≡ s.next_layout = ap (λ (z : Core g.row.S.Denot). z.next_layout) adds.fields.0 in
    let layouts : c.layouts_for-layouts.result ≡ layouts_by e = c.layouts_for-layouts.ensures in
    let fits : s.next_layout + layouts_by e ≤ 2 ^ 62 = omega (
      arith,
      c.in_ok-point-2.ensures.record.0,
      layouts,
      ap (λ (z : Core g.row.S.Denot). z.next_layout) same,
    ) in
    let number : mid.next_layout + c.layouts_for-layouts.result ≡ s.next_layout + layouts_by e =
    λ i. layout i + layouts i in
    let counted = subst (λ (n : ℕ). CountsAfter s.pins (edited s.history p 0) s.clipboard n s.counts
    (uses_of after) (counts_of after.ledger)) (sym number)
    (edit_counts g.S.Store s is e c.requires.good r.none p r.made before after
    (ap (λ (z : Core g.row.S.Denot). z.uses) same) (ap (λ (z : Core g.row.S.Denot). z.counts) same) fits becomes) in
    subst (λ (z : Core g.row.S.Denot). Took g.S.Store s (quietly (Line (line_of e)) (Ok Done)) z)
    (sym c.take_point.ensures.fields)
    (edit_done g.S.Store s is e c.requires.good r.none p r.made r.tracks r.going r.number c.in_ok-point-2.point mid
    (edited mid.history c.in_ok-point-2.point 0) (uses_of after) (counts_of after.ledger)
    (mid.next_track + c.tracks_for-tracks.result) (mid.next_layout + c.layouts_for-layouts.result) adds
    (λ i. edited (l.1 i) (l.0 i) 0) counted (λ i. next i + tracks i) number)

pub returns-in_err-may_commit-clause-number : goal.returns-in_err-may_commit-clause-number
returns-in_err-may_commit-clause-number g c =
    after_err (λ r. IfOk r (λ (n : ℕ). n ≡ c.args.self.now.commit_number)) _ c.from_residual.result
    c.from_residual.ensures.1 tt

pub returns-in_err-make_room-clause-number : goal.returns-in_err-make_room-clause-number
returns-in_err-make_room-clause-number g c =
    after_err (λ r. IfOk r (λ (n : ℕ). n ≡ c.make_room.new.self.commit_number)) _
    c.from_residual-in_err-make_room.result c.from_residual-in_err-make_room.ensures.1 tt

pub returns-in_err-point-clause-number : goal.returns-in_err-point-clause-number
returns-in_err-point-clause-number g c =
    after_err (λ r. IfOk r (λ (n : ℕ). n ≡ c.make_room.new.self.commit_number)) _ c.from_residual-in_err-point.result
    c.from_residual-in_err-point.ensures.1 tt

pub returns-in_err-point-2-clause-number : goal.returns-in_err-point-2-clause-number
returns-in_err-point-2-clause-number g c =
    after_err (λ r. IfOk r (λ (n : ℕ). n ≡ c.commit_point.new.self.commit_number)) _
    c.from_residual-in_err-point-2.result c.from_residual-in_err-point-2.ensures.1 tt

pub returns-in_err-may_commit-clause-undamaged : goal.returns-in_err-may_commit-clause-undamaged
returns-in_err-may_commit-clause-undamaged g c =
    let s = core_of c.args.self.now in
    let own = subst TellsNone (sym c.edit_refusal.ensures) (refusal_tells c.args.edit (current_tracks s.history)) in
    after_err (λ r. IfErr r IsUndamaged) _ c.from_residual.result c.from_residual.ensures.1
    (undamaged_test s.stopped c.edit_refusal.result s.next_track c.tracks_for-tracks.result s.commit_number
    c.in_err-may_commit.field-0.0 own c.in_err-may_commit.ensures)

pub returns-in_err-make_room-clause-undamaged : goal.returns-in_err-make_room-clause-undamaged
returns-in_err-make_room-clause-undamaged g c =
    after_err (λ r. IfErr r IsUndamaged) _ c.from_residual-in_err-make_room.result
    c.from_residual-in_err-make_room.ensures.1 tt

pub returns-in_err-point-clause-undamaged : goal.returns-in_err-point-clause-undamaged
returns-in_err-point-clause-undamaged g c =
    after_err (λ r. IfErr r IsUndamaged) _ c.from_residual-in_err-point.result c.from_residual-in_err-point.ensures.1 tt

pub returns-in_err-point-2-clause-undamaged : goal.returns-in_err-point-2-clause-undamaged
returns-in_err-point-2-clause-undamaged g c =
    let s = core_of c.make_room.new.self in
    let body = Edit 0 s.next_block (s.next_track + c.tracks_for-tracks.result) c.in_ok-point.point in
    after_err (λ r. IfErr r IsUndamaged) _ c.from_residual-in_err-point-2.result
    c.from_residual-in_err-point-2.ensures.1
    (⊎_elim
    (λ added. adding_tells g.S.Store s (core_of c.commit_point.new.self) (all_bytes s (single body)) 1
    (whole_len s (single body)) c.in_err-point-2.field-0.0 added.1)
    (λ lacks. outgrowing s.journal_end s.next_layout c.layouts_for-layouts.result (whole_len s (single body))
    c.in_err-point-2.field-0.0 (λ i. (lacks.1 i) otherwise (record_test (whole_len s (single body)))))
    c.in_err-point-2.ensures.record)

pub commit_point-requires-clause-file : goal.commit_point-requires-clause-file
commit_point-requires-clause-file g c =
    subst (λ (z : Core g.row.S.Denot). z.file ≤ 1) (sym c.make_room.ensures.same) c.requires.studio.journal.among

pub commit_point-requires-clause-pages : goal.commit_point-requires-clause-pages
commit_point-requires-clause-pages g c =
    let s = core_of c.args.self.now in
    subst (λ (z : Core g.row.S.Denot). AllPass is_block z.cache) (sym c.make_room.ensures.same)
    (pages_of_blocks s.next_block s.cache c.requires.studio.pages)
