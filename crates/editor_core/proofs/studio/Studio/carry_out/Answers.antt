-- An edit that makes blocks is a step.
use Rattle.editor_core.proofs.Common.{◌⊎◌, inr, refl, sym, ap, subst, ℕ, ◌+◌, IfErr, List, length, Err, Ok, arith}
use Rattle.editor_core.proofs.Common.{after_err, Done, History, IsUndamaged, Track, point_blocks, Took, as_reply}
use Rattle.editor_core.proofs.Common.{with_sound, Lasts, Core, IfCutShort, Carried, IsStill, IsInsideOr, RefusedBrought}
use Rattle.editor_core.proofs.Common.{HasIds, history_tracks, MayBecome, core_of, current_tracks, Few}
use Rattle.std.proofs.Common.{pos}
use Rattle.edit_ops.specs.Plans.{AreNew}
use Rattle.project_state.specs.Kept.{KeepsTracks}
use Rattle.editor_state.specs.Edits.{Committed, TaggedEdit, tagged_by}
use Rattle.editor_state.specs.{Made.PiecesReadable}
use Rattle.editor_edits.proofs.EditBodies.{carried_at, commit_of, body_point}
use Rattle.editor_edits.proofs.EditResults.{IsPointed, lasts_so, out_fits, out_named, out_room, out_single, out_there}
use Rattle.editor_edits.proofs.EditResults.{recorded_counted, recorded_few, recorded_there, took_so}
use Rattle.editor_edits.proofs.{EditPlans.pieces_there, EditSteps.edit_err, EditLasts.lasts_err}
use Rattle.editor_edits.proofs.{BeforeBlocks.carried_still, VaultCuts.cut_or, VaultCuts.serves_so}
use Rattle.editor_commits.proofs.CurrentProject.{came_agrees}
use Rattle.editor_blocks.proofs.NoDamage.{no_damage}
use Rattle.editor_core.proofs.studio.Studio.carry_out.Given.{Over}
use Rattle.editor_core.proofs.studio.Studio.carry_out.Goals.{In_err-carry, In_ok-carry, After-take_recorded}
use Rattle.editor_core.proofs.studio.Studio.carry_out.Goals as goal

-- the edit by the samples that came, where it fails
abbrev tried : (g : Over) → In_err-carry g → TaggedEdit
tried g c = tagged_by c.args.edit c.args.tag c.args.more (g.G.Brings.brings c.args.given.now)
    c.in_err-carry.ensures.carried.0

failed : (g : Over) (c : In_err-carry g) → Carried g.S.Store (core_of c.args.self.now)
    (commit_of (core_of c.args.self.now) (tried g c)) (Err c.in_err-carry.field-0.0) (core_of c.carry.new.self)
failed g c = carried_at g.S.Store (core_of c.args.self.now) (core_of c.carry.new.self) (tried g c) c.as_slice.result.now
    (Err c.in_err-carry.field-0.0) c.as_slice.ensures c.requires.next c.in_err-carry.ensures.carried.2

-- and where it does not
abbrev done_as : (g : Over) → In_ok-carry g → TaggedEdit
done_as g c = tagged_by c.args.edit c.args.tag c.args.more (g.G.Brings.brings c.args.given.now)
    c.in_ok-carry.ensures.carried.0

committed : (g : Over) (c : In_ok-carry g) → Committed g.S.Store (core_of c.args.self.now)
    (commit_of (core_of c.args.self.now) (done_as g c)) (Ok (tt {0})) (core_of c.carry.new.self)
committed g c = carried_at g.S.Store (core_of c.args.self.now) (core_of c.carry.new.self) (done_as g c)
    c.as_slice.result.now (Ok (tt {0})) c.as_slice.ensures c.requires.next c.in_ok-carry.ensures.carried.2

-- its point recorded
pointed : (g : Over) (c : After-take_recorded g) → IsPointed g.S.Store (core_of c.args.self.now)
    (tagged_by c.args.edit c.args.tag c.args.more (g.G.Brings.brings c.args.given.now) c.in_ok-carry.ensures.carried.0)
    (core_of c.take_recorded.new.self)
pointed g c = record {
  new = core_of c.carry.new.self;
  committed = carried_at g.S.Store (core_of c.args.self.now) (core_of c.carry.new.self)
      (tagged_by c.args.edit c.args.tag c.args.more (g.G.Brings.brings c.args.given.now)
      c.in_ok-carry.ensures.carried.0) c.as_slice.result.now (Ok (tt {0})) c.as_slice.ensures c.requires.next
      c.in_ok-carry.ensures.carried.2;
  history = c.in_ok-carry.ensures.history;
  layouts = c.in_ok-carry.ensures.layouts;
  point = c.in-Edit.point;
  point_is = ap body_point c.in-Edit.is;
  before = c.carry.new.self.tally;
  after = c.take_recorded.new.self.tally;
  uses_before = refl;
  counts_before = refl;
  uses_after = refl;
  counts_after = refl;
  fields = c.take_recorded.ensures.fields;
  counted = c.take_recorded.ensures.counts;
}

pub carry-requires-clause-numbers : goal.carry-requires-clause-numbers
carry-requires-clause-numbers g c =
    let s = core_of c.args.self.now in
    came_agrees g.S.Store s c.requires.studio c.args.edit.point (s.next_layout + c.args.edit.layouts)
    (c.requires.planned (λ _. pos 0)).layouts

pub carry-requires-clause-kept : goal.carry-requires-clause-kept
carry-requires-clause-kept g c = (c.requires.planned (λ _. pos 0)).kept

pub carry-requires-clause-new : goal.carry-requires-clause-new
carry-requires-clause-new g c =
    let s = core_of c.args.self.now in
    subst (AreNew s.block_size s.next_block) (sym c.as_slice.ensures) (c.requires.planned (λ _. pos 0)).new

pub carry-requires-clause-pieces : goal.carry-requires-clause-pieces
carry-requires-clause-pieces g c =
    subst (PiecesReadable (g.G.Brings.brings c.args.given.now).count) (sym c.as_slice.ensures)
    (c.requires.planned (λ _. pos 0)).readable

pub returns-in_err-carry-clause-took : goal.returns-in_err-carry-clause-took
returns-in_err-carry-clause-took g c =
    let brings = g.G.Brings.brings c.args.given.now in
    let by = c.in_err-carry.ensures.carried in
    let why = c.in_err-carry.field-0.0 in
    let at = (goal.at.returns-in_err-carry-clause-took g c).In_err-carry in (
      by.0,
      by.1,
      λ call sound serves edit. after_err (λ x. IfCutShort x ⊎ Took g.S.Store (core_of c.args.self.now)
          (with_sound call sound (as_reply (λ (n : ℕ). Done) x)) (core_of c.carry.new.self)) _
          c.from_residual.result c.from_residual.ensures.1 (cut_or brings why c.in_err-carry.ensures.device
          (edit_err g.S.Store (core_of c.args.self.now) c.requires.studio c.requires.going (tried g at)
          (c.requires.planned by.0) call sound edit g.met.S.Store.may_fewer why (core_of c.carry.new.self)
          (serves_so brings call why c.in_err-carry.ensures.device serves) (failed g at))),
    )

pub returns-in_err-carry-clause-valid : goal.returns-in_err-carry-clause-valid
returns-in_err-carry-clause-valid g c = λ held.
    let s = core_of c.args.self.now in
    let plan = c.requires.planned c.in_err-carry.ensures.carried.0 in
    let at = (goal.at.returns-in_err-carry-clause-valid g c).In_err-carry in
    after_err (λ x. IfErr x IsUndamaged) _ c.from_residual.result c.from_residual.ensures.1
    (no_damage g.S.Store s c.requires.studio c.requires.going (commit_of s (tried g at)) c.in_err-carry.field-0.0
    (core_of c.carry.new.self) held
    (pieces_there g.S.Store s c.requires.studio c.requires.going (tried g at) plan held) (failed g at))

pub returns-in_err-carry-clause-lasts : goal.returns-in_err-carry-clause-lasts
returns-in_err-carry-clause-lasts g c = λ call sound serves one.
    let s = core_of c.args.self.now in
    let new = core_of c.carry.new.self in
    let why = c.in_err-carry.field-0.0 in
    let at = (goal.at.returns-in_err-carry-clause-lasts g c).In_err-carry in
    after_err (λ x. Lasts g.S.Store s (with_sound call sound (as_reply (λ (n : ℕ). Done) x)) new) _
    c.from_residual.result c.from_residual.ensures.1
    (lasts_err g.S.Store s c.requires.studio c.requires.going (tried g at)
    (c.requires.planned c.in_err-carry.ensures.carried.0) call sound one (g.met.S.Store.may_fewer s.store) why new
    (serves_so (g.G.Brings.brings c.args.given.now) call why c.in_err-carry.ensures.device serves) (failed g at))

pub returns-in_err-carry-clause-device : goal.returns-in_err-carry-clause-device
returns-in_err-carry-clause-device g c =
    after_err (λ x. IfErr x (IsInsideOr (g.G.Brings.brings c.args.given.now))) _ c.from_residual.result
    c.from_residual.ensures.1 c.in_err-carry.ensures.device

pub returns-in_err-carry-clause-given : goal.returns-in_err-carry-clause-given
returns-in_err-carry-clause-given g c =
    after_err
    (λ x. RefusedBrought x (g.G.Brings.fault_count c.args.given.now) (g.G.Brings.fault_count c.carry.new.given)) _
    c.from_residual.result c.from_residual.ensures.1 c.in_err-carry.ensures.given

pub returns-in_err-carry-clause-still : goal.returns-in_err-carry-clause-still
returns-in_err-carry-clause-still g c =
    let s = core_of c.args.self.now in
    let at = (goal.at.returns-in_err-carry-clause-still g c).In_err-carry in
    after_err (λ x. IfErr x (IsStill s (core_of c.carry.new.self))) _ c.from_residual.result c.from_residual.ensures.1
    (carried_still g.S.Store s (core_of c.carry.new.self) (commit_of s (tried g at)) c.in_err-carry.field-0.0
    (failed g at))

pub take_recorded-requires-clause-there : goal.take_recorded-requires-clause-there
take_recorded-requires-clause-there g c =
    let new = core_of c.carry.new.self in
    let at = (goal.at.take_recorded-requires-clause-there g c).In_ok-carry in
    subst (λ (q : List Track). HasIds new.counts (point_blocks q)) (ap body_point c.in-Edit.is)
    (recorded_there g.S.Store (core_of c.args.self.now) c.requires.studio c.requires.going (done_as g at)
    (c.requires.planned c.in_ok-carry.ensures.carried.0) new (committed g at))

pub take_recorded-requires-clause-few : goal.take_recorded-requires-clause-few
take_recorded-requires-clause-few g c =
    let new = core_of c.carry.new.self in
    let at = (goal.at.take_recorded-requires-clause-few g c).In_ok-carry in
    subst (λ (q : List Track). Few new.counts (point_blocks q)) (ap body_point c.in-Edit.is)
    (recorded_few g.S.Store (core_of c.args.self.now) c.requires.studio c.requires.going (done_as g at)
    (c.requires.planned c.in_ok-carry.ensures.carried.0) new (committed g at))

pub take_recorded-requires-clause-counted : goal.take_recorded-requires-clause-counted
take_recorded-requires-clause-counted g c =
    let tally = c.carry.new.self.tally in
    let at = (goal.at.take_recorded-requires-clause-counted g c).In_ok-carry in
    subst (λ (w : History (List Track) × List Track). MayBecome w.1 (history_tracks w.0) tally)
    (λ i. (sym c.in_ok-carry.ensures.history i, ap body_point c.in-Edit.is i))
    (recorded_counted g.S.Store (core_of c.args.self.now) c.requires.studio c.requires.going (done_as g at)
    (c.requires.planned c.in_ok-carry.ensures.carried.0) (core_of c.carry.new.self) (committed g at) tally refl refl)

-- the current project is that of before it
pub take_recorded-requires-clause-kept : goal.take_recorded-requires-clause-kept
take_recorded-requires-clause-kept g c =
    subst (λ (w : History (List Track) × List Track). KeepsTracks c.args.edit.kept (current_tracks w.0) w.1)
    (λ i. (sym c.in_ok-carry.ensures.history i, ap body_point c.in-Edit.is i))
    (c.requires.planned c.in_ok-carry.ensures.carried.0).kept

pub take_recorded-requires-clause-layouts : goal.take_recorded-requires-clause-layouts
take_recorded-requires-clause-layouts g c =
    let k = committed g (goal.at.take_recorded-requires-clause-layouts g c).In_ok-carry in omega (
      arith,
      c.in_ok-carry.ensures.layouts,
      ap (λ (z : Core g.row.S.Denot). z.next_layout) k.adds.fields.0,
      ap (λ (z : Core g.row.S.Denot). z.next_layout) k.making.is,
    )

pub take_recorded-requires-clause-uses : goal.take_recorded-requires-clause-uses
take_recorded-requires-clause-uses g c =
    let by = c.in_ok-carry.ensures.carried in
    omega (
      arith,
      c.in_ok-carry.ensures.uses,
      (c.requires.planned by.0).valid.few,
      ap (λ (q : List Track). length q) (ap body_point c.in-Edit.is),
    )

pub take_out-requires : goal.take_out-requires
take_out-requires g c =
    let s = core_of c.args.self.now in
    let plan = c.requires.planned c.in_ok-carry.ensures.carried.0 in
    let e = done_as g (goal.at.take_out-requires g c).In_ok-carry in
    let now = core_of c.take_recorded.new.self in
    let at = pointed g (goal.at.take_out-requires g c).After-take_recorded in record {
      there = out_there g.S.Store s c.requires.studio c.requires.going e plan now at;
      room = out_room g.S.Store s c.requires.studio c.requires.going e plan now at;
      fits = out_fits g.S.Store s c.requires.studio c.requires.going e plan now at;
      named = record {
        all = out_named g.S.Store s c.requires.studio c.requires.going e plan now at;
        singles = out_single g.S.Store s c.requires.studio c.requires.going e plan now at;
      };
    }

pub returns-clause-took : goal.returns-clause-took
returns-clause-took g c =
    let by = c.in_ok-carry.ensures.carried in (
      by.0,
      by.1,
      λ call sound serves edit. inr (took_so g.S.Store (core_of c.args.self.now) c.requires.studio c.requires.going
          (done_as g (goal.at.returns-clause-took g c).In_ok-carry) (c.requires.planned by.0)
          (core_of c.take_recorded.new.self) (pointed g (goal.at.returns-clause-took g c).After-take_recorded)
          (core_of c.take_out.new.self) c.take_out.ensures.fields c.take_out.ensures.moves c.take_out.ensures.single
          g.met.S.Store.may_fewer call sound edit),
    )

pub returns-clause-lasts : goal.returns-clause-lasts
returns-clause-lasts g c = λ call sound serves one. lasts_so g.S.Store (core_of c.args.self.now)
    c.requires.studio c.requires.going (done_as g (goal.at.returns-clause-lasts g c).In_ok-carry)
    (c.requires.planned c.in_ok-carry.ensures.carried.0) (core_of c.take_recorded.new.self)
    (pointed g (goal.at.returns-clause-lasts g c).After-take_recorded)
    (core_of c.take_out.new.self) c.take_out.ensures.fields c.take_out.ensures.moves c.take_out.ensures.single call
    sound one
