-- The line at a place of the generator leads to the next place.
use Rattle.std.proofs.Common.{ℕ, zero, suc, ◌+◌, ◌<◌, Bool, true, false, arith}
use Rattle.pcm_base.specs.State.{State}
use Rattle.script_gen.specs.Script.{Written, draw_at, drawn_on, kind_at, line_at, undo_at, written_as}
use Rattle.script_gen.specs.{declared.kind.Kind.Kind, declared.place.Place.Place, Bounds.IsPlace, Draws.next_state}
use Rattle.script_gen.proofs.Editing.{IsAt}
use Rattle.script_gen.proofs.Places.{Fits, drawn-below, drawn_on-bounds, kind-fits, range-drawn}
use Rattle.script_gen.proofs.LineSteps.{Goes, copy-goes, delete-goes, envelope-goes, gain-goes, paste-goes, ramp-goes}
use Rattle.script_gen.proofs.LineSteps.{redo-goes, silence-goes, tracks-goes, undo-goes}
use Rattle.script_gen.specs.declared.kind.Kind.TheVariants as kind

-- an editor at a place of the generator
abbrev pub Stands : Place → State → Type 0
Stands p s = IsAt p.len p.copied p.undone s

abbrev Leads : Place → Written → Type 0
Leads p w = Goes (Stands p) (Stands w.place) w.line

-- a place where no line was undone
abbrev settled : ℕ → ℕ → ℕ → Place
settled state len copied = record { state = state; len = len; copied = copied; undone = false }

undo-leads : (left state len copied : ℕ) → Leads (settled state len copied) (undo_at left (settled state len copied))
undo-leads zero state len copied = tracks-goes len copied
undo-leads (suc left) state len copied = undo-goes len copied

written-leads : (k : Kind) (left state len copied : ℕ) → IsPlace (settled state len copied) →
    Fits (settled state len copied) k → Leads (settled state len copied) (written_as k left (settled state len copied))
written-leads kind.Ramp left state len copied b fits =
    let p = settled state len copied in
    let at : draw_at (len + 1) p < len + 1 = drawn-below (len + 1) (next_state state) (omega arith) in
    let count : draw_at 2000 (drawn_on p) < 2000 = drawn-below 2000 (next_state (next_state state)) (omega arith) in
    ramp-goes len copied (draw_at (len + 1) p) (1 + draw_at 2000 (drawn_on p)) _ _ (omega arith) fits (omega arith)
    (omega arith)
written-leads kind.Delete left state len copied b fits =
    let r = range-drawn (settled state len copied) b in
    delete-goes len copied _ _ r.order r.within b.most
written-leads kind.Gain left state len copied b fits =
    let p = settled state len copied in
    let r = range-drawn p b in
    let third = drawn_on (drawn_on p) in
    let gain : draw_at 131073 third < 131073 = drawn-below 131073 (next_state third.state) (omega arith) in
    gain-goes len copied _ _ (draw_at 131073 third) r.order r.within r.few b.most (omega arith)
written-leads kind.Silence left state len copied b fits =
    let r = range-drawn (settled state len copied) b in
    silence-goes len copied _ _ r.order r.within r.few b.most
written-leads kind.Copy left state len copied b fits =
    let r = range-drawn (settled state len copied) b in
    copy-goes len copied _ _ r.order r.within b.most
written-leads kind.Paste left state len copied b fits =
    let p = settled state len copied in
    let at : draw_at (len + 1) p < len + 1 = drawn-below (len + 1) (next_state state) (omega arith) in
    paste-goes len copied (draw_at (len + 1) p) (omega arith) fits.1 fits.0 b.copied
written-leads kind.Undo left state len copied b fits = undo-leads left state len copied
written-leads kind.Envelope left state len copied b fits =
    let least = b.least in
    envelope-goes len copied (omega arith) b.most

pub line-leads : (left : ℕ) (p : Place) → IsPlace p →
    Goes (Stands p) (Stands (line_at left p).place) (line_at left p).line
line-leads left p b = by p.undone b
  where
    at : Bool → Place
    at undone = record p { undone = undone }

    by : (undone : Bool) → IsPlace (at undone) → Leads (at undone) (line_at left (at undone))
    by true b = redo-goes p.len p.copied
    by false b =
        written-leads (kind_at (at false)) left (next_state p.state) p.len p.copied (drawn_on-bounds (at false) b)
        (kind-fits (at false))
