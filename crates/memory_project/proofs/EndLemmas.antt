-- Where the script of a number ends.
use Rattle.std.proofs.Common.{◌≡◌, ℕ, zero, suc, ◌-◌, Bool, true, false, None, List, [], ◌∷◌, pos, negsuc, Result, Ok}
use Rattle.std.proofs.Common.{refl, sym, ap, ◌∙◌, subst, arith}
use Rattle.std.proofs.lemmas.List.Elements.{All-cons, All-nil}
use Rattle.std.specs.{Prelude.if◌then◌else◌, Prelude.IsOk, List.AllByRecursion}
use Rattle.pcm_base.specs.Run.{Answers, CarriesOut, Step, followed, outside, result_of}
use Rattle.pcm_base.specs.State.{State, new_state}
use Rattle.pcm_base.specs.{declared.answer.Reply.Reply, declared.command.Call.Call}
use Rattle.pcm_base.specs.{declared.command.Call.TheVariants.Line, declared.command.Command.Command}
use Rattle.pcm_base.specs.{declared.entry.Entry.Entry, declared.refusal.Refusal.Refusal, Studio.Studio}
use Rattle.editor_state.specs.Took.{silent}
use Rattle.editor_state.proofs.Calls.RunEntries.{plain, plain_result}
use Rattle.model_laws.proofs.Answered.{answered_same}
use Rattle.script_gen.specs.Script.{drawn_at, first_place, kind_at, line_at, lines_from, redo_at, script_of, undo_at}
use Rattle.script_gen.specs.Script.{written_as}
use Rattle.script_gen.specs.{declared.kind.Kind.Kind, declared.place.Place.Place, Bounds.IsPlace, Room.script_project}
use Rattle.script_gen.specs.{Validity.HasRun}
use Rattle.script_gen.proofs.LineSteps.{Goes, ramp-goes, track-goes}
use Rattle.script_gen.proofs.{Editing.IsAt, Editing.current-track, PlaceSteps.Stands, PlaceSteps.line-leads}
use Rattle.script_gen.proofs.{Places.first_place-bounds, Places.line-bounds}
use Rattle.memory_project.specs.{Lines.AreCarriedOut, Lines.IsOfScript, Sums.HasOneTrack}
use Rattle.pcm_base.specs.declared.command.Command.TheVariants as command
use Rattle.script_gen.specs.declared.kind.Kind.TheVariants as kind

-- ---- of which kinds the lines are

undo_kind : (left : ℕ) (p : Place) → IsOfScript (undo_at left p).line
undo_kind zero p = tt
undo_kind (suc left) p = tt

written_kind : (k : Kind) (left : ℕ) (p : Place) → IsOfScript (written_as k left p).line
written_kind kind.Undo left p = undo_kind left p
written_kind _ left p = tt

line_kind : (left : ℕ) (p : Place) → IsOfScript (line_at left p).line
line_kind left p = by p.undone
  where
    by : (undone : Bool) → IsOfScript (if undone then redo_at p else drawn_at left p).line
    by true = tt
    by false = written_kind (kind_at p) left _

lines_kind : (left : ℕ) (p : Place) → AllByRecursion IsOfScript (lines_from left p)
lines_kind zero p = tt
lines_kind (suc left) p = (line_kind left p, lines_kind left (line_at left p).place)

pub script_kinds : (number lines : ℕ) → AllByRecursion IsOfScript (script_of number lines)
script_kinds number lines = (tt, (tt, lines_kind (lines - 2) (first_place number)))

-- ---- lines that were carried out are a run

abbrev IsAnswered : Entry → Type 0
IsAnswered e = IsOk (result_of e.reply)

-- a run that ends there
pub record RunsTo (t : Studio) (cs : List Command) (u : Studio) : Type 0 where
  pub run : HasRun t cs
  pub ends : run.end ≡ u

pub carried_run : (t : Studio) (cs : List Command) (u : Studio) → AllByRecursion IsOfScript cs → AreCarriedOut t cs u
    → RunsTo t cs u
carried_run t [] u kinds done = record {
  run = record { entries = []; end = t; asked = refl; answered = All-nil IsAnswered; run = refl };
  ends = sym done;
}
carried_run t (c ∷ cs) u kinds done =
    let mid = done.0 in
    let r = done.1 in
    let step = done.2 in
    let rest = carried_run mid cs u kinds.1 done.3 in
    let is : result_of r ≡ Ok r = plain_result r (plain (outside t silent) t.state (Line c) r step.answers) in
    let e : Entry = record { actor = 0; call = Line c; reply = r; sound = silent } in
    let said : IsAnswered e = subst (λ (x : Result Reply Refusal). IsOk x) (sym is) refl in
    let went : Step t (Line c) silent r mid =
    subst (λ (x : Result Reply Refusal). Answers t (Line c) silent x mid) (sym is) step in
    record {
      run = record {
        entries = e ∷ rest.run.entries;
        end = rest.run.end;
        asked = ap (λ (l : List Call). Line c ∷ l) rest.run.asked;
        answered = All-cons IsAnswered e rest.run.entries said rest.run.answered;
        run = (mid, went, rest.run.run);
      };
      ends = rest.ends;
    }

-- ---- the last line of a script

written_last : (k : Kind) (p : Place) → p.undone ≡ false → (written_as k 0 p).place.undone ≡ false
written_last kind.Ramp p e = e
written_last _ p e = e

line_last : (p : Place) → (line_at 0 p).place.undone ≡ false
line_last p = by p.undone refl
  where
    by : (undone : Bool) → p.undone ≡ undone → (if undone then redo_at p else drawn_at 0 p).place.undone ≡ false
    by true e = refl
    by false e = written_last (kind_at p) _ e

-- a studio that goes on, its state of this kind
record Behind (P : State → Type 0) (t : Studio) : Type 0 where
  going : t.stopped ≡ None
  state : P t.state

next_behind : (P Q : State → Type 0) (c : Command) (t mid : Studio) (r : Reply) → Behind P t → Goes P Q c
    → CarriesOut t (Line c) silent r mid → Behind Q mid
next_behind P Q c t mid r b goes done =
    subst (Behind Q)
    (sym (done.is ∙ answered_same (outside t silent) t.state (Line c) r done.answers goes.still
    (followed (outside t silent) t (Line c) done.blocks done.len done.layout)))
    (record { going = b.going; state = goes.next (outside t silent) t.state b.state })

pub record IsAtEnd (t : Studio) : Type 0 where
  pub going : t.stopped ≡ None
  pub track : HasOneTrack t

at_end : (p : Place) (t : Studio) → IsPlace p → p.undone ≡ false → Behind (Stands p) t → IsAtEnd t
at_end p t bounds last b =
    let at : IsAt p.len p.copied false t.state = subst (λ (x : Bool). IsAt p.len p.copied x t.state) last b.state in
    let track = current-track p.len p.copied t.state at in
    let len = track.full.length_is in
    let least = bounds.least in
    record { going = b.going; track = record { cells = track.cells; is = track.is; some = omega (arith, len, least) } }

lines_end : (left : ℕ) (p : Place) (t u : Studio) → IsPlace p → (left ≡ 0 → p.undone ≡ false) → Behind (Stands p) t
    → AreCarriedOut t (lines_from left p) u → IsAtEnd u
lines_end zero p t u bounds last b done = subst IsAtEnd (sym done) (at_end p t bounds (last refl) b)
lines_end (suc left) p t u bounds last b done =
    let w = line_at left p in
    lines_end left w.place done.0 u (line-bounds left p bounds)
    (λ e. subst (λ (n : ℕ). (line_at n p).place.undone ≡ false) (sym e) (line_last p))
    (next_behind (Stands p) (Stands w.place) w.line t done.0 done.1 b (line-leads left p bounds) done.2) done.3

pub script_end : (number lines : ℕ) (u : Studio) → AreCarriedOut script_project (script_of number lines) u → IsAtEnd u
script_end number lines u done =
    let ramp = command.Ramp 1 0 1000 (negsuc 499) (pos 1) in
    let first = next_behind (λ s. s ≡ new_state 64) (IsAt 0 0 false) command.Track script_project done.0 done.1
    (record { going = refl; state = refl }) (track-goes 64 (omega arith)) done.2 in
    let second = done.3 in
    let behind = next_behind (IsAt 0 0 false) (IsAt 1000 0 false) ramp done.0 second.0 second.1 first
    (ramp-goes 0 0 0 1000 (negsuc 499) (pos 1) (omega arith) (omega arith) (omega arith) (omega arith)) second.2 in
    lines_end (lines - 2) (first_place number) second.0 u (first_place-bounds number) (λ e. refl) behind second.3
