-- Each line of a script is valid where it stands.
use Rattle.std.proofs.Common.{◌≡◌, ℕ, zero, suc, ◌+◌, ◌-◌, ◌*◌, ◌≤◌, Bool, false, List, ◌∷◌, None, pos, negsuc}
use Rattle.std.proofs.Common.{refl, sym, ◌∙◌, subst, arith}
use Rattle.std.proofs.lemmas.Bool.{cond_both}
use Rattle.std.specs.Prelude.{if◌then◌else◌, ◌==◌}
use Rattle.pcm_base.specs.Run.{CarriesOut, followed, outside}
use Rattle.pcm_base.specs.{declared.answer.Reply.Reply, declared.command.Command.Command}
use Rattle.pcm_base.specs.{declared.entry.SoundMove.SoundMove, Counters.MayDraw, Counters.commits_needed}
use Rattle.pcm_base.specs.{Outside.Outside, State.State, State.new_state, Studio.Studio, Studio.fresh}
use Rattle.model_laws.proofs.Answered.{answered_same, no_generation}
use Rattle.script_gen.specs.Script.{first_place, line_at, lines_from, script_of}
use Rattle.script_gen.specs.Validity.{AreAlwaysValid, AreValid, GoesOn, IsValid}
use Rattle.script_gen.specs.{declared.place.Place.Place, Bounds.IsPlace}
use Rattle.script_gen.proofs.LineSteps.{Goes, ramp-goes, track-goes}
use Rattle.script_gen.proofs.Needing.{IsFew, few-blocks, few-bytes}
use Rattle.script_gen.proofs.{Editing.IsAt, PlaceSteps.Stands, PlaceSteps.line-leads, Passing.HasRoom}
use Rattle.script_gen.proofs.{Passing.line-passes, Places.first_place-bounds, Places.line-bounds}
use Rattle.pcm_base.specs.declared.command.Call.TheVariants as call
use Rattle.pcm_base.specs.declared.command.Command.TheVariants as command

-- a studio after this many lines of a script, its state of this kind
pub record IsBehind (made : ℕ) (P : State → Type 0) (t : Studio) : Type 0 where
  pub going : t.stopped ≡ None
  pub state : P t.state
  pub tracks : t.state.next_track ≤ 2
  pub pins : t.state.next_pin ≤ 1
  pub commits : t.state.commit ≤ made
  pub ids : t.next_block ≤ 16 + 2009 * made
  pub places : t.journal_end ≤ 80 + 2450110 * made
  pub generation : t.generation ≡ 0
  pub layouts : t.next_layout ≤ 1 + made

behind-room : (made : ℕ) (P : State → Type 0) (t : Studio) → made ≤ 4096 → IsBehind made P t → HasRoom t
behind-room made P t few b =
    record {
      going = b.going;
      ids = omega (arith, b.ids);
      tracks = omega (arith, b.tracks);
      commits = omega (arith, b.commits);
      pins = omega (arith, b.pins);
      places = omega (arith, b.places);
      generations = omega (arith, b.generation);
      layouts = omega (arith, b.layouts);
    }

goes-valid : (made : ℕ) (P Q : State → Type 0) (c : Command) (t : Studio) → made ≤ 4096 → IsBehind made P t →
    Goes P Q c →
    IsValid t c
goes-valid made P Q c t small b goes sound blocks len needs =
    let out = outside t sound in
    let few = goes.few out t blocks len b.state needs in
    line-passes out t c blocks len (behind-room made P t small b) (goes.passes out t.state b.state)
    (few-blocks t.block_size blocks len few) (few-bytes t.block_size blocks len few) (goes.tracks out) goes.commits
    (no_generation (call.Line c) goes.still) (goes.layouts out t.state b.state)

goes-on : (made : ℕ) (P Q : State → Type 0) (c : Command) (t : Studio) → made ≤ 4096 → IsBehind made P t →
    Goes P Q c →
    GoesOn t c
goes-on made P Q c t small b goes =
    let sound : SoundMove = record { before = None; after = None } in
    let out = outside t sound in
    let some = goes.needs out t in
    let answer = goes.answers out t.state in
    record {
      sound = sound;
      reply = answer.reply;
      next = followed out t (call.Line c) some.blocks some.len t.next_layout;
      answered = answer.answered;
      step = record {
        blocks = some.blocks;
        len = some.len;
        layout = t.next_layout;
        needs = some.needs;
        passed = goes-valid made P Q c t small b goes sound some.blocks some.len some.needs;
        draws = (omega arith, omega arith);
        answers = answer.may;
        is = sym (answered_same out t.state (call.Line c) answer.reply answer.may goes.still
            (followed out t (call.Line c) some.blocks some.len t.next_layout));
        heard = goes.heard out t.state;
      };
    }

bytes-few : (commits len : ℕ) → (if commits == 0 then 0 else 5 + len) ≤ 5 + len
bytes-few commits len =
    cond_both (commits == 0) _ _ (λ (n : ℕ). n ≤ 5 + len) (λ _. omega arith) (λ _. omega arith)

-- what is kept of the track and pin numbers
record IsKept (Q : State → Type 0) : Type 0 where
  tracks : (s : State) → Q s → s.next_track ≤ 2
  pins : (s : State) → Q s → s.next_pin ≤ 1

at-kept : (len copied : ℕ) (undone : Bool) → IsKept (IsAt len copied undone)
at-kept len copied undone = record {
  tracks = λ s h. let e = h.next_track in omega arith;
  pins = λ s h. let e = h.next_pin in omega arith;
}

followed-behind : (made : ℕ) (P Q : State → Type 0) (c : Command) (out : Outside) (t : Studio)
    (blocks len layout : ℕ) → IsBehind made P t → IsKept Q → Goes P Q c → IsFew t.block_size blocks len →
    MayDraw out t (call.Line c) layout →
    IsBehind (made + 1) Q (followed out t (call.Line c) blocks len layout)
followed-behind made P Q c out t blocks len layout b kept goes few draws =
    let next = goes.next out t.state b.state in
    record {
      going = b.going;
      state = next;
      tracks = kept.tracks _ next;
      pins = kept.pins _ next;
      commits = omega (arith, b.commits, goes.counted out t.state);
      ids = omega (arith, b.ids, few-blocks t.block_size blocks len few);
      places = omega (arith, b.places, few-bytes t.block_size blocks len few, bytes-few (commits_needed c) len);
      generation = b.generation;
      layouts = omega (arith, b.layouts, draws.1, goes.layouts out t.state b.state);
    }

-- a line, and those after it
goes-first : (made : ℕ) (P Q : State → Type 0) (c : Command) (cs : List Command) (t : Studio) → made ≤ 4096 →
    IsBehind made P t → IsKept Q → Goes P Q c →
    ((u : Studio) → IsBehind (made + 1) Q u → AreValid u cs) → AreValid t (c ∷ cs)
goes-first made P Q c cs t small b kept goes rest = record {
  0 = goes.form;
  1 = goes-valid made P Q c t small b goes;
  2 = goes-on made P Q c t small b goes;
  3 = next;
}
  where
    next : (sound : SoundMove) (reply : Reply) (u : Studio) → CarriesOut t (call.Line c) sound reply u → AreValid u cs
    next sound reply u done =
        let out = outside t sound in
        rest u (subst (IsBehind (made + 1) Q) (sym (done.is
        ∙ answered_same out t.state (call.Line c) reply done.answers goes.still
        (followed out t (call.Line c) done.blocks done.len done.layout)))
        (followed-behind made P Q c out t done.blocks done.len done.layout b kept goes
        (goes.few out t done.blocks done.len b.state done.needs) done.draws))

lines-valid : (left made : ℕ) (p : Place) (t : Studio) → made + left ≤ 4096 → IsPlace p → IsBehind made (Stands p) t →
    AreValid t (lines_from left p)
lines-valid zero made p t small bounds b = tt
lines-valid (suc left) made p t small bounds b =
    let w = line_at left p in
    goes-first made (Stands p) (Stands w.place) w.line (lines_from left w.place) t (omega arith) b
    (at-kept w.place.len w.place.copied w.place.undone) (line-leads left p bounds)
    (λ u h. lines-valid left (made + 1) w.place u (omega arith) (line-bounds left p bounds) h)

fresh-behind : (rate block_size depth : ℕ) → IsBehind 0 (λ s. s ≡ new_state depth) (fresh rate block_size depth)
fresh-behind rate block_size depth = record {
  going = refl;
  state = refl;
  tracks = omega arith;
  pins = omega arith;
  commits = omega arith;
  ids = omega arith;
  places = omega arith;
  generation = refl;
  layouts = omega arith;
}

pub script-valid : (number lines : ℕ) → lines ≤ 4096 → 2 ≤ lines → AreAlwaysValid (script_of number lines)
script-valid number lines most least rate block_size depth room =
    let rest = lines_from (lines - 2) (first_place number) in
    let ramp = command.Ramp 1 0 1000 (negsuc 499) (pos 1) in
    goes-first 0 (λ s. s ≡ new_state depth) (IsAt 0 0 false) command.Track (ramp ∷ rest) (fresh rate block_size depth)
    (omega arith) (fresh-behind rate block_size depth) (at-kept 0 0 false) (track-goes depth room)
    (λ t h. goes-first 1 (IsAt 0 0 false) (IsAt 1000 0 false) ramp rest t (omega arith) h (at-kept 1000 0 false)
    (ramp-goes 0 0 0 1000 (negsuc 499) (pos 1) (omega arith) (omega arith) (omega arith) (omega arith))
    (λ u k. lines-valid (lines - 2) 2 (first_place number) u (omega arith) (first_place-bounds number) k))
