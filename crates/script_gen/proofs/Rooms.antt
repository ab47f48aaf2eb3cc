-- How much of a disk the lines of a script need.
use Rattle.std.proofs.Common.{◌≡◌, ℕ, zero, suc, ◌-◌, ◌*◌, ◌≤◌, false, List, [], ◌∷◌, length, pos, negsuc, refl, subst}
use Rattle.std.proofs.Common.{sym, ◌∙◌, arith}
use Rattle.pcm_base.specs.{Counters.LineNeeds, Counters.commits_needed, Counters.places_of, Run.CarriesOut}
use Rattle.pcm_base.specs.{Run.followed, Run.outside, declared.answer.Reply.Reply, declared.command.Command.Command}
use Rattle.pcm_base.specs.{declared.entry.SoundMove.SoundMove, State.State, State.new_state, Studio.Studio}
use Rattle.model_laws.proofs.Answered.{answered_same}
use Rattle.script_gen.specs.Room.{EachNeedsAtMost, HaveRoom, NeedsAtMost, SumsAtMost, script_project}
use Rattle.script_gen.specs.Script.{first_place, line_at, lines_from, script_of}
use Rattle.script_gen.specs.{declared.place.Place.Place, Bounds.IsPlace}
use Rattle.script_gen.proofs.LineSteps.{Goes, ramp-goes, track-goes}
use Rattle.script_gen.proofs.{Editing.IsAt, PlaceSteps.Stands, PlaceSteps.line-leads, Needing.IsFew, Needing.few-512}
use Rattle.script_gen.proofs.{Passing.places-few, Places.first_place-bounds, Places.line-bounds}
use Rattle.pcm_base.specs.declared.command.Call.TheVariants as call
use Rattle.pcm_base.specs.declared.command.Command.TheVariants as command

-- a studio with blocks of at most 512 samples, its state of this kind
record IsSized (P : State → Type 0) (t : Studio) : Type 0 where
  size : t.block_size ≡ 512
  state : P t.state

needs-few : (P Q : State → Type 0) (c : Command) (t : Studio) → IsSized P t → Goes P Q c → NeedsAtMost t c 11 6872
needs-few P Q c t b goes = record { most = most }
  where
    most : (sound : SoundMove) (blocks len : ℕ) → LineNeeds (outside t sound) t c blocks len →
        (blocks ≤ 11) × (len ≤ 6872)
    most sound blocks len needs =
        few-512 blocks len (subst (λ (m : ℕ). IsFew m blocks len) b.size
        (goes.few (outside t sound) t blocks len b.state needs))

first-few : (P Q : State → Type 0) (c : Command) (cs : List Command) (t : Studio) → IsSized P t → Goes P Q c →
    ((u : Studio) → IsSized Q u → EachNeedsAtMost u cs 11 6872) → EachNeedsAtMost t (c ∷ cs) 11 6872
first-few P Q c cs t b goes rest = (needs-few P Q c t b goes, next)
  where
    next : (sound : SoundMove) (reply : Reply) (u : Studio) → CarriesOut t (call.Line c) sound reply u →
        EachNeedsAtMost u cs 11 6872
    next sound reply u done =
        let out = outside t sound in
        let behind : IsSized Q (followed out t (call.Line c) done.blocks done.len done.layout) =
        record { size = b.size; state = goes.next out t.state b.state } in
        rest u (subst (IsSized Q) (sym (done.is ∙ answered_same out t.state (call.Line c) reply done.answers goes.still
        (followed out t (call.Line c) done.blocks done.len done.layout))) behind)

lines-few : (left : ℕ) (p : Place) (t : Studio) → IsPlace p → IsSized (Stands p) t →
    EachNeedsAtMost t (lines_from left p) 11 6872
lines-few zero p t bounds b = tt
lines-few (suc left) p t bounds b =
    let w = line_at left p in
    first-few (Stands p) (Stands w.place) w.line (lines_from left w.place) t b (line-leads left p bounds)
    (λ u h. lines-few left w.place u (line-bounds left p bounds) h)

pub script-few : (number lines : ℕ) → EachNeedsAtMost script_project (script_of number lines) 11 6872
script-few number lines =
    let rest = lines_from (lines - 2) (first_place number) in
    let ramp = command.Ramp 1 0 1000 (negsuc 499) (pos 1) in
    first-few (λ s. s ≡ new_state 64) (IsAt 0 0 false) command.Track (ramp ∷ rest) script_project
    (record { size = refl; state = refl }) (track-goes 64 (omega arith))
    (λ t h. first-few (IsAt 0 0 false) (IsAt 1000 0 false) ramp rest t h
    (ramp-goes 0 0 0 1000 (negsuc 499) (pos 1) (omega arith) (omega arith) (omega arith) (omega arith))
    (λ u k. lines-few (lines - 2) (first_place number) u (first_place-bounds number) k))

-- ---- sums

-- as much for each line
each-sums : (cs : List Command) (t : Studio) (blocks bytes : ℕ) → 11 * length cs ≤ blocks → 6878 * length cs ≤ bytes →
    EachNeedsAtMost t cs 11 6872 → SumsAtMost t cs blocks bytes
each-sums [] t blocks bytes h k few = tt
each-sums (c ∷ cs) t blocks bytes h k few =
    let places : places_of (call.Line c) 6872 ≤ 6878 = places-few (commits_needed c) 6872 in (
      11,
      6872,
      few.0,
      omega arith,
      omega arith,
      λ sound reply next done.
          each-sums cs next (blocks - 11) (bytes - places_of (call.Line c) 6872) (omega arith) (omega arith)
          (few.1 sound reply next done),
    )

pub few-room : (cs : List Command) → 1 ≤ length cs → EachNeedsAtMost script_project cs 11 6872 → HaveRoom cs
few-room cs some few = record {
  blocks = 11 * length cs;
  bytes = 6878 * length cs;
  sums = each-sums cs script_project (11 * length cs) (6878 * length cs) (omega arith) (omega arith) few;
  fits = record { files = omega arith; calls = omega arith; written = omega arith };
}
