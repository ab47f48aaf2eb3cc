-- One entry more of a run.
use Rattle.editor_state.proofs.Common.{◌≡◌, ◌⊎◌, inl, inr, ⊎_elim, refl, sym, ap, ◌∙◌, subst, None, List, [], ◌∷◌, ◌++◌}
use Rattle.editor_state.proofs.Common.{append_assoc, Result, Ok, Err, Answers, outside, Shape, Look, Compact, View}
use Rattle.editor_state.proofs.Common.{Cells, Frames, Columns, Tracks, shape_of, Reply, Call, Entry, SoundMove, Refusal}
use Rattle.editor_state.proofs.Common.{Outside, State, MayAnswer, Files, Ghosts, EachSince, Keeps, Exchange, KeepsOneOf}
use Rattle.editor_state.proofs.Common.{Took, reply_of, Core, KeepsPrefix, Stops, IsHeld, shown, studio_of, rules}
use Rattle.std.specs.Prelude.{OnErr}
use Rattle.pcm_base.specs.Run.{Run, Step, result_of}
use Rattle.pcm_base.specs.Shape.{PurgeTo, Reclaim, Bounce}
use Rattle.pcm_base.specs.{Step.MayReplyBy, Step.seen}
use Rattle.editor_state.specs.Took.{InFlight}
use Rattle.editor_state.specs.{Events.MayFly, Events.NextInFlight}
use Rattle.pcm_base.specs.declared.answer.Reply.TheVariants as reply
use Rattle.pcm_base.specs.declared.command.Call.TheVariants as call
use Rattle.pcm_base.specs.declared.refusal.Refusal.TheVariants as refusal
use Rattle.pcm_base.specs.Studio as model

-- ---- no call is answered by a refusal as its reply

abbrev pub Plain : Reply → Type 0
Plain (reply.Refused why) = ⊥
Plain r = Unit {0}

view_plain : (s : State) (view : View) → Plain (seen s view)
view_plain s (Cells id from to) = tt
view_plain s (Frames from to) = tt
view_plain s (Columns id from to columns) = tt
view_plain s Tracks = tt

line_plain : (out : Outside) (s : State) (shape : Shape) (r : Reply) → MayReplyBy out s shape r → Plain r
line_plain out s (PurgeTo bytes) r h = subst Plain (sym h.1) tt
line_plain out s (Look view) r h = subst Plain (sym h) (view_plain s view)
line_plain out s (Reclaim limit) r h = subst Plain (sym h.1) tt
line_plain out s Compact r h = subst Plain (sym h.1) tt
line_plain out s (Bounce name) r h = absurd h
line_plain out s _ r h = subst Plain (sym h) tt

pub plain : (out : Outside) (s : State) (c : Call) (r : Reply) → MayAnswer out s c r → Plain r
plain out s (call.Line c) r h = line_plain out s (shape_of c) r h
plain out s (call.Piece track tag samples) r h = subst Plain (sym h) tt
plain out s call.Pin r h = subst Plain (sym h) tt
plain out s (call.PinLen pin) r h = subst Plain (sym h.2) tt
plain out s (call.ReadPin pin from count) r h = subst Plain (sym h.2) tt
plain out s (call.LoadPin pin from count) r h = subst Plain (sym h.2) tt
plain out s (call.Unpin pin) r h = subst Plain (sym h) tt

pub plain_result : (r : Reply) → Plain r → result_of r ≡ Ok r
plain_result (reply.Refused why) h = absurd h
plain_result _ h = refl

pub step_of : (t u : model.Studio) (c : Call) (sound : SoundMove) (told : Result Reply Refusal) → Answers t c sound told u
    → Step t c sound (reply_of told) u
step_of t u c sound (Err why) h = h
step_of t u c sound (Ok r) h = search (rules, plain_result, plain)

-- ---- one entry more

pub run_more : (t s u : model.Studio) (es : List Entry) (e : Entry) → Run t es s → Step s e.call e.sound e.reply u
    → Run t (es ++ e ∷ []) u
run_more t s u [] e run step = (u, subst (λ (z : model.Studio). Step z e.call e.sound e.reply u) run step, refl)
run_more t s u (x ∷ xs) e run step = (run.0, run.1, run_more run.0 s u xs e run.2 step)

next_more : (u : model.Studio) (es : List Entry) (e : Entry) (c : Files) → NextInFlight u es c
    → NextInFlight u (es ++ e ∷ []) c
next_more u [] e c h = absurd h
next_more u (x ∷ xs) e c h = h

pub prefix_more : (t : model.Studio) (es : List Entry) (e : Entry) (c : Files) → KeepsPrefix t es c
    → KeepsPrefix t (es ++ e ∷ []) c
prefix_more t es e c h = record {
  front = h.front;
  back = h.back ++ e ∷ [];
  cut = ap (λ (z : List Entry). z ++ e ∷ []) h.cut ∙ append_assoc h.front h.back (e ∷ []);
  reached = h.reached;
  run = h.run;
  keeps = ⊎_elim (λ kept. inl kept) (λ flies. inr (next_more h.reached h.back e c flies)) h.keeps;
}

-- ---- the entry in flight

may_fly : (r : Reply) → Plain r → MayFly (result_of r)
may_fly r h = subst MayFly (sym (plain_result r h)) tt

module _ {D : Type 0} (disk : Ghosts D) (old new : Core D) (c : Call) (sound : SoundMove) (going : old.stopped ≡ None)
    (files : Files) where
  abbrev t : model.Studio
  t = studio_of disk old

  abbrev Flies : Reply → Type 0
  Flies r = Keeps files (shown t) ⊎ (InFlight t c sound files × MayFly (result_of r))

  -- a refusal of which the disk is not the cause stops no studio
  unstopped : (told : Result Reply Refusal) → (told ≡ Err refusal.DiskFault → ⊥) → Stops disk old told new
      → new.stopped ≡ None
  unstopped told not (inl same) = same.0 ∙ going
  unstopped told not (inr stops) = absurd (not stops.2)

  flies_by : (told : Result Reply Refusal) → Answers t c sound told (studio_of disk new) → Stops disk old told new
      → (new.stopped ≡ None → OnErr told (Keeps files (shown t))) → KeepsOneOf t c sound files
      → Flies (reply_of told)
  flies_by (Ok r) step stops refused one = ⊎_elim (λ kept. inl kept)
      (λ flight. inr (flight, may_fly r (plain (outside t sound) t.state c r step.answers))) one
  flies_by (Err refusal.DiskFault) step stops refused one =
      ⊎_elim (λ kept. inl kept) (λ flight. inr (flight, tt)) one
  flies_by (Err why) step stops refused one = inl (refused (unstopped (Err why) (λ is. absurd (cc)) stops))

-- at each moment of a call each image has the project of before, or of the call carried out, which no test and no want
-- of memory refused
pub flies : {D : Type 0} (disk : Ghosts D) (old new : Core D) (exchange : Exchange) → Took disk old exchange new
    → old.stopped ≡ None → IsHeld disk old
    → EachSince disk old.store new.store (λ files. Keeps files (shown (studio_of disk old))
    ⊎ (InFlight (studio_of disk old) exchange.call exchange.sound files × MayFly (result_of (reply_of exchange.told))))
flies disk old new exchange took going held files since =
    flies_by disk old new exchange.call exchange.sound going files exchange.told (took.step held) took.stops
    (λ still. on_err exchange.told (took.refused going held still))
    (took.any_moment going held files since)
  where
    on_err : (told : Result Reply Refusal)
        → OnErr told (EachSince disk old.store new.store (λ c. Keeps c (shown (studio_of disk old))))
        → OnErr told (Keeps files (shown (studio_of disk old)))
    on_err (Ok r) each = tt
    on_err (Err why) each = each files since
