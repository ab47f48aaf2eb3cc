-- Lines that are valid where they stand have a run.
use Rattle.std.proofs.Common.{List, [], ◌∷◌, Result, refl, ap, sym, subst}
use Rattle.std.proofs.lemmas.List.Elements.{All-cons, All-nil}
use Rattle.std.specs.Prelude.{IsOk}
use Rattle.pcm_base.specs.Run.{Answers, Step, result_of}
use Rattle.pcm_base.specs.{declared.answer.Reply.Reply, declared.command.Call.Call}
use Rattle.pcm_base.specs.{declared.command.Call.TheVariants.Line, declared.command.Command.Command}
use Rattle.pcm_base.specs.{declared.entry.Entry.Entry, declared.refusal.Refusal.Refusal, Studio.Studio}
use Rattle.script_gen.specs.Validity.{AreValid, HasRun}

abbrev IsAnswered : Entry → Type 0
IsAnswered e = IsOk (result_of e.reply)

pub valid-run : (t : Studio) (cs : List Command) → AreValid t cs → HasRun t cs
valid-run t [] h = record {
  entries = [];
  end = t;
  asked = refl;
  answered = All-nil IsAnswered;
  run = refl;
}
valid-run t (c ∷ cs) h =
    let on = h.2 in
    let rest = valid-run on.next cs (h.3 on.sound on.reply on.next on.step) in
    let e : Entry = record { actor = 0; call = Line c; reply = on.reply; sound = on.sound } in
    let said : IsAnswered e = subst (λ (r : Result Reply Refusal). IsOk r) (sym on.answered) refl in
    let step : Step t (Line c) on.sound on.reply on.next =
    subst (λ (r : Result Reply Refusal). Answers t (Line c) on.sound r on.next) (sym on.answered) on.step in
    record {
      entries = e ∷ rest.entries;
      end = rest.end;
      asked = ap (λ (l : List Call). Line c ∷ l) rest.asked;
      answered = All-cons IsAnswered e rest.entries said rest.answered;
      run = (on.next, step, rest.run);
    }
