-- Where an answer tells that no turn was left.
use Rattle.std.proofs.Common.{◌≡◌, inl, inr, ℕ, Bool, true, false, List, [], ◌∷◌, ◌++◌, Result, Ok, Err, sym, ◌∙◌, ap}
use Rattle.std.proofs.Common.{subst, ⊎_elim}
use Rattle.std.specs.Prelude.{MatchBool}
use Rattle.pcm_base.specs.declared.{answer.Answer.Answer, answer.Reply.TheVariants.Refused, command.Command.Command}
use Rattle.pin_turn.specs.Counts.{Each}
use Rattle.pin_turn.proofs.Sums.{Each-left, Each-right}
use Rattle.script_text.specs.Grammar.{is_silent, line_of}
use Rattle.studio_seats.specs.{declared.deed.Deed.Deed, Desks.spent, Leads.HadTurn}
use Rattle.script_reader.specs.{Place.Enters, Place.Place, Place.line_deed, Answering.Next, Answering.AnswersLines}
use Rattle.script_reader.specs.{Answering.Turn, Spent.Finds, Spent.ScriptsSpend, Spent.TellSpent}
use Rattle.script_reader.proofs.{AddedLemmas.scripts_add, BounceLemmas.bounce_spent}

-- what one line leaves of whether a turn is left
record FindsOne (p q : Place) (a : Answer) : Type 0 where
  stays : p.used_up ≡ true → q.used_up ≡ true
  found : Each HadTurn q.seen → a.reply ≡ Refused spent → q.used_up ≡ true

finds_enters : (p q : Place) (c : Command) (a : Answer) → Enters p c a.reply q → FindsOne p q a
finds_enters p q c a h = record {
  stays = λ used. ap (λ (z : Place). z.used_up) h.after ∙ used;
  found = λ had is.
      let e : Deed = line_deed p c h.what q.sounds in
      let seen : Each HadTurn ((p.seen ++ h.between) ++ e ∷ []) =
      subst (λ (l : List Deed). Each HadTurn l) (ap (λ (z : Place). z.seen) h.after) had in
      absurd ((Each-right HadTurn (p.seen ++ h.between) (e ∷ []) seen).0 (sym h.reply ∙ is));
}

finds_one : (p q : Place) (said : Result Command ℕ) (a : Answer) → Turn p said a.reply q → FindsOne p q a
finds_one p q (Err column) a (reply, same) = record {
  stays = λ used. ap (λ (z : Place). z.used_up) same ∙ used;
  found = λ had is. ⊎_elim (λ bad. absurd (cc (sym bad ∙ is))) (λ wants. absurd (cc (sym wants ∙ is))) reply;
}
finds_one p q (Ok c) a (inl h) = finds_enters p q c a h.1
finds_one p q (Ok c) a (inr (inl h)) = record {
  stays = λ used. ap (λ (z : Place). z.used_up) h.1;
  found = λ had is. ap (λ (z : Place). z.used_up) h.1;
}
finds_one p q (Ok c) a (inr (inr (inl h))) = record {
  stays = λ used. ap (λ (z : Place). z.used_up) h.1 ∙ used;
  found = λ had is. let wants = h.0 in absurd (cc);
}
finds_one p q (Ok c) a (inr (inr (inr h))) = record {
  stays = λ used. (h.2.spent used).1;
  found = λ had is. bounce_spent p q h.0 a.reply h.2 had is;
}

-- one line, and the rest
finds_both : (p mid q : Place) (a : Answer) (answers : List Answer) (added : List Deed) → q.seen ≡ mid.seen ++ added
    → FindsOne p mid a → Finds mid q answers → Finds p q (a ∷ answers)
finds_both p mid q a answers added seen one rest = record {
  stays = λ used. rest.stays (one.stays used);
  found = λ had told. by had told;
}
  where
    by : Each HadTurn q.seen → TellSpent (a ∷ answers) → q.used_up ≡ true
    by had (inl is) = rest.stays (one.found (Each-left HadTurn mid.seen added
        (subst (λ (l : List Deed). Each HadTurn l) seen had)) is)
    by had (inr later) = rest.found had later

finds_next : (b : Bool) (p q : Place) (line : List ℕ) (lines : List (List ℕ)) (answers : List Answer)
    → ((mid : Place) (later : List Answer) → AnswersLines mid lines later q → Finds mid q later)
    → MatchBool b (AnswersLines p lines answers q) (Next p line answers (λ mid later. AnswersLines mid lines later q))
    → Finds p q answers
finds_next true p q line lines answers goes h = goes p answers h
finds_next false p q line lines [] goes h = absurd h
finds_next false p q line lines (a ∷ answers) goes (mid, turn, h) =
    let adds = scripts_add lines answers mid q h in
    finds_both p mid q a answers adds.added adds.seen (finds_one p mid (line_of line) a turn.0) (goes mid answers h)

none_told : (answers : List Answer) → answers ≡ [] → TellSpent answers → ⊥
none_told answers is told = subst TellSpent is told

pub scripts_spend : ScriptsSpend
scripts_spend [] answers p q h = record {
  stays = λ used. ap (λ (z : Place). z.used_up) h.1 ∙ used;
  found = λ had told. absurd (none_told answers h.0 told);
}
scripts_spend (line ∷ lines) answers p q h =
    finds_next (is_silent line) p q line lines answers (λ mid later k. scripts_spend lines later mid q k) h
