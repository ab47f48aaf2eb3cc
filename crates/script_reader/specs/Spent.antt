-- What a script says where no turn is left.
use Rattle.std.specs.Prelude.{◌≡◌, ◌⊎◌, ℕ, true, List, [], ◌∷◌}
use Rattle.pcm_base.specs.{declared.answer.Answer.Answer, declared.answer.Reply.TheVariants.Refused}
use Rattle.pin_turn.specs.Counts.{Each}
use Rattle.studio_seats.specs.{Desks.spent, Leads.HadTurn}
use Rattle.script_reader.specs.{Place.Place, Answering.AnswersLines}

-- one of the answers is Spent
abbrev pub TellSpent : List Answer → Type 0
TellSpent [] = ⊥
TellSpent (a ∷ answers) = (a.reply ≡ Refused spent) ⊎ TellSpent answers

-- A seat that found that no turn is left knows it to the end. If no deed is refused so, as none of a run is, an answer is
-- Spent only if the seat found it.
pub record Finds (p q : Place) (answers : List Answer) : Type 0 where
  pub stays : p.used_up ≡ true → q.used_up ≡ true
  pub found : Each HadTurn q.seen → TellSpent answers → q.used_up ≡ true

abbrev pub ScriptsSpend : Type 0
ScriptsSpend = (lines : List (List ℕ)) (answers : List Answer) (p q : Place) → AnswersLines p lines answers q
    → Finds p q answers
