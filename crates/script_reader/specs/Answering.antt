-- What the lines of a script are answered.
use Rattle.std.specs.Prelude.{◌≡◌, ◌⊎◌, ℕ, List, [], ◌∷◌, Bool, true, false, MatchBool, Result, Ok, Err}
use Rattle.pcm_base.specs.declared.refusal.Refusal.TheVariants.{BadLine, NoMemory}
use Rattle.pcm_base.specs.{declared.command.Command.Command, declared.command.Command.TheVariants.Bounce}
use Rattle.pcm_base.specs.{declared.answer.Reply.TheVariants.Refused, declared.answer.Reply.Reply}
use Rattle.pcm_base.specs.{declared.answer.Answer.Answer, Form.IsTurn}
use Rattle.script_reader.specs.Place.{Place, Bounces, Enters}
use Rattle.studio_seats.specs.Desks.{spent}
use Rattle.script_text.specs.Grammar.{line_of, is_silent}

-- What a line is answered, and where that leads. A line out of the grammar is refused by its column. A command takes a
-- turn, and a bounce several. Where no turn is left, or memory is wanting before it, there is none, and nothing was
-- asked.
abbrev pub Turn : Place → Result Command ℕ → Reply → Place → Type 0
Turn p (Err column) r q = ((r ≡ Refused (BadLine column)) ⊎ (r ≡ Refused NoMemory)) × (q ≡ p)
Turn p (Ok c) r q = (IsTurn c × Enters p c r q) ⊎ ((r ≡ Refused spent) × (q ≡ record p { used_up = true }))
    ⊎ ((r ≡ Refused NoMemory) × (q ≡ p)) ⊎ ((name : List ℕ) × (c ≡ Bounce name) × Bounces p name r q)

-- the same of an answer, which tells the commit number after the turn, and where there was none the number told last
abbrev pub Answers : Place → List ℕ → Answer → Place → Type 0
Answers s line a t = Turn s (line_of line) a.reply t × (a.commit ≡ t.last)

-- a line has the first of some answers
abbrev pub Next : Place → List ℕ → List Answer → (Place → List Answer → Type 0) → Type 0
Next s line [] later = ⊥
Next s line (a ∷ answers) later = (t : Place) × Answers s line a t × later t answers

-- from s these lines get these answers, in order, and lead to t; a silent line has none
abbrev pub AnswersLines : Place → List (List ℕ) → List Answer → Place → Type 0
AnswersLines s [] answers t = (answers ≡ []) × (t ≡ s)
AnswersLines s (line ∷ lines) answers t = MatchBool (is_silent line) (AnswersLines s lines answers t)
    (Next s line answers (λ mid later. AnswersLines mid lines later t))

abbrev pub is_refusal : Reply → Bool
is_refusal (Refused reason) = true
is_refusal other = false
