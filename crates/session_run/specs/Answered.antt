-- How the lines of a script, their answers and the entries of a run belong together. The script is the actor 0.
use Rattle.std.specs.Prelude.{◌≡◌, ◌⊎◌, ℕ, List, [], ◌∷◌, ◌++◌, MatchBool, Result, Ok, Err}
use Rattle.pcm_base.specs.declared.answer.Reply.TheVariants.{Pinned, Refused}
use Rattle.pcm_base.specs.declared.command.Call.TheVariants.{Line, LoadPin, Pin, PinLen, Unpin}
use Rattle.pcm_base.specs.declared.refusal.Refusal.TheVariants.{BadLine, NoMemory}
use Rattle.pcm_base.specs.{declared.answer.Answer.Answer, declared.answer.Reply.Reply, declared.command.Call.Call}
use Rattle.pcm_base.specs.{declared.command.Command.Command, declared.entry.Entry.Entry}
use Rattle.script_text.specs.Grammar.{is_silent, line_of}
use Rattle.pin_turn.specs.Counts.{Each}
use Rattle.studio_seats.specs.Desks.{spent}
use Rattle.session_run.specs.Entries.{entries_by, last_number}
use Rattle.pcm_base.specs.declared.command.Command.TheVariants as command

-- A line without an entry is answered NoMemory, as memory was wanting before its turn. Otherwise it is out of the grammar
-- and answered BadLine, or it found no turn left.
abbrev pub IsUnasked : Result Command ℕ → Reply → Type 0
IsUnasked (Err column) r = (r ≡ Refused (BadLine column)) ⊎ (r ≡ Refused NoMemory)
IsUnasked (Ok command) r = (r ≡ Refused spent) ⊎ (r ≡ Refused NoMemory)

-- A line's entry is the script's next one. Its answer prints the reply, and the commit number after the entry.
pub record IsEntered (n : ℕ) (line : Result Command ℕ) (a : Answer) (entries later : List Entry) : Type 0 where
  pub command : Command
  pub read : line ≡ Ok command
  pub others : List Entry
  pub by_others : entries_by 0 others ≡ []
  pub entry : Entry
  pub cut : entries ≡ others ++ entry ∷ later
  pub actor : entry.actor ≡ 0
  pub call : entry.call ≡ Line command
  pub reply : a.reply ≡ entry.reply
  pub commit : a.commit ≡ last_number n (others ++ entry ∷ [])

-- whether an entry is one of a bounce of this pin
abbrev pub IsOfPin : ℕ → Call → Type 0
IsOfPin pin c = (c ≡ PinLen pin) ⊎ (((from count : ℕ) × (c ≡ LoadPin pin from count)) ⊎ (c ≡ Unpin pin))

-- The script's own entries of a bounce, by its answer: none where there was no memory or no turn; a pin that was
-- refused; or one that was made, and then entries of it.
abbrev pub BounceEntries : Reply → List Entry → Type 0
BounceEntries r [] = (r ≡ Refused spent) ⊎ (r ≡ Refused NoMemory)
BounceEntries r (e ∷ es) = (e.call ≡ Pin)
    × (((e.reply ≡ r) × (es ≡ []))
    ⊎ ((pin : ℕ) × (e.reply ≡ Pinned pin) × Each (λ (x : Entry). IsOfPin pin x.call) es))

-- the number that a bounce prints: that after the entry of its pin, and else the one that was printed last
abbrev pub BounceNumber : (n last commit : ℕ) → (added own : List Entry) → Type 0
BounceNumber n last commit added [] = commit ≡ last
BounceNumber n last commit added (e ∷ es) = (front back : List Entry) × (added ≡ front ++ e ∷ back)
    × (commit ≡ last_number n (front ++ e ∷ []))

-- A bounce has several entries, with those of others between them. Its answer prints the commit number after that of
-- its pin.
pub record IsBounced (n last : ℕ) (line : Result Command ℕ) (a : Answer) (entries added later : List Entry) : Type 0
  where
    pub name : List ℕ
    pub read : line ≡ Ok (command.Bounce name)
    pub cut : entries ≡ added ++ later
    pub own : BounceEntries a.reply (entries_by 0 added)
    pub commit : BounceNumber n last a.commit added (entries_by 0 added)

-- A line has the first answer, by its entry or without one, or by those of a bounce. Without one the answer prints the
-- number printed last, or that of the opening. The later lines have the other answers, by what is left of the entries.
abbrev pub IsNext : ℕ → ℕ → Result Command ℕ → List Answer → List Entry
    → (ℕ → ℕ → List Answer → List Entry → Type 0) → Type 0
IsNext n last line [] entries Later = ⊥
IsNext n last line (a ∷ answers) entries Later =
    (IsUnasked line a.reply × (a.commit ≡ last) × Later n last answers entries)
    ⊎ (((later : List Entry) × IsEntered n line a entries later × Later a.commit a.commit answers later)
    ⊎ ((added later : List Entry) × IsBounced n last line a entries added later
    × Later (last_number n added) a.commit answers later))

-- From this commit number on, with that number printed last, the lines have these answers, in order, by these entries.
-- A silent line has none. What is left of the entries is by others.
abbrev pub Answered : ℕ → ℕ → List (List ℕ) → List Answer → List Entry → Type 0
Answered n last [] answers entries = (answers ≡ []) × (entries_by 0 entries ≡ [])
Answered n last (line ∷ lines) answers entries = MatchBool (is_silent line) (Answered n last lines answers entries)
    (IsNext n last (line_of line) answers entries (λ m shown more rest. Answered m shown lines more rest))
