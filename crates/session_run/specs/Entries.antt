-- Entries of a run, by who made them, and the numbers of their commits.
use Rattle.std.specs.Prelude.{ℕ, ◌+◌, ◌==◌, if◌then◌else◌, Bool, List, [], ◌∷◌, ◌++◌}
use Rattle.pcm_base.specs.{declared.command.Call.Call, declared.entry.Entry.Entry, Arithmetic.counted_from}
use Rattle.pcm_base.specs.{Counters.commits_of, Recordings.pieces_of}
use Rattle.model_laws.specs.Laws.{pieces_done}
use Rattle.script_reader.specs.Answering.{is_refusal}
use Rattle.pcm_base.specs.declared.command.Call.TheVariants as call

-- how many commits an entry made: none if it was refused, else those of its call
abbrev pub commits_in : Entry → ℕ
commits_in e = if is_refusal e.reply then 0 else commits_of e.call

-- the commit number after an entry, by the number before it
abbrev pub number_of : ℕ → Entry → ℕ
number_of n e = n + commits_in e

-- the commit number to which entries lead
abbrev pub last_number : ℕ → List Entry → ℕ
last_number n [] = n
last_number n (e ∷ es) = last_number (number_of n e) es

abbrev pub is_by : ℕ → Entry → Bool
is_by actor e = actor == e.actor

-- the entries of one actor, in order
abbrev pub entries_by : ℕ → List Entry → List Entry
entries_by actor [] = []
entries_by actor (e ∷ es) = (if is_by actor e then e ∷ [] else []) ++ entries_by actor es

-- and the numbers of its commits, each once: those of an entry come one after another
abbrev pub numbers_by : ℕ → ℕ → List Entry → List ℕ
numbers_by actor n [] = []
numbers_by actor n (e ∷ es) =
    (if is_by actor e then counted_from (n + 1) (commits_in e) else []) ++ numbers_by actor (number_of n e) es

-- An entry of pieces that was carried out, as an entry for each piece: at most 256 samples, and the reply Done. A
-- refused entry and one of another call stay as they are.
abbrev pub call_apart : Call → Entry → List Entry
call_apart (call.Line c) e = e ∷ []
call_apart (call.Piece track tag samples) e =
    if is_refusal e.reply then e ∷ [] else pieces_done e.actor track tag e.sound (pieces_of samples)
call_apart call.Pin e = e ∷ []
call_apart (call.PinLen pin) e = e ∷ []
call_apart (call.ReadPin pin from count) e = e ∷ []
call_apart (call.LoadPin pin from count) e = e ∷ []
call_apart (call.Unpin pin) e = e ∷ []

-- entries, their pieces taken apart
abbrev pub pieces_apart : List Entry → List Entry
pieces_apart [] = []
pieces_apart (e ∷ es) = call_apart e.call e ++ pieces_apart es
