-- What becomes of the sounds of a vault, line by line.
use Rattle.std.specs.Prelude.{◌≡◌, ◌⊎◌, ℕ, List, [], ◌∷◌, ◌++◌, length, MatchBool, Option, Some, Result, Ok}
use Rattle.pcm_base.specs.{declared.answer.Answer.Answer, declared.answer.Reply.TheVariants.Wrote}
use Rattle.pcm_base.specs.{declared.command.Call.TheVariants.Pin, declared.command.Command.Command}
use Rattle.pcm_base.specs.{declared.entry.Entry.Entry, declared.sound.Frame.Frame, Mix.mix_of, Outside.SameElsewhere}
use Rattle.pcm_base.specs.{Outside.Sounds, Run.Follows, Run.Run, State.current, Studio.Studio, Wave.wav_text}
use Rattle.wav_pcm.specs.Written.{MayBegin}
use Rattle.script_text.specs.Grammar.{is_silent, line_of}
use Rattle.session_run.specs.{Answered.BounceEntries, Entries.entries_by}
use Rattle.pcm_base.specs.declared.command.Command.TheVariants as command

-- the sound is the file of these frames, which has this many bytes
abbrev pub IsWholeFile : List Frame → (rate bytes : ℕ) → Option (List ℕ) → Type 0
IsWholeFile mix rate bytes sound = (sound ≡ Some (wav_text mix rate)) × (bytes ≡ length (wav_text mix rate))

-- A line is a bounce of the sound of this name, and these entries are its own and those of others between them, after
-- those that were done before. Its place in the run is that of its pin. The file is that of the mix of the project that
-- was current there, whatever comes after it. If the answer says that it was written, the sound is this file, and the
-- answer has the number of its bytes. Else the sound is as it was, or holds the first bytes of the file.
pub record IsBounceOf (start : Studio) (done es : List Entry) (line : Result Command ℕ) (a : Answer)
    (before after : Sounds) : Type 0 where
  pub name : List ℕ
  pub read : line ≡ Ok (command.Bounce name)
  pub own : BounceEntries a.reply (entries_by 0 es)
  pub others : SameElsewhere name before after
  pub front : List Entry
  pub pin : Entry
  pub back : List Entry
  pub cut : es ≡ front ++ pin ∷ back
  pub by_others : entries_by 0 front ≡ []
  pub call : pin.call ≡ Pin
  pub there : Studio
  pub run : Run start (done ++ front) there
  pub written : (bytes : ℕ) → a.reply ≡ Wrote bytes
      → IsWholeFile (mix_of (current there.state)) there.rate bytes (after name)
  pub began : MayBegin (wav_text (mix_of (current there.state)) there.rate) (before name) (after name)
      ⊎ (after name ≡ Some (wav_text (mix_of (current there.state)) there.rate))

-- a bounce has none of its own entries here
abbrev pub IsNoBounce : Result Command ℕ → List Entry → Type 0
IsNoBounce line es = (name : List ℕ) → line ≡ Ok (command.Bounce name) → entries_by 0 es ≡ []

-- the sounds before a line and after it: they follow its own entry, or it is a bounce that had a turn
abbrev pub LineSounds : Studio → List Entry → List Entry → Result Command ℕ → Answer → Sounds → Sounds → Type 0
LineSounds start done es line a before after =
    (Follows before (entries_by 0 es) after × IsNoBounce line es) ⊎ IsBounceOf start done es line a before after

-- a line has the first answer, and the first part of the entries
abbrev pub NextSounds : Studio → List Entry → Result Command ℕ → List Answer → List (List Entry) → Sounds
    → (List Entry → List Answer → List (List Entry) → Sounds → Type 0) → Type 0
NextSounds start done line [] parts before Later = ⊥
NextSounds start done line (a ∷ answers) [] before Later = ⊥
NextSounds start done line (a ∷ answers) (es ∷ parts) before Later = (mid : Sounds)
    × LineSounds start done es line a before mid × Later (done ++ es) answers parts mid

-- from line to line, each with its answer and its part of the entries; a silent line has neither
abbrev pub SoundsFollow : Studio → List Entry → List (List ℕ) → List Answer → List (List Entry) → Sounds → Sounds
    → Type 0
SoundsFollow start done [] answers parts before after = (answers ≡ []) × (parts ≡ []) × (after ≡ before)
SoundsFollow start done (line ∷ lines) answers parts before after = MatchBool (is_silent line)
    (SoundsFollow start done lines answers parts before after)
    (NextSounds start done (line_of line) answers parts before
    (λ past more rest mid. SoundsFollow start past lines more rest mid after))
