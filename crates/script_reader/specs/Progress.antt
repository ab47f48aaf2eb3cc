-- How far a script has come.
use Rattle.std.specs.Prelude.{◌≡◌, ◌⊎◌, ℕ, ◌<◌, ◌≤◌, List, [], ◌∷◌, ◌++◌, length, Bool, Option, Result, Ok, Err}
use Rattle.std.specs.Prelude.{MatchResult, take, flat_map}
use Rattle.std.specs.{List.list_any, Io.KnownBytes.IsAtEnd}
use Rattle.pcm_base.specs.{declared.answer.Answer.Answer, declared.failed.Failed.Failed, Causes.Rose}
use Rattle.script_reader.specs.{Place.Place, declared.read.TheConstants.MAX_SCRIPT, declared.stop.Stop.Stop}
use Rattle.script_reader.specs.{Change.Change, HeldLine.HeldLine, HeldLine.Holds, Answering.AnswersLines}
use Rattle.script_reader.specs.{Answering.is_refusal}
use Rattle.edit_ports.specs.Told.{Course, Faulted, Open, Over, grown, preceded}
use Rattle.script_text.specs.{Lines.lines_of, Lines.ended_lines, Text.text_of}
use Rattle.edit_ports.specs.declared.source.Source as source
use Rattle.script_reader.specs.declared.stop.Stop.TheVariants as stop

-- where a script stood, and what was written, before its first answer
pub record Start : Type 0 where
  pub place : Place
  pub written : Option (List ℕ)

-- how far a script has come from there: where it stands, what is written, and whether an answer was a refusal
pub record Reached : Type 0 where
  pub start : Start
  pub place : Place
  pub written : Option (List ℕ)
  pub refused : Bool

abbrev pub reached : Start → Place → Option (List ℕ) → Bool → Reached
reached start place written refused =
    record { start = start; place = place; written = written; refused = refused }

-- no LF
abbrev pub HasNoLf : List ℕ → Type 0
HasNoLf [] = Unit {0}
HasNoLf (b ∷ bs) = (b ≡ 10 → ⊥) × HasNoLf bs

-- the bytes so far are these lines and a part of the next one, however they go on
pub record Cut (read : List ℕ) (lines : List (List ℕ)) (part : List ℕ) : Type 0 where
  pub unended : HasNoLf part
  pub whole : (more : List ℕ) → lines_of (read ++ more) ≡ lines ++ lines_of (part ++ more)
  pub ended : (more : List ℕ) → ended_lines (read ++ more) ≡ lines ++ ended_lines (part ++ more)

abbrev pub says_no : Answer → Bool
says_no a = is_refusal a.reply

-- the texts of some answers were written after `start`, but for the last one, of which a part from its front was
-- written
pub record BreaksOff (start now : Option (List ℕ)) (answers : List Answer) : Type 0 where
  pub before : List Answer
  pub last : Answer
  pub whole : answers ≡ before ++ last ∷ []
  pub count : ℕ
  pub within : count < length (text_of last)
  pub written : now ≡ grown start (flat_map text_of before ++ take count (text_of last))

-- the texts of some answers were written after `start`, or after a fault break off in the last one
abbrev pub WritesAnswers : Result (Unit {0}) Failed → Option (List ℕ) → Option (List ℕ) → List Answer → Type 0
WritesAnswers result start now answers =
    MatchResult result (λ _. now ≡ grown start (flat_map text_of answers)) (λ _. BreaksOff start now answers)

-- these lines led from the start there, and their answers were written after what was written at the start, or after a
-- fault break off in the last one
pub record Printed (r : Reached) (result : Result (Unit {0}) Failed) (lines : List (List ℕ)) : Type 0 where
  pub answers : List Answer
  pub line_by_line : AnswersLines r.start.place lines answers r.place
  pub written : WritesAnswers result r.start.written r.written answers
  pub no : r.refused ≡ list_any says_no answers

-- after these bytes the answers to all lines that ended are printed, and what has come of the next is kept
pub record Going (r : Reached) (kept : HeldLine) (read : List ℕ) : Type 0 where
  pub lines : List (List ℕ)
  pub part : List ℕ
  pub cut : Cut read lines part
  pub holds : Holds kept part
  pub printed : Printed r (Ok tt) lines

-- the output failed at the answer of a line of these bytes, which was the last one that was carried out
pub record Halted (r : Reached) (failed : Failed) (read : List ℕ) : Type 0 where
  pub lines : List (List ℕ)
  pub cut : (more : List ℕ) → (later : List (List ℕ)) × (lines_of (read ++ more) ≡ lines ++ later)
  pub printed : Printed r (Err failed) lines

-- which lines of the bytes that were read a script has carried out, by what stopped it
abbrev pub IsCut : Stop → List ℕ → List (List ℕ) → Option (List ℕ) → Type 0
IsCut stop.End read lines left = (lines ≡ lines_of read) × (length read < MAX_SCRIPT) × IsAtEnd left
IsCut stop.SourceFault read lines left = lines ≡ ended_lines read
IsCut stop.Limit read lines left = (lines ≡ ended_lines read) × (length read ≡ MAX_SCRIPT)
IsCut stop.OutFault read lines left = (later : List (List ℕ)) × (lines_of read ≡ lines ++ later)

abbrev pub outcome_of : Stop → Result (Unit {0}) Failed
outcome_of stop.OutFault = Err (record {})
outcome_of other = Ok tt

-- what was read of what a source had left, and what was printed
pub record Ran (stop : Stop) (r : Reached) (left : Change (Option (List ℕ))) : Type 0 where
  pub read : List ℕ
  pub lines : List (List ℕ)
  pub bytes : left.before ≡ preceded read left.now
  pub cut : IsCut stop read lines left.now
  pub printed : Printed r (outcome_of stop) lines

-- by the counts of faults of the source and of the sink
abbrev pub IsCauseOf : Stop → Change ℕ → Change ℕ → Type 0
IsCauseOf stop.End source sink = (source.now ≡ source.before) × (sink.now ≡ sink.before)
IsCauseOf stop.Limit source sink = (source.now ≡ source.before) × (sink.now ≡ sink.before)
IsCauseOf stop.SourceFault source sink =
    (source.before ≤ source.now) × Rose source.before source.now × (sink.now ≡ sink.before)
IsCauseOf stop.OutFault source sink =
    (source.now ≡ source.before) × (sink.before ≤ sink.now) × Rose sink.before sink.now

-- How the reads of a source went, by what stopped the script. Where the output failed the end may have been found.
abbrev pub IsCourse : Stop → Course → Type 0
IsCourse stop.End course = course ≡ Over
IsCourse stop.Limit course = course ≡ Open
IsCourse stop.SourceFault course = course ≡ Faulted
IsCourse stop.OutFault course = (course ≡ Open) ⊎ (course ≡ Over)

-- A source was read up to what stopped the script, with no read after its end or after one that failed.
pub record IsReadTo {A : Type 0} (sources : source.Ghosts A) (stop : Stop) (script : Change A) : Type 0 where
  pub course : Course
  pub is : IsCourse stop course
  pub goes : (first : A) → sources.follows first Open script.before → sources.follows first course script.now

-- the bytes so far of what a source had left, and how far they brought a script
pub record Reading (r : Reached) (left : Change (Option (List ℕ))) (kept : HeldLine) (total : ℕ) : Type 0 where
  pub read : List ℕ
  pub bytes : left.before ≡ preceded read left.now
  pub count : length read ≡ total
  pub going : Going r kept read

-- what stands at the end of a script that was read to its end
abbrev pub IsEndCut : Stop → List ℕ → List (List ℕ) → Type 0
IsEndCut stop.End read lines = lines ≡ lines_of read
IsEndCut stop.OutFault read lines = (later : List (List ℕ)) × (lines_of read ≡ lines ++ later)
IsEndCut other read lines = ⊥

pub record Ended (stop : Stop) (r : Reached) (read : List ℕ) : Type 0 where
  pub lines : List (List ℕ)
  pub cut : IsEndCut stop read lines
  pub printed : Printed r (outcome_of stop) lines

abbrev pub IsSinkCauseOf : Stop → Change ℕ → Type 0
IsSinkCauseOf stop.OutFault sink = (sink.before ≤ sink.now) × Rose sink.before sink.now
IsSinkCauseOf stop.End sink = sink.now ≡ sink.before
IsSinkCauseOf other sink = ⊥
