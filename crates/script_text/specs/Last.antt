-- What is printed at the end of a session that may have recorded and played.
use Rattle.std.specs.Prelude.{ℕ, ◌++◌, List, [], Option, Some, None, codes}
use Rattle.pcm_base.specs.declared.refusal.Refusal.{Refusal}
use Rattle.script_text.specs.Text.{with_number, reason_text, end_text}
use Rattle.script_text.specs.{declared.last.RecordEnd.RecordEnd, declared.last.RecordLine.RecordLine}
use Rattle.script_text.specs.{declared.last.PlayEnd.PlayEnd, declared.last.PlayLine.PlayLine}
use Rattle.script_text.specs.declared.last.RecordEnd.TheVariants as record_end
use Rattle.script_text.specs.declared.last.PlayEnd.TheVariants as play_end

-- why a recording or a playback was refused, after what it did
abbrev pub refused_ending : Refusal → List ℕ
refused_ending reason = codes " no " ++ reason_text reason

-- how a recording ended, after what it did: nothing where it is whole
abbrev pub record_ending : RecordEnd → List ℕ
record_ending record_end.Whole = []
record_ending (record_end.Refused reason) = refused_ending reason
record_ending record_end.Fault = codes " fault"
record_ending record_end.Limit = codes " limit"

-- how a playback ended, in the same way
abbrev pub play_ending : PlayEnd → List ℕ
play_ending play_end.Whole = []
play_ending (play_end.Refused reason) = refused_ending reason
play_ending play_end.Fault = codes " fault"

-- the line of a recording: its track, its pieces and their samples, and how it ended; no line where there was none
abbrev pub record_text : Option RecordLine → List ℕ
record_text None = []
record_text (Some line) =
    codes "rec" ++ with_number line.track ++ with_number line.pieces ++ with_number line.samples
    ++ record_ending line.end ++ codes "\n"

-- the line of a playback: its frames, and how it ended; no line where there was none
abbrev pub play_text : Option PlayLine → List ℕ
play_text None = []
play_text (Some line) = codes "play" ++ with_number line.frames ++ play_ending line.end ++ codes "\n"

-- the last lines of a session; without a recording and a playback, the last line alone
abbrev pub last_text : Option RecordLine → Option PlayLine → ℕ → List ℕ
last_text recording playback commit = record_text recording ++ play_text playback ++ end_text commit
