-- What is told of a session at its end.
use Rattle.std.specs.Prelude.{◌≡◌, ℕ, if◌then◌else◌, Bool, true, false, List, length, Option, Some, None}
use Rattle.pcm_base.specs.declared.refusal.Refusal.{Refusal}
use Rattle.recorder_threads.specs.declared.microphone.MicEnd.{MicEnd}
use Rattle.script_reader.specs.declared.stop.Stop.{Stop}
use Rattle.script_text.specs.{declared.last.PlayEnd.PlayEnd, declared.last.PlayLine.PlayLine}
use Rattle.script_text.specs.{declared.last.RecordEnd.RecordEnd, declared.last.RecordLine.RecordLine}
use Rattle.desk_session.specs.{declared.side.Side.Side, declared.outcome.PlayOutcome.PlayOutcome}
use Rattle.desk_session.specs.{declared.outcome.RecordOutcome.RecordOutcome}
use Rattle.session_run.specs.Streams.{Output, PrintsFrom}
use Rattle.recorder_threads.specs.declared.microphone.MicEnd.TheVariants as mic
use Rattle.script_reader.specs.declared.stop.Stop.TheVariants as stop
use Rattle.script_text.specs.declared.last.PlayEnd.TheVariants as play
use Rattle.script_text.specs.declared.last.RecordEnd.TheVariants as rec
use Rattle.desk_session.specs.declared.side.Side.TheVariants as side

abbrev pub mic_end : MicEnd → RecordEnd
mic_end mic.End = rec.Whole
mic_end mic.Fault = rec.Fault
mic_end mic.Limit = rec.Limit

-- how a recording ended: a refusal stands before what ended the microphone
abbrev pub record_end : Option Refusal → MicEnd → RecordEnd
record_end (Some reason) end = rec.Refused reason
record_end None end = mic_end end

abbrev pub play_end : Option Refusal → Bool → PlayEnd
play_end (Some reason) fault = play.Refused reason
play_end None fault = if fault then play.Fault else play.Whole

abbrev pub record_line_of : ℕ → Option RecordOutcome → Option RecordLine
record_line_of track None = None
record_line_of track (Some kept) = Some (record {
  track = track;
  pieces = length kept.numbers;
  samples = kept.samples;
  end = record_end kept.refused kept.end;
})

-- the line of a recording, where one was asked for: without its track it has none
abbrev pub record_line : ℕ → Side → Option RecordOutcome → Option RecordLine
record_line track side.NotAsked kept = None
record_line track (side.Made tag) kept = record_line_of track kept
record_line track (side.Refused why) kept = Some (record { track = 0; pieces = 0; samples = 0; end = rec.Refused why })

abbrev pub heard_line : Option PlayOutcome → Option PlayLine
heard_line None = None
heard_line (Some heard) = Some (record { frames = heard.frames; end = play_end heard.refused heard.fault })

-- the line of a playback, where one was asked for
abbrev pub play_line : Side → Option PlayOutcome → Option PlayLine
play_line side.NotAsked heard = None
play_line (side.Made pin) heard = heard_line heard
play_line (side.Refused why) heard = Some (record { frames = 0; end = play.Refused why })

abbrev pub is_record_refusal : RecordEnd → Bool
is_record_refusal rec.Whole = false
is_record_refusal (rec.Refused reason) = true
is_record_refusal rec.Fault = false
is_record_refusal rec.Limit = false

abbrev pub is_play_refusal : PlayEnd → Bool
is_play_refusal play.Whole = false
is_play_refusal (play.Refused reason) = true
is_play_refusal play.Fault = false

-- whether such a line tells a refusal
abbrev pub record_refused : Option RecordLine → Bool
record_refused None = false
record_refused (Some line) = is_record_refusal line.end

abbrev pub play_refused : Option PlayLine → Bool
play_refused None = false
play_refused (Some line) = is_play_refusal line.end

abbrev pub is_mic_fault : MicEnd → Bool
is_mic_fault mic.End = false
is_mic_fault mic.Fault = true
is_mic_fault mic.Limit = false

-- whether the microphone failed, and whether the speaker did
abbrev pub mic_failed : Option RecordOutcome → Bool
mic_failed None = false
mic_failed (Some kept) = is_mic_fault kept.end

abbrev pub speaker_failed : Option PlayOutcome → Bool
speaker_failed None = false
speaker_failed (Some heard) = heard.fault

-- the status by what stopped a script, whether a microphone or speaker failed, and whether anything was refused
abbrev pub status_of : Stop → Bool → Bool → ℕ
status_of stop.End fault refused = if fault then 4 else if refused then 1 else 0
status_of stop.Limit fault refused = if fault then 4 else 6
status_of stop.SourceFault fault refused = 4
status_of stop.OutFault fault refused = 4

-- After the answers the last lines were written. After a fault of the output nothing more was, and its count of faults
-- is the one that it had then.
abbrev pub WritesEnd : Stop → Output → List ℕ → Type 0
WritesEnd stop.End sink text = PrintsFrom sink text
WritesEnd stop.Limit sink text = PrintsFrom sink text
WritesEnd stop.SourceFault sink text = PrintsFrom sink text
WritesEnd stop.OutFault sink text = (sink.written.now ≡ sink.written.before) × (sink.faults.now ≡ sink.faults.before)
