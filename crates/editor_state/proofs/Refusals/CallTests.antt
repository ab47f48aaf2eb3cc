-- The tests of a call tell nothing of the disk, and its own tests nothing of a counter.
use Rattle.editor_state.proofs.Common.{◌≡◌, ℕ, ◌+◌, ◌==◌, nat_lt, not, Bool, Option, Some, None, List, length, Result}
use Rattle.editor_state.proofs.Common.{Ok, Err, rules, ◌otherwise◌, bad_range, call_tests, length_limit, refused_if}
use Rattle.editor_state.proofs.Common.{Shape, Look, View, Cells, Frames, Columns, Tracks, shape_of, Call, Refusal}
use Rattle.editor_state.proofs.Common.{Outside, refusal_of, stop_of, stop_test, State, Outgrows, Core, NotPrepared}
use Rattle.std.specs.Prelude.{◌&&◌, nat_le, is_none}
use Rattle.pcm_base.specs.declared.limits.TheConstants.{MAX_TRACKS, MAX_VIEW}
use Rattle.pcm_base.specs.Refusals.{channel_tests, file_tests, import_tests, insert_tests, is_empty, no_pin, no_track}
use Rattle.pcm_base.specs.Refusals.{paste_tests, placed_length, range_tests, run_tests, shape_tests, too_narrow}
use Rattle.pcm_base.specs.Refusals.{track_limit, view_tests}
use Rattle.pcm_base.specs.Shape.{NewTrack, DropTrack, SetTrack, PutIn, EditRange, CutRun, CopyRun, PasteRun, MoveTo}
use Rattle.pcm_base.specs.Shape.{Purge, Import, Export, Back, Forward}
use Rattle.pcm_base.specs.{declared.wav.WavFault.WavFault, Cells.tracks_from, Edits.source_count, State.current}
use Rattle.pcm_base.specs.{Wave.Sound, Wave.wav_of}
use Rattle.editor_state.proofs.Refusals.RefusalEffects.{IsOwn, IsPlain, own_plain}
use Rattle.pcm_base.specs.declared.command.Call.TheVariants as call
use Rattle.pcm_base.specs.declared.refusal.Refusal.TheVariants as refusal
use Rattle.pcm_base.specs.Studio as model
use Rattle.editor_state.proofs.Refusals.Tests as tests

-- a test tells nothing of it, nor of a counter
abbrev pub IsOwnTest : Option Refusal → Type 0
IsOwnTest = tests.Tells IsOwn

pub own_by : (o : Option Refusal) (why : Refusal) → IsOwnTest o → o ≡ Some why → IsOwn why
own_by = tests.told IsOwn

one : (b : Bool) (r : Refusal) → IsOwn r → IsOwnTest (refused_if b r)
one = tests.one IsOwn

either : (a b : Option Refusal) → IsOwnTest a → IsOwnTest b → IsOwnTest (a otherwise b)
either = tests.either IsOwn

-- ---- tests of many calls

range : (from to len : ℕ) → IsOwnTest (bad_range from to len)
range from to len = one (not (nat_lt from to && nat_le to len)) refusal.BadRange tt

track : (s : State) (id : ℕ) → IsOwnTest (no_track s id)
track s id = one (is_empty (tracks_from id (current s))) (refusal.NoTrack id) tt

pin : (s : State) (id : ℕ) → IsOwnTest (no_pin s id)
pin s id = one (is_none (s.pins id)) (refusal.NoPin id) tt

limit : (s : State) (n : ℕ) → IsOwnTest (track_limit s n)
limit s n = one (nat_lt MAX_TRACKS (length (current s) + n)) refusal.TrackLimit tt

narrow : (have need : ℕ) → IsOwnTest (too_narrow have need)
narrow have need = one (nat_lt have need) (refusal.TooNarrow have need) tt

lengths : (lens : List ℕ) → IsOwnTest (length_limit lens)
lengths = tests.lengths IsOwn (λ len. tt)

ranges : (s : State) (id from to : ℕ) → IsOwnTest (range_tests s id from to)
ranges s id from to = search (rules, either, track, range)

inserts : (s : State) (id at n : ℕ) → IsOwnTest (insert_tests s id at n)
inserts s id at n = search (rules, either, track, lengths)

runs : (s : State) (id n from to : ℕ) → IsOwnTest (run_tests s id n from to)
runs s id n from to = search (rules, either, track, narrow, range)

pastes : (s : State) (f : ℕ → ℕ → ℕ) (id : ℕ) → IsOwnTest (paste_tests s f id)
pastes s f id = search (rules, either, track, one, narrow, lengths)

-- ---- a sound of a vault

channels : (rate : ℕ) (s : State) (sound : Sound) → IsOwnTest (channel_tests rate s sound)
channels rate s sound = search (rules, either, one, limit, lengths)

file : (rate : ℕ) (s : State) (r : Result Sound WavFault) → IsOwnTest (file_tests rate s r)
file rate s (Ok sound) = channels rate s sound
file rate s (Err fault) = tt

imports : (rate : ℕ) (s : State) (o : Option (List ℕ)) → IsOwnTest (import_tests rate s o)
imports rate s None = tt
imports rate s (Some bytes) = file rate s (wav_of bytes)

-- ---- each call

views : (s : State) (view : View) → IsOwnTest (view_tests s view)
views s (Cells id from to) = search (rules, either, track, range)
views s (Frames from to) = range from to (from + MAX_VIEW)
views s (Columns id from to columns) = search (rules, either, ranges, one)
views s Tracks = tt

line : (out : Outside) (s : State) (shape : Shape) → IsOwnTest (shape_tests out s shape)
line out s NewTrack = limit s 1
line out s (DropTrack id) = track s id
line out s (SetTrack id setting) = track s id
line out s (PutIn id at source) = inserts s id at (source_count source)
line out s (EditRange id from to edit) = ranges s id from to
line out s (CutRun id n from to removing) = runs s id n from to
line out s (CopyRun id n from to) = runs s id n from to
line out s (PasteRun id at placing) = pastes s (placed_length placing at) id
line out s (MoveTo Back) = one (s.history.cursor == 0) refusal.NothingToUndo tt
line out s (MoveTo Forward) = one (s.history.cursor + 1 == length s.history.points) refusal.NothingToRedo tt
line out s (Purge n) = range 0 n s.history.cursor
line out s (Look view) = views s view
line out s (Import name) = imports out.rate s out.sound
line out s (Export name) = search (rules, one)
line out s _ = tt

pub own : (out : Outside) (s : State) (c : Call) → IsOwnTest (call_tests out s c)
own out s (call.Line c) = line out s (shape_of c)
own out s (call.Piece id tag samples) = search (rules, either, track, lengths)
own out s call.Pin = tt
own out s (call.PinLen id) = pin s id
own out s (call.ReadPin id from count) = pin s id
own out s (call.LoadPin id from count) = pin s id
own out s (call.Unpin id) = pin s id

pub stop : (stopped : Option ℕ) → IsOwnTest (stop_of stopped)
stop None = tt
stop (Some faults) = tt

stops : (stopped : Option ℕ) (c : Call) → IsOwnTest (stop_test stopped c)
stops stopped (call.Unpin id) = tt
stops stopped _ = stop stopped

-- ---- the counters

plain_test : (o : Option Refusal) → IsOwnTest o → tests.Tells IsPlain o
plain_test None own = tt
plain_test (Some why) own = own_plain why own

-- whatever refuses a call before a device is asked
pub plain_refusal : (out : Outside) (t : model.Studio) (c : Call) (blocks len : ℕ) (why : Refusal)
    → refusal_of out t c blocks len ≡ Some why → IsPlain why
plain_refusal out t c blocks len why is =
    search (
      rules,
      tests.told IsPlain,
      tests.either IsPlain,
      plain_test,
      stops,
      own,
      tests.counters IsPlain (λ have need. tt),
      tests.one IsPlain,
    )

-- ---- what is not prepared

pub outgrowing_plain : (end next layouts len : ℕ) (why : Refusal) → Outgrows end next layouts len why → IsPlain why
outgrowing_plain = tests.outgrowing IsPlain (λ have need. tt) (λ len. tt)

pub unprepared_plain : {D : Type 0} (s : Core D) (n tracks layouts count whole len : ℕ) (why : Refusal)
    → NotPrepared s n tracks layouts count whole len why → IsPlain why
unprepared_plain s n tracks layouts count whole len why =
    tests.unprepared IsPlain (λ have need. tt) (λ len. tt) s n tracks layouts count whole len why tt
