-- What a test may tell: of no device, and of no turn.
use Rattle.studio_seats.proofs.Common.{◌≡◌, inl, inr, refl, sym, ap, ◌∙◌, ℕ, ◌+◌, ◌-◌, ◌==◌, nat_lt, ◌&&◌, Bool}
use Rattle.studio_seats.proofs.Common.{true, false, Option, Some, None, List, [], ◌∷◌, IsSome, length, map, take}
use Rattle.studio_seats.proofs.Common.{Result, Ok, Err, COUNTER_LIMIT, commits_of, Answers, outside, result_of, Reply}
use Rattle.studio_seats.proofs.Common.{Refused, Call, SoundMove, Refusal, State, current, reply_of, spent, IsServed}
use Rattle.studio_seats.proofs.Common.{Studio}
use Rattle.std.proofs.Common.{nat_le, ◌||◌, not, is_none}
use Rattle.pcm_base.specs.declared.limits.TheConstants.{MAX_CELLS, MAX_TRACKS, MAX_VIEW}
use Rattle.pcm_base.specs.Counters.{counter_tests, generations_of, no_room, pins_of, places_of, record_test, layouts_of}
use Rattle.pcm_base.specs.Counters.{tracks_of}
use Rattle.pcm_base.specs.Refusals.{◌otherwise◌, bad_columns, bad_range, bad_view, call_tests, channel_tests}
use Rattle.pcm_base.specs.Refusals.{empty_clipboard, file_tests, import_tests, insert_tests, inserted_length}
use Rattle.pcm_base.specs.Refusals.{length_limit, no_pin, no_track, paste_tests, pasted_lengths, placed_length}
use Rattle.pcm_base.specs.Refusals.{range_tests, refused_if, run_tests, shape_tests, too_narrow, track_limit}
use Rattle.pcm_base.specs.Refusals.{view_tests}
use Rattle.pcm_base.specs.Run.{refusal_of, stop_test}
use Rattle.pcm_base.specs.Shape.{Shape, NewTrack, DropTrack, SetTrack, PutIn, EditRange, CutRun, CopyRun, PasteRun}
use Rattle.pcm_base.specs.Shape.{MoveTo, Purge, Look, Import, Export, Back, Forward, View, Cells, Frames, Columns}
use Rattle.pcm_base.specs.Shape.{Tracks, shape_of}
use Rattle.pcm_base.specs.{declared.wav.WavFault.WavFault, Cells.cells_at, Cells.longest, Cells.tracks_from}
use Rattle.pcm_base.specs.{Edits.source_count, Outside.Outside, State.clip_of, Wave.Sound, Wave.wav_of}
use Rattle.editor_state.proofs.Calls.RunEntries.{plain, plain_result}
use Rattle.studio_seats.proofs.Refused.{stopped_not}

-- ---- what a test may tell

-- no test tells of a device, or of a turn, and that the studio had stopped only where it had
abbrev pub IsOfTest : Option ℕ → Refusal → Type 0
IsOfTest stopped Refusal.DiskFault = ⊥
IsOfTest stopped Refusal.VaultFault = ⊥
IsOfTest stopped (Refusal.Spent turns) = ⊥
IsOfTest stopped (Refusal.Stopped faults) = IsSome stopped
IsOfTest stopped why = Unit {0}

abbrev pub Tells : Option ℕ → Option Refusal → Type 0
Tells stopped None = Unit {0}
Tells stopped (Some why) = IsOfTest stopped why

module _ (stopped : Option ℕ) where
  either : (a b : Option Refusal) → Tells stopped a → Tells stopped b → Tells stopped (a otherwise b)
  either None b x y = y
  either (Some why) b x y = x

  one : (b : Bool) (why : Refusal) → IsOfTest stopped why → Tells stopped (refused_if b why)
  one true why is = is
  one false why is = tt

  lengths : (lens : List ℕ) → Tells stopped (length_limit lens)
  lengths [] = tt
  lengths (len ∷ lens) =
      either (refused_if (nat_lt MAX_CELLS len) (Refusal.LengthLimit len)) (length_limit lens) (one _ _ tt) (lengths lens)

  room : (have need : ℕ) → Tells stopped (no_room have need)
  room have need = one (nat_lt COUNTER_LIMIT (have + need)) (Refusal.SpaceSpent have need) tt

  module _ (out : Outside) (s : State) where
    track : (id : ℕ) → Tells stopped (no_track s id)
    track id = one _ _ tt

    range : (from to len : ℕ) → Tells stopped (bad_range from to len)
    range from to len = one (not (nat_lt from to && nat_le to len)) Refusal.BadRange tt

    insert : (id at n : ℕ) → Tells stopped (insert_tests s id at n)
    insert id at n =
        either (no_track s id) _ (track id) (lengths (inserted_length at n (length (cells_at id (current s))) ∷ []))

    ranged : (id from to : ℕ) → Tells stopped (range_tests s id from to)
    ranged id from to = either (no_track s id) _ (track id) (range from to (length (cells_at id (current s))))

    narrow : (have need : ℕ) → Tells stopped (too_narrow have need)
    narrow have need = one (nat_lt have need) (Refusal.TooNarrow have need) tt

    run : (id n from to : ℕ) → Tells stopped (run_tests s id n from to)
    run id n from to =
        let here = tracks_from id (current s) in
        either (no_track s id) _ (track id)
        (either (too_narrow (length here) n) _ (narrow (length here) n) (range from to (longest (take n here))))

    paste : (f : ℕ → ℕ → ℕ) (id : ℕ) → Tells stopped (paste_tests s f id)
    paste f id =
        let here = tracks_from id (current s) in
        let have = length here in
        let need = length (clip_of s) in
        either (no_track s id) _ (track id)
        (either (empty_clipboard s) _ (one (is_none s.clipboard) Refusal.EmptyClipboard tt)
        (either (too_narrow have need) _ (narrow have need) (lengths (pasted_lengths f (clip_of s) here))))

    more_tracks : (n : ℕ) → Tells stopped (track_limit s n)
    more_tracks n = one (nat_lt MAX_TRACKS (length (current s) + n)) Refusal.TrackLimit tt

    channels : (sound : Sound) → Tells stopped (channel_tests out.rate s sound)
    channels sound =
        either (refused_if (not (sound.rate == out.rate)) (Refusal.RateDiffers sound.rate out.rate)) _ (one _ _ tt)
        (either (track_limit s (length sound.channels)) _ (more_tracks (length sound.channels))
        (lengths (map length sound.channels)))

    wave : (read : Result Sound WavFault) → Tells stopped (file_tests out.rate s read)
    wave (Ok given) = channels given
    wave (Err fault) = tt

    imported : (bytes : Option (List ℕ)) → Tells stopped (import_tests out.rate s bytes)
    imported None = tt
    imported (Some bytes) = wave (wav_of bytes)

    columned : (columns len : ℕ) → Tells stopped (bad_columns columns len)
    columned columns len = one (columns == 0 || nat_lt MAX_VIEW columns || nat_lt len columns) Refusal.BadColumns tt

    view : (v : View) → Tells stopped (view_tests s v)
    view (Cells id from to) = either (no_track s id) (bad_view from to) (track id) (range from to (from + MAX_VIEW))
    view (Frames from to) = range from to (from + MAX_VIEW)
    view (Columns id from to columns) =
        either (range_tests s id from to) (bad_columns columns (to - from)) (ranged id from to)
        (columned columns (to - from))
    view Tracks = tt

    line : (shape : Shape) → Tells stopped (shape_tests out s shape)
    line NewTrack = more_tracks 1
    line (DropTrack id) = track id
    line (SetTrack id setting) = track id
    line (PutIn id at source) = insert id at (source_count source)
    line (EditRange id from to edit) = ranged id from to
    line (CutRun id n from to removing) = run id n from to
    line (CopyRun id n from to) = run id n from to
    line (PasteRun id at placing) = paste (placed_length placing at) id
    line (MoveTo Back) = one _ _ tt
    line (MoveTo Forward) = one _ _ tt
    line (Purge n) = range 0 n s.history.cursor
    line (Look v) = view v
    line (Import name) = imported out.sound
    line (Export name) = one _ _ tt
    line _ = tt

    pin : (n : ℕ) → Tells stopped (no_pin s n)
    pin n = one (is_none (s.pins n)) (Refusal.NoPin n) tt

    own : (c : Call) → Tells stopped (call_tests out s c)
    own (Call.Line c) = line (shape_of c)
    own (Call.Piece to tag samples) =
        either (no_track s to) _ (track to) (lengths ((length (cells_at to (current s)) + length samples) ∷ []))
    own Call.Pin = tt
    own (Call.PinLen n) = pin n
    own (Call.ReadPin n from count) = pin n
    own (Call.LoadPin n from count) = pin n
    own (Call.Unpin n) = pin n

  counters : (out : Outside) (t : Studio) (c : Call) (blocks len : ℕ) → Tells stopped (counter_tests out t c blocks len)
  counters out t c blocks len =
      either (no_room t.next_block blocks) _ (room t.next_block blocks)
      (either (no_room t.state.next_track (tracks_of out c)) _ (room t.state.next_track (tracks_of out c))
      (either (no_room t.state.commit (commits_of c)) _ (room t.state.commit (commits_of c))
      (either (no_room t.state.next_pin (pins_of c)) _ (room t.state.next_pin (pins_of c))
      (either (no_room t.journal_end (places_of c len)) _ (room t.journal_end (places_of c len))
      (either (no_room t.generation (generations_of c)) _ (room t.generation (generations_of c))
      (room t.next_layout (layouts_of out t.state c)))))))

pub going : (stopped : Option ℕ) (c : Call) → Tells stopped (stop_test stopped c)
going (Some n) (Call.Unpin pin) = tt
going (Some n) _ = refl
going None (Call.Unpin pin) = tt
going None _ = tt

pub tested : (out : Outside) (t : Studio) (c : Call) (blocks len : ℕ)
    → Tells t.stopped (refusal_of out t c blocks len)
tested out t c blocks len =
    either t.stopped (stop_test t.stopped c) _ (going t.stopped c)
    (either t.stopped (call_tests out t.state c) _ (own t.stopped out t.state c)
    (either t.stopped (counter_tests out t c blocks len) (record_test len) (counters t.stopped out t c blocks len)
    (one t.stopped _ _ tt)))

pub served_test : (stopped : Option ℕ) (c : Call) (why : Refusal) → stopped ≡ None → IsOfTest stopped why
    → IsServed c why
served_test stopped c Refusal.DiskFault going is = absurd is
served_test stopped c (Refusal.Stopped faults) going is = absurd (stopped_not stopped is going)
served_test stopped c Refusal.VaultFault going is = absurd is
served_test stopped c why going is = tt

-- ---- that no turn was left is no answer of a call

spent_never : (t u : Studio) (c : Call) (sound : SoundMove) → Answers t c sound (Err spent) u → ⊥
spent_never t u c sound (inl h) = rw h.first at (tested (outside t sound) t c h.blocks h.len)
spent_never t u c sound (inr (inl left)) = cc left.reason
spent_never t u c sound (inr (inr h)) = h

pub had_turn : (t u : Studio) (c : Call) (sound : SoundMove) (what : Result Reply Refusal)
    → Answers t c sound what u → reply_of what ≡ Refused spent → ⊥
had_turn t u c sound (Ok r) h is =
    let told : Err spent ≡ Ok r = ap result_of (sym is)
    ∙ plain_result r (plain (outside t sound) t.state c r h.answers) in cc
had_turn t u c sound (Err why) h is =
    let same : why ≡ spent = cc in
    spent_never t u c sound (rw same at h)
