-- What each call leaves of a state, and of a studio.
use Rattle.std.proofs.Common.{◌≡◌, ℕ, ℤ, ◌+◌, ◌^◌, ◌≤◌, Bool, true, false, List, ◌++◌, length, None, arith}
use Rattle.std.proofs.lemmas.Bool.{ltb-false}
use Rattle.std.specs.Prelude.{if◌then◌else◌, ◌==◌, nat_lt}
use Rattle.pcm_base.specs.Cells.{trimmed, cells_at, edited_at}
use Rattle.pcm_base.specs.Counters.{no_room, commits_of, tracks_of, pins_of, record_bytes, places_of, counter_tests}
use Rattle.pcm_base.specs.Counters.{MayDraw, generations_of, layouts_of, record_test}
use Rattle.pcm_base.specs.Run.{stop_test, refusal_of, followed}
use Rattle.pcm_base.specs.{declared.sound.Cell.Cell, declared.command.Call.Call, Edits.as_cells, Form.IsCallInForm}
use Rattle.pcm_base.specs.{History.recorded, Outside.Outside, Recordings.pieces_in, Refusals.◌otherwise◌}
use Rattle.pcm_base.specs.{declared.limits.TheConstants.LONGEST_BODY}
use Rattle.pcm_base.specs.{Refusals.call_tests, State.State, State.current, Step.after, Step.with_piece, Studio.Studio}
use Rattle.model_laws.specs.Bounds.{AreCells, IsBoundedState, IsBoundedStudio}
use Rattle.model_laws.proofs.States.{counted_here, current_project, pin_bounded, unpin_bounded}
use Rattle.model_laws.proofs.{EditLengths.recorded_cells, Histories.recorded_points, Lines.line_bounded}
use Rattle.model_laws.proofs.{PassedTests.piece_passed, Projects.edited_track, OwnTests.both_passed, OwnTests.has_room}
use Rattle.model_laws.proofs.OwnTests.{not_refused}
use Rattle.pcm_base.specs.declared.command.Call.TheVariants as call
use Rattle.pcm_base.specs.declared.refusal.Refusal.TheVariants as refusal

piece_bounded : (s : State) (track tag : ℕ) (samples : List ℤ) → IsBoundedState s →
    s.commit + pieces_in (length samples) ≤ 2 ^ 62 → tag ≤ s.commit →
    length (cells_at track (current s)) + length samples ≤ 2 ^ 32 →
    IsBoundedState (with_piece s track tag samples)
piece_bounded s track tag samples b room made few =
    let f = λ (cells : List Cell). trimmed (cells ++ as_cells samples) in
    let good : AreCells (f (cells_at track (current s))) = recorded_cells (cells_at track (current s)) samples few in
    let p = edited_at track f (current s) in
    let project = edited_track s.next_track track f (current s) (current_project s b) good in
    let n = pieces_in (length samples) in
    counted_here s (recorded s.history p tag) n b room
    (recorded_points s.next_track s.next_track s.commit (s.commit + n) s.history p tag (omega arith) (omega arith)
    b.history project (omega arith))

pub call_bounded : (out : Outside) (s : State) (c : Call) → IsBoundedState s → IsCallInForm s.commit c →
    call_tests out s c ≡ None → s.next_track + tracks_of out c ≤ 2 ^ 62 → s.commit + commits_of c ≤ 2 ^ 62 →
    s.next_pin + pins_of c ≤ 2 ^ 62 → IsBoundedState (after out s c)
call_bounded out s (call.Line c) b form e tracks room pins = line_bounded out s c b form.0 e tracks room
call_bounded out s (call.Piece track tag samples) b form e tracks room pins =
    piece_bounded s track tag samples b room form.1 (piece_passed s track (length samples) e)
call_bounded out s call.Pin b form e tracks room pins = pin_bounded s b pins
call_bounded out s (call.Unpin pin) b form e tracks room pins = unpin_bounded s pin b
call_bounded out s _ b form e tracks room pins = b

-- each counter has room for what is needed of it
pub record HasRoom (out : Outside) (t : Studio) (c : Call) (blocks len : ℕ) : Type 0 where
  pub ids : t.next_block + blocks ≤ 2 ^ 62
  pub tracks : t.state.next_track + tracks_of out c ≤ 2 ^ 62
  pub commits : t.state.commit + commits_of c ≤ 2 ^ 62
  pub pins : t.state.next_pin + pins_of c ≤ 2 ^ 62
  pub places : t.journal_end + places_of c len ≤ 2 ^ 62
  pub generations : t.generation + generations_of c ≤ 2 ^ 62
  pub layouts : t.next_layout + layouts_of out t.state c ≤ 2 ^ 62

counters_passed : (out : Outside) (t : Studio) (c : Call) (blocks len : ℕ) → counter_tests out t c blocks len ≡ None →
    HasRoom out t c blocks len
counters_passed out t c blocks len e =
    let layouts = no_room t.next_layout (layouts_of out t.state c) in
    let generations = no_room t.generation (generations_of c) in
    let places = no_room t.journal_end (places_of c len) in
    let pins = no_room t.state.next_pin (pins_of c) in
    let commits = no_room t.state.commit (commits_of c) in
    let tracks = no_room t.state.next_track (tracks_of out c) in
    let ids = no_room t.next_block blocks in
    let first =
    both_passed ids (tracks otherwise commits otherwise pins otherwise places otherwise generations otherwise layouts)
    e in
    let second =
    both_passed tracks (commits otherwise pins otherwise places otherwise generations otherwise layouts) first.1 in
    let third = both_passed commits (pins otherwise places otherwise generations otherwise layouts) second.1 in
    let fourth = both_passed pins (places otherwise generations otherwise layouts) third.1 in
    let fifth = both_passed places (generations otherwise layouts) fourth.1 in
    let sixth = both_passed generations layouts fifth.1 in
    record {
      ids = has_room t.next_block blocks first.0;
      tracks = has_room t.state.next_track (tracks_of out c) second.0;
      commits = has_room t.state.commit (commits_of c) third.0;
      pins = has_room t.state.next_pin (pins_of c) fourth.0;
      places = has_room t.journal_end (places_of c len) fifth.0;
      generations = has_room t.generation (generations_of c) sixth.0;
      layouts = has_room t.next_layout (layouts_of out t.state c) sixth.1;
    }

bytes_within : (c : Call) (len : ℕ) → record_bytes c len ≤ places_of c len
bytes_within c len = by (commits_of c == 0)
  where
    by : (none : Bool) → (if none then 0 else 5 + len) ≤ (if none then 0 else 6 + len)
    by true = omega arith
    by false = omega arith

-- all that is known where nothing refuses a call
pub record Passed (out : Outside) (t : Studio) (c : Call) (blocks len : ℕ) : Type 0 where
  pub going : stop_test t.stopped c ≡ None
  pub own : call_tests out t.state c ≡ None
  pub room : HasRoom out t c blocks len
  pub short : len ≤ LONGEST_BODY

pub passed : (out : Outside) (t : Studio) (c : Call) (blocks len : ℕ) → refusal_of out t c blocks len ≡ None →
    Passed out t c blocks len
passed out t c blocks len e =
    let own = call_tests out t.state c in
    let counters = counter_tests out t c blocks len in
    let first = both_passed (stop_test t.stopped c) (own otherwise counters otherwise record_test len) e in
    let second = both_passed own (counters otherwise record_test len) first.1 in
    let third = both_passed counters (record_test len) second.1 in
    record {
      going = first.0;
      own = second.0;
      room = counters_passed out t c blocks len third.0;
      short = ltb-false LONGEST_BODY len (not_refused (nat_lt LONGEST_BODY len) (refusal.RecordLimit len) third.1);
    }

pub next_generation : (out : Outside) (t : Studio) (c : Call) (blocks len : ℕ) → refusal_of out t c blocks len ≡ None →
    t.generation + generations_of c ≤ 2 ^ 62
next_generation out t c blocks len e = (passed out t c blocks len e).room.generations

-- all that refuses a call let it through
pub followed_bounded : (out : Outside) (t : Studio) (c : Call) (blocks len layout : ℕ) → IsBoundedStudio t →
    IsCallInForm t.state.commit c → refusal_of out t c blocks len ≡ None → MayDraw out t c layout →
    IsBoundedStudio (followed out t c blocks len layout)
followed_bounded out t c blocks len layout b form e draws =
    let own = (passed out t c blocks len e).own in
    let room = (passed out t c blocks len e).room in
    let ids = b.next_block.0 in
    let start = b.journal_end.0 in
    let places = room.places in
    record {
      state = call_bounded out t.state c b.state form own room.tracks room.commits room.pins;
      rate = b.rate;
      block_size = b.block_size;
      next_block = (omega (arith, ids), room.ids);
      file = b.file;
      version = b.version;
      generation = b.generation;
      journal_end = (omega (arith, start), omega (arith, places, bytes_within c len));
      next_layout = (omega arith, omega (arith, draws.1, room.layouts));
    }
