-- The tests that let the lines of a script through.
use Rattle.std.proofs.Common.{◌≡◌, ℕ, ℤ, ◌+◌, ◌-◌, ◌^◌, ◌≤◌, ◌<◌, max, Bool, true, false, List, [], ◌∷◌, length, take}
use Rattle.std.proofs.Common.{Option, None, ap, ◌∙◌, arith}
use Rattle.std.proofs.lemmas.Bool.{and_from, cond_both, le-leb, le-ltb, lt-ltb, ne_eqb}
use Rattle.std.specs.Prelude.{nat_lt, nat_le, ◌==◌, not, is_none, unwrap_or, if◌then◌else◌}
use Rattle.pcm_base.specs.Counters.{commits_needed, generations_by, layouts_of, tracks_needed}
use Rattle.pcm_base.specs.Refusals.{◌otherwise◌, bad_columns, bad_range, inserted_length, is_empty, length_limit}
use Rattle.pcm_base.specs.{Refusals.own_tests, Refusals.pasted_lengths, Refusals.refused_if, declared.sound.Cell.Cell}
use Rattle.pcm_base.specs.{declared.command.Command.Command, declared.refusal.Refusal.Refusal, Cells.Project}
use Rattle.pcm_base.specs.{Cells.cells_at, Cells.longest, Cells.tracks_from, Outside.Outside, Run.refusal_of}
use Rattle.pcm_base.specs.{Run.stop_of, Shape.shape_of, State.State, State.current, Step.new_track, Studio.Studio}
use Rattle.script_gen.proofs.Editing.{HasTrack, IsAt, copied-cells, current-track}
use Rattle.model_laws.proofs.Together.{both_pass, passes, limit_passes}
use Rattle.pcm_base.specs.declared.command.Call.TheVariants as call
use Rattle.pcm_base.specs.declared.command.Command.TheVariants as command
use Rattle.pcm_base.specs.declared.refusal.Refusal.TheVariants as refusal

-- ---- single tests

pub range-passes : (from to len : ℕ) → from < to → to ≤ len → bad_range from to len ≡ None
range-passes from to len order within =
    ap (λ (b : Bool). refused_if (not b) refusal.BadRange)
    (and_from (nat_lt from to) (nat_le to len) (lt-ltb from to order) (le-leb to len within))

-- ---- the own tests of lines

abbrev pub range_tests_of : ℕ → ℕ → Project → Option Refusal
range_tests_of from to p =
    (refused_if (is_empty (tracks_from 1 p)) (refusal.NoTrack 1)) otherwise (bad_range from to (length (cells_at 1 p)))

range-tests : (len from to : ℕ) (p : Project) → HasTrack len p → from < to → to ≤ len →
    range_tests_of from to p ≡ None
range-tests len from to p t order within =
    let e = t.full.length_is in
    ap (range_tests_of from to) t.is ∙ range-passes from to (length t.cells) order (omega arith)

pub ramp-passes : (out : Outside) (len copied at n : ℕ) (start step : ℤ) (s : State) → IsAt len copied false s →
    at ≤ len →
    len + n ≤ 2 ^ 32 → own_tests out s (command.Ramp 1 at n start step) ≡ None
ramp-passes out len copied at n start step s h within few =
    let t = current-track len copied s h in
    let e = t.full.length_is in
    ap (λ (p : Project). (refused_if (is_empty (tracks_from 1 p)) (refusal.NoTrack 1))
    otherwise (length_limit (inserted_length at n (length (cells_at 1 p)) ∷ []))) t.is
    ∙ limit_passes (inserted_length at n (length t.cells)) (omega arith)

pub delete-passes : (out : Outside) (len copied from to : ℕ) (s : State) → IsAt len copied false s → from < to →
    to ≤ len →
    own_tests out s (command.Delete 1 from to) ≡ None
delete-passes out len copied from to s h order within =
    range-tests len from to (current s) (current-track len copied s h) order within

pub gain-passes : (out : Outside) (len copied from to gain : ℕ) (s : State) → IsAt len copied false s → from < to →
    to ≤ len → own_tests out s (command.Gain 1 from to gain) ≡ None
gain-passes out len copied from to gain s h order within =
    range-tests len from to (current s) (current-track len copied s h) order within

pub silence-passes : (out : Outside) (len copied from to : ℕ) (s : State) → IsAt len copied false s → from < to →
    to ≤ len → own_tests out s (command.Silence 1 from to) ≡ None
silence-passes out len copied from to s h order within =
    range-tests len from to (current s) (current-track len copied s h) order within

pub copy-passes : (out : Outside) (len copied from to : ℕ) (s : State) → IsAt len copied false s → from < to →
    to ≤ len →
    own_tests out s (command.Copy 1 1 from to) ≡ None
copy-passes out len copied from to s h order within =
    let t = current-track len copied s h in
    let e = t.full.length_is in
    ap (λ (p : Project). (refused_if (is_empty (tracks_from 1 p)) (refusal.NoTrack 1))
    otherwise (refused_if (nat_lt (length (tracks_from 1 p)) 1) (refusal.TooNarrow (length (tracks_from 1 p)) 1))
    otherwise (bad_range from to (longest (take 1 (tracks_from 1 p))))) t.is
    ∙ range-passes from to (max (length t.cells) 0) order (omega arith)

abbrev paste_tests_of : ℕ → Project → Option (List (List Cell)) → Option Refusal
paste_tests_of at p clip =
    (refused_if (is_empty (tracks_from 1 p)) (refusal.NoTrack 1))
    otherwise (refused_if (is_none clip) refusal.EmptyClipboard)
    otherwise (refused_if (nat_lt (length (tracks_from 1 p)) (length (unwrap_or clip [])))
    (refusal.TooNarrow (length (tracks_from 1 p)) (length (unwrap_or clip []))))
    otherwise (length_limit (pasted_lengths (inserted_length at) (unwrap_or clip []) (tracks_from 1 p)))

pub paste-passes : (out : Outside) (len copied at : ℕ) (s : State) → IsAt len copied false s → 0 < copied → at ≤ len →
    len + copied ≤ 2 ^ 32 → own_tests out s (command.Paste 1 at) ≡ None
paste-passes out len copied at s h some within few =
    let t = current-track len copied s h in
    let c = copied-cells len copied s h some in
    let e = t.full.length_is in
    let f = c.full.length_is in
    ap (λ (p : Project). paste_tests_of at p s.clipboard) t.is
    ∙ ap (λ (o : Option (List (List Cell))). paste_tests_of at (new_track 1 t.cells ∷ []) o) c.is
    ∙ limit_passes (inserted_length at (length c.cells) (length t.cells)) (omega arith)

pub undo-passes : (out : Outside) (len copied : ℕ) (s : State) → IsAt len copied false s →
    own_tests out s command.Undo ≡ None
undo-passes out len copied s h =
    let two = h.history.two in
    let cursor = h.history.cursor in
    ap (λ (b : Bool). refused_if b refusal.NothingToUndo)
    (ne_eqb s.history.cursor 0 (λ (e : s.history.cursor ≡ 0). omega arith))

pub redo-passes : (out : Outside) (len copied : ℕ) (s : State) → IsAt len copied true s →
    own_tests out s command.Redo ≡ None
redo-passes out len copied s h =
    let cursor = h.history.cursor in
    let last = length s.history.points in
    ap (λ (b : Bool). refused_if b refusal.NothingToRedo)
    (ne_eqb (s.history.cursor + 1) last (λ (e : s.history.cursor + 1 ≡ last). omega arith))

pub envelope-passes : (out : Outside) (len copied : ℕ) (s : State) → IsAt len copied false s → 16 ≤ len →
    own_tests out s (command.Envelope 1 0 len 16) ≡ None
envelope-passes out len copied s h wide =
    both_pass (range_tests_of 0 len (current s)) (bad_columns 16 (len - 0))
    (range-tests len 0 len (current s) (current-track len copied s h) (omega arith) (omega arith))
    (ap (λ (b : Bool). refused_if b refusal.BadColumns) (le-ltb (len - 0) 16 (omega arith)))

-- ---- all that refuses a line

-- a studio that goes on, with room for some thousand block ids and some megabytes in each of its counters
pub record HasRoom (t : Studio) : Type 0 where
  pub going : t.stopped ≡ None
  pub ids : t.next_block + 2009 ≤ 2 ^ 62
  pub tracks : t.state.next_track + 1 ≤ 2 ^ 62
  pub commits : t.state.commit + 1 ≤ 2 ^ 62
  pub pins : t.state.next_pin ≤ 2 ^ 62
  pub places : t.journal_end + 2450110 ≤ 2 ^ 62
  pub generations : t.generation + 1 ≤ 2 ^ 62
  pub layouts : t.next_layout + 1 ≤ 2 ^ 62

pub places-few : (commits len : ℕ) → (if commits == 0 then 0 else 6 + len) ≤ 6 + len
places-few commits len =
    cond_both (commits == 0) _ _ (λ (n : ℕ). n ≤ 6 + len) (λ _. omega arith) (λ _. omega arith)

pub line-passes : (out : Outside) (t : Studio) (c : Command) (blocks len : ℕ) → HasRoom t →
    own_tests out t.state c ≡ None →
    blocks ≤ 2009 → len ≤ 2450104 → tracks_needed out c ≤ 1 → commits_needed c ≤ 1 →
    generations_by (shape_of c) ≡ 0 → layouts_of out t.state (call.Line c) ≤ 1 →
    refusal_of out t (call.Line c) blocks len ≡ None
line-passes out t c blocks len room own few short tracks commits still draws =
    let line = call.Line c in
    passes out t line blocks len record {
      going = ap stop_of room.going;
      own = own;
      room = record {
        ids = omega (arith, room.ids);
        tracks = omega (arith, room.tracks);
        commits = omega (arith, room.commits);
        pins = omega (arith, room.pins);
        places = omega (arith, room.places, places-few (commits_needed c) len);
        generations = omega (arith, room.generations);
        layouts = omega (arith, room.layouts);
      };
      short = omega arith;
    }
