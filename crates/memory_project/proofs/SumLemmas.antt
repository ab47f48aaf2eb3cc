-- What is told of a studio with one track.
use Rattle.std.proofs.Common.{◌≡◌, ◌⊎◌, ⊎_elim, ℕ, ◌+◌, ◌-◌, Bool, Option, None, Err, Ok, List, [], length, refl, sym}
use Rattle.std.proofs.Common.{ap, ◌∙◌, subst, arith}
use Rattle.std.proofs.{lemmas.Bool.le-ltb, lemmas.Grind.common_steps}
use Rattle.pcm_base.specs.Envelope.{columns_of, edge, scan_of}
use Rattle.pcm_base.specs.Refusals.{◌otherwise◌, bad_columns, call_tests, own_tests, range_tests, refused_if}
use Rattle.pcm_base.specs.Run.{Answers, followed, name_in_line, outside, refusal_of, stop_of, stop_test}
use Rattle.pcm_base.specs.Counters.{Needs, commits_needed, commits_of, counter_tests, generations_of, no_room}
use Rattle.pcm_base.specs.Counters.{places_of, record_test, tracks_needed, layouts_of, tracks_of}
use Rattle.pcm_base.specs.{declared.sound.Cell.Cell, declared.sound.Scan.Scan, declared.answer.Reply.Reply}
use Rattle.pcm_base.specs.{declared.command.Call.TheVariants.Line, declared.command.Command.Command}
use Rattle.pcm_base.specs.{declared.refusal.Refusal.Refusal, Cells.Project, Cells.cells_at, Edits.part, Studio.Studio}
use Rattle.disk_model.specs.declared.store.Store.{Ghosts}
use Rattle.envelope_view.specs.Answers.{IsUndamaged}
use Rattle.editor_state.specs.{Core.Core, Reads.Looks, Studios.studio_of, Took.silent}
use Rattle.model_laws.proofs.Together.{both_pass, room_passes}
use Rattle.model_laws.proofs.Answered.{answered_same, moves_of, no_generation}
use Rattle.memory_project.specs.Sums.{HasOneTrack, Looked, MaySum, first_column, track_cells}
use Rattle.memory_project.specs.Memory.{no_room as nothing_more}
use Rattle.memory_project.proofs.LineLemmas.{fails_not, no_answer}
use Rattle.memory_project.proofs.RoomLemmas.{asked_kept, room_kept}
use Rattle.script_gen.proofs.Passing.{range-passes, range_tests_of}
use Rattle.pcm_base.specs.declared.answer.Reply.TheVariants as reply
use Rattle.pcm_base.specs.declared.command.Command.TheVariants as command
use Rattle.pcm_base.specs.declared.refusal.Refusal.TheVariants as refusal

-- ---- how long the track is

-- the cells of the only track
only_cells : (t : Studio) (one : HasOneTrack t) → track_cells t ≡ one.cells
only_cells t one = ap (λ (p : Project). cells_at 1 p) one.is

-- ---- one column is the whole track

whole_part : (cells : List Cell) → part 0 (length cells) cells ≡ cells
whole_part cells = grind (arith, common_steps)

pub one_column : (cells : List Cell) → first_column (columns_of 0 (length cells) 1 cells) ≡ scan_of cells
one_column cells =
    let len = length cells in
    let from : edge 0 len 1 0 ≡ 0 = omega arith in
    let to : edge 0 len 1 1 ≡ len = omega arith in
    ap (λ (n : ℕ). scan_of (part n (edge 0 len 1 1) cells)) from ∙ ap (λ (n : ℕ). scan_of (part 0 n cells)) to
    ∙ ap scan_of (whole_part cells)

abbrev columns_in : Reply → List (Option Scan)
columns_in (reply.Columns columns) = columns
columns_in other = []

same_columns : (a b : List (Option Scan)) → reply.Columns a ≡ reply.Columns b → a ≡ b
same_columns a b e = ap columns_in e

-- ---- what is only looked at is not refused

-- a line that needs no block, no record and no number, not of a layout either
pub record IsLook (t : Studio) (c : Command) : Type 0 where
  pub names : name_in_line c ≡ None
  pub own : own_tests (outside t silent) t.state c ≡ None
  pub none : (tracks_needed (outside t silent) c ≡ 0) × (commits_needed c ≡ 0) × (places_of (Line c) 0 ≡ 0)
      × (moves_of (Line c) ≡ 0) × (layouts_of (outside t silent) t.state (Line c) ≡ 0)
  pub needs : (blocks len : ℕ) → Needs (outside t silent) t (Line c) blocks len → (blocks ≡ 0) × (len ≡ 0)

module _ {D : Type 0} (disk : Ghosts D) (s : Core D) (may : MaySum disk s) where
  abbrev t : Studio
  t = studio_of disk s

  module _ (c : Command) (look : IsLook t c) where
    counters_pass : counter_tests (outside t silent) t (Line c) 0 0 ≡ None
    counters_pass =
        let all = may.studio.counters in
        let a = no_room t.next_block 0 in
        let b = no_room t.state.next_track (tracks_of (outside t silent) (Line c)) in
        let d = no_room t.state.commit (commits_of (Line c)) in
        let e = no_room t.state.next_pin 0 in
        let f = no_room t.journal_end (places_of (Line c) 0) in
        let g = no_room t.generation (generations_of (Line c)) in
        let h = no_room t.next_layout (layouts_of (outside t silent) t.state (Line c)) in
        both_pass a (b otherwise d otherwise e otherwise f otherwise g otherwise h)
        (room_passes t.next_block 0 (omega (arith, all.block_most)))
        (both_pass b (d otherwise e otherwise f otherwise g otherwise h)
        (room_passes t.state.next_track (tracks_of (outside t silent) (Line c))
        (omega (arith, all.track_most, look.none.0)))
        (both_pass d (e otherwise f otherwise g otherwise h)
        (room_passes t.state.commit (commits_of (Line c)) (omega (arith, all.commit_most, look.none.1)))
        (both_pass e (f otherwise g otherwise h) (room_passes t.state.next_pin 0 (omega (arith, all.pin_most)))
        (both_pass f (g otherwise h) (room_passes t.journal_end (places_of (Line c) 0)
        (omega (arith, all.end_most, look.none.2)))
        (both_pass g h (room_passes t.generation (generations_of (Line c))
        (omega (arith, may.studio.journal.generation_most, no_generation (Line c) look.none.3)))
        (room_passes t.next_layout (layouts_of (outside t silent) t.state (Line c))
        (omega (arith, may.studio.layouts, all.end_most, look.none.4))))))))

    none_passes : refusal_of (outside t silent) t (Line c) 0 0 ≡ None
    none_passes =
        let out = outside t silent in
        both_pass (stop_test t.stopped (Line c))
        (call_tests out t.state (Line c) otherwise counter_tests out t (Line c) 0 0 otherwise record_test 0)
        (ap stop_of may.going)
        (both_pass (call_tests out t.state (Line c)) (counter_tests out t (Line c) 0 0 otherwise record_test 0) look.own
        (both_pass (counter_tests out t (Line c) 0 0) (record_test 0) counters_pass refl))

    look_passes : (blocks len : ℕ) → Needs (outside t silent) t (Line c) blocks len
        → refusal_of (outside t silent) t (Line c) blocks len ≡ None
    look_passes blocks len needs =
        let w = look.needs blocks len needs in
        ap (λ (n : ℕ). refusal_of (outside t silent) t (Line c) n len) w.0
        ∙ ap (λ (n : ℕ). refusal_of (outside t silent) t (Line c) 0 n) w.1 ∙ none_passes

    -- so it is answered, where there is memory and no read fails
    pub look_wants : (new : Core D) (why : Refusal) → disk.read_fault_count new.store ≡ 0
        → disk.change_fault_count new.store ≡ 0 → IsUndamaged why
        → Answers t (Line c) silent (Err why) (studio_of disk new) → why ≡ refusal.NoMemory
    look_wants new why reads changes valid answers =
        (no_answer t (studio_of disk new) c look.names
        (λ bytes is. omega (arith, look.none.1, ap commits_needed is))
        (fails_not t (studio_of disk new) c may.room.reads may.room.changes reads changes) why valid look_passes
        answers).0

  tracks_look : IsLook t command.Tracks
  tracks_look = record {
    names = refl;
    own = refl;
    none = (refl, refl, refl, refl, refl);
    needs = λ blocks len needs. needs;
  }

  pub tracks_want : (why : Refusal) → (why ≡ refusal.NoMemory) ⊎ ((faults : ℕ) × (why ≡ refusal.Stopped faults))
      → Answers t (Line command.Tracks) silent (Err why) t → why ≡ refusal.NoMemory
  tracks_want why either answers = look_wants command.Tracks tracks_look s why may.room.reads may.room.changes
      (⊎_elim (λ (e : why ≡ refusal.NoMemory). subst IsUndamaged (sym e) tt)
      (λ (w : (faults : ℕ) × (why ≡ refusal.Stopped faults)). subst IsUndamaged (sym w.1) tt) either) answers

  module _ (len : ℕ) (is : len ≡ length (track_cells t)) where
    abbrev line : Command
    line = command.Envelope 1 0 len 1

    own_none : own_tests (outside t silent) t.state line ≡ None
    own_none =
        let cells = may.track.cells in
        let some = may.track.some in
        let long : len ≡ length cells = is ∙ ap length (only_cells t may.track) in
        both_pass (range_tests t.state 1 0 len) (bad_columns 1 (len - 0))
        (ap (range_tests_of 0 len) may.track.is ∙ range-passes 0 len (length cells) (omega (arith, long, some))
        (omega (arith, long)))
        (ap (λ (b : Bool). refused_if b refusal.BadColumns) (le-ltb (len - 0) 1 (omega (arith, long, some))))

    scan_look : IsLook t line
    scan_look = record {
      names = refl;
      own = own_none;
      none = (refl, refl, refl, refl, refl);
      needs = λ blocks len needs. needs;
    }

    pub scan_wants : (new : Core D) (why : Refusal) → Looks disk s (Line line) (Err why) new → why ≡ refusal.NoMemory
    scan_wants new why looks =
        let left = room_kept disk s.store new.store nothing_more looks.kept may.room in
        look_wants line scan_look new why left.reads left.changes (looks.valid may.held) (looks.took.step may.held)

    pub scan_looked : (new : Core D) (r : Reply) → Looks disk s (Line line) (Ok r) new → Looked disk s new
    scan_looked new r looks =
        let step = looks.took.step may.held in
        let block : t.next_block + step.blocks ≡ t.next_block = let none = step.needs.0 in omega (arith, none) in
        let end : t.journal_end + 0 ≡ t.journal_end = omega arith in
        let layout : step.layout ≡ t.next_layout = omega (arith, step.draws.0, step.draws.1) in
        record {
          studio = looks.took.studio;
          held = looks.took.held may.held;
          same = step.is
              ∙ answered_same (outside t silent) t.state (Line line) r step.answers refl
              (followed (outside t silent) t (Line line) step.blocks step.len step.layout)
              ∙ (λ i. record t { next_block = block i; journal_end = end i; next_layout = layout i });
          room = room_kept disk s.store new.store nothing_more looks.kept may.room;
          asked_none = asked_kept disk s.store new.store looks.kept;
        }

    pub scan_is : (new : Core D) (columns : List (Option Scan)) → Looks disk s (Line line)
        (Ok (reply.Columns columns)) new
        → first_column columns ≡ scan_of (track_cells t)
    scan_is new columns looks =
        let step = looks.took.step may.held in
        ap first_column (same_columns columns (columns_of 0 len 1 (track_cells t)) step.answers)
        ∙ ap (λ (n : ℕ). first_column (columns_of 0 n 1 (track_cells t))) is ∙ one_column (track_cells t)
