-- Showing cells of a track, and what a scan of them finds.
use Rattle.std.proofs.Common.{rules, nat_lt, nat_le, ◌&&◌, ◌||◌, not}
use Rattle.editor_views.proofs.Common.{◌≡◌, ◌⊎◌, inl, inr, refl, sym, ap, ◌∙◌, subst, ℕ, ◌-◌, ◌==◌, Bool, true, false}
use Rattle.editor_views.proofs.Common.{IsTrue, List, length, Option, Some, None, Ok, Err, arith, same_Some, ◌otherwise◌}
use Rattle.editor_views.proofs.Common.{refused_if, bad_view, outside, stop_of, Call, Line, Refusal, part, Sources}
use Rattle.editor_views.proofs.Common.{current, Kept, Ghosts, Fewer, sources_of, length-layout, BlockFault, CountedBy}
use Rattle.editor_views.proofs.Common.{IsFaultIn, reason_of, reason_damaged, Track, Entries, current_tracks, IsHeld}
use Rattle.editor_views.proofs.Common.{IsStudio, named_blocks, studio_of, Core, Took, quietly, silent, current_meant}
use Rattle.editor_views.proofs.Common.{looked_ok, looked_failed, looked_wanting, IsQuiet, quiet_passes, carried}
use Rattle.editor_views.proofs.Common.{room_of, refused_own, refused_stopped, fault_among, fits, ReadsNamed}
use Rattle.std.proofs.lemmas.Option.{none-some}
use Rattle.pcm_base.specs.Refusals.{call_tests, bad_range, bad_columns}
use Rattle.pcm_base.specs.{declared.sound.Cell.Cell, declared.sound.Scan.Scan, Cells.cells_at, Envelope.columns_of}
use Rattle.clip_track.specs.{declared.clips.Clip.Clip, Clips.end_of, Clips.layout_blocks, Clips.layout_cells}
use Rattle.envelope_view.specs.Answers.{column_tests, IsDamagedIn, IsOfReads, IsCountedBy}
use Rattle.project_state.specs.{Tracks.track_of}
use Rattle.editor_state.specs.{Points.lacks, Reads.HasLayout}
use Rattle.editor_commits.proofs.CursorTracks.{layout_named, track_there, layout_valid, layout_meant}
use Rattle.editor_commits.proofs.CurrentProject.{track_is}
use Rattle.editor_state.proofs.Calls.LookCalls.{looked_own}
use Rattle.editor_state.proofs.Calls.QuietCalls.{own_first}
use Rattle.editor_state.proofs.{Blocks.BlockDamage.damage_among, Refusals.CallTests.own, Refusals.CallTests.own_by}
use Rattle.pcm_base.specs.declared.answer.Reply.TheVariants as reply
use Rattle.pcm_base.specs.declared.command.Command.TheVariants as command
use Rattle.pcm_base.specs.declared.refusal.Refusal.TheVariants as refusal
use Rattle.pcm_base.specs.Studio as model
use Rattle.block_store.specs.declared.fault.BlockFault.TheVariants as fault

-- a test of columns answers by one of two reasons, and no read was counted for it
by_test : (a b : Bool) (why : Refusal) (old new : ℕ) → (refused_if a refusal.BadRange) otherwise
    (refused_if b refusal.BadColumns) ≡ Some why → IsCountedBy why old new → new ≡ old
by_test true b why old new e counted =
    subst (λ (z : Refusal). IsCountedBy z old new) (sym (same_Some refusal.BadRange why e)) counted
by_test false true why old new e counted =
    subst (λ (z : Refusal). IsCountedBy z old new) (sym (same_Some refusal.BadColumns why e)) counted
by_test false false why old new e counted = absurd (none-some why e)

module _ {D : Type 0} (disk : Ghosts D) (s : Core D) (is : IsStudio disk s) (id from to : ℕ)
    (fewer : Fewer disk s.store) where
  abbrev src : Sources
  src = sources_of (disk.reads s.store)

  abbrev t : model.Studio
  t = studio_of disk s

  abbrev ts : List Track
  ts = current_tracks s.history

  -- the cells of a track, by its layout
  cells_are : (layout : List Clip) → HasLayout id ts layout → layout_cells src layout ≡ cells_at id (current t.state)
  cells_are layout has =
      sym (layout_meant disk s is id layout has src) ∙ ap (cells_at id) (sym (current_meant disk s is))

  -- ---- show

  abbrev show : Call
  show = Line (command.Show id from to)

  show_quiet : IsQuiet show
  show_quiet = search rules

  show_tests : call_tests (outside t silent) t.state show ≡ (lacks id (track_of id ts)) otherwise (bad_view from to)
  show_tests = λ i. (sym (track_is disk s is id) i) otherwise (bad_view from to)

  pub show_stopped : (faults : ℕ) → s.stopped ≡ Some faults → Took disk s (quietly show (Err (refusal.Stopped faults)))
      s
  show_stopped faults stopped = refused_stopped disk s show show_quiet tt is fewer faults refl stopped

  pub show_lacks : (why : Refusal) → s.stopped ≡ None → lacks id (track_of id ts) ≡ Some why
      → Took disk s (quietly show (Err why)) s
  show_lacks why going lack =
      refused_own disk s show show_quiet tt is fewer why (ap stop_of going)
      (show_tests ∙ (λ i. (lack i) otherwise (bad_view from to)))

  module _ (layout : List Clip) (has : HasLayout id ts layout) (going : s.stopped ≡ None) where
    pub show_beyond : (why : Refusal) → bad_view from to ≡ Some why → Took disk s (quietly show (Err why)) s
    show_beyond why bad =
        refused_own disk s show show_quiet tt is fewer why (ap stop_of going)
        (show_tests ∙ (λ i. (track_there disk s is id layout has i) otherwise (bad i)))

    module _ (store : D) (kept : Kept disk s.store store) (cache : Entries) (keeps : ReadsNamed disk s cache) where
      pub show_done : (cells : List Cell) → bad_view from to ≡ None
          → disk.read_fault_count store ≡ disk.read_fault_count s.store
          → (IsHeld disk s → cells ≡ part from to (layout_cells src layout))
          → Took disk s (quietly show (Ok (reply.Cells cells))) (record s { store = store; cache = cache })
      show_done cells good faults seen =
          let room = room_of disk s show is in
          let own : call_tests (outside t silent) t.state show ≡ None =
          show_tests ∙ (λ i. (track_there disk s is id layout has i) otherwise (good i)) in
          let passed = quiet_passes t show show_quiet room refl (ap stop_of going) own
          (fits s.next_pin 0 (omega (arith, is.counters.pin_most))) in
          looked_ok disk s is store kept cache keeps show show_quiet tt going tt (reply.Cells cells) faults
          (λ held. carried t show show_quiet room refl (reply.Cells cells) t passed
          (ap reply.Cells (seen held ∙ ap (part from to) (cells_are layout has))) refl)

      pub show_failed : (why : BlockFault) → CountedBy why (disk.read_fault_count s.store) (disk.read_fault_count store)
          → (IsTrue (disk.tells s.store) → IsFaultIn (disk.reads s.store) (layout_blocks layout) why)
          → Took disk s (quietly show (Err (reason_of why))) (record s { store = store; cache = cache })
      show_failed why counted damaged =
          looked_failed disk s is store kept cache keeps show show_quiet tt going refl why counted
          (λ told. reason_damaged (disk.reads s.store) (named_blocks s) why (fault_among (disk.reads s.store)
          (named_blocks s) (layout_blocks layout) why (layout_named disk s is id layout has) (damaged told)))

  -- ---- envelope

  module _ (columns : ℕ) where
    abbrev scan : Call
    scan = Line (command.Envelope id from to columns)

    scan_quiet : IsQuiet scan
    scan_quiet = search rules

    pub scan_stopped : (faults : ℕ) → s.stopped ≡ Some faults
        → Took disk s (quietly scan (Err (refusal.Stopped faults))) s
    scan_stopped faults stopped = refused_stopped disk s scan scan_quiet tt is fewer faults refl stopped

    abbrev beyond : ℕ → Option Refusal
    beyond len = bad_range from to len

    abbrev uneven : Option Refusal
    uneven = bad_columns columns (to - from)

    scan_tests : call_tests (outside t silent) t.state scan
        ≡ ((lacks id (track_of id ts)) otherwise (beyond (length (cells_at id (current t.state))))) otherwise uneven
    scan_tests = search (rules, track_is)

    pub scan_lacks : (why : Refusal) → s.stopped ≡ None → lacks id (track_of id ts) ≡ Some why
        → Took disk s (quietly scan (Err why)) s
    scan_lacks why going lack =
        refused_own disk s scan scan_quiet tt is fewer why (ap stop_of going)
        (scan_tests ∙ (λ i. ((lack i) otherwise (beyond (length (cells_at id (current t.state))))) otherwise uneven))

    module _ (layout : List Clip) (has : HasLayout id ts layout) (going : s.stopped ≡ None) (store : D)
        (kept : Kept disk s.store store) (cache : Entries) (keeps : ReadsNamed disk s cache) where
      tests_are : call_tests (outside t silent) t.state scan ≡ column_tests from to columns (end_of 0 layout)
      tests_are =
          let len : length (cells_at id (current t.state)) ≡ end_of 0 layout = ap length (sym (cells_are layout has))
          ∙ length-layout src layout (layout_valid disk s is id layout has).apart in
          scan_tests ∙ (λ i. ((track_there disk s is id layout has i) otherwise (beyond (len i))) otherwise uneven)

      pub scan_done : (found : List (Option Scan)) → column_tests from to columns (end_of 0 layout) ≡ None
          → disk.read_fault_count store ≡ disk.read_fault_count s.store
          → (IsHeld disk s → found ≡ columns_of from to columns (layout_cells src layout))
          → Took disk s (quietly scan (Ok (reply.Columns found))) (record s { store = store; cache = cache })
      scan_done found good faults seen =
          let room = room_of disk s scan is in
          let passed = quiet_passes t scan scan_quiet room refl (ap stop_of going) (tests_are ∙ good)
          (fits s.next_pin 0 (omega (arith, is.counters.pin_most))) in
          looked_ok disk s is store kept cache keeps scan scan_quiet tt going tt (reply.Columns found) faults
          (λ held. carried t scan scan_quiet room refl (reply.Columns found) t passed
          (ap reply.Columns (seen held ∙ ap (columns_of from to columns) (cells_are layout has))) refl)

      of_reads : (why : Refusal) → IsOfReads why
          → IsCountedBy why (disk.read_fault_count s.store) (disk.read_fault_count store)
          → (IsTrue (disk.tells s.store) → IsDamagedIn (disk.reads s.store) (named_blocks s) why)
          → Took disk s (quietly scan (Err why)) (record s { store = store; cache = cache })
      of_reads refusal.NoMemory reads counted damaged = search (rules, looked_wanting, scan_quiet)
      of_reads refusal.DiskFault reads counted damaged =
          looked_failed disk s is store kept cache keeps scan scan_quiet tt going refl fault.DiskFault counted damaged
      of_reads (refusal.Damaged file at want have) reads counted damaged =
          looked_failed disk s is store kept cache keeps scan scan_quiet tt going refl
          (fault.Damaged file (record { at = at; want = want; have = have })) counted damaged
      of_reads why reads counted damaged = absurd reads

      pub scan_failed : (why : Refusal) → (column_tests from to columns (end_of 0 layout) ≡ Some why)
          ⊎ ((column_tests from to columns (end_of 0 layout) ≡ None) × IsOfReads why)
          → IsCountedBy why (disk.read_fault_count s.store) (disk.read_fault_count store)
          → (IsTrue (disk.tells s.store) → IsDamagedIn (disk.reads s.store) (layout_blocks layout) why)
          → Took disk s (quietly scan (Err why)) (record s { store = store; cache = cache })
      scan_failed why (inl test) counted damaged =
          let len = end_of 0 layout in
          let faults = by_test (not (nat_lt from to && nat_le to len)) (columns == 0 || nat_lt 4096 columns || nat_lt
          (to - from) columns) why (disk.read_fault_count s.store) (disk.read_fault_count store) test counted in
          looked_own disk s is store kept cache keeps scan scan_quiet tt going why
          (own_by (call_tests (outside t silent) t.state scan) why (own (outside t silent) t.state scan)
          (tests_are ∙ test)) faults (λ held. own_first t scan 0 0 why (ap stop_of going) (tests_are ∙ test))
      scan_failed why (inr read) counted damaged =
          of_reads why read.1 counted
          (λ told. damage_among (disk.reads s.store) (named_blocks s) (layout_blocks layout) why
          (layout_named disk s is id layout has) (damaged told))
