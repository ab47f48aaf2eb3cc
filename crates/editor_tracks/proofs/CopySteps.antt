-- A copy is a step: other strips come into the clipboard.
use Rattle.editor_tracks.proofs.Common.{◌≡◌, ◌⊎◌, inl, inr, refl, sym, ap, ◌∙◌, subst, ℕ, ◌^◌, ◌≤◌, ◌<◌, Bool, rules}
use Rattle.editor_tracks.proofs.Common.{not, nat_lt, nat_le, ◌&&◌, List, ◌++◌, length, map, take, Option, Some, None}
use Rattle.editor_tracks.proofs.Common.{Ok, Err, arith, leb_tells, length-map, none-some, AllByRecursion, Project}
use Rattle.editor_tracks.proofs.Common.{tracks_from, longest, ◌otherwise◌, call_tests, refused_if, too_narrow}
use Rattle.editor_tracks.proofs.Common.{bad_range, BlockRef, Call, Line, Refusal, Sources, outside, stop_of, current}
use Rattle.editor_tracks.proofs.Common.{after, copied, Ghosts, Fewer, Clip, Item, strip_cells, longest_of, copy_tests}
use Rattle.editor_tracks.proofs.Common.{AreCopies, meant_track, history_blocks, Track, track_of, current_tracks}
use Rattle.editor_tracks.proofs.Common.{AllValidTracks, all_append, RunRange, run_of, Copies, strips_blocks}
use Rattle.editor_tracks.proofs.Common.{IsClipboard, IsStudio, clip_blocks, pin_blocks, named_blocks, studio_of, Took}
use Rattle.editor_tracks.proofs.Common.{quietly, silent, Core, lacks, HasLayout, all_left, all_right, current_valid}
use Rattle.editor_tracks.proofs.Common.{old_names}
use Rattle.pcm_base.specs.{declared.answer.Reply.TheVariants.Copied}
use Rattle.sample_block.specs.Sources.{sources_of}
use Rattle.block_ledger.specs.Counts.{Counts, occurrences}
use Rattle.editor_state.specs.Studios.{studio_tracks}
use Rattle.editor_state.specs.{Occurrences.HasAll, Occurrences.Moves, Occurrences.MovesSingles, Occurrences.times_named}
use Rattle.editor_state.proofs.Blocks.NamedBlocks.{others_single}
use Rattle.layout_uses.specs.Tallies.{Uses}
use Rattle.editor_state.proofs.Blocks.NamedBlocks.{counted_most, others_counted, others_moved}
use Rattle.editor_state.proofs.Calls.NameChanges.{renamed, Renames, renamed_took}
use Rattle.editor_state.proofs.Calls.QuietCalls.{IsQuiet, quiet_passes, carried, room_of, refused_own, refused_stopped}
use Rattle.editor_state.proofs.Calls.QuietCalls.{refused_wanting}
use Rattle.editor_state.proofs.{Blocks.BlockNumbers.named_few, Blocks.BlockNumbers.named_most}
use Rattle.editor_state.proofs.{Refusals.CommitTests.fits, Refusals.EarlyRefusals.stopped_not}
use Rattle.editor_tracks.proofs.CopyStrips.{from_track, layout_of, run_meant, run_is, from_valid, from_few, from_blocks}
use Rattle.editor_tracks.proofs.CopyStrips.{longest_is, longest_most, copies_mean, copies_few, copies_fit, copies_short}
use Rattle.editor_tracks.proofs.CopyStrips.{copies_all}
use Rattle.editor_commits.proofs.CursorTracks.{track_there}
use Rattle.editor_commits.proofs.CurrentProject.{current_meant, track_is}
use Rattle.pcm_base.specs.declared.command.Command.TheVariants as command
use Rattle.pcm_base.specs.declared.refusal.Refusal.TheVariants as refusal
use Rattle.pcm_base.specs.Studio as model

-- a range that is not refused ends by the end
ends_by : (a : Bool) (to len : ℕ) → refused_if (not (a && nat_le to len)) refusal.BadRange ≡ None → to ≤ len
ends_by a to len none = search (rules, nat_le, leb_tells, none-some)

second : (a b : Option Refusal) → a otherwise b ≡ None → b ≡ None
second None b e = e
second (Some r) b e = absurd (none-some r (sym e))

module _ {D : Type 0} (disk : Ghosts D) (s : Core D) (is : IsStudio disk s) where
  -- the clipboard's blocks are counted
  pub clip_counted : HasAll s.counts (clip_blocks s.clipboard)
  clip_counted = others_counted (studio_tracks s) (clip_blocks s.clipboard) s.uses s.counts is.counted

  -- and named by themselves
  pub clip_single : (id : ℕ) → times_named id (clip_blocks s.clipboard) ≤ s.uses.singles id
  clip_single = others_single (studio_tracks s) (clip_blocks s.clipboard) s.uses s.counts is.counted

  -- the counts have room
  pub clip_room : (b : ℕ) → occurrences (s.counts b) < 2 ^ 102
  clip_room b = omega (arith, counted_most disk s is b, named_most b (named_blocks s), named_few disk s is)

module _ {D : Type 0} (disk : Ghosts D) (s : Core D) (is : IsStudio disk s) (range : RunRange)
    (fewer : Fewer disk s.store) where
  abbrev src : Sources
  src = sources_of (disk.reads s.store)

  abbrev t : model.Studio
  t = studio_of disk s

  abbrev ts : List Track
  ts = current_tracks s.history

  open range use {track as id, count as n, from, to}

  abbrev line : Call
  line = Line (command.Copy id n from to)

  copy_quiet : IsQuiet line
  copy_quiet = search rules

  abbrev rest_tests : Project → Option Refusal
  rest_tests p =
      (too_narrow (length (tracks_from id p)) n) otherwise (bad_range from to (longest (take n (tracks_from id p))))

  pub copy_stopped : (faults : ℕ) → s.stopped ≡ Some faults → Took disk s (quietly line (Err (refusal.Stopped faults)))
      s
  copy_stopped faults stopped = refused_stopped disk s line copy_quiet tt is fewer faults refl stopped

  pub copy_lacks : (why : Refusal) → s.stopped ≡ None → lacks id (track_of id ts) ≡ Some why
      → Took disk s (quietly line (Err why)) s
  copy_lacks why going lack =
      refused_own disk s line copy_quiet tt is fewer why (ap stop_of going)
      ((λ i. (sym (track_is disk s is id) i) otherwise (rest_tests (current t.state)))
      ∙ (λ i. (lack i) otherwise (rest_tests (current t.state))))

  -- where the track is there the tests are those of the run of layouts
  module _ (layout : List Clip) (has : HasLayout id ts layout) (going : s.stopped ≡ None) where
    abbrev run : List Track
    run = from_track id ts

    layouts : run_of id ts ≡ map layout_of run
    layouts = run_is id 1 ts has.track (current_valid disk s is).rising has.found

    tests_are : call_tests (outside t silent) t.state line ≡ copy_tests (run_of id ts) n from to
    tests_are =
        let no = sym (track_is disk s is id) ∙ track_there disk s is id layout has in
        let mean = ap (tracks_from id) (current_meant disk s is) ∙ run_meant src id ts in
        let few : length (tracks_from id (current t.state)) ≡ length (run_of id ts) =
        ap length mean ∙ length-map run (meant_track src) ∙ sym (ap length layouts ∙ length-map run layout_of) in
        let valid = from_valid s.block_size s.next_block s.next_track id ts (current_valid disk s is).valid in
        let long : longest (take n (tracks_from id (current t.state))) ≡ longest_of (take n (run_of id ts)) =
        ap (λ (p : Project). longest (take n p)) mean ∙ longest_is s.block_size s.next_block s.next_track src n run
        valid ∙ sym (ap (λ (z : List (List Clip)). longest_of (take n z)) layouts) in
        λ i. (no i) otherwise (too_narrow (few i) n) otherwise (bad_range from to (long i))

    pub copy_refused : (why : Refusal) → (copy_tests (run_of id ts) n from to ≡ Some why) ⊎ (why ≡ refusal.NoMemory)
        → Took disk s (quietly line (Err why)) s
    copy_refused why (inl test) = refused_own disk s line copy_quiet tt is fewer why (ap stop_of going) (tests_are ∙ test)
    copy_refused why (inr want) = subst (λ (z : Refusal). Took disk s (quietly line (Err z)) s) (sym want)
        (refused_wanting disk s line copy_quiet tt is fewer)

    -- ---- carried out
    module _ (v : List (List Item)) (copies : Copies (run_of id ts) range (Ok v)) where
      copies_of : AreCopies from to (take n (map layout_of run)) v
      copies_of = subst (λ (z : List (List Clip)). AreCopies from to (take n z) v) layouts copies.1

      valid_run : AllValidTracks s.block_size s.next_block s.next_track run
      valid_run = from_valid s.block_size s.next_block s.next_track id ts (current_valid disk s is).valid

      pub strips_few : length v ≤ 64
      strips_few = omega (arith, copies_few from to n run v copies_of, from_few id ts, (current_valid disk s is).few)

      pub strips_named : (P : BlockRef → Type 0) → AllByRecursion P (named_blocks s)
          → AllByRecursion P (strips_blocks v)
      strips_named P all = copies_all P from to n run v copies_of (from_blocks P id ts (old_names disk s is P all))

      range_most : to ≤ 2 ^ 32
      range_most = search (rules, second, ends_by, nat_lt, layouts, longest_most, valid_run)

      pub may_paste : IsClipboard s.block_size v
      may_paste = search (rules, strips_few, copies_short, range_most, copies_of, fits, copies_fit, valid_run)

      meaning : map (strip_cells src) v ≡ copied id n from to (current t.state)
      meaning = search (rules, copies_mean, copies_of, run_meant, current_meant)

      module _ (uses : Uses) (counts : Counts)
          (moves : Moves s.counts counts (clip_blocks s.clipboard) (strips_blocks v))
          (single : MovesSingles s.uses uses (clip_blocks s.clipboard) (strips_blocks v))
          (most : length (strips_blocks v) ≤ 2 ^ 71) where
        abbrev new : Core D
        new = renamed s (Some v) s.pins s.next_pin uses counts

        copy_renames : Renames s (Some v) s.pins s.next_pin uses counts
        copy_renames = record {
          covers = λ P all.
              let rest = all_right P (history_blocks s.history) (pin_blocks s.pins ++ clip_blocks s.clipboard) all in
              all_append P (history_blocks s.history) (pin_blocks s.pins ++ strips_blocks v)
              (all_left P (history_blocks s.history) (pin_blocks s.pins ++ clip_blocks s.clipboard) all)
              (all_append P (pin_blocks s.pins) (strips_blocks v)
              (all_left P (pin_blocks s.pins) (clip_blocks s.clipboard) rest) (strips_named P all));
          numbers = is.numbers;
          pin_least = is.counters.pin_least;
          pin_most = is.counters.pin_most;
          valid = is.pins;
          few_clips = most;
          clip_fits = may_paste;
          numbered = is.numbered;
          drawn = is.drawn;
          counted = others_moved (studio_tracks s) (clip_blocks s.clipboard) (strips_blocks v) s.uses uses s.counts counts
              is.counted moves single;
          ids = moves.ids;
        }

        copy_state : studio_of disk new ≡ record t { state = after (outside t silent) t.state line }
        copy_state = let mean = meaning in λ i. record t { state = record t.state { clipboard = Some (mean i) } }

        pub copy_done : Took disk s (quietly line (Ok Copied)) new
        copy_done =
            let room = room_of disk s line is in
            let passed = quiet_passes t line copy_quiet room refl (ap stop_of going) (tests_are ∙ copies.0)
            (fits s.next_pin 0 (omega (arith, is.counters.pin_most))) in
            renamed_took disk s is
            (Some v) s.pins s.next_pin uses counts copy_renames line copy_quiet tt tt Copied fewer
            (λ some. absurd (stopped_not s.stopped some going))
            (λ _. carried t line copy_quiet room refl Copied (studio_of disk new) passed refl copy_state)
