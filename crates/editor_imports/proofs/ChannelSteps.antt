-- Tracks for channels, as a step of the studio.
use Rattle.std.proofs.Common.{◌≡◌, sym, ap, ◌∙◌, subst, ℕ, ◌+◌, ◌≤◌, ℤ, Option, Some, None, List, [], ◌++◌, rules}
use Rattle.std.proofs.Common.{length, length-append, map, Contains, Err, arith}
use Rattle.std.proofs.{lemmas.Grind.flat_map-append, lemmas.List.length-map, lemmas.List.map-append}
use Rattle.std.specs.List.{AllByRecursion}
use Rattle.pcm_base.specs.{declared.block.BlockRef.BlockRef, declared.command.Call.Call}
use Rattle.pcm_base.specs.{declared.command.Call.TheVariants.Line, declared.refusal.Refusal.Refusal}
use Rattle.pcm_base.specs.{History.recorded, Pieces.Sources, Refusals.call_tests, Run.outside, Sizes.blocks_of_channels}
use Rattle.pcm_base.specs.{State.State, State.current, Step.channel_tracks, Step.channels_of, Step.with_channels}
use Rattle.disk_model.specs.declared.store.Store.{Ghosts}
use Rattle.disk_model.proofs.Frames.{Fewer}
use Rattle.sample_block.specs.Sources.{sources_of}
use Rattle.clip_track.specs.Clips.{layout_blocks}
use Rattle.edit_ops.specs.{declared.types.NewBlock.NewBlock, Plans.AllNewFrom, Plans.AreWritten}
use Rattle.project_state.specs.declared.track.Track.{Track}
use Rattle.project_state.specs.Meaning.{meant, meant_history, meant_track, point_blocks}
use Rattle.record_body.specs.{Saved.current_tracks, SavedValid.IsValidPoint}
use Rattle.record_body.proofs.SavedBounds.{all_append}
use Rattle.project_state.proofs.MeantHistories.{meant_recorded}
use Rattle.layout_uses.specs.Drawing.{HasNumbers}
use Rattle.editor_state.specs.Edits.{AreAmong, IsEdit, IsPlanned, alone, beside, blocks_with, tagged}
use Rattle.project_state.proofs.KeptTracks.{each_same, keeps_each}
use Rattle.project_state.specs.Kept.{KeepsTracks}
use Rattle.editor_state.specs.Studios.{IsStudio, clip_blocks, named_blocks, studio_by}
use Rattle.editor_state.specs.{declared.planned.Planned.Planned, Commits.IsCommitCall, Core.Core, Vaults.HasChannels}
use Rattle.editor_state.specs.{Vaults.left_as, Took.Took, Took.with_sound}
use Rattle.editor_imports.specs.declared.growing.Growing.{Growing}
use Rattle.editor_imports.specs.Imports.{AreGrown, IsChannelsPlan, parts_from, channels_refusal, total_of}
use Rattle.editor_state.proofs.Blocks.BlockLists.{among_all, among_itself}
use Rattle.editor_state.proofs.Lists.{all_left, all_right}
use Rattle.editor_commits.proofs.CurrentProject.{current_below, current_valid, old_names}
use Rattle.editor_commits.proofs.TrackChanges.{current_is}
use Rattle.editor_imports.proofs.ChannelLaws.{channels_are, rising_append, valid_append, tests_are, total_lists}
use Rattle.editor_imports.proofs.{ImportRefusals.own_refused, ChannelTests.channels_pass}
use Rattle.editor_blocks.proofs.StudioBlocks.{point_more, refs}
use Rattle.editor_blocks.proofs.PlanBlocks.{all_readable, new_from_more}
use Rattle.pcm_base.specs.declared.command.Command.TheVariants as command

module _ {D : Type 0} (disk : Ghosts D) (s : Core D) (is : IsStudio disk s) (channels : List (List ℤ)) where
  abbrev counts : List ℕ
  counts = map length channels

  abbrev old : List Track
  old = current_tracks s.history

  abbrev m : ℕ
  m = s.block_size

  -- ---- what refuses them

  module _ (name : List ℕ) (sound : Option (List ℕ)) (has : HasChannels sound s.rate channels) where
    abbrev call : Call
    call = Line (command.Import name)

    own_is : (src : Sources) → call_tests (outside (studio_by src disk s) (left_as sound))
        (studio_by src disk s).state call ≡ channels_refusal (length old) counts
    own_is src =
        let st = (studio_by src disk s).state in
        let many : length (current st) ≡ length old =
        ap length (current_is src s.history) ∙ length-map old (meant_track src) in
        tests_are sound s.rate channels st has ∙ ap (λ (k : ℕ). channels_refusal k counts) many

    commit : IsCommitCall call (left_as sound) (length counts) 0
    commit = search (rules, channels_are, length-map)

    blocks_few : (k : ℕ) → k ≤ blocks_of_channels m channels → k ≤ blocks_of_channels m (channels_of sound)
    blocks_few k le =
        subst (λ (cs : List (List ℤ)). k ≤ blocks_of_channels m cs) (sym (channels_are sound s.rate channels has)) le

    module _ (fewer : Fewer disk s.store) (going : s.stopped ≡ None) where
      pub channels_refused : (why : Refusal) → channels_refusal (length old) counts ≡ Some why
          → Took disk s (with_sound call (left_as sound) (Err why)) s
      channels_refused why test =
          own_refused disk s is fewer name sound going why (own_is (sources_of (disk.reads s.store)) ∙ test)

  -- ---- the plan

  module _ (pass : channels_refusal (length old) counts ≡ None) where
    few_tracks : length old + length counts ≤ 64
    few_tracks = (channels_pass (length old) counts pass).0

    module _ (g : Growing) (are : AreGrown s counts g) where
      abbrev makes : List NewBlock
      makes = g.makes.items

      abbrev n : ℕ
      n = length makes

      abbrev point : List Track
      point = old ++ are.news

      abbrev every : List BlockRef
      every = blocks_with s makes

      -- the plan of the tracks that have grown
      abbrev plan_then : Planned
      plan_then = record {
        point = point;
        makes = makes;
        next = g.next;
        tracks = length counts;
        layouts = length counts;
        clip = None;
        kept = record { front = 0; back = 0 };
      }

      point_valid : IsValidPoint m (s.next_block + n) (s.next_track + length counts) point
      point_valid =
          let was = current_valid disk s is in
          let later = point_more m s.next_block s.next_track (s.next_block + n) (s.next_track + length counts) old
          (omega arith) (omega arith) was in
          record {
            few = omega (arith, length-append old are.news, are.many, few_tracks);
            rising = rising_append 1 s.next_track old are.news is.counters.track_least was.rising
                (current_below disk s is) are.ids;
            valid = valid_append m (s.next_block + n) (s.next_track + length counts) old are.news later.valid are.valid;
          }

      numbers : HasNumbers old s.next_layout point (s.next_layout + length counts)
      numbers = subst (λ (k : ℕ). HasNumbers old s.next_layout point k) are.number_is
          (subst (λ (q : List Track). HasNumbers old s.next_layout q g.number) are.point are.layouts)

      was_named : AreAmong every (named_blocks s)
      was_named = all_left (Contains every) (named_blocks s) (refs makes) (among_itself every)

      point_names : AreAmong every (point_blocks point)
      point_names =
          let C : BlockRef → Type 0 = Contains every in
          let mine = all_right C (named_blocks s) (refs makes) (among_itself every) in
          subst (AllByRecursion C) (sym (flat_map-append (λ (t : Track). layout_blocks t.layout) old are.news))
          (all_append C (point_blocks old) (point_blocks are.news) (old_names disk s is C was_named)
          (among_all C (refs makes) (point_blocks are.news) are.names mine))

      point_used : AreAmong (point_blocks point) (refs makes)
      point_used = search (rules, flat_map-append, among_itself, among_all, refs, all_right)

      clip_names : AreAmong every (clip_blocks s.clipboard)
      clip_names = search (rules, all_right, was_named)

      -- the old tracks stay
      kept : KeepsTracks plan_then.kept old point
      kept = keeps_each plan_then.kept 1 old point point_valid.rising (each_same plan_then.kept old are.news)

      grown_planned : (count : ℕ) (given : ℕ → ℤ) → count ≡ total_of counts
          → IsPlanned s (tagged plan_then 0 0 count given)
      grown_planned count given all =
          let origin : AllNewFrom [] count makes =
          subst (λ (k : ℕ). AllNewFrom [] k makes) (are.brought ∙ sym all) are.origin in
          record {
            new = are.new;
            readable = all_readable m s.next_block count [] makes tt origin are.new;
            origin = new_from_more [] (named_blocks s) count makes tt origin;
            tag_given = omega arith;
            tag_counts = λ some. absurd (omega (arith, some));
            layouts = numbers;
            valid = point_valid;
            kept = kept;
            names = point_names;
            used = point_used;
            clip_names = clip_names;
            clip_few = is.few_clips;
            clip_fits = is.clipboard;
          }

      -- ---- what it means

      module _ (given : ℕ → ℤ) (bring : parts_from given 0 counts ≡ channels) (block : ℕ → ℕ → ℤ)
          (written : AreWritten (beside block given) makes) where
        abbrev src : Sources
        src = alone block

        abbrev st : State
        st = (studio_by src disk s).state

        news_mean : meant src are.news ≡ channel_tracks s.next_track channels
        news_mean =
            are.means block given written ∙ ap (channel_tracks s.next_track) bring

        point_means : current st ++ channel_tracks s.next_track channels ≡ meant src point
        point_means = search (rules, current_is, news_mean, map-append)

        state_then : with_channels st channels ≡ record st {
          history = meant_history src (recorded s.history point 0);
          next_track = s.next_track + length counts;
          commit = s.commit_number + 1;
        }
        state_then =
            let many : length channels ≡ length counts = sym (length-map channels length) in
            (λ i. record st {
              history = recorded st.history (point_means i) 0;
              next_track = s.next_track + many i;
              commit = s.commit_number + 1;
            })
            ∙ (λ i. record st {
              history = sym (meant_recorded src s.history point 0) i;
              next_track = s.next_track + length counts;
              commit = s.commit_number + 1;
            })

      module _ (name : List ℕ) (sound : Option (List ℕ)) (has : HasChannels sound s.rate channels)
          (count : ℕ) (given : ℕ → ℤ) (bring : parts_from given 0 counts ≡ channels) where
        few_blocks : n ≤ blocks_of_channels m channels
        few_blocks = search (rules, length-map, total_lists)

        grown_edit : IsEdit disk s (Line (command.Import name)) (left_as sound) (tagged plan_then 0 0 count given)
        grown_edit = record {
          most = λ size state. blocks_of_channels size (channels_of sound);
          call = record {
            commit = commit name sound has;
            needs = λ rate t blocks len h. (h.0, omega (arith, h.2));
            needed = λ rate t blocks len h. (h.0, omega arith, omega (arith, h.1));
          };
          few = λ block. blocks_few name sound has n few_blocks;
          own = λ block. own_is name sound has (alone block) ∙ pass;
          layouts = λ block. ap (λ (z : List (List ℤ)). length z) (channels_are sound s.rate channels has)
              ∙ sym (length-map channels length);
          means = λ block written. ap (with_channels (studio_by (alone block) disk s).state)
              (channels_are sound s.rate channels has) ∙ state_then given bring block written;
        }

    -- ---- by the plan that the code has

    module _ (p : Planned) (plan : IsChannelsPlan s counts p) (keeps : p.clip ≡ None) (count : ℕ) (given : ℕ → ℤ) where
      same : plan_then plan.grown plan.are ≡ p
      same = search rules

      pub channels_planned : count ≡ total_of counts → IsPlanned s (tagged p 0 0 count given)
      channels_planned all = subst (λ (q : Planned). IsPlanned s (tagged q 0 0 count given)) same
          (grown_planned plan.grown plan.are count given all)

      pub channels_edit : (name : List ℕ) (sound : Option (List ℕ)) → HasChannels sound s.rate channels
          → parts_from given 0 counts ≡ channels
          → IsEdit disk s (Line (command.Import name)) (left_as sound) (tagged p 0 0 count given)
      channels_edit name sound has bring = search (rules, same, grown_edit)
