-- An edit that makes blocks: what its plan says of the studio with the blocks made, and its commit.
use Rattle.editor_edits.proofs.Common.{◌≡◌, inr, refl, sym, ap, ◌∙◌, subst, ℕ, suc, ◌+◌, ◌*◌, ◌^◌, ◌≤◌, ◌<◌, ℤ, Option}
use Rattle.editor_edits.proofs.Common.{None, List, ◌++◌, length, arith, rules, AllByRecursion, BlockRef, Call}
use Rattle.editor_edits.proofs.Common.{SoundMove, Needs, layouts_of, History, recorded, call_tests, outside, Ghosts}
use Rattle.editor_edits.proofs.Common.{Counts, Item, current_tracks, Body, Edit, IsValidTagged, point_blocks}
use Rattle.editor_edits.proofs.Common.{history_blocks, Track, IsEdit, IsPlanned, TaggedEdit, clip_behind}
use Rattle.editor_edits.proofs.Common.{history_behind, IsGiven, IsHeld, IsStudio, clip_blocks, named_blocks, studio_of}
use Rattle.editor_edits.proofs.Common.{IsLength, Writing, Core, PiecesThere, batch_of, ids_from, AreSynced, Making}
use Rattle.editor_edits.proofs.Common.{HasIds, among_all, all_so, HasMade, all_recorded, recorded_few, recorded_depth}
use Rattle.editor_edits.proofs.Common.{recorded_current, IsCommit, IsNewId, made_studio, refs, refs_ids, Few}
use Rattle.std.proofs.Common.{map}
use Rattle.std.proofs.lemmas.List.{take_all}
use Rattle.pcm_base.specs.{Cells.Project, Sizes.project_body_most, State.current, Step.after}
use Rattle.sample_block.specs.Sources.{samples_on}
use Rattle.edit_ops.specs.Plans.{AreWritten}
use Rattle.record_body.specs.Saved.{Saved, before_of}
use Rattle.record_body.specs.{SavedValid.IsValidPoint, Valid.IsValidBody}
use Rattle.project_state.specs.Meaning.{meant}
use Rattle.project_state.specs.{Numbers.unnumbered}
use Rattle.record_body.proofs.SavedBounds.{all_append, tagged_more}
use Rattle.record_body.proofs.Unnumbered.{are_unnumbered, recorded_alike, valid_alike}
use Rattle.editor_state.specs.Edits.{alone, beside, blocks_with}
use Rattle.editor_state.specs.Studios.{studio_by}
use Rattle.editor_state.proofs.{Blocks.BlockNumbers.few_more, Blocks.NamedBlocks.named_counted, Lists.all_left}
use Rattle.editor_state.proofs.{Images.SameMeaning.same_by}
use Rattle.editor_commits.proofs.PointTags.{blocks_recorded, tag_here}
use Rattle.editor_commits.proofs.{BodyBytes.lengths_all, CurrentProject.current_valid, CurrentProject.may_all}
use Rattle.editor_commits.proofs.{CommitImages.Matches, TrackChanges.current_is}
use Rattle.editor_blocks.proofs.BlockCommits.{has_made}
use Rattle.editor_blocks.proofs.StudioBlocks.{are_made, made_held}
use Rattle.editor_blocks.proofs.BlockSamples.{old_same, supposed, supposed_written}
use Rattle.editor_blocks.proofs.PieceBlocks.{makes_all, IsCounted, counted_there, there_of}
use Rattle.pcm_base.specs.Studio as model

module _ {D : Type 0} (disk : Ghosts D) (s : Core D) (is : IsStudio disk s) (going : s.stopped ≡ None)
    (e : TaggedEdit) (plan : IsPlanned s e) where
  open e use {given, tag, plan.{makes, tracks, point}}

  abbrev clip : Option (List (List Item))
  clip = clip_behind s e.plan

  abbrev n : ℕ
  n = length makes

  abbrev made : List BlockRef
  made = refs makes

  abbrev track_then : ℕ
  track_then = s.next_track + tracks

  abbrev edit_body : Body
  edit_body = Edit tag (s.next_block + n) track_then point

  abbrev pub writes : Writing
  writes = record { more = e.more; body = edit_body }

  abbrev pub edit_history : History (List Track)
  edit_history = history_behind s e

  pub pieces_there : IsHeld disk s → PiecesThere (disk.reads s.store) makes
  pieces_there held = makes_all (disk.reads s.store) (named_blocks s) e.count makes held.whole plan.origin

  -- ---- the counts have room for what is named

  module _ (mid : Core D) (making : Making disk s (batch_of given makes) n mid) (fits : s.next_block + n ≤ 2 ^ 62) where
    mid_is : IsStudio disk mid
    mid_is = made_studio disk s is given makes n mid making going (omega arith) plan.new fits pieces_there

    every_counted : AllByRecursion (IsCounted mid.counts) (blocks_with s makes)
    every_counted =
        let old =
        counted_there mid.counts (named_blocks s) (λ id some. subst (λ (k : ℕ). 0 < k) (sym
        (making.ledger.counts id)) (named_counted disk s is id some)) in
        let new = all_so (λ (b : BlockRef). IsNewId s.next_block n b.id) (IsCounted mid.counts)
        (λ b k. (making.ledger.ids b.id).1 (inr k)) made (refs_ids s.block_size s.next_block makes plan.new) in
        all_append (IsCounted mid.counts) (named_blocks s) made old new

    pub point_there : HasIds mid.counts (point_blocks point)
    point_there = there_of mid.counts (point_blocks point)
        (among_all (IsCounted mid.counts) (blocks_with s makes) (point_blocks point) plan.names every_counted)

    pub clip_there : HasIds mid.counts (clip_blocks clip)
    clip_there = there_of mid.counts (clip_blocks clip)
        (among_all (IsCounted mid.counts) (blocks_with s makes) (clip_blocks clip) plan.clip_names every_counted)

    pub point_few : Few mid.counts (point_blocks point)
    point_few =
        few_more disk mid mid_is point track_then
        (subst (λ (z : Core D). IsValidPoint z.block_size z.next_block track_then point) (sym making.is) plan.valid)

  -- ---- where it leads

  abbrev Holds : (BlockRef → Type 0) → Type 0
  Holds P = AllByRecursion P (named_blocks s ++ made)

  pub covers_then : (P : BlockRef → Type 0) → Holds P → AllByRecursion P (history_blocks edit_history)
  covers_then P all = search (rules, all_left, blocks_recorded, among_all)

  pub clip_covers_then : (P : BlockRef → Type 0) → Holds P → AllByRecursion P (clip_blocks clip)
  clip_covers_then P all = among_all P (blocks_with s makes) (clip_blocks clip) plan.clip_names all

  pub points_then : AllByRecursion
      (IsValidTagged s.block_size (s.next_block + n) track_then (s.commit_number + suc e.more)) edit_history.points
  points_then =
      let Here : List Track × ℕ → Type 0 =
      IsValidTagged s.block_size (s.next_block + n) track_then (s.commit_number + suc e.more) in
      let Was : List Track × ℕ → Type 0 = IsValidTagged s.block_size s.next_block s.next_track s.commit_number in
      let old = all_so Was Here
      (λ q h. tagged_more s.block_size s.next_block s.next_track s.commit_number (s.next_block + n) track_then
      (s.commit_number + suc e.more) q (omega arith) (omega arith) (omega arith) h) s.history.points is.points in
      let tags = all_so Was (λ (q : List Track × ℕ). q.1 ≤ s.commit_number) (λ q h. h.1) s.history.points is.points in
      all_recorded s.history point tag Here old (plan.valid, omega (arith, plan.tag_given)) (
        plan.valid,
        omega (arith, tag_here s.commit_number s.history tags),
      )

  -- ---- what it means

  module _ (c : Call) (sound : SoundMove) (edit : IsEdit disk s c sound e) where
    abbrev t : model.Studio
    t = studio_of disk s

    -- the studio, where the blocks have these samples
    abbrev by : (ℕ → ℕ → ℤ) → model.Studio
    by block = studio_by (alone block) disk s

    abbrev project_then : model.Studio → Project
    project_then u = current (after (outside u sound) u.state c)

    then_meant : (block : ℕ → ℕ → ℤ) → AreWritten (beside block given) makes
        → project_then (by block) ≡ meant (alone block) point
    then_meant block written =
        ap current (edit.means block written) ∙ current_is (alone block) edit_history
        ∙ ap (meant (alone block)) (recorded_current s.history point tag is.format.depth_least)

    -- the records are no longer than they may be, as a studio has it
    abbrev ShortBy : ℕ → model.Studio → Type 0
    ShortBy len u = (5 * e.more ≤ len) × (len ≤ e.more * (5 + project_body_most s.block_size (current u.state))
        + project_body_most s.block_size (project_then u))

    now_valid : IsValidPoint s.block_size (s.next_block + n) track_then (current_tracks s.history)
    now_valid = (tagged_more s.block_size s.next_block s.next_track 0 (s.next_block + n) track_then 0
        (current_tracks s.history, 0) (omega arith) (omega arith) (omega arith)
        (current_valid disk s is, omega arith)).0

    short_by : (len : ℕ) → IsLength s writes len → (block : ℕ → ℕ → ℤ)
        → AreWritten (beside block given) makes → ShortBy len (by block)
    short_by len one block written =
        subst (λ (p : Project). (5 * e.more ≤ len) × (len ≤ e.more * (5 + project_body_most s.block_size p)
        + project_body_most s.block_size (project_then (by block)))) (sym (current_is (alone block) s.history))
        (subst (λ (q : Project). (5 * e.more ≤ len)
        × (len ≤ e.more * (5 + project_body_most s.block_size (meant (alone block) (current_tracks s.history)))
        + project_body_most s.block_size q)) (sym (then_meant block written))
        (lengths_all s (s.next_block + n) track_then (alone block) s.block_size tag (s.next_block + n) track_then point
        (omega (arith, is.format.block_least)) now_valid plan.valid e.more len one))

    -- The records are as short as the call needs, also where the blocks are not made: it does not hang on samples.
    short : (len : ℕ) → IsLength s writes len → ShortBy len t
    short len one =
        let old = samples_on (disk.reads s.store) in
        let new = supposed old given s.next_block makes in
        let below = all_so (λ (b : BlockRef). IsGiven s.next_block b.id) (λ (b : BlockRef). b.id < s.next_block)
        (λ b h. h.1) (named_blocks s) is.ids in
        let written = supposed_written old given s.next_block makes (named_blocks s) below
        e.count s.block_size plan.new plan.origin in
        let same = same_by old new disk s
        (all_so (λ (b : BlockRef). b.id < s.next_block) (λ (b : BlockRef). new b.id ≡ old b.id)
        (λ b low. old_same old given s.next_block makes b.id low) (named_blocks s) below) in
        subst (ShortBy len) same (short_by len one new written)

    pub edit_needs : (len : ℕ) → IsLength s writes len → (k : ℕ) → k ≤ n → Needs (outside t sound) t c k len
    edit_needs len one k le = search (rules, short)

    pub edit_own : call_tests (outside t sound) t.state c ≡ None
    edit_own = edit.own (samples_on (disk.reads s.store))

    pub edit_draws : layouts_of (outside t sound) t.state c ≡ e.plan.layouts
    edit_draws = edit.layouts (samples_on (disk.reads s.store))

    -- ---- blocks that were made

    module _ (store : D) (counts : Counts) where
      abbrev pub grown : Core D
      grown = record s { store = store; counts = counts; next_block = s.next_block + n }

      module _ (making : Making disk s (batch_of given makes) n grown) (most : s.next_block + n ≤ 2 ^ 62)
          (ids : track_then ≤ 2 ^ 62) where
        pub grown_is : IsStudio disk grown
        grown_is = made_studio disk s is given makes n grown making going (omega arith) plan.new most pieces_there

        pub grown_held : IsHeld disk s → IsHeld disk grown
        grown_held = made_held disk s is given makes n grown making going (omega arith) plan.new most pieces_there

        pub grown_made : AreSynced disk (ids_from s.next_block n) store → HasMade (IsHeld disk s) disk grown made
        grown_made = has_made disk s is given makes going plan.new most pieces_there c sound grown making

        written : IsHeld disk s → AreWritten (beside (samples_on (disk.reads store)) given) makes
        written held =
            let first = (are_made disk s is given makes n grown making going
            (omega arith) plan.new most pieces_there held).written in
            subst (AreWritten (beside (samples_on (disk.reads store)) given)) (take_all n makes (omega arith)) first

        valid_then : (m : ℕ) (k : Saved) → Matches grown m k → (ts : List Track)
            → IsValidPoint s.block_size (s.next_block + n) track_then ts
            → IsValidBody m (before_of k) (Edit tag (s.next_block + n) track_then (map unnumbered ts))
        valid_then m k e ts valid = search (rules, valid_alike, are_unnumbered)

        pub move : IsCommit (IsHeld disk s) disk grown made c sound tracks writes edit_history clip track_then
        move = record {
          call = edit.call.commit;
          gives = refl;
          block_then = λ k. s.next_block + n;
          block_most = λ k le. omega arith;
          tells = λ m k at room. may_all disk grown grown_is m k tag (s.next_block + n) track_then point e.more at room
              plan.tag_counts (valid_then m k at (current_tracks s.history) now_valid)
              (valid_then m k at point plan.valid);
          leads = λ m k at. λ i. record {
            history = (ap (λ (h : History (List Track)). recorded h (map unnumbered point) tag) at.history
                ∙ sym (recorded_alike s.history point tag)) i;
            next_block = s.next_block + n;
            next_track = track_then;
            commit = k.commit + suc e.more;
          };
          covers = covers_then;
          clip_covers = clip_covers_then;
          clip_few = plan.clip_few;
          clip_fits = plan.clip_fits;
          points = points_then;
          depth = recorded_depth s.history point tag;
          few = recorded_few s.history point tag;
          says = (refl, refl, sym (recorded_current s.history point tag is.format.depth_least));
          model = λ held. edit.means (samples_on (disk.reads store)) (written held);
          needs = λ held len one.
              let few = short_by len one (samples_on (disk.reads store)) (written held) in
              edit.call.needs (studio_of disk grown).rate (studio_of disk grown) 0 len (omega arith, few.0, few.1);
        }

        pub grown_own : call_tests (outside (studio_of disk grown) sound) (studio_of disk grown).state c ≡ None
        grown_own = edit.own (samples_on (disk.reads store))

        pub grown_draws : layouts_of (outside (studio_of disk grown) sound) (studio_of disk grown).state c
            ≡ e.plan.layouts
        grown_draws = edit.layouts (samples_on (disk.reads store))
