-- What holds of an edit that makes blocks, whatever its call means and whatever is told; and that no vault refuses it.
use Rattle.editor_edits.proofs.Common.{◌≡◌, ◌⊎◌, ◌<◌, inl, inr, ⊎_elim, refl, sym, ap, ◌∙◌, subst, ℕ, suc, ◌+◌, ◌^◌}
use Rattle.editor_edits.proofs.Common.{◌≤◌, IfErr, Option, None, List, [], true, length, Result, Ok, Err, arith, rules}
use Rattle.editor_edits.proofs.Common.{IfOk, Reply, Done, BlockRef, Call, SoundMove, Refusal, Truncated, commits_of}
use Rattle.editor_edits.proofs.Common.{History, Ghosts, Fewer, Counts, Item, Edit, current_tracks, Track, Writing}
use Rattle.editor_edits.proofs.Common.{all_bytes, all_len, whole_len, Carried, Committed, IsPlanned, IsPrepared}
use Rattle.editor_edits.proofs.Common.{TaggedEdit, clip_behind, Serves, CountsIds, Left, Stops, Untouched, Making}
use Rattle.editor_edits.proofs.Common.{Stuck, Adds, AddsBody, stopped_by, Lasts, Core, NamesGiven, PiecesThere}
use Rattle.editor_edits.proofs.Common.{batch_of, IsGiven, IsHeld, IsStudio, with_sound, commit_frees}
use Rattle.editor_edits.proofs.Common.{commit_removes_none, ids_made, begun_untouched, broken_begins, all_so}
use Rattle.editor_edits.proofs.Common.{unprepared_plain, CountsAfter, recorded_current, recorded_depth, recorded_few}
use Rattle.editor_edits.proofs.Common.{all_failed, all_ids, all_left, IsNewId, made_studio, refs, refs_ids}
use Rattle.std.proofs.Common.{◌-◌}
use Rattle.disk_model.specs.{Disk.StaysStep, Frames.Changed}
use Rattle.disk_model.proofs.Frames.{changed_wider}
use Rattle.editor_state.specs.Left.{IsSoOf, LeavesOthers, MayRemove}
use Rattle.editor_state.specs.Makes.{Unput, Unread, one_call}
use Rattle.editor_state.specs.{Exchanges.may_have_begun, Records.Records, Packing.packed_by, Purges.Purges, Took.asks}
use Rattle.editor_state.specs.{Took.number_behind}
use Rattle.editor_edits.proofs.EditPlans.{clip_covers_then, covers_then, edit_history, pieces_there, points_then}
use Rattle.editor_edits.proofs.{EditBodies.added_to, EditBodies.commit_of, EditBodies.edited_with, GivenIds.names_given}
use Rattle.editor_state.proofs.Calls.OtherFiles.{NoneGoes, others_record}
use Rattle.editor_state.proofs.Refusals.PurgeNumbers.{begun_purges, done_purges, other_purges, unprepared_range}
use Rattle.editor_state.proofs.Calls.FileRemovals.{no_record, cut_begins}
use Rattle.editor_state.proofs.Refusals.EarlyRefusals.{record_within, stopped_not}
use Rattle.editor_state.proofs.{Calls.VaultCalls.lasts_idle}
use Rattle.editor_commits.proofs.CommitStudios.{LeadsOn, led_studio, stopped_studio}
use Rattle.editor_blocks.proofs.BlocksLeft.{all_changed, damaged_so, missed_so, some_changed, some_ids, some_left}
use Rattle.editor_blocks.proofs.BlocksLeft.{some_stop, unput_changed, unput_failed, unput_here, unput_ids, unput_is}
use Rattle.editor_blocks.proofs.BlocksLeft.{unput_left}
use Rattle.editor_blocks.proofs.StudioBlocks.{with_store}
use Rattle.editor_blocks.proofs.BlocksWritten.{making_unread}
use Rattle.pcm_base.specs.declared.refusal.Refusal.TheVariants as refusal
use Rattle.layout_uses.specs.Tallies.{Uses}

-- ---- the studio after it

module _ {D : Type 0} (disk : Ghosts D) (s : Core D) (is : IsStudio disk s) (going : s.stopped ≡ None)
    (e : TaggedEdit) (plan : IsPlanned s e) (c : Call) (sound : SoundMove) (one : commits_of c ≡ suc e.more) where
  open e use {given, plan.{makes, point}}

  abbrev clip : Option (List (List Item))
  clip = clip_behind s e.plan

  abbrev n : ℕ
  n = length makes

  abbrev track_then : ℕ
  track_then = s.next_track + e.plan.tracks

  abbrev writes : Writing
  writes = record { more = e.more; body = Edit e.tag (s.next_block + n) track_then point }

  abbrev bodies : List (List ℕ)
  bodies = all_bytes s writes

  abbrev len : ℕ
  len = all_len s writes

  abbrev h : History (List Track)
  h = edit_history disk s is going e plan

  there : IsHeld disk s → PiecesThere (disk.reads s.store) makes
  there = pieces_there disk s is going e plan

  lasts_going : (told : Result Reply Refusal) (new : Core D) → IsStudio disk new
      → new.commit_number ≡ number_behind told c s.commit_number → (len : ℕ) → Records s told new len
      → IfOk told (λ r. NamesGiven s new)
      → Changed disk (LeavesOthers s.next_block new.next_block (MayRemove c s.counts))
      (asks (with_sound c sound told) (disk.reads s.store s.file) s.block_size (new.next_block - s.next_block) len
      (packed_by s c))
      s.store new.store
      → CountsIds s [] new → Purges s.history c told → Untouched disk s c told new → Stops disk s told new
      → IfErr told (Left disk s new) → Lasts disk s (with_sound c sound told) new
  lasts_going told new studio number len records named changed ids purges untouched stops left =
      search (rules, stopped_not, commit_frees)

  -- ---- some of the blocks are made

  module _ (fits : s.next_block + n ≤ 2 ^ 62) (k : ℕ) (few : k ≤ n) where
    unread_lasts : (why : Refusal) (mid new : Core D) → Making disk s (batch_of given makes) k mid → Unread disk mid new
        → may_have_begun c why ≡ true → IsSoOf disk s new why → Lasts disk s (with_sound c sound (Err why)) new
    unread_lasts why mid new was un off so =
        let making = making_unread disk s given makes k mid new was un in
        lasts_going (Err why) new (made_studio disk s is given makes k new making going few plan.new fits there)
        (ap (λ (z : Core D). z.commit_number) making.is) 0 (no_record s (Err why) new) tt
        (some_changed disk s given makes fits c sound why k 0 new making few)
        (some_ids disk s given makes fits c sound k new making) (begun_purges s.history c why off)
        (begun_untouched disk s.store new.store c why off)
        (inl (some_stop disk s given makes fits c sound k new making, making.change_faults))
        (some_left disk s given makes fits c sound k new making why so)

    module _ (mid new : Core D) (was : Making disk s (batch_of given makes) k mid)
        (left : (k < n) ⊎ Changed disk StaysStep one_call mid.store new.store) (un : Unput disk mid new) where
      abbrev here : Core D
      here = unput_here disk s given makes fits c sound k mid new was few left un

      unput_lasts : Lasts disk s (with_sound c sound (Err refusal.DiskFault)) new
      unput_lasts =
          let studio : IsStudio disk here =
          with_store disk s is new.store k mid.counts here.stopped (omega (arith, fits, few)) was.ledger in
          subst (λ (z : Core D). Lasts disk s (with_sound c sound (Err refusal.DiskFault)) z)
          (sym (unput_is disk s given makes fits c sound k mid new was few left un))
          (lasts_going (Err refusal.DiskFault) here studio refl 0 (no_record s (Err refusal.DiskFault) here) tt
          (unput_changed disk s given makes fits c sound k mid new was few left un 0)
          (unput_ids disk s given makes fits c sound k mid new was few left un)
          (other_purges s.history c refusal.DiskFault tt)
          (begun_untouched disk s.store new.store c refusal.DiskFault (broken_begins c refusal.DiskFault refl))
          (inr (refl, unput_failed disk s given makes fits c sound k mid new was few left un, refl))
          (unput_left disk s given makes fits c sound k mid new was few left un))

  module _ (fits : s.next_block + n ≤ 2 ^ 62) where
    stuck_lasts : (why : Refusal) (new : Core D) → Stuck disk s (batch_of given makes) why new → Serves c why
        → Lasts disk s (with_sound c sound (Err why)) new
    stuck_lasts refusal.DiskFault new stuck serves =
        ⊎_elim
        (λ un.
        unread_lasts fits stuck.made stuck.few refusal.DiskFault stuck.mid new stuck.before un.0
        (broken_begins c refusal.DiskFault refl)
        (inl (missed_so disk s given makes fits c sound stuck.mid.store new.store stuck.read_faults un.1)))
        (λ un. unput_lasts fits stuck.made stuck.few stuck.mid new stuck.before stuck.left un)
        stuck.by
    stuck_lasts (refusal.Damaged file at want have) new stuck serves =
        search (rules, unread_lasts, broken_begins, damaged_so)
    stuck_lasts refusal.VaultFault new stuck serves = search (rules, unread_lasts, cut_begins)
    stuck_lasts (refusal.BadWav (Truncated want have)) new stuck serves = search (rules, unread_lasts, cut_begins)
    stuck_lasts why new stuck serves = absurd stuck.by

  -- ---- all of them

  module _ (prepared : IsPrepared s n e.plan.tracks e.plan.layouts (suc e.more) len) (store : D) (counts : Counts)
      (making : Making disk s (batch_of given makes) n
      (record s { store = store; counts = counts; next_block = s.next_block + n })) where
    abbrev mid : Core D
    mid = record s { store = store; counts = counts; next_block = s.next_block + n }

    mid_is : IsStudio disk mid
    mid_is = made_studio disk s is given makes n mid making going (omega arith) plan.new prepared.blocks there

    leads : LeadsOn mid (refs makes) h clip track_then (suc e.more)
    leads = record {
      given = all_so (λ (b : BlockRef). IsNewId s.next_block n b.id) (λ (b : BlockRef). IsGiven (s.next_block + n) b.id)
          (λ b k. (omega (arith, k.0, is.counters.block_least), k.1)) (refs makes)
          (refs_ids s.block_size s.next_block makes plan.new);
      later = omega arith;
      most = prepared.ids;
      number = prepared.number;
      covers = covers_then disk s is going e plan;
      clip_covers = clip_covers_then disk s is going e plan;
      clip_few = plan.clip_few;
      clip_fits = plan.clip_fits;
      points = points_then disk s is going e plan;
      depth = recorded_depth s.history point e.tag;
      few = recorded_few s.history point e.tag;
    }

    -- the records were not added
    failed_lasts : (new : Core D) → AddsBody {R = Unit {0}} disk mid writes (Err refusal.DiskFault) new
        → Lasts disk s (with_sound c sound (Err refusal.DiskFault)) new
    failed_lasts new adds =
        let halted = stopped_by disk mid new.store in
        subst (λ (z : Core D). Lasts disk s (with_sound c sound (Err refusal.DiskFault)) z) (sym adds.fields.0)
        (lasts_going (Err refusal.DiskFault) halted (stopped_studio disk mid mid_is new.store) refl len
        (λ device. prepared.short) tt
        (all_changed disk s given makes prepared.blocks c sound is (Err refusal.DiskFault) len mid halted
        making refl
        (changed_wider (others_record mid.file mid.next_block mid.next_block NoneGoes is.journal.among)
        (record_within (with_sound c sound (Err refusal.DiskFault)) (disk.reads store s.file) mid.block_size
        (mid.next_block - mid.next_block) len (packed_by mid c) one) adds.changed))
        (all_ids disk s given makes prepared.blocks c sound store counts making new.store adds.fields.2)
        (other_purges s.history c refusal.DiskFault tt)
        (begun_untouched disk s.store new.store c refusal.DiskFault (broken_begins c refusal.DiskFault refl))
        (inr (
          refl,
          all_failed disk s given makes prepared.blocks c sound store counts making new.store adds.fields.2,
          refl,
        ))
        (all_left disk s given makes prepared.blocks c sound store counts making new.store adds.fields.2))

    -- they were
    module _ {Q : Type 0} (q : Q) (new : Core D) (adds : AddsBody disk mid writes (Ok q) new)
        (h' : History (List Track)) (uses' : Uses) (counts' : Counts) (next_track next_layout : ℕ)
        (moved : h' ≡ h) (tracked : next_track ≡ track_then)
        (after : CountsAfter s.pins h clip next_layout counts uses' counts') where
      abbrev done : Core D
      done = edited_with (added_to mid new.store len (suc e.more)) h' clip uses' counts' next_track next_layout

      done_studio : IsStudio disk done
      done_studio =
          led_studio disk mid mid_is (refs makes) h clip track_then leads new.store (s.journal_end + 5 + len)
          (omega (arith, adds.fields.1)) (omega arith) h' uses' counts' next_track next_layout moved tracked after

      done_lasts : Lasts disk s (with_sound c sound (Ok Done))
          (edited_with new h' clip uses' counts' next_track next_layout)
      done_lasts =
          let number : s.commit_number + suc e.more ≡ s.commit_number + commits_of c =
          ap (λ (k : ℕ). s.commit_number + k) (sym one) in
          let current : current_tracks h' ≡ point =
          ap current_tracks moved ∙ recorded_current s.history point e.tag is.format.depth_least in
          subst (λ (z : Core D). Lasts disk s (with_sound c sound (Ok Done))
          (edited_with z h' clip uses' counts' next_track next_layout)) (sym adds.fields.0)
          (lasts_going (Ok Done) done done_studio number len
          (inr (
            writes,
            refl,
            (refl, sym tracked, sym current),
          ))
          (names_given disk s e plan done done_studio current refl)
          (all_changed disk s given makes prepared.blocks c sound is (Ok Done) len mid done making refl
          (changed_wider (others_record mid.file mid.next_block mid.next_block NoneGoes is.journal.among)
          (record_within (with_sound c sound (Ok Done)) (disk.reads store s.file) mid.block_size
          (mid.next_block - mid.next_block) len (packed_by mid c) one) adds.changed))
          (ids_made s done counts n making.ledger after.files refl) (done_purges s.history c) tt
          (inl (refl, adds.fields.2 ∙ making.change_faults)) tt)

  -- ---- all of it

  -- a studio with blocks that were made, by its parts
  made_so : (it : Core D) → Making disk s (batch_of given makes) n it
      → Making disk s (batch_of given makes) n
      (record s { store = it.store; counts = it.counts; next_block = s.next_block + n })
  made_so it making = subst (λ (z : Core D). Making disk s (batch_of given makes) n z) making.is making

  pub lasts_err : Fewer disk s.store → (why : Refusal) (new : Core D) → Serves c why
      → Carried disk s (commit_of s e) (Err why) new → Lasts disk s (with_sound c sound (Err why)) new
  lasts_err fewer why new serves carried = ⊎_elim
      (λ not.
      subst (λ (z : Core D). Lasts disk s (with_sound c sound (Err why)) z) (sym not.0)
      (lasts_idle disk s is fewer c (commit_removes_none c one) sound why
      (unprepared_plain s n e.plan.tracks e.plan.layouts (suc e.more) (whole_len s writes) len why not.1)
      (other_purges s.history c why
      (unprepared_range s n e.plan.tracks e.plan.layouts (suc e.more) (whole_len s writes) len why not.1))))
      (⊎_elim
      (λ some. stuck_lasts some.0.blocks why new some.1 serves)
      (λ last.
      let it = last.1 in
      let count = suc e.more in
      let whole = whole_len s writes in
      let adds =
      subst (λ (r : Refusal). Adds {R = Unit {0}} disk it.mid bodies count whole (Err r) new) last.0 it.adds in
      subst (λ (e : Refusal). Lasts disk s (with_sound c sound (Err e)) new) (sym last.0)
      (failed_lasts it.prepared it.mid.store it.mid.counts (made_so it.mid it.making) new
      (subst (λ (z : Core D). Adds {R = Unit {0}} disk z bodies count whole (Err refusal.DiskFault) new)
      it.making.is adds))))
      carried

  pub lasts_ok : (done : Unit {0}) (new : Core D) (it : Committed disk s (commit_of s e) (Ok done) new)
      (h' : History (List Track)) (uses' : Uses) (counts' : Counts) (next_track next_layout : ℕ)
      → h' ≡ h → next_track ≡ track_then
      → CountsAfter s.pins h clip next_layout it.mid.counts uses' counts'
      → Lasts disk s (with_sound c sound (Ok Done))
      (edited_with new h' clip uses' counts' next_track next_layout)
  lasts_ok done new it h' uses' counts' next_track next_layout moved tracked after =
      done_lasts it.prepared it.mid.store it.mid.counts (made_so it.mid it.making) done new
      (subst (λ (z : Core D). Adds disk z bodies (suc e.more) (whole_len s writes) (Ok done) new) it.making.is it.adds)
      h' uses' counts' next_track next_layout moved tracked after
