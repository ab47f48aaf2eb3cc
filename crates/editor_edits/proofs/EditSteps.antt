-- An edit that makes blocks, as one step: its record was added, or was not, or nothing was prepared.
use Rattle.editor_edits.proofs.Common.{◌≡◌, inl, inr, ⊎_elim, refl, sym, ap, ◌∙◌, subst, ℕ, suc, ◌+◌, Option, None}
use Rattle.editor_edits.proofs.Common.{List, length, Ok, Err, arith, ◌≤◌, [], Result, IfErr, rules, IfOk, outside}
use Rattle.editor_edits.proofs.Common.{Reply, Done, Call, SoundMove, Refusal, Needs, layouts_of, Truncated, History}
use Rattle.editor_edits.proofs.Common.{call_tests, Ghosts, Fewer, Counts, Item, Edit, current_tracks, Track, Writing}
use Rattle.editor_edits.proofs.Common.{all_bytes, all_len, whole_len, Carried, Committed, IsEdit, IsPlanned, IsPrepared}
use Rattle.editor_edits.proofs.Common.{TaggedEdit, clip_behind, Serves, history_behind, CountsIds, Left, Stops}
use Rattle.editor_edits.proofs.Common.{Untouched, Adds, AddsBody, stopped_by, Core, batch_of, ids_from, AreSynced}
use Rattle.editor_edits.proofs.Common.{Making, OrCut, NamesGiven, IsHeld, IsStudio, studio_of, Took, with_sound}
use Rattle.editor_edits.proofs.Common.{IsCommit, CountsAfter, recorded_current, all_failed, all_ids, all_left, refs}
use Rattle.editor_edits.proofs.Common.{commit_removes_none, ids_made, begun_untouched, broken_begins, HasMade}
use Rattle.pcm_base.specs.Run.{followed, Answers, CarriesOut, refusal_of}
use Rattle.pcm_base.specs.{Counters.RecordsNeed}
use Rattle.editor_state.specs.{Spent.Needed}
use Rattle.editor_edits.proofs.EditPlans.{edit_draws, pieces_there, edit_needs, edit_own, grown_draws, grown_held}
use Rattle.editor_edits.proofs.EditPlans.{grown_is, grown_made, grown_own, move}
use Rattle.editor_edits.proofs.{EditBodies.added_to, EditBodies.commit_of, EditBodies.edited_with}
use Rattle.editor_edits.proofs.{EditRefusals.not_prepared, GivenIds.names_given}
use Rattle.editor_commits.proofs.{CommitFailures.failed, CommitFailures.failed_state, CommitImages.IsTested}
use Rattle.editor_commits.proofs.{CommitSteps.grown_state, CommitSteps.grows}
use Rattle.editor_blocks.proofs.{BlockCommits.composed, BlockFaults.not_made, StudioBlocks.made_state}
use Rattle.editor_state.proofs.Calls.FileRemovals.{commit_leaves_journal}
use Rattle.editor_state.proofs.{Calls.CallPremises.TookWhere, Refusals.CommitTests.nothing}
use Rattle.pcm_base.specs.declared.refusal.Refusal.TheVariants as refusal
use Rattle.pcm_base.specs.Studio as model
use Rattle.layout_uses.specs.Tallies.{Uses}

module _ {D : Type 0} (disk : Ghosts D) (s : Core D) (is : IsStudio disk s) (going : s.stopped ≡ None)
    (e : TaggedEdit) (plan : IsPlanned s e) (c : Call) (sound : SoundMove) (edit : IsEdit disk s c sound e)
    (fewer : (store : D) → Fewer disk store) where
  open e use {given, tag, plan.{makes, tracks, point}}

  abbrev clip : Option (List (List Item))
  clip = clip_behind s e.plan

  abbrev n : ℕ
  n = length makes

  abbrev h : History (List Track)
  h = history_behind s e

  abbrev track_then : ℕ
  track_then = s.next_track + tracks

  abbrev writes : Writing
  writes = record { more = e.more; body = Edit tag (s.next_block + n) track_then point }

  abbrev bodies : List (List ℕ)
  bodies = all_bytes s writes

  abbrev len : ℕ
  len = all_len s writes

  abbrev t : model.Studio
  t = studio_of disk s

  need : (k : ℕ) → k ≤ n → Needs (outside t sound) t c k len
  need = edit_needs disk s is going e plan c sound edit len (inr refl)

  -- its blocks are made: what is left is one commit, and the call from there is the call from the start
  module _ (prepared : IsPrepared s n tracks e.plan.layouts (suc e.more) len) (store : D) (counts : Counts)
      (making : Making disk s (batch_of given makes) n
      (record s { store = store; counts = counts; next_block = s.next_block + n }))
      (reads : disk.read_fault_count store ≡ disk.read_fault_count s.store)
      (synced : AreSynced disk (ids_from s.next_block n) store) where
    abbrev mid : Core D
    mid = record s { store = store; counts = counts; next_block = s.next_block + n }

    mid_is : IsStudio disk mid
    mid_is = grown_is disk s is going e plan c sound edit store counts making prepared.blocks prepared.ids

    mid_made : HasMade (IsHeld disk s) disk mid (refs makes)
    mid_made = grown_made disk s is going e plan c sound edit store counts making prepared.blocks prepared.ids synced

    mid_move : IsCommit (IsHeld disk s) disk mid (refs makes) c sound tracks writes h clip track_then
    mid_move = move disk s is going e plan c sound edit store counts making prepared.blocks prepared.ids

    mid_own : call_tests (outside (studio_of disk mid) sound) (studio_of disk mid).state c ≡ None
    mid_own = grown_own disk s is going e plan c sound edit store counts making prepared.blocks prepared.ids

    mid_draws : layouts_of (outside (studio_of disk mid) sound) (studio_of disk mid).state c ≡ e.plan.layouts
    mid_draws = grown_draws disk s is going e plan c sound edit store counts making prepared.blocks prepared.ids

    -- the commit that is left, where the disk held the studio before the first block
    mid_tested : IsTested (IsHeld disk s) disk mid (refs makes) c sound tracks writes h clip track_then
    mid_tested = search (rules, mid_is, grown_held, mid_made, move, mid_move, mid_own, mid_draws)

    mid_state : IsHeld disk s
        → studio_of disk mid ≡ record t { next_block = s.next_block + n; read_faults = disk.read_fault_count store }
    mid_state =
        made_state disk s is given makes n mid making going (omega arith) plan.new prepared.blocks
        (pieces_there disk s is going e plan)

    back : IsHeld disk s → (blocks len : ℕ) → Needs (outside (studio_of disk mid) sound)
        (studio_of disk mid) c blocks len → Needs (outside t sound) t c blocks len
    back held blocks len needs =
        let most = edit.most in
        let at = edit.call.needed (studio_of disk mid).rate (studio_of disk mid) blocks len needs in
        edit.call.needs t.rate t blocks len
        (subst (λ (u : model.Studio). RecordsNeed e.more (most u.block_size u.state) (outside u sound) u c blocks len)
        (mid_state held) at)

    passes : refusal_of (outside t sound) t c n len ≡ None
    passes =
        let own = edit_own disk s is going e plan c sound edit in
        nothing t c sound tracks edit.call.commit n len is.counters.pin_most
        is.journal.generation_most going own prepared.blocks prepared.ids prepared.number
        (omega (arith, prepared.numbers, edit_draws disk s is going e plan c sound edit)) prepared.place prepared.short

    carried_out : CarriesOut t c sound Done (followed (outside t sound) t c n len t.next_layout)
    carried_out = search (rules, need, passes)

    -- the call from the studio that has the blocks is the call from the start
    from_start : (told_as : Result Reply Refusal) (new : Core D)
        → TookWhere (IsHeld disk s) disk mid c sound told_as new
        → new.next_block ≡ mid.next_block → (IsHeld disk s → Answers t c sound told_as (studio_of disk new))
        → CountsIds s [] new → IfOk told_as (λ r. NamesGiven s new) → IfErr told_as (Needed disk s c sound)
        → Untouched disk s c told_as new → Stops disk s told_as new
        → IfErr told_as (Left disk s new) → Took disk s (with_sound c sound told_as) new
    from_start told_as new took next step ids named needed untouched stops left =
        search (rules, composed, pieces_there, back, carried_out, commit_removes_none, commit_leaves_journal)

    -- the records were not added
    edit_failed : (new : Core D) → AddsBody {R = Unit {0}} disk mid writes (Err refusal.DiskFault) new
        → Took disk s (with_sound c sound (Err refusal.DiskFault)) new
    edit_failed new adds =
        let commit = edit.call.commit in
        let failed_change =
        all_failed disk s given makes prepared.blocks c sound store counts making new.store adds.fields.2 in
        let here : Core D = stopped_by disk mid new.store in
        let none : s.next_block + n + 0 ≡ s.next_block + n = omega arith in
        let stopped_state = λ (held : IsHeld disk s).
        failed_state mid_tested new adds held
        ∙ (λ i. record (mid_state held i) {
          stopped = here.stopped;
          next_block = none i;
          read_faults = disk.read_fault_count new.store;
          change_faults = disk.change_fault_count new.store;
        }) in
        subst (λ (z : Core D). Took disk s (with_sound c sound (Err refusal.DiskFault)) z) (sym adds.fields.0)
        (from_start (Err refusal.DiskFault) here (failed mid_tested new adds) refl (λ held. inr (inr (record {
          breaks = record {
            going = going;
            blocks = n;
            len = len;
            needs = need n (omega arith);
            room = prepared.blocks;
            is = stopped_state held;
            leaves = commit.leaves t;
          };
          cause = inr (
            commit.changes,
            record {
              stopped = refl;
              rose = failed_change.rose;
              later = failed_change.later;
              reads = adds.read_faults ∙ reads;
            },
          );
        })))
        (all_ids disk s given makes prepared.blocks c sound store counts making new.store adds.fields.2) tt tt
        (begun_untouched disk s.store new.store c refusal.DiskFault (broken_begins c refusal.DiskFault refl))
        (inr (refl, failed_change, refl))
        (all_left disk s given makes prepared.blocks c sound store counts making new.store adds.fields.2))

    -- they were
    module _ {Q : Type 0} (q : Q) (new : Core D) (adds : AddsBody disk mid writes (Ok q) new)
        (h' : History (List Track)) (uses' : Uses) (counts' : Counts) (next_track next_layout : ℕ)
        (moved : h' ≡ h) (tracked : next_track ≡ track_then)
        (after : CountsAfter s.pins h clip next_layout counts uses' counts')
        (drawn : next_layout ≡ s.next_layout + e.plan.layouts) where
      abbrev done : Core D
      done = edited_with (added_to mid new.store len (suc e.more)) h' clip uses' counts' next_track next_layout

      done_took : TookWhere (IsHeld disk s) disk mid c sound (Ok Done) done
      done_took =
          grows mid_tested q new adds h' uses' counts' next_track next_layout moved tracked after
          (omega (arith, drawn), omega (arith, drawn, mid_draws))

      done_state : IsHeld disk s → studio_of disk done ≡ followed (outside t sound) t c n len next_layout
      done_state held =
          let len = len in
          let one : studio_of disk done
          ≡ followed (outside (studio_of disk mid) sound) (studio_of disk mid) c 0 len next_layout =
          grown_state mid_tested q new adds h' uses' counts' next_track next_layout moved tracked after held in
          let none : s.next_block + n + 0 ≡ s.next_block + n = omega arith in
          one
          ∙ (λ i. followed (outside (mid_state held i) sound) (mid_state held i) c 0 len next_layout)
          ∙ (λ i. record (followed (outside t sound) t c n len next_layout) {
            next_block = none i;
            read_faults = reads i;
          })

      edit_done : Took disk s (with_sound c sound (Ok Done))
          (edited_with new h' clip uses' counts' next_track next_layout)
      edit_done =
          subst (λ (z : Core D). Took disk s (with_sound c sound (Ok Done))
          (edited_with z h' clip uses' counts' next_track next_layout)) (sym adds.fields.0)
          (from_start (Ok Done) done done_took refl (λ held. record {
            blocks = n;
            len = len;
            layout = next_layout;
            needs = need n (omega arith);
            draws = (
              omega (arith, drawn),
              omega (arith, drawn, edit_draws disk s is going e plan c sound edit),
            );
            passed = passes;
            answers = edit.call.commit.done t.rate t.state;
            is = done_state held;
            heard = edit.call.commit.heard t.rate t.state;
          }) (ids_made s done counts n making.ledger after.files refl)
          (names_given disk s e plan done done_took.studio
          (ap current_tracks moved ∙ recorded_current s.history point tag is.format.depth_least) refl) tt tt
          (inl (refl, adds.fields.2 ∙ making.change_faults)) tt)

  -- a studio with blocks that were made, by its parts
  made_so : (it : Core D) → Making disk s (batch_of given makes) n it
      → Making disk s (batch_of given makes) n
      (record s { store = it.store; counts = it.counts; next_block = s.next_block + n })
  made_so it making = subst (λ (z : Core D). Making disk s (batch_of given makes) n z) making.is making

  or_cut : (why : Refusal) {P : Type 0} → P → OrCut why P
  or_cut (refusal.BadWav (Truncated want have)) p = tt
  or_cut why p = p

  pub edit_err : (why : Refusal) (new : Core D) → Serves c why → Carried disk s (commit_of s e) (Err why) new
      → OrCut why (Took disk s (with_sound c sound (Err why)) new)
  edit_err why new serves carried = ⊎_elim
      (λ not. or_cut why (not_prepared disk s is going e plan c sound edit fewer why new not.0 not.1))
      (⊎_elim
      (λ some.
      not_made disk s is given makes going plan.new some.0.blocks
      (pieces_there disk s is going e plan) c sound (commit_removes_none c edit.call.commit.many)
      len some.0.short edit.call.commit.changes (edit.call.commit.leaves t)
      (λ held. need) e.count plan.origin why new some.1 serves)
      (λ last.
      let it = last.1 in
      let count = suc e.more in
      let whole = whole_len s writes in
      let adds =
      subst (λ (r : Refusal). Adds {R = Unit {0}} disk it.mid bodies count whole (Err r) new) last.0 it.adds in
      or_cut why (subst (λ (e : Refusal). Took disk s (with_sound c sound (Err e)) new) (sym last.0)
      (edit_failed it.prepared it.mid.store it.mid.counts (made_so it.mid it.making) it.reads it.synced new
      (subst (λ (z : Core D). Adds {R = Unit {0}} disk z bodies count whole (Err refusal.DiskFault) new)
      it.making.is adds)))))
      carried

  pub edit_ok : (done : Unit {0}) (new : Core D) (it : Committed disk s (commit_of s e) (Ok done) new)
      (h' : History (List Track)) (uses' : Uses) (counts' : Counts) (next_track next_layout : ℕ)
      → h' ≡ h → next_track ≡ track_then
      → CountsAfter s.pins h clip next_layout it.mid.counts uses' counts'
      → next_layout ≡ s.next_layout + e.plan.layouts
      → Took disk s (with_sound c sound (Ok Done))
      (edited_with new h' clip uses' counts' next_track next_layout)
  edit_ok done new it h' uses' counts' next_track next_layout moved tracked after drawn =
      edit_done it.prepared it.mid.store it.mid.counts (made_so it.mid it.making) it.reads it.synced done new
      (subst (λ (z : Core D). Adds disk z bodies (suc e.more) (whole_len s writes) (Ok done) new) it.making.is it.adds)
      h' uses' counts' next_track next_layout moved tracked after drawn
