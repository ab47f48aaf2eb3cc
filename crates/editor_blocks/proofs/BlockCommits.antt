-- A commit after blocks that were made for it.
use Rattle.editor_blocks.proofs.Common.{ℤ, ◌≡◌, inl, inr, ⊎_elim, ap, ◌∙◌, subst, ℕ, ◌+◌, ◌^◌, ◌≤◌, None, List, []}
use Rattle.editor_blocks.proofs.Common.{length, Result, Ok, Err, arith, AllByRecursion, Answers, outside, Reply}
use Rattle.editor_blocks.proofs.Common.{BlockRef, Call, SoundMove, Refusal, Needs, Files, Ghosts, IsWhole, EachSince}
use Rattle.editor_blocks.proofs.Common.{Keeps, NewBlock, AreNew, ref_of, CountsIds, Left, IsGiven, IsHeld, IsStudio}
use Rattle.editor_blocks.proofs.Common.{shown, studio_of, Took, with_sound, Core, PiecesThere, batch_of, ids_from}
use Rattle.editor_blocks.proofs.Common.{AreSynced, Making, Needed, RemovesNone, stopped_not, all_so}
use Rattle.std.proofs.Common.{IfErr, OnErr}
use Rattle.std.proofs.lemmas.List.{take_all}
use Rattle.std.specs.{Prelude.IfOk}
use Rattle.pcm_base.specs.Run.{CarriesOut, followed}
use Rattle.pcm_base.specs.{declared.answer.Reply.TheVariants.Done}
use Rattle.disk_model.proofs.Moments.{each_on}
use Rattle.editor_state.specs.Left.{Stops, Untouched}
use Rattle.editor_state.specs.Took.{KeepsOneOf, number_behind}
use Rattle.editor_state.specs.{Purges.Purges, Records.Records, Spent.NamesGiven}
use Rattle.model_laws.proofs.Answered.{answered_same, done_stays}
use Rattle.editor_state.proofs.Calls.FileRemovals.{PacksNone, frees_none}
use Rattle.editor_state.proofs.Refusals.EarlyRefusals.{HasMade}
use Rattle.editor_state.proofs.{Calls.CallPremises.TookWhere}
use Rattle.editor_blocks.proofs.StudioBlocks.{IsNewId, are_made, keeps_outside, made_state, refs, refs_all, refs_ids}
use Rattle.editor_blocks.proofs.{BlocksWritten.making_next, BlocksLeft.all_changed}
use Rattle.pcm_base.specs.Studio as model

on_err : {R E : Type 0} (result : Result R E) (P Q : Type 0) → (P → Q) → OnErr result P → OnErr result Q
on_err (Ok r) P Q f h = tt
on_err (Err e) P Q f h = f h

module _ {D : Type 0} (disk : Ghosts D) (s : Core D) (is : IsStudio disk s) (given : ℕ → ℤ) (makes : List NewBlock)
    (going : s.stopped ≡ None)
    (fresh : AreNew s.block_size s.next_block makes) (most : s.next_block + length makes ≤ 2 ^ 62)
    (there : IsHeld disk s → PiecesThere (disk.reads s.store) makes) (c : Call) (sound : SoundMove) where
  abbrev n : ℕ
  n = length makes

  abbrev t : model.Studio
  t = studio_of disk s

  module _ (mid : Core D) (making : Making disk s (batch_of given makes) n mid) where
    mid_going : mid.stopped ≡ None
    mid_going = ap (λ (z : Core D). z.stopped) making.is ∙ going

    mid_state : IsHeld disk s
        → studio_of disk mid ≡ record t { next_block = s.next_block + n; read_faults = disk.read_fault_count mid.store }
    mid_state = made_state disk s is given makes n mid making going (omega arith) fresh most there

    pub has_made : AreSynced disk (ids_from s.next_block n) mid.store → HasMade (IsHeld disk s) disk mid (refs makes)
    has_made synced =
        let next = making_next disk s given makes n mid making in
        let ids = refs_ids s.block_size s.next_block makes fresh in
        let reads = disk.reads mid.store in record {
          ids = all_so (λ (b : BlockRef). IsNewId s.next_block n b.id) (λ (b : BlockRef). IsGiven mid.next_block b.id)
              (λ b h. (omega (arith, h.0, is.counters.block_least), omega (arith, h.1, next))) (refs makes) ids;
          whole = λ held.
              let made = are_made disk s is given makes n mid making going (omega arith) fresh most there held in
              let whole = subst (λ (bs : List NewBlock). AllByRecursion (λ b. IsWhole reads (ref_of b)) bs)
              (take_all n makes (omega arith)) made.whole in
              refs_all (IsWhole reads) makes whole;
          same = λ held x left.
              all_so (λ (b : BlockRef). IsNewId s.next_block n b.id) (λ b. x b.id ≡ reads b.id)
              (λ b h. synced x left b.id h.0 h.1) (refs makes) ids;
        }

    -- what opening finds in between is what it finds before, and the call carried out is the same from both
    shown_mid : IsHeld disk s → shown (studio_of disk mid) ≡ shown t
    shown_mid held = let same = mid_state held in λ i. shown (same i)

    in_flight : (len : ℕ) → CarriesOut t c sound Done (followed (outside t sound) t c n len t.next_layout)
        → IsHeld disk s
        → (x : Files) → KeepsOneOf (studio_of disk mid) c sound x → KeepsOneOf t c sound x
    in_flight len carried held x keeps = ⊎_elim
        (λ old. inl (subst (Keeps x) (shown_mid held) old))
        (λ new.
        let same = mid_state held in
        let one : shown new.after ≡ shown (followed (outside (studio_of disk mid) sound) (studio_of disk mid) c 0 0 0) =
        (λ i. shown (new.carried.is i))
        ∙ ap shown (answered_same (outside (studio_of disk mid) sound) (studio_of disk mid).state c new.reply
        new.carried.answers (done_stays (outside t sound) t.state c carried.answers)
        (followed (outside (studio_of disk mid) sound) (studio_of disk mid) c new.carried.blocks new.carried.len
        new.carried.layout)) in
        let two : shown (followed (outside (studio_of disk mid) sound) (studio_of disk mid) c 0 0 0)
        ≡ shown (followed (outside t sound) t c n len t.next_layout) =
        λ i. shown (followed (outside (same i) sound) (same i) c 0 0 0) in
        inr (record {
          reply = Done;
          after = followed (outside t sound) t c n len t.next_layout;
          carried = carried;
          keeps = subst (Keeps x) (one ∙ two) new.keeps;
        }))
        keeps

    pub composed : (told_as : Result Reply Refusal) (new : Core D)
        → TookWhere (IsHeld disk s) disk mid c sound told_as new → new.next_block ≡ mid.next_block
        → (IsHeld disk s → (blocks len : ℕ)
        → Needs (outside (studio_of disk mid) sound) (studio_of disk mid) c blocks len
        → Needs (outside t sound) t c blocks len)
        → (IsHeld disk s → (len : ℕ) × CarriesOut t c sound Done (followed (outside t sound) t c n len t.next_layout))
        → (IsHeld disk s → Answers t c sound told_as (studio_of disk new)) → RemovesNone c → PacksNone c
        → CountsIds s [] new
        → IfOk told_as (λ r. NamesGiven s new) → IfErr told_as (Needed disk s c sound)
        → Untouched disk s c told_as new → Stops disk s told_as new
        → IfErr told_as (Left disk s new) → Took disk s (with_sound c sound told_as) new
    composed told_as new took next back carried step none plain ids named needed untouched stops left =
        let images = making.changed.images in
        let at_next = making_next disk s given makes n mid making in
        let number : mid.commit_number ≡ s.commit_number = ap (λ (z : Core D). z.commit_number) making.is in record {
          studio = took.studio;
          held = took.held;
          step = step;
          any_moment = λ _ held.
              let now = took.any_moment mid_going held in
              let out = carried held in
              each_on (KeepsOneOf t c sound) (disk.clock s.store) took.changed.images images.later
              (λ x since. inl (keeps_outside disk s is n mid.store going held images x since))
              (λ x since. in_flight out.0 out.1 held x (now x since));
          refused = λ _ held still.
              on_err told_as (EachSince disk mid.store new.store (λ x. Keeps x (shown (studio_of disk mid))))
              (EachSince disk s.store new.store (λ x. Keeps x (shown t)))
              (λ now. each_on (λ x. Keeps x (shown t)) (disk.clock s.store) took.changed.images images.later
              (λ x since. keeps_outside disk s is n mid.store going held images x since)
              (λ x since. subst (Keeps x) (shown_mid held) (now x since)))
              (took.refused mid_going held still);
          now = took.now;
          number = subst (λ (k : ℕ). new.commit_number ≡ number_behind told_as c k) number took.number;
          rests = λ some. absurd (stopped_not s.stopped some going);
          len = took.len;
          needs = λ held. let need = took.needs held in (need.0, back held need.0 took.len need.1);
          records = subst (λ (z : Core D). Records z told_as new took.len) making.is took.records;
          given = named;
          needed = needed;
          changed = all_changed disk s given makes most c sound is told_as took.len mid new making next took.changed;
          frees = frees_none disk s c told_as new none plain;
          ids = ids;
          purges = subst (λ (z : Core D). Purges z.history c told_as) making.is took.purges;
          untouched = untouched;
          stops = stops;
          left = left;
        }
