-- What blocks that were made, and then a record or a fault, leave of other files and of a studio that refuses.
use Rattle.editor_blocks.proofs.Common.{rules, ℤ, ◌≡◌, ◌⊎◌, inl, inr, ⊎_elim, refl, sym, ap, ◌∙◌, subst, ℕ, ◌+◌, ◌^◌}
use Rattle.editor_blocks.proofs.Common.{◌≤◌, ◌<◌, IsTrue, List, [], length, Result, Err, arith, BlockRef, Reply, Call}
use Rattle.editor_blocks.proofs.Common.{SoundMove, Refusal, Files, StaysStep, Changed, together, Ghosts}
use Rattle.editor_blocks.proofs.Common.{changed_then_stays, changed_turn, changed_wider, size_of, Counts, NewBlock}
use Rattle.editor_blocks.proofs.Common.{AllNewFrom, HasMissed, Making, Stuck, Unput, made_room, one_call, HasFailed}
use Rattle.editor_blocks.proofs.Common.{stopped_by, Core, CountsIds, IsSoOf, Left, SameOutside, batch_of, IsGiven}
use Rattle.editor_blocks.proofs.Common.{IsStudio, named_blocks, asks, with_sound, contained}
use Rattle.std.proofs.Common.{◌-◌}
use Rattle.pcm_base.specs.{Counters.places_of}
use Rattle.disk_model.specs.{Room.files_made}
use Rattle.envelope_view.specs.Answers.{IsDamagedIn}
use Rattle.editor_state.specs.{Left.LeavesOthers, Left.MayRemove, Packing.packed_by}
use Rattle.editor_state.proofs.Blocks.BlockDamage.{damage_named, from_at}
use Rattle.editor_state.proofs.Calls.OtherFiles.{Leaving, NoneGoes, others_made, others_then, others_wider}
use Rattle.editor_state.proofs.{Calls.FileRemovals.ids_made}
use Rattle.editor_blocks.proofs.DiskCalls.{changed_told, within_last, within_some, within_then}
use Rattle.editor_blocks.proofs.{BlocksWritten.making_next, BlocksWritten.making_size, BlockCounts.outside_then}
use Rattle.pcm_base.specs.declared.refusal.Refusal.TheVariants as refusal

module _ {D : Type 0} (disk : Ghosts D) (s : Core D) (given : ℕ → ℤ) (makes : List NewBlock)
    (most : s.next_block + length makes ≤ 2 ^ 62) (c : Call) (sound : SoundMove) where
  abbrev n : ℕ
  n = length makes

  abbrev may_go : ℕ → Type 0
  may_go = MayRemove c s.counts

  -- ---- some are made, and the studio goes on

  pub some_changed : (why : Refusal) (k len : ℕ) (new : Core D) → Making disk s (batch_of given makes) k new → k ≤ n
      → Changed disk (LeavesOthers s.next_block new.next_block may_go)
      (asks (with_sound c sound (Err why)) (disk.reads s.store s.file) s.block_size (new.next_block - s.next_block) len
      (packed_by s c))
      s.store new.store
  some_changed why k len new making few =
      let next = making_next disk s given makes k new making in
      changed_wider (λ d x w. others_made s.next_block k new.next_block may_go d x (omega (arith, next))
      (omega (arith, most, few)) w)
      (within_some (with_sound c sound (Err why)) (disk.reads s.store s.file) s.block_size k len (packed_by s c)
      (new.next_block - s.next_block) (omega (arith, next))) making.changed

  pub some_stop : (k : ℕ) (new : Core D) → Making disk s (batch_of given makes) k new → new.stopped ≡ s.stopped
  some_stop k new making = ap (λ (z : Core D). z.stopped) making.is

  pub some_left : (k : ℕ) (new : Core D) → Making disk s (batch_of given makes) k new → (why : Refusal)
      → IsSoOf disk s new why
      → Left disk s new why
  some_left k new making why so = search (rules, making_next, some_stop)

  pub some_ids : (k : ℕ) (new : Core D) → Making disk s (batch_of given makes) k new → CountsIds s [] new
  some_ids k new making = search (rules, ids_made, making_next)

  -- a read failed
  pub missed_so : (mid new : D) → disk.read_fault_count mid ≡ disk.read_fault_count s.store → HasMissed disk mid new
      → HasMissed disk s.store new
  missed_so mid new reads missed = search rules

  -- a file was not as it has to be
  pub damaged_so : (count : ℕ) → IsStudio disk s → AllNewFrom (named_blocks s) count makes
      → (why : Refusal) (new : Core D)
      → Stuck disk s (batch_of given makes) why new → IsTrue (disk.tells s.store)
      → IsDamagedIn (disk.reads s.store) (named_blocks s) why
  damaged_so count is origin why new stuck told =
      damage_named (named_blocks s) count (disk.reads s.store) (disk.reads stuck.mid.store) stuck.block.pieces why
      (from_at (named_blocks s)
      count makes origin stuck.stands.0 stuck.block stuck.stands.1 stuck.stands.2)
      (λ b has. stuck.before.changed.reads told b.id
      (inl (contained (λ (x : BlockRef). IsGiven s.next_block x.id) (named_blocks s) b is.ids has).1))
      (stuck.damaged (subst IsTrue (sym stuck.before.changed.tells) told))

  -- ---- the disk failed as one was put

  module _ (k : ℕ) (mid new : Core D) (was : Making disk s (batch_of given makes) k mid) (few : k ≤ n)
      (left : (k < n) ⊎ Changed disk StaysStep one_call mid.store new.store) (un : Unput disk mid new) where
    abbrev pub unput_here : Core D
    unput_here = record s {
      store = new.store;
      counts = mid.counts;
      next_block = s.next_block + k;
      stopped = (stopped_by disk s new.store).stopped;
    }

    pub unput_is : new ≡ unput_here
    unput_is = un.is ∙ (λ i. record (was.is i) { store = new.store; stopped = (stopped_by disk s new.store).stopped })

    pub unput_files : Changed disk (SameOutside s.next_block (k + 1))
        (together (made_room (size_of s.block_size) k) (made_room (size_of mid.block_size) 1)) s.store new.store
    unput_files = search (rules, changed_turn, outside_then, making_next)

    pub unput_changed : (len : ℕ) → Changed disk (LeavesOthers s.next_block unput_here.next_block may_go)
        (asks (with_sound c sound (Err refusal.DiskFault)) (disk.reads s.store s.file) s.block_size
        (unput_here.next_block - s.next_block) len (packed_by s c)) s.store new.store
    unput_changed len =
        let within = within_last c sound (disk.reads s.store s.file) s.block_size mid.block_size k len (packed_by s c)
        (unput_here.next_block - s.next_block) (making_size disk s given makes k mid was) (omega arith) in
        ⊎_elim
        (λ less.
        changed_wider (λ d x w. others_made s.next_block (k + 1) (s.next_block + k) may_go d x (omega arith)
        (omega (arith, most, less)) w)
        within unput_files)
        (λ stays.
        changed_wider (λ d x w. others_made s.next_block k (s.next_block + k) may_go d x (omega arith)
        (omega (arith, most, few)) w)
        within
        (changed_then_stays
        {much = together (made_room (size_of s.block_size) k) (made_room (size_of mid.block_size) 1)}
        (record { files = omega arith; bytes = omega arith; calls = omega arith }) was.changed stays))
        left

    pub unput_failed : HasFailed disk s.store new.store
    unput_failed = search rules

    pub unput_left : Left disk s unput_here refusal.DiskFault
    unput_left = record { same = refl; so = inr unput_failed }

    pub unput_ids : CountsIds s [] unput_here
    unput_ids = ids_made s unput_here mid.counts k was.ledger (λ id. (λ some. some, λ some. some)) refl

  -- ---- all are made, and then a record is added, or not

  pub all_changed : IsStudio disk s → (told : Result Reply Refusal) (len : ℕ) (mid new : Core D)
      → Making disk s (batch_of given makes) n mid → new.next_block ≡ mid.next_block
      → Changed disk (Leaving mid.next_block new.next_block)
      (asks (with_sound c sound told) (disk.reads mid.store mid.file) mid.block_size
      (new.next_block - mid.next_block) len (packed_by mid c)) mid.store new.store
      → Changed disk (LeavesOthers s.next_block new.next_block may_go)
      (asks (with_sound c sound told) (disk.reads s.store s.file) s.block_size (new.next_block - s.next_block) len
      (packed_by s c))
      s.store new.store
  all_changed is told len mid new making next changed =
      let at_next = making_next disk s given makes n mid making in
      let one = made_room (size_of s.block_size) n in
      let two = asks (with_sound c sound told) (disk.reads mid.store mid.file) mid.block_size
      (new.next_block - mid.next_block) len (packed_by mid c) in
      let made : (d x : Files) → SameOutside s.next_block n d x → LeavesOthers s.next_block new.next_block may_go d x =
      (λ d x w. others_made s.next_block n new.next_block may_go d x (omega (arith, next, at_next)) most w) in
      let in_turn = changed_turn {much = together one two} made
      (λ d e x w v. others_then s.next_block new.next_block may_go d e x (made d e w)
      (others_wider mid.next_block new.next_block s.next_block new.next_block NoneGoes may_go e x
      (omega (arith, at_next)) (omega arith) (λ file none. absurd none) v))
      (record { files = omega arith; bytes = omega arith; calls = omega arith }) making.changed changed in
      changed_told
      (λ tells. omega (
        arith,
        next,
        at_next,
        ap (λ (z : Core D). files_made (disk.reads mid.store z.file)) making.is,
        ap files_made (making.changed.reads tells s.file
            (inl (omega (arith, is.counters.block_least, is.journal.among)))),
      ))
      (within_then s.block_size mid.block_size n _ _ _ (new.next_block - mid.next_block) (new.next_block - s.next_block)
      (making_size disk s given makes n mid making)
      (ap (λ (z : Core D). places_of c len + packed_by z c) making.is) (omega (arith, next))
      (omega (arith, next, at_next)))
      (omega (arith, next, at_next)) in_turn

  module _ (store : D) (counts : Counts) (making : Making disk s (batch_of given makes) n
      (record s { store = store; counts = counts; next_block = s.next_block + n }))
      (new : D) (failed : HasFailed disk store new) where
    pub all_failed : HasFailed disk s.store new
    all_failed = search rules

    abbrev halted : Core D
    halted = stopped_by disk (record s { store = store; counts = counts; next_block = s.next_block + n }) new

    pub all_left : Left disk s halted refusal.DiskFault
    all_left = record { same = refl; so = inr all_failed }

    pub all_ids : CountsIds s [] halted
    all_ids = ids_made s halted counts n making.ledger (λ id. (λ some. some, λ some. some)) refl
