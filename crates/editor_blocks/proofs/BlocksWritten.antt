-- New blocks are written one after another, and then synced one after another.
use Rattle.editor_blocks.proofs.Common.{rules, ℤ, ◌≡◌, inr, ⊎_elim, refl, sym, ap, ◌∙◌, subst, ℕ, ◌+◌, ◌≤◌, ◌<◌, IsTrue}
use Rattle.editor_blocks.proofs.Common.{Result, Ok, Err, List, length, get_or, arith, cases_lt, Refusal, Files}
use Rattle.editor_blocks.proofs.Common.{StaysStep, upto_refl, Changed, Ghosts, Fewer, changed_turn, changed_then_stays}
use Rattle.editor_blocks.proofs.Common.{changed_wider, size_of, EachNow, NewBlock, AreNew, SameOutside, batch_of}
use Rattle.editor_blocks.proofs.Common.{ids_from, AddsFree, AreSynced, IsDamageAmong, IsOfDevices, MadeOne, Making}
use Rattle.editor_blocks.proofs.Common.{NotMade, Stuck, Unread, Written, made_room, one_call, HasFailed, stopped_by}
use Rattle.editor_blocks.proofs.Common.{Core}
use Rattle.disk_model.proofs.Frames.{changed_none}
use Rattle.editor_state.specs.Makes.{Makes, Synced, Syncs, Unsynced}
use Rattle.editor_blocks.proofs.BlocksPut.{new_at, next_there, next_absent, made_more, made_none}
use Rattle.editor_blocks.proofs.BlockCounts.{called, free_more, free_none, outside_more, outside_then, room_more}
use Rattle.editor_blocks.proofs.BlockCounts.{size_most, some_block, then_kept}
use Rattle.pcm_base.specs.declared.refusal.Refusal.TheVariants as refusal

module _ {D : Type 0} (disk : Ghosts D) (s : Core D) (given : ℕ → ℤ) (bs : List NewBlock) where
  abbrev z : ℕ
  z = size_of s.block_size

  pub making_none : Fewer disk s.store → Making disk s (batch_of given bs) 0 s
  making_none fewer =
      let none : s.next_block ≡ s.next_block + 0 = omega arith in record {
        is = λ i. record s { next_block = none i };
        ledger = free_none s.next_block s.counts;
        made = λ told there gone. made_none given s.next_block bs (disk.reads s.store);
        changed = changed_none s.store (λ c f apart. refl) fewer;
        change_faults = refl;
      }

  pub making_next : (n : ℕ) (mid : Core D) → Making disk s (batch_of given bs) n mid → mid.next_block ≡ s.next_block + n
  making_next n mid was = ap (λ (x : Core D). x.next_block) was.is

  pub making_size : (n : ℕ) (mid : Core D) → Making disk s (batch_of given bs) n mid → mid.block_size ≡ s.block_size
  making_size n mid was = ap (λ (x : Core D). x.block_size) was.is

  pub making_more : (n : ℕ) (d : NewBlock) (mid new : Core D) → n < length bs → AreNew s.block_size s.next_block bs
      → Making disk s (batch_of given bs) n mid
      → MadeOne disk mid given (get_or bs n d) new → Making disk s (batch_of given bs) (n + 1) new
  making_more n d mid new lt fresh was one =
      let m = s.block_size in
      let b : NewBlock = get_or bs n d in
      let is = new_at m s.next_block bs n d lt fresh in
      let old = disk.reads s.store in
      let reads = disk.reads mid.store in
      let next = making_next n mid was in
      let still : IsTrue (disk.tells s.store) → IsTrue (disk.tells mid.store) =
      λ told. subst IsTrue (sym was.changed.tells) told in
      let sum : s.next_block + n + 1 ≡ s.next_block + (n + 1) = omega arith in record {
        is = one.is
            ∙ (λ i. record (was.is i) {
              store = new.store;
              counts = new.counts;
              next_block = (was.is i).next_block + 1;
            })
            ∙ (λ i. record s { store = new.store; counts = new.counts; next_block = sum i });
        ledger = free_more s.next_block n s.counts mid.counts new.counts was.ledger
            (subst (λ (k : ℕ). AddsFree k 1 mid.counts new.counts) next one.ledger);
        made = λ told there gone.
            let made = was.made told there gone in
            let stored = one.stored (still told)
            (next_there given m s.next_block n bs d old reads lt fresh gone there made)
            (next_absent given m s.next_block n bs d old reads lt fresh gone there made) in
            made_more given m s.next_block n bs d old reads lt fresh gone there made (disk.reads new.store)
            (one.changed.reads (still told)) stored;
        changed = changed_turn (λ d c w. outside_more s.next_block n d c w)
            (λ d e c w v. outside_then s.next_block n b.id d e c is.id w v)
            (room_more z (size_of b.len) n (size_most b.len m is.few)) was.changed one.changed;
        change_faults = one.change_faults ∙ was.change_faults;
      }

  -- what is read stays, whatever else the calls after the blocks do
  making_over : (n : ℕ) (mid new : Core D) → Making disk s (batch_of given bs) n mid
      → new ≡ record mid { store = new.store }
      → disk.reads new.store ≡ disk.reads mid.store
      → Changed disk (SameOutside s.next_block n) (made_room z n) s.store new.store
      → disk.change_fault_count new.store ≡ disk.change_fault_count mid.store
      → Making disk s (batch_of given bs) n new
  making_over n mid new was is same changed faults = search rules

  -- a piece of the next block could not be read
  pub making_unread : (n : ℕ) (mid new : Core D) → Making disk s (batch_of given bs) n mid → Unread disk mid new
      → Making disk s (batch_of given bs) n new
  making_unread n mid new was un = search (rules, making_over, then_kept)

  -- ---- each in one call

  pub written_none : Fewer disk s.store → Written disk s (batch_of given bs) 0 s
  written_none fewer = record { making = making_none fewer; calls = omega arith; read_faults = refl }

  pub written_more : (n : ℕ) (d : NewBlock) (mid new : Core D) → n < length bs → AreNew s.block_size s.next_block bs
      → Written disk s (batch_of given bs) n mid
      → MadeOne disk mid given (get_or bs n d) new → Written disk s (batch_of given bs) (n + 1) new
  written_more n d mid new lt fresh was one = search (rules, making_more)

  -- ---- and synced

  synced_making : (n k : ℕ) (mid new : Core D) → k ≤ n → Written disk s (batch_of given bs) n mid
      → Synced disk mid (ids_from s.next_block k) new → Making disk s (batch_of given bs) n new
  synced_making n k mid new le was then =
      making_over n mid new was.making then.is then.reads
      (changed_then_stays (record { files = omega arith; bytes = omega arith; calls = omega (arith, le) })
      (called n was.calls was.making.changed) then.changed)
      then.change_faults

  makes_done : (mid new : Core D) → Written disk s (batch_of given bs) (length bs) mid
      → Synced disk mid (ids_from s.next_block (length bs)) new
      → Making disk s (batch_of given bs) (length bs) new
      × (disk.read_fault_count new.store ≡ disk.read_fault_count s.store)
      × AreSynced disk (ids_from s.next_block (length bs)) new.store
  makes_done mid new was then = search (rules, synced_making)

  makes_unsynced : (why : Refusal) (mid new : Core D) → Written disk s (batch_of given bs) (length bs) mid
      → Unsynced disk mid (ids_from s.next_block (length bs)) why new
      → Stuck disk s (batch_of given bs) why new
  makes_unsynced why mid new was un = record {
    made = length bs;
    few = omega arith;
    mid = un.mid;
    before = synced_making (length bs) un.synced mid un.mid (omega (arith, un.some_left)) was un.before;
    read_faults = un.before.read_faults ∙ was.read_faults;
    by = subst (λ (e : Refusal). NotMade disk un.mid e new) (sym un.is) (inr un.by);
    left = inr un.stays;
    block = (some_block bs (omega (arith, un.some_left))).0;
    stands = (some_block bs (omega (arith, un.some_left))).1;
    damaged = λ told. subst
        (IsDamageAmong (disk.reads un.mid.store) (some_block bs (omega (arith, un.some_left))).0.pieces) (sym un.is) tt;
    valid = λ told there gone. subst IsOfDevices (sym un.is) tt;
  }

  pub makes_both : (result : Result (Unit {0}) Refusal) (mid new : Core D)
      → Written disk s (batch_of given bs) (length bs) mid
      → Syncs disk mid (ids_from s.next_block (length bs)) result new → Makes disk s (batch_of given bs) result new
  makes_both (Ok done) mid new was then = makes_done mid new was then
  makes_both (Err why) mid new was then = makes_unsynced why mid new was then

-- ---- one sync after another

module _ {D : Type 0} (disk : Ghosts D) (s : Core D) (first : ℕ) where
  pub synced_none : Fewer disk s.store → Synced disk s (ids_from first 0) s
  synced_none fewer = record {
    is = refl;
    reads = refl;
    same = λ c now f low high. absurd (omega (arith, low, high));
    changed = changed_none s.store (λ c. refl) fewer;
    read_faults = refl;
    change_faults = refl;
  }

  module _ (n : ℕ) (mid new : Core D) (was : Synced disk s (ids_from first n) mid) where
    pub synced_more : new ≡ record mid { store = new.store } → disk.reads new.store ≡ disk.reads mid.store
        → EachNow disk new.store (λ c. c (first + n) ≡ disk.reads new.store (first + n))
        → Changed disk StaysStep one_call mid.store new.store
        → disk.read_fault_count new.store ≡ disk.read_fault_count mid.store
        → disk.change_fault_count new.store ≡ disk.change_fault_count mid.store
        → Synced disk s (ids_from first (n + 1)) new
    synced_more is reads durable changed read_faults change_faults = record {
      is = is ∙ (λ i. record (was.is i) { store = new.store });
      reads = reads ∙ was.reads;
      same = λ c now f low high.
          let images = changed.images in
          ⊎_elim
          (λ before.
          let e = images.from c (images.fewer (disk.clock mid.store) (disk.clock new.store) c images.later
          (upto_refl (disk.clock new.store)) now) in
          ap (λ (g : Files). g f) e.2 ∙ was.same e.0 e.1 f low before ∙ sym (ap (λ (g : Files). g f) reads))
          (λ after.
          let at : first + n ≡ f = omega (arith, after, high) in
          subst (λ (k : ℕ). c k ≡ disk.reads new.store k) at (durable c now))
          (cases_lt f (first + n));
      changed = changed_then_stays (record { files = omega arith; bytes = omega arith; calls = omega arith })
          was.changed changed;
      read_faults = read_faults ∙ was.read_faults;
      change_faults = change_faults ∙ was.change_faults;
    }

    -- the next sync failed
    pub unsynced_here : (m : ℕ) → n < m → new ≡ stopped_by disk mid new.store
        → Changed disk StaysStep one_call mid.store new.store → HasFailed disk mid.store new.store
        → disk.read_fault_count new.store ≡ disk.read_fault_count mid.store
        → Unsynced disk s (ids_from first m) refusal.DiskFault new
    unsynced_here m lt is changed failed read_faults = record {
      synced = n;
      some_left = lt;
      mid = mid;
      before = was;
      is = refl;
      by = record {
        is = is;
        changed = changed_wider (λ d c same f other. ap (λ (g : Files). g f) same) (record {
          files = omega arith;
          bytes = omega arith;
          calls = omega arith;
        }) changed;
        failed = failed;
        read_faults = read_faults;
      };
      stays = changed;
    }
