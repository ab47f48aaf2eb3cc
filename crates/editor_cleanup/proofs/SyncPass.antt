-- Files of blocks are synced, one after another.
use Rattle.editor_cleanup.proofs.Common.{◌≡◌, ⊎_elim, refl, sym, ap, ◌∙◌, subst, ℕ, ◌+◌, ◌≤◌, List, [], ◌∷◌, ◌++◌}
use Rattle.editor_cleanup.proofs.Common.{length, Ok, Err, arith, rules, Contains, HasCause, Files, Changed, upto_refl}
use Rattle.editor_cleanup.proofs.Common.{Ghosts, Fewer, changed_none, changed_then_stays, changed_wider, Counts}
use Rattle.editor_cleanup.proofs.Common.{IsNextFree, EachNow, Core, AreFirst, AreNext, NoneFrom, SyncsFirst, only_calls}
use Rattle.disk_model.specs.Disk.{StaysStep}
use Rattle.editor_cleanup.proofs.{IdRemovals.either, IdRemovals.long, FreeIds.next_more}

-- a disk has these files for good as they read
abbrev pub Settled : {D : Type 0} → Ghosts D → List ℕ → D → Type 0
Settled disk ids store = EachNow disk store (λ c. (id : ℕ) → Contains ids id → c id ≡ disk.reads store id)

-- the files of these ids so far
pub record Syncing {D : Type 0} (disk : Ghosts D) (old : Core D) (ids : List ℕ) (end : ℕ) (new : Core D) : Type 0 where
  pub next : AreNext old.counts 0 ids end
  pub fields : new ≡ record old { store = new.store }
  pub reads : disk.reads new.store ≡ disk.reads old.store
  pub settled : Settled disk ids new.store
  pub changed : Changed disk StaysStep (only_calls (length ids)) old.store new.store
  pub change_faults : disk.change_fault_count new.store ≡ disk.change_fault_count old.store
  pub read_faults : disk.read_fault_count new.store ≡ disk.read_fault_count old.store

module _ {D : Type 0} (disk : Ghosts D) (old : Core D) where
  pub syncing_none : Fewer disk old.store → Syncing disk old [] 0 old
  syncing_none fewer = record {
    next = refl;
    fields = refl;
    reads = refl;
    settled = λ c now id has. absurd (omega (arith, has.1));
    changed = changed_none old.store (λ c. refl) fewer;
    change_faults = refl;
    read_faults = refl;
  }

  module _ (ids : List ℕ) (end : ℕ) (mid : Core D) (was : Syncing disk old ids end mid) where
    -- by the counts as they are
    pub next_there : (id : ℕ) → IsNextFree mid.counts end id → IsNextFree old.counts end id
    next_there id next = subst (λ (k : Counts). IsNextFree k end id) (ap (λ (z : Core D). z.counts) was.fields) next

    pub none_there : NoneFrom mid.counts end → NoneFrom old.counts end
    none_there none = subst (λ (k : Counts). NoneFrom k end) (ap (λ (z : Core D). z.counts) was.fields) none

    -- one more
    module _ (id : ℕ) (store : D) (reads : disk.reads store ≡ disk.reads mid.store)
        (changed : Changed disk StaysStep (only_calls 1) mid.store store) where
      settled_still : EachNow disk store (λ c. c id ≡ disk.reads store id) → Settled disk (ids ++ id ∷ []) store
      settled_still durable c now x has = ⊎_elim
          (λ one. before x one)
          (λ is. subst (λ (n : ℕ). c n ≡ disk.reads store n) is (durable c now))
          (either ids id x has)
        where
          before : (x : ℕ) → Contains ids x → c x ≡ disk.reads store x
          before x one =
              let images = changed.images in
              let from = images.from c (images.fewer (disk.clock mid.store) (disk.clock store) c images.later
              (upto_refl (disk.clock store)) now) in
              ap (λ (f : Files). f x) from.2 ∙ was.settled from.0 from.1 x one ∙ sym (ap (λ (f : Files). f x) reads)

      then_changed : (n : ℕ) → length ids + 1 ≤ n → Changed disk StaysStep (only_calls n) old.store store
      then_changed n le = search (rules, changed_then_stays)

      pub syncing_more : IsNextFree old.counts end id → EachNow disk store (λ c. c id ≡ disk.reads store id)
          → disk.change_fault_count store ≡ disk.change_fault_count mid.store
          → disk.read_fault_count store ≡ disk.read_fault_count mid.store
          → Syncing disk old (ids ++ id ∷ []) (id + 1) (record mid { store = store })
      syncing_more next durable change_faults read_faults = search (rules, next_more, settled_still, then_changed, long)

      pub syncs_fail : {T E : Type 0} (e : E) (count : ℕ) → length ids + 1 ≤ count
          → HasCause {T = T} (disk.change_fault_count mid.store) (disk.change_fault_count store) (Err e)
          → disk.read_fault_count store ≡ disk.read_fault_count mid.store
          → SyncsFirst {T = T} disk old count (Err e) (record mid { store = store })
      syncs_fail e count le cause read_faults = search (rules, then_changed)

    pub syncs_all : {T E : Type 0} (r : T) (count : ℕ) → AreFirst old.counts count ids
        → SyncsFirst {E = E} disk old count (Ok r) mid
    syncs_all r count first = search (rules, changed_wider)
