-- Files of blocks are removed, one after another.
use Rattle.editor_cleanup.proofs.Common.{◌≡◌, ◌⊎◌, inl, inr, sym, ◌∙◌, subst, ℕ, ◌+◌, ◌≤◌, Bool, IsTrue, rules}
use Rattle.editor_cleanup.proofs.Common.{List, [], ◌∷◌, ◌++◌, length, None, Result, Ok, Err, arith, cases_eq, Contains}
use Rattle.editor_cleanup.proofs.Common.{RemoveStep, Changed, Ghosts, Fewer, changed_none, changed_turn, changed_wider}
use Rattle.editor_cleanup.proofs.Common.{AllPass, IsNextFree, Core, Removes, AreNext, FreesFiles, NoneFrom}
use Rattle.editor_cleanup.proofs.Common.{RemovesFirst, only_calls}
use Rattle.std.proofs.Common.{◌*◌}
use Rattle.block_cache.proofs.CarriedLaws.{pass_without}
use Rattle.editor_state.specs.{Removals.Drops}
use Rattle.editor_cleanup.proofs.IdRemovals.{gone_same, long, removes_more, removes_none}
use Rattle.editor_cleanup.proofs.{FreeFiles.freed_none, FreeFiles.freed_one, FreeFiles.freed_then, FreeIds.next_more}

-- the files of these ids so far
pub record Removing {D : Type 0} (disk : Ghosts D) (old : Core D) (ids : List ℕ) (end : ℕ) (new : Core D) : Type 0 where
  pub next : AreNext old.counts 0 ids end
  pub fields : new ≡ record old { store = new.store; cache = new.cache }
  pub files : IsTrue (disk.tells old.store) → Removes (disk.reads old.store) (disk.reads new.store) ids
  pub pages : (test : ℕ → Bool) → AllPass test old.cache → AllPass test new.cache
  pub changed : Changed disk (FreesFiles old.counts) (only_calls (length ids)) old.store new.store
  pub change_faults : disk.change_fault_count new.store ≡ disk.change_fault_count old.store
  pub read_faults : disk.read_fault_count new.store ≡ disk.read_fault_count old.store

module _ {D : Type 0} (disk : Ghosts D) (old : Core D) where
  pub removing_none : Fewer disk old.store → Removing disk old [] 0 old
  removing_none fewer = search (rules, removes_none, changed_none, freed_none)

  -- what comes next by the counts as they are
  pub next_here : (ids : List ℕ) (end id : ℕ) (mid : Core D) → Removing disk old ids end mid
      → IsNextFree mid.counts end id → IsNextFree old.counts end id
  next_here ids end id mid was next = search rules

  pub none_here : (ids : List ℕ) (end : ℕ) (mid : Core D) → Removing disk old ids end mid → NoneFrom mid.counts end
      → NoneFrom old.counts end
  none_here ids end mid was none = search rules

  module _ (ids : List ℕ) (end id : ℕ) (mid new : Core D) (was : Removing disk old ids end mid)
      (next : IsNextFree old.counts end id) where
    to_mid : IsTrue (disk.tells old.store) → IsTrue (disk.tells mid.store)
    to_mid told = subst IsTrue (sym was.changed.tells) told

    module _ {T E : Type 0} (r : Result T E) (drops : Drops disk mid id r new) where
      then_fields : new ≡ record old { store = new.store; cache = new.cache }
      then_fields = drops.fields ∙ (λ i. record (was.fields i) { store = new.store; cache = new.cache })

      then_pages : (test : ℕ → Bool) → AllPass test old.cache → AllPass test new.cache
      then_pages test pass = pass_without test id mid.cache new.cache drops.without (was.pages test pass)

      then_changed : (n : ℕ) → length ids + 1 ≤ n → Changed disk (FreesFiles old.counts) (only_calls n) old.store new.store
      then_changed n le = search (rules, changed_turn, freed_then, freed_one)

    pub removing_more : {T E : Type 0} (r : T) → Drops {E = E} disk mid id (Ok r) new
        → Removing disk old (ids ++ id ∷ []) (id + 1) new
    removing_more r drops = record {
      next = next_more old.counts 0 ids end id was.next next;
      fields = then_fields (Ok r) drops;
      files = λ told. removes_more (disk.reads old.store) (disk.reads mid.store) (disk.reads new.store) ids id
          (was.files told) (drops.changed.reads (to_mid told)) (drops.removed (to_mid told));
      pages = then_pages (Ok r) drops;
      changed = then_changed (Ok r) drops (length (ids ++ id ∷ [])) (omega (arith, long ids id));
      change_faults = drops.faults.kept ∙ was.change_faults;
      read_faults = drops.read_faults ∙ was.read_faults;
    }

    -- of this one it is not known
    others_fail : IsTrue (disk.tells old.store) → RemoveStep id (disk.reads mid.store) (disk.reads new.store) → (x : ℕ)
        → (Contains ids x → ⊥) → (x ≡ id) ⊎ (x ≡ id → ⊥)
        → (disk.reads new.store x ≡ disk.reads old.store x) ⊎ (disk.reads new.store x ≡ None) × IsNextFree old.counts end x
    others_fail told step x not (inl is) = search rules
    others_fail told step x not (inr other) = inl (step.others x other ∙ (was.files told).others x not)

    gone_fail : IsTrue (disk.tells old.store) → RemoveStep id (disk.reads mid.store) (disk.reads new.store) → (x : ℕ)
        → Contains ids x → (x ≡ id) ⊎ (x ≡ id → ⊥) → disk.reads new.store x ≡ None
    gone_fail told step x has (inl is) = search (rules, gone_same)
    gone_fail told step x has (inr other) = step.others x other ∙ (was.files told).gone x has

    pub removes_fail : {T E : Type 0} (e : E) (most count : ℕ) → Drops {T = T} disk mid id (Err e) new
        → length ids ≡ count → count ≤ most → RemovesFirst {T = T} disk old 1 most count (Err e) new
    removes_fail e most count drops len few = record {
      ids = ids;
      end = end;
      next = was.next;
      len = len;
      few = omega (arith, len, few);
      all = tt;
      fields = then_fields (Err e) drops;
      gone = λ told x has. gone_fail told (drops.changed.reads (to_mid told)) x has (cases_eq x id);
      others = λ told x not. others_fail told (drops.changed.reads (to_mid told)) x not (cases_eq x id);
      done = λ told. tt;
      pages = then_pages (Err e) drops;
      changed = then_changed (Err e) drops (1 * length ids + 1) (omega arith);
      faults = record {
        later = omega (arith, drops.faults.later, was.change_faults);
        failed = omega (arith, drops.faults.failed, was.change_faults);
        kept = tt;
      };
      read_faults = drops.read_faults ∙ was.read_faults;
    }

  -- all of them, or as many as were asked for
  pub removes_all : {T E : Type 0} (r : T) (most count : ℕ) (ids : List ℕ) (end : ℕ) (new : Core D)
      → Removing disk old ids end new → length ids ≡ count → count ≤ most
      → (length ids ≡ most) ⊎ NoneFrom old.counts end → RemovesFirst {E = E} disk old 1 most count (Ok r) new
  removes_all r most count ids end new was len few all = search (rules, changed_wider)
