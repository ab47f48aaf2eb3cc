-- Files of blocks are removed and then synced.
use Rattle.editor_cleanup.proofs.Common.{◌≡◌, ◌⊎◌, sym, ap, ◌∙◌, subst, ℕ, Bool, IsTrue, List, None, Result, Ok, Err}
use Rattle.editor_cleanup.proofs.Common.{arith, rules, Contains, HasCause, Rose, Files, Ghosts, changed_then_stays}
use Rattle.editor_cleanup.proofs.Common.{changed_wider, EachNow, AllPass, Counts, IsNextFree, Core, AreGone, Removes}
use Rattle.editor_cleanup.proofs.Common.{AreFirst, DropsFirst, RemovesFirst, SyncsFirst}
use Rattle.std.specs.Prelude.{OnErr, OnOk}
use Rattle.editor_cleanup.specs.Passes.{AreSettled}
use Rattle.editor_cleanup.proofs.FirstIds.{first_same}

on_any : {T E : Type 0} {P : Type 0} (r : Result T E) → P → OnOk r P
on_any (Ok x) p = p
on_any (Err e) p = tt

module _ {D : Type 0} (disk : Ghosts D) (old : Core D) (most count : ℕ) where
  -- a removal failed
  pub drops_fail : {T E : Type 0} (e : E) (new : Core D) → RemovesFirst {T = T} disk old 1 most count (Err e) new
      → DropsFirst {T = T} disk old most count (Err e) new
  drops_fail e new was = search (rules, changed_wider)

  -- all were removed
  module _ {T E : Type 0} (r : T) (mid new : Core D) (was : RemovesFirst {E = E} disk old 1 most count (Ok r) mid) where
    mid_counts : mid.counts ≡ old.counts
    mid_counts = ap (λ (z : Core D). z.counts) was.fields

    pages_still : {U : Type 0} (synced : Result U E) → SyncsFirst disk mid count synced new → (test : ℕ → Bool)
        → AllPass test mid.cache → AllPass test new.cache
    pages_still synced syncs test pass = subst (AllPass test) (sym (ap (λ (z : Core D). z.cache) syncs.fields)) pass

    removes_still : {U : Type 0} (synced : Result U E) → SyncsFirst disk mid count synced new
        → RemovesFirst disk old 2 most count synced new
    removes_still {U} synced syncs =
        let store_fields : new ≡ record mid { store = new.store } = syncs.fields in record {
          ids = was.ids;
          end = was.end;
          next = was.next;
          len = was.len;
          few = was.few;
          all = on_any synced was.all;
          fields = store_fields ∙ (λ i. record (was.fields i) { store = new.store })
              ∙ (λ i. record old {
                store = new.store;
                cache = sym (ap (λ (z : Core D). z.cache) store_fields) i;
              });
          gone = λ told. subst (AreGone was.ids) (sym syncs.reads) (was.gone told);
          others = λ told x not.
              subst (λ (f : Files). (f x ≡ disk.reads old.store x) ⊎ (f x ≡ None) × IsNextFree old.counts was.end x)
              (sym syncs.reads) (was.others told x not);
          done = λ told. on_any synced
              (subst (λ (f : Files). Removes (disk.reads old.store) f was.ids) (sym syncs.reads) (was.done told));
          pages = λ test pass. pages_still synced syncs test (was.pages test pass);
          changed = changed_then_stays
              (record { files = omega arith; bytes = omega arith; calls = omega (arith, was.len) })
              was.changed syncs.changed;
          faults = record {
            later = omega (arith, syncs.faults.later, was.faults.kept);
            failed = failed synced syncs.faults;
            kept = kept synced syncs.faults;
          };
          read_faults = syncs.read_faults ∙ was.read_faults;
        }
      where
        failed : (synced : Result U E)
            → HasCause (disk.change_fault_count mid.store) (disk.change_fault_count new.store) synced
            → OnErr synced (Rose (disk.change_fault_count old.store) (disk.change_fault_count new.store))
        failed (Ok x) cause = tt
        failed (Err e) cause = omega (arith, cause.failed, was.faults.kept)

        kept : (synced : Result U E)
            → HasCause (disk.change_fault_count mid.store) (disk.change_fault_count new.store) synced
            → OnOk synced (disk.change_fault_count new.store ≡ disk.change_fault_count old.store)
        kept (Ok x) cause = cause.kept ∙ was.faults.kept
        kept (Err e) cause = tt

    -- the files that were synced are those that were removed
    synced_gone : IsTrue (disk.tells old.store) → disk.reads new.store ≡ disk.reads mid.store
        → AreSettled disk mid count new.store → EachNow disk new.store (AreGone was.ids)
    synced_gone told reads settled c now x has =
        let first = subst (λ (n : ℕ). AreFirst old.counts n settled.ids) (sym was.len)
        (subst (λ (k : Counts). AreFirst k count settled.ids) mid_counts settled.first) in
        let same = first_same old.counts was.ids settled.ids was.end was.next first in
        settled.settled c now x (subst (λ (l : List ℕ). Contains l x) (sym same) has)
        ∙ ap (λ (f : Files). f x) reads ∙ was.gone told x has

    pub drops_all : {U : Type 0} (synced : Result U E) → SyncsFirst disk mid count synced new
        → DropsFirst disk old most count synced new
    unfolding removes_still
    drops_all {U} synced syncs = record {
      removes = removes_still synced syncs;
      durable = λ told. durable synced told syncs.reads syncs.settled;
    }
      where
        durable : (synced : Result U E) → IsTrue (disk.tells old.store) → disk.reads new.store ≡ disk.reads mid.store
            → OnOk synced (AreSettled disk mid count new.store) → OnOk synced (EachNow disk new.store (AreGone was.ids))
        durable (Ok x) told reads settled = synced_gone told reads settled
        durable (Err e) told reads settled = tt
