-- What a reclaim answers where the disk failed.
use Rattle.editor_cleanup.proofs.Common.{◌≡◌, inl, inr, ⊎_elim, refl, ℕ, ◌+◌, ◌^◌, ◌<◌, IsTrue}
use Rattle.editor_cleanup.proofs.Common.{length, Option, Some, None, Err, arith, Contains, unwrap_or, ◌-◌, Ghosts}
use Rattle.editor_cleanup.proofs.Common.{changed_wider, Counts, IsHeld, IsStudio, is_given, studio_of, HasFailed, Core}
use Rattle.editor_cleanup.proofs.Common.{Forgets, IsUnnamed, RemovesPart, Reclaims, RemovesFirst, ids_freed, no_record}
use Rattle.editor_cleanup.proofs.Common.{off_untouched, stopped_not, rules}
use Rattle.editor_cleanup.proofs.StudioFiles.{halted_held, halted_studio, keeps_since, same_meaning}
use Rattle.editor_cleanup.proofs.ReclaimAnswers.{quiet, some_none}
use Rattle.editor_cleanup.proofs.UnnamedFiles.{free_unnamed, spared, unnamed_before, unnamed_free}
use Rattle.editor_cleanup.proofs.{FirstIds.next_is_first, FreeFiles.freed_others, ReclaimLimits.within}
use Rattle.pcm_base.specs.declared.refusal.Refusal.TheVariants as refusal
use Rattle.pcm_base.specs.Studio as model

module _ {D T E : Type 0} (disk : Ghosts D) (old : Core D) (limit : Option ℕ) (e : E) (most : ℕ)
    (is : IsStudio disk old) (going : old.stopped ≡ None) (mid : Core D) (counts : Counts)
    (limited : most ≡ unwrap_or limit (2 ^ 64 - 1)) (count : ℕ)
    (was : RemovesFirst {T = T} disk old 2 most count (Err e) mid) (gone : Forgets old.counts counts was.ids) where
  abbrev halt : ℕ
  halt = model.fault_sum (disk.read_fault_count mid.store) (disk.change_fault_count mid.store)

  abbrev new : Core D
  new = record old { store = mid.store; cache = mid.cache; counts = counts; stopped = Some halt }

  failed : HasFailed disk old.store mid.store
  failed = record { rose = was.faults.failed; later = was.faults.later }

  part : IsTrue (disk.tells old.store) → RemovesPart counts (disk.reads old.store) (disk.reads mid.store) was.ids
  part told = record {
    gone = was.gone told;
    others = λ id not. ⊎_elim inl
        (λ none. inr (none.0, next_is_first old.counts counts was.ids was.end was.next gone id none.1))
        (was.others told id not);
  }

  -- which is left is above those that went
  left_above : IsHeld disk old → (id other : ℕ) → Contains was.ids id → IsUnnamed disk new other → id < other
  left_above on id other one un =
      search (rules, unnamed_before, unnamed_free, was.changed.reads, on.durable, was.gone, gone.least, gone.others)

  pub reclaim_fails : Reclaims disk old limit (Err refusal.DiskFault) new
  reclaim_fails =
      let t = studio_of disk old in
      let u = studio_of disk new in
      let blocks : t.next_block ≡ t.next_block + 0 = omega arith in
      let still : IsTrue (disk.tells old.store) → u ≡ record t {
        stopped = u.stopped;
        next_block = t.next_block + 0;
        read_faults = u.read_faults;
        change_faults = u.change_faults;
      } =
      (λ told. λ i. record (same_meaning disk old is _ mid.store was.changed told i) {
        stopped = Some halt;
        next_block = blocks i;
        read_faults = u.read_faults;
        change_faults = u.change_faults;
      }) in
      let keeps = keeps_since disk old is _ mid.store was.changed going in record {
        ids = was.ids;
        took = record {
          studio = halted_studio disk old is _ mid.store was.changed mid.cache counts was.ids gone
              (was.pages (is_given old.next_block) is.pages) halt;
          held = halted_held disk old is _ mid.store was.changed mid.cache counts was.ids gone halt;
          step = λ on. inr (inr (record {
            breaks = record {
              going = going;
              blocks = 0;
              len = 0;
              needs = (quiet disk old limit).needs t;
              room = omega (arith, is.counters.block_most);
              is = still on.tells;
              leaves = refl;
            };
            cause = inr (
              refl,
              record {
                stopped = refl;
                rose = was.faults.failed;
                later = was.faults.later;
                reads = was.read_faults;
              },
            );
          }));
          any_moment = λ _ on c since. inl (keeps on c since);
          refused = λ _ on unstopped c since. keeps on c since;
          now = λ unstopped. absurd (some_none new.stopped halt refl unstopped);
          number = refl;
          rests = λ some. absurd (stopped_not old.stopped some going);
          len = 0;
          needs = λ on. (0, (quiet disk old limit).needs t);
          records = no_record old (Err refusal.DiskFault) new;
          given = tt;
          needed = tt;
          changed = changed_wider (freed_others old.counts limit old.next_block old.next_block)
              (record { files = omega arith; bytes = omega arith; calls = omega arith }) was.changed;
          frees = record {
            count = tt;
            within = within limit most (length was.ids) limited was.few;
            all = λ on. tt;
            rising = gone.rising;
            spares = λ id one. spared disk old is id (gone.free id one);
            unnamed = λ _ on id one. free_unnamed disk old is (on.durable going) id (gone.free id one);
            least = λ _ on id other one un. left_above on id other one un;
            done = λ told. tt;
            part = part;
            for_good = λ told. tt;
            only = λ unlimited on. tt;
            fields = refl;
            why = inl refl;
          };
          ids = ids_freed old new counts was.ids gone refl refl;
          purges = tt;
          untouched = off_untouched disk old.store mid.store refusal.DiskFault refl;
          stops = inr (refl, failed, refl);
          left = record { same = refl; so = inr failed };
        };
      }
