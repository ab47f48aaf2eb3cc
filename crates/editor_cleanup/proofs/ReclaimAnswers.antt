-- What a reclaim answers where the disk did not fail, and of a studio that had stopped.
use Rattle.editor_cleanup.proofs.Common.{rules, ◌≡◌, ◌⊎◌, inl, inr, ⊎_elim, refl, sym, ap, subst, ℕ, ◌≤◌, IsTrue, []}
use Rattle.editor_cleanup.proofs.Common.{length, Option, Some, None, Result, Ok, Err, arith, IfSome, unwrap_or, ◌-◌}
use Rattle.editor_cleanup.proofs.Common.{Call, Line, Reclaim, Refusal, stop_of, Ghosts, Fewer, changed_wider, Counts}
use Rattle.editor_cleanup.proofs.Common.{IsHeld, IsStudio, is_given, studio_of, Core, Forgets, Reclaims, DropsFirst}
use Rattle.editor_cleanup.proofs.Common.{IsQuiet, room_of, ids_freed, no_record, none_given, stopped_not, keeps_now}
use Rattle.editor_cleanup.proofs.Common.{fits}
use Rattle.std.specs.Prelude.{◌^◌}
use Rattle.pcm_base.specs.{declared.answer.Reply.Reply, declared.answer.Reply.TheVariants.Freed, Step.IsWithin}
use Rattle.editor_state.specs.{Removals.FreesUnnamed, Took.silent}
use Rattle.editor_cleanup.proofs.StudioFiles.{keeps_since, less, less_held, less_studio, same_meaning}
use Rattle.editor_cleanup.proofs.UnnamedFiles.{free_unnamed, only_named, spared, unnamed_free}
use Rattle.editor_cleanup.proofs.{FirstIds.none_left, FreeFiles.freed_others, IdRemovals.forgets_none}
use Rattle.editor_cleanup.proofs.{IdRemovals.part_none, ReclaimLimits.all_of, ReclaimLimits.within}
use Rattle.editor_state.proofs.Calls.QuietCalls.{carried, quiet_passes, stopped_first}
use Rattle.editor_state.proofs.Refusals.EarlyRefusals.{refuses}
use Rattle.pcm_base.specs.declared.refusal.Refusal.TheVariants as refusal

pub some_none : {A : Type 0} (o : Option A) (x : A) → o ≡ Some x → o ≡ None → ⊥
some_none None x e f = absurd (cc e)
some_none (Some y) x e f = absurd (cc f)

is_within : (limit : Option ℕ) (k : ℕ) → IfSome limit (λ m. k ≤ m) → IsWithin limit k
is_within None k le = tt
is_within (Some m) k le = le

module _ {D : Type 0} (disk : Ghosts D) (old : Core D) (limit : Option ℕ) where
  abbrev pub call : Call
  call = Line (Reclaim limit)

  pub quiet : IsQuiet call
  quiet = search rules

  -- as many as were asked for, or all there are
  module _ {T E : Type 0} (r : T) (most : ℕ) (is : IsStudio disk old) (going : old.stopped ≡ None) (mid : Core D)
      (counts : Counts) (limited : most ≡ unwrap_or limit (2 ^ 64 - 1)) where
    pub reclaimed : (count : ℕ) (drops : DropsFirst {E = E} disk old most count (Ok r) mid)
        → Forgets old.counts counts drops.removes.ids
        → Reclaims disk old limit (Ok count) (record old { store = mid.store; cache = mid.cache; counts = counts })
    reclaimed count drops gone =
        let was = drops.removes in
        let t = studio_of disk old in
        let new : Core D = less disk old is _ mid.store was.changed mid.cache counts was.ids gone in
        let studio : IsStudio disk new =
        less_studio disk old is _ mid.store was.changed mid.cache counts was.ids gone
        (was.pages (is_given old.next_block) is.pages) in
        let held : IsHeld disk old → IsHeld disk new =
        less_held disk old is _ mid.store was.changed mid.cache counts was.ids gone was.done in
        let few : IfSome limit (λ m. length was.ids ≤ m) = within limit most (length was.ids) limited was.few in
        let all : (limit ≡ Some (length was.ids)) ⊎ ((id : ℕ) → counts id ≡ Some 0 → ⊥) =
        ⊎_elim
        (λ full. all_of disk old is limit was.ids was.end most was.next limited full)
        (λ none. inr (none_left old.counts counts was.ids was.end was.next gone none))
        was.all in
        let state : IsTrue (disk.tells old.store) → studio_of disk new ≡ t =
        (λ told. λ i. record (same_meaning disk old is _ mid.store was.changed told i) {
          read_faults = was.read_faults i;
          change_faults = was.faults.kept i;
        }) in
        let room = room_of disk old call is in
        let pin = fits old.next_pin 0 (omega (arith, is.counters.pin_most)) in
        let passed = quiet_passes t call quiet room refl (ap stop_of going) refl pin in record {
          ids = was.ids;
          took = record {
            studio = studio;
            held = held;
            step = λ on. carried t call quiet room refl (Freed count) (studio_of disk new) passed
                (count, refl, is_within limit count (subst (λ (n : ℕ). IfSome limit (λ m. n ≤ m)) was.len few))
                (state on.tells);
            any_moment = λ _ on c since. inl (keeps_since disk old is _ mid.store was.changed going on c since);
            refused = λ _ on still. tt;
            now = λ still on c here. keeps_now disk new studio.journal.among still (held on) c here;
            number = omega arith;
            rests = λ some. absurd (stopped_not old.stopped some going);
            len = 0;
            needs = λ on. (0, quiet.needs t);
            records = no_record old (Ok (Freed count)) new;
            given = none_given (Ok (Freed count)) old new refl;
            needed = tt;
            changed = changed_wider (freed_others old.counts limit old.next_block old.next_block)
                (record { files = omega arith; bytes = omega arith; calls = omega arith }) was.changed;
            frees = record {
              count = ap Freed (sym was.len);
              within = few;
              all = λ on. ⊎_elim inl
                  (λ none. inr (λ id un. none id (unnamed_free disk new studio ((held on).durable going) id un))) all;
              rising = gone.rising;
              spares = λ id one. spared disk old is id (gone.free id one);
              unnamed = λ _ on id one. free_unnamed disk old is (on.durable going) id (gone.free id one);
              least = λ _ on id other one un.
                  gone.least id other one (unnamed_free disk new studio ((held on).durable going) other un);
              done = was.done;
              part = λ told. tt;
              for_good = drops.durable;
              only = λ unlimited on. ⊎_elim
                  (λ some. absurd (some_none limit (length was.ids) some unlimited))
                  (only_named disk new studio ((held on).durable going)) all;
              fields = refl;
              why = tt;
            };
            ids = ids_freed old new counts was.ids gone refl refl;
            purges = tt;
            untouched = tt;
            stops = inl (refl, was.faults.kept);
            left = tt;
          };
        }

  -- it had stopped before
  pub reclaim_stopped : (faults : ℕ) → old.stopped ≡ Some faults → IsStudio disk old → Fewer disk old.store
      → Reclaims disk old limit (Err (refusal.Stopped faults)) old
  reclaim_stopped faults stopped is fewer =
      let told : Result Reply Refusal = Err (refusal.Stopped faults) in
      let frees : FreesUnnamed disk old limit told [] old = record {
        count = tt;
        within = least_limit limit;
        all = λ held. tt;
        rising = (forgets_none old.counts).rising;
        spares = λ id one. spared disk old is id ((forgets_none old.counts).free id one);
        unnamed = λ going held id one. absurd (no going);
        least = λ going held id other one un. absurd (no going);
        done = λ told. tt;
        part = λ told. part_none old.counts (disk.reads old.store);
        for_good = λ told. tt;
        only = λ unlimited held. tt;
        fields = refl;
        why = inr (faults, refl);
      } in record {
        ids = [];
        took = refuses disk old call silent (refusal.Stopped faults) is fewer frees refl 0 (λ off. omega arith) 0
            (λ held. quiet.needs (studio_of disk old))
            (stopped_first (studio_of disk old) call 0 0 faults refl stopped) tt;
      }
    where
      no : old.stopped ≡ None → ⊥
      no going = some_none old.stopped faults stopped going

      least_limit : (m : Option ℕ) → IfSome m (λ m. 0 ≤ m)
      least_limit None = tt
      least_limit (Some m) = omega arith
