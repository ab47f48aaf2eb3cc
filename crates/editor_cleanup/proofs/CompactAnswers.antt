-- What a `compact` answers.
use Rattle.editor_cleanup.proofs.Common.{◌≡◌, inl, inr, refl, sym, ap, ◌∙◌, subst, ℕ, ◌+◌, ◌^◌, ◌≤◌, ◌<◌, Bool, IsTrue}
use Rattle.editor_cleanup.proofs.Common.{List, ◌∷◌, length, Some, None, Result, Ok, Err, arith, rules, Call, Line}
use Rattle.editor_cleanup.proofs.Common.{Refusal, HasCause, Rose, IsHistory, packed, stop_of, Files, Changed, Room}
use Rattle.editor_cleanup.proofs.Common.{Ghosts, Fewer, changed_turn, changed_wider, sources_of, AreShort, HasEither}
use Rattle.editor_cleanup.proofs.Common.{MayPack, OnlyJournals, Tells, pack_room, other_file, EachNow, EachSince}
use Rattle.editor_cleanup.proofs.Common.{form_3, IsAt, Log, Keeps, packed_core, packed_log, packed_size, packed_text}
use Rattle.editor_cleanup.proofs.Common.{points_in, IsHeld, IsStudio, shown, studio_by, studio_of, HasFailed, Core}
use Rattle.editor_cleanup.proofs.Common.{form_at, LeavesOthers, MayRemove, IsQuiet, room_of, no_record, none_given}
use Rattle.editor_cleanup.proofs.Common.{off_untouched, keeps_now, fits, stopped_not}
use Rattle.std.proofs.Common.{OnOk}
use Rattle.pcm_base.specs.{declared.answer.Reply.TheVariants.Packed, declared.command.Command.TheVariants.Compact}
use Rattle.disk_model.specs.{Frames.Kept}
use Rattle.disk_model.proofs.Frames.{tells_back, tells_on, changed_kept}
use Rattle.disk_model.proofs.Moments.{each_on}
use Rattle.project_journal.specs.{Header.Form}
use Rattle.editor_state.specs.{Removals.PacksJournal, Took.Took, Took.quietly}
use Rattle.editor_cleanup.specs.Compacts.{Compacts}
use Rattle.editor_state.proofs.Calls.LookCalls.{keeps_still, looked, looked_failed, looked_held, looked_studio}
use Rattle.editor_state.proofs.Calls.QuietCalls.{quiet_follows, refused_by, refused_stopped, refused_wanting}
use Rattle.editor_state.proofs.Calls.QuietCalls.{tests_then}
use Rattle.editor_state.proofs.Calls.FileRemovals.{ids_same, packs_refused}
use Rattle.editor_state.proofs.{Refusals.CommitTests.spends, Blocks.CachePages.reads_none}
use Rattle.editor_cleanup.proofs.HeaderJournal.{halted_held, halted_studio, keeps_packing, may_pack, packed_held}
use Rattle.editor_cleanup.proofs.HeaderJournal.{packed_state, packed_studio, size_least, still_means, text_size}
use Rattle.editor_cleanup.proofs.ReclaimAnswers.{some_none}
use Rattle.pcm_base.specs.declared.refusal.Refusal.TheVariants as refusal
use Rattle.pcm_base.specs.Studio as model
use Rattle.block_store.specs.declared.fault.BlockFault.TheVariants as fault

abbrev pub call : Call
call = Line Compact

pub quiet : IsQuiet call
quiet = search rules

-- What the journal's own call does with this text, over these stores: its clauses.
pub record Packs {D T E : Type 0} (disk : Ghosts D) (file : ℕ) (there : Bool) (old new : D) (text : List ℕ)
    (result : Result T E) : Type 0 where
  pub any_moment : (form : Form) (log into : Log) → MayPack disk old file there text form log into
      → EachSince disk old new (HasEither form log into)
  pub done : (form : Form) (log into : Log) → MayPack disk old file there text form log into
      → OnOk result (IsAt (form_3 (other_file file)) disk new (length text) into)
  pub alone : IsTrue (disk.tells old) → Tells there (other_file file) (disk.reads old)
      → OnOk result (disk.reads new (other_file file) ≡ Some (1 ∷ text))
  pub gone : IsTrue (disk.tells old) → OnOk result (disk.reads new file ≡ None)
  pub durable : OnOk result (EachNow disk new (λ c. c file ≡ disk.reads new file))
  pub one : OnOk result ((c d : Files) → disk.may_leave new (disk.clock new) c
      → disk.may_leave new (disk.clock new) d → c (other_file file) ≡ d (other_file file))
  pub changed : Changed disk (OnlyJournals file) (pack_room (length text)) old new
  pub faults : HasCause (disk.change_fault_count old) (disk.change_fault_count new) result
  pub read_faults : disk.read_fault_count new ≡ disk.read_fault_count old

-- only the files of journals change
only_others : (file first last : ℕ) (MayGo : ℕ → Type 0) → file ≤ 1 → (d c : Files) → OnlyJournals file d c
    → LeavesOthers first last MayGo d c
only_others file first last MayGo few d c only = search rules

module _ {D : Type 0} (disk : Ghosts D) (old : Core D) (is : IsStudio disk old) (fewer : Fewer disk old.store) where
  abbrev t : model.Studio
  t = studio_of disk old

  -- ---- nothing was asked of the disk

  refused : (why : Refusal) → Took disk old (quietly call (Err why)) old → Compacts disk old (Err why) old
  refused why took = search rules

  pub compact_stopped : (faults : ℕ) → old.stopped ≡ Some faults
      → Compacts disk old (Err (refusal.Stopped faults)) old
  compact_stopped faults stopped = search (rules, refused, refused_stopped, quiet)

  pub compact_wanting : Compacts disk old (Err refusal.NoMemory) old
  compact_wanting = refused refusal.NoMemory (refused_wanting disk old call quiet tt is fewer)

  module _ (going : old.stopped ≡ None) where
    -- no generation is left
    pub compact_spent : old.generation ≡ 2 ^ 62 → Compacts disk old (Err (refusal.SpaceSpent (2 ^ 62) 1)) old
    compact_spent spent =
        let why = refusal.SpaceSpent (2 ^ 62) 1 in
        let pin = fits old.next_pin 0 (omega (arith, is.counters.pin_most)) in
        let last = spends old.generation 1 (omega (arith, spent))
        ∙ ap (λ (n : ℕ). Some (refusal.SpaceSpent n 1)) spent in
        refused why (refused_by disk old call quiet tt is fewer why
        (tests_then t call quiet (room_of disk old call is) (Some why) last (ap stop_of going) refl pin)
        (inl (inr (inr (inr (inl last))))))

    -- ---- the disk was asked whether the other file is there

    module _ (store : D) (kept : Kept disk old.store store) where
      abbrev mid : Core D
      mid = looked disk old is store kept old.cache (reads_none disk old)

      mid_studio : IsStudio disk mid
      mid_studio = looked_studio disk old is store kept old.cache (reads_none disk old)

      mid_held : IsHeld disk old → IsHeld disk mid
      mid_held = looked_held disk old is store kept old.cache (reads_none disk old)

      pub compact_unread : Rose (disk.read_fault_count old.store) (disk.read_fault_count store)
          → disk.read_fault_count old.store ≤ disk.read_fault_count store
          → Compacts disk old (Err refusal.DiskFault) mid
      compact_unread rose later =
          let took : Took disk old (quietly call (Err refusal.DiskFault)) mid =
          looked_failed disk old is store kept old.cache (reads_none disk old) call quiet tt going refl fault.DiskFault
          (rose, later) (λ told. tt) in record {
            took = took;
            any_moment = λ on held. took.refused on held on;
          }

      -- ---- and then changed

      module _ {T E : Type 0} (reads : disk.read_fault_count store ≡ disk.read_fault_count old.store) (there : Bool)
          (other : IsTrue (disk.tells old.store) → Tells there (other_file old.file) (disk.reads old.store))
          (later : old.generation < 2 ^ 62) (history : IsHistory old.history) (rate : old.rate < 2 ^ 32)
          (short : AreShort (points_in old.history)) (most : packed_size old ≤ 2 ^ 62) (new : D) (result : Result T E)
          (packs : Packs disk old.file there store new (packed_text old) result) where
        changed : Changed disk (OnlyJournals old.file) (pack_room (length (packed_text old))) store new
        changed = packs.changed

        other_mid : IsTrue (disk.tells store) → Tells there (other_file old.file) (disk.reads store)
        other_mid told = subst (Tells there (other_file old.file)) (sym kept.same_reads) (other (tells_back kept told))

        mid_shown : shown (studio_of disk mid) ≡ shown t
        mid_shown = λ i. shown (studio_by (sources_of (kept.same_reads i)) disk old)

        -- each image has the project of before
        keeps_since : IsHeld disk old → EachSince disk old.store new (λ c. Keeps c (shown t))
        keeps_since held =
            let at = mid_held held in
            each_on (λ c. Keeps c (shown t)) (disk.clock old.store) changed.images kept.same_images.later
            (keeps_still disk old is store kept old.cache (reads_none disk old) going held)
            (λ c since. subst (Keeps c) mid_shown
            (keeps_packing disk mid mid_studio going new (length (packed_text old)) changed later history rate short
            there other_mid at
            (packs.any_moment (form_at mid) (at.durable going).log (packed_log old)
            (may_pack disk mid mid_studio going new (length (packed_text old)) changed later history rate short there
            other_mid at)) c since))

        abbrev much : Room
        much = pack_room (length (packed_text old))

        all_changed : Changed disk (OnlyJournals old.file) much old.store new
        all_changed =
            changed_turn {step = OnlyJournals old.file} {after = OnlyJournals old.file} {both = OnlyJournals old.file}
            {one = record { files = 0; bytes = 0; calls = 0 }} {two = much} {much = much}
            (λ d c only. only)
            (λ d e c one two n here there. two n here there ∙ one n here there)
            (record { files = omega arith; bytes = omega arith; calls = omega arith })
            (changed_kept (λ c n here there. refl) kept) changed

        means : IsTrue (disk.tells old.store) → studio_by (sources_of (disk.reads new)) disk old ≡ t
        means told = still_means disk old is going new (length (packed_text old)) all_changed told

        -- ---- a change failed

        module _ (rose : Rose (disk.change_fault_count store) (disk.change_fault_count new))
            (more : disk.change_fault_count store ≤ disk.change_fault_count new) where
          abbrev halt : ℕ
          halt = model.fault_sum (disk.read_fault_count new) (disk.change_fault_count new)

          abbrev halted : Core D
          halted = record old { store = new; stopped = Some halt }

          failed : HasFailed disk old.store new
          failed = search (rules, kept.same_faults)

          pub compact_failed : Compacts disk old (Err refusal.DiskFault) halted
          compact_failed =
              let u = studio_of disk halted in
              let blocks : t.next_block ≡ t.next_block + 0 = omega arith in
              let still : IsTrue (disk.tells old.store) → u ≡ record t {
                stopped = u.stopped;
                next_block = t.next_block + 0;
                read_faults = u.read_faults;
                change_faults = u.change_faults;
              } =
              (λ told. λ i. record (means told i) {
                stopped = Some halt;
                next_block = blocks i;
                read_faults = u.read_faults;
                change_faults = u.change_faults;
              }) in
              let size = text_size old in record {
                took = record {
                  studio = halted_studio disk old is going new (length (packed_text old)) all_changed halt;
                  held = halted_held disk old is going new (length (packed_text old)) all_changed halt;
                  step = λ on. inr (inr (record {
                    breaks = record {
                      going = going;
                      blocks = 0;
                      len = 0;
                      needs = quiet.needs t;
                      room = omega (arith, is.counters.block_most);
                      is = still on.tells;
                      leaves = refl;
                    };
                    cause = inr (
                      refl,
                      record {
                        stopped = refl;
                        rose = failed.rose;
                        later = failed.later;
                        reads = packs.read_faults ∙ reads;
                      },
                    );
                  }));
                  any_moment = λ _ on c since. inl (keeps_since on c since);
                  refused = λ _ on unstopped c since. keeps_since on c since;
                  now = λ unstopped. absurd (some_none halted.stopped halt refl unstopped);
                  number = refl;
                  rests = λ some. absurd (stopped_not old.stopped some going);
                  len = 0;
                  needs = λ on. (0, quiet.needs t);
                  records = no_record old (Err refusal.DiskFault) halted;
                  given = tt;
                  needed = tt;
                  changed = changed_wider
                      (only_others old.file old.next_block old.next_block (MayRemove call old.counts) is.journal.among)
                      (record { files = omega arith; bytes = omega (arith, size); calls = omega arith }) all_changed;
                  frees = (refl, packs_refused disk old refusal.DiskFault halted);
                  ids = ids_same old halted refl refl;
                  purges = tt;
                  untouched = off_untouched disk old.store new refusal.DiskFault refl;
                  stops = inr (refl, failed, refl);
                  left = record { same = refl; so = inr failed };
                };
                any_moment = λ _ on. keeps_since on;
              }

        -- ---- the journal is one header

        module _ (changes : disk.change_fault_count new ≡ disk.change_fault_count store)
            (done : (form : Form) (log into : Log)
            → MayPack disk store old.file there (packed_text old) form log into
            → IsAt (form_3 (other_file old.file)) disk new (length (packed_text old)) into)
            (alone : IsTrue (disk.tells store) → Tells there (other_file old.file) (disk.reads store)
            → disk.reads new (other_file old.file) ≡ Some (1 ∷ packed_text old))
            (gone : IsTrue (disk.tells store) → disk.reads new old.file ≡ None)
            (durable : EachNow disk new (λ c. c old.file ≡ disk.reads new old.file))
            (one : (c d : Files) → disk.may_leave new (disk.clock new) c → disk.may_leave new (disk.clock new) d
            → c (other_file old.file) ≡ d (other_file old.file))
            (stays : IsTrue (disk.keeps_model new)
            → IsTrue (disk.tells new) × disk.may_leave new (disk.clock new) (disk.reads new)) where
          abbrev after : Core D
          after = packed_core old new

          still_told : IsTrue (disk.tells old.store) → IsTrue (disk.tells store)
          still_told told = tells_on kept told

          after_studio : IsStudio disk after
          after_studio = search (rules, packed_studio, all_changed)

          after_held : IsHeld disk old → IsHeld disk after
          after_held =
              packed_held disk old is going new (length (packed_text old)) all_changed later history rate short there
              other
              (λ on.
              let at = mid_held on in
              done (form_at mid) (at.durable going).log (packed_log old)
              (may_pack disk mid mid_studio going new (length (packed_text old)) changed later history rate short there
              other_mid at))

          after_state : IsTrue (disk.tells old.store) → studio_of disk after ≡ packed (packed_size old) t
          after_state =
              packed_state disk old is going new (length (packed_text old)) all_changed later history rate short there
              other (packs.read_faults ∙ reads) (changes ∙ kept.same_faults)

          -- what it leaves of the journal's files
          packs_so : (bytes : ℕ) → bytes ≡ length (packed_text old) + 1
              → PacksJournal disk old (Ok (Packed bytes)) after
          packs_so bytes answer = search (rules, still_told, other_mid)

          pub compact_done : (bytes : ℕ) → bytes ≡ length (packed_text old) + 1 → Compacts disk old (Ok bytes) after
          compact_done bytes answer =
              let size = text_size old in
              let bytes_are : bytes ≡ packed_size old = omega (arith, answer, size) in
              let least = size_least disk old is later history in
              let pin = fits old.next_pin 0 (omega (arith, is.counters.pin_most)) in
              let follows = quiet_follows t call quiet (room_of disk old call is) in
              let passed = tests_then t call quiet (room_of disk old call is) None
              (fits old.generation 1 (omega (arith, later))) (ap stop_of going) refl pin in record {
                took = record {
                  studio = after_studio;
                  held = after_held;
                  step = λ on. record {
                    blocks = 0;
                    len = 0;
                    layout = t.next_layout;
                    needs = quiet.needs t;
                    passed = passed;
                    draws = (omega arith, omega arith);
                    answers = (bytes, refl, omega (arith, bytes_are, least), omega (arith, bytes_are, most));
                    is = after_state on.tells
                        ∙ (λ i. packed (sym bytes_are i) (sym follows i));
                    heard = refl;
                  };
                  any_moment = λ _ on c since. inl (keeps_since on c since);
                  refused = λ _ on still. tt;
                  now = λ still on c here. keeps_now disk after after_studio.journal.among still (after_held on) c here;
                  number = omega arith;
                  rests = λ some. absurd (stopped_not old.stopped some going);
                  len = 0;
                  needs = λ on. (0, quiet.needs t);
                  records = no_record old (Ok (Packed bytes)) after;
                  given = none_given (Ok (Packed bytes)) old after refl;
                  needed = tt;
                  changed = changed_wider
                      (only_others old.file old.next_block old.next_block (MayRemove call old.counts) is.journal.among)
                      (record { files = omega arith; bytes = omega (arith, size); calls = omega arith }) all_changed;
                  frees = (refl, packs_so bytes answer);
                  ids = ids_same old after refl refl;
                  purges = tt;
                  untouched = tt;
                  stops = inl (refl, changes ∙ kept.same_faults);
                  left = tt;
                };
                any_moment = λ _ on. keeps_since on;
              }
