-- Files of blocks that nothing names go, and the studio stays what it was.
use Rattle.editor_cleanup.proofs.Common.{◌≡◌, ◌⊎◌, inl, inr, ⊎_elim, refl, sym, ◌∙◌, subst, ℕ, ◌<◌, IsTrue, IsSome}
use Rattle.editor_cleanup.proofs.Common.{List, [], ◌∷◌, Option, Some, None, arith, rules, cases_eq, Contains, BlockRef}
use Rattle.editor_cleanup.proofs.Common.{Files, Changed, upto_refl, Room, Ghosts, sources_of, IsWhole, AllWhole, Counts}
use Rattle.editor_cleanup.proofs.Common.{occurrences, EachSince, HasLog, Keeps, AllPass, IsGiven, is_given, SameBlocks}
use Rattle.editor_cleanup.proofs.Common.{IsDurable, IsHeld, IsStudio, shown, studio_by, studio_of, named_blocks}
use Rattle.editor_cleanup.proofs.Common.{clip_blocks, Core, form_at, times_named, Forgets, Removes, FreesFiles}
use Rattle.editor_cleanup.proofs.Common.{form_few, keeps_by, shown_is, covers_kept, free_named, all_both, same_studio}
use Rattle.editor_cleanup.proofs.Common.{all_whole, trans_same}
use Rattle.std.proofs.Common.{◌↔◌}
use Rattle.block_ledger.proofs.Times.{times_here, times_other}
use Rattle.project_journal.proofs.Kept.{SameJournals, is_at_still, each_since}
use Rattle.block_cache.specs.Caches.{Entries}
use Rattle.layout_uses.specs.Tallies.{AreCounts}
use Rattle.editor_state.specs.Studios.{ids_of, studio_tracks}
use Rattle.editor_state.proofs.{SameStudios.durable_so, SameStudios.studio_with}
use Rattle.editor_cleanup.proofs.FreeIds.{is_among}

-- files of ids that come among blocks are the same
same_named : (bs : List BlockRef) (files other : Files) → ((id : ℕ) → 0 < times_named id bs → other id ≡ files id)
    → SameBlocks bs files other
same_named [] files other same = tt
same_named (b ∷ bs) files other same = (
  same b.id (omega (arith, times_here b.id b.id (ids_of bs) refl)),
  same_named bs files other (λ id some. same id (more id some (cases_eq b.id id))),
)
  where
    more : (id : ℕ) → 0 < times_named id bs → (b.id ≡ id) ⊎ (b.id ≡ id → ⊥) → 0 < times_named id (b ∷ bs)
    more id some = ⊎_elim
        (λ is. omega (arith, times_here id b.id (ids_of bs) is))
        (λ other. omega (arith, some, times_other id b.id (ids_of bs) other))

none_some : (o : Option ℕ) → o ≡ None → IsSome o → ⊥
none_some None e h = absurd (cc h)
none_some (Some n) e h = absurd (cc e)

none_file : (o : Option (List ℕ)) → o ≡ None → IsSome o → ⊥
none_file None e h = absurd (cc h)
none_file (Some n) e h = absurd (cc e)

module _ {D : Type 0} (disk : Ghosts D) (s : Core D) (is : IsStudio disk s) (much : Room) (store : D)
    (changed : Changed disk (FreesFiles s.counts) much s.store store) where
  -- ---- the files

  named_same : (d c : Files) → FreesFiles s.counts d c → SameBlocks (named_blocks s) d c
  named_same d c step = same_named (named_blocks s) d c (λ id some. ⊎_elim
      (λ same. same)
      (λ gone. absurd (omega (arith, some, free_named disk s is id gone.0)))
      (step id))

  -- neither file of a journal is a block's
  journal_same : (file : ℕ) (d c : Files) → file < 16 → FreesFiles s.counts d c → c file ≡ d file
  journal_same file d c low step = search rules

  journals_same : (d c : Files) → FreesFiles s.counts d c → SameJournals s.file d c
  journals_same d c step = search (rules, journal_same)

  same_files : IsTrue (disk.tells s.store) → SameBlocks (named_blocks s) (disk.reads s.store) (disk.reads store)
  same_files told = named_same (disk.reads s.store) (disk.reads store) (changed.reads told)

  -- it is whole still
  still_whole : IsHeld disk s → AllWhole (disk.reads store) (named_blocks s)
  still_whole held = search (rules, all_whole, same_files)

  still_tells : IsHeld disk s → IsTrue (disk.tells store)
  still_tells held = subst IsTrue (sym changed.tells) held.tells

  -- what it stands for is the same
  pub same_meaning : IsTrue (disk.tells s.store) → studio_by (sources_of (disk.reads store)) disk s ≡ studio_of disk s
  same_meaning told = same_studio (disk.reads s.store) (disk.reads store) disk s (same_files told)

  -- each image since then keeps the project
  pub keeps_since : s.stopped ≡ None → IsHeld disk s
      → EachSince disk s.store store (λ c. Keeps c (shown (studio_of disk s)))
  keeps_since going held c since =
      let d = held.durable going in
      let files = disk.reads s.store in
      let from = changed.images.from c since in
      let same = trans_same files from.0 c (named_blocks s) (d.blocks from.0 from.1) (named_same from.0 c from.2) in
      let has : HasLog (form_at s) d.log c =
      each_since {form = form_at s} journals_same changed.images d.there c since in
      subst (Keeps c) (shown_is disk s d)
      (keeps_by (form_at s) d.log d.base d.kept files c (form_few s is.journal.among) has d.begins d.told
      (covers_kept disk s d (λ b. c b.id ≡ files b.id) same) (covers_kept disk s d (IsWhole files) held.whole))

  -- ---- the blocks of some of them are forgotten
  module _ (cache : Entries) (counts : Counts) (ids : List ℕ) (gone : Forgets s.counts counts ids) where
    less_counted : (x : ℕ) → Contains ids x ⊎ (Contains ids x → ⊥) → occurrences (counts x)
        ≡ occurrences (s.counts x)
    less_counted x among = search rules

    less_counts : AreCounts (studio_tracks s) (clip_blocks s.clipboard) s.uses counts
    less_counts = record {
      fresh_uses = is.counted.fresh_uses;
      none_free = is.counted.none_free;
      fresh_counts = λ x. less_counted x (is_among ids x) ∙ is.counted.fresh_counts x;
      listed = is.counted.listed;
      no_other = is.counted.no_other;
      singles = is.counted.singles;
    }

    less_given : (x : ℕ) → IsSome (counts x) → Contains ids x ⊎ (Contains ids x → ⊥) → IsGiven s.next_block x
    less_given x some among = search (rules, none_some)

    -- it goes on
    abbrev pub less : Core D
    less = record s { store = store; cache = cache; counts = counts }

    pub less_studio : AllPass (is_given s.next_block) cache → IsStudio disk less
    less_studio = search (rules, studio_with, less_counts, less_given, is_among)

    less_durable : IsTrue (disk.tells s.store) → Removes (disk.reads s.store) (disk.reads store) ids → IsDurable disk s
        → IsDurable disk less
    less_durable told removes d =
        let files = disk.reads s.store in
        durable_so disk s store cache s.stopped s.next_block s.clipboard s.pins s.next_pin s.uses counts d
        (is_at_still {form = form_at s} journals_same
        (journals_same (disk.reads s.store) (disk.reads store) (changed.reads told)) changed.images d.there)
        (omega arith)
        (λ c now.
        let images = changed.images in
        let from = images.from c (images.fewer (disk.clock s.store) (disk.clock store) c images.later
        (upto_refl (disk.clock store)) now) in
        let same = trans_same files from.0 c (named_blocks s) (d.blocks from.0 from.1) (named_same from.0 c from.2) in
        all_both (λ b. c b.id ≡ files b.id) (λ b. disk.reads store b.id ≡ files b.id) (λ b. c b.id
        ≡ disk.reads store b.id) (λ b one two. one ∙ sym two) (named_blocks s) same (same_files told))
        (λ x least most. files_are x (d.files x least most) (is_among ids x))
      where
        files_are : (x : ℕ) → IsSome (s.counts x) ↔ IsSome (disk.reads s.store x)
            → Contains ids x ⊎ (Contains ids x → ⊥) → IsSome (counts x) ↔ IsSome (disk.reads store x)
        files_are x was (inl has) = (
          (λ some. absurd (none_some (counts x) (gone.gone x has) some)),
          (λ there. absurd (none_file (disk.reads store x) (removes.gone x has) there)),
        )
        files_are x was (inr not) = (
          (λ some. subst IsSome (sym (removes.others x not)) (was.0 (subst IsSome (gone.others x not) some))),
          (λ there. subst IsSome (sym (gone.others x not)) (was.1 (subst IsSome (removes.others x not) there))),
        )

    pub less_held : (IsTrue (disk.tells s.store) → Removes (disk.reads s.store) (disk.reads store) ids) → IsHeld disk s
        → IsHeld disk less
    less_held removes held = search (rules, still_tells, still_whole, less_durable, held.durable)

    -- it has stopped
    abbrev pub halted : ℕ → Core D
    halted faults = record s { store = store; cache = cache; counts = counts; stopped = Some faults }

    pub halted_studio : AllPass (is_given s.next_block) cache → (faults : ℕ) → IsStudio disk (halted faults)
    halted_studio pages faults = search (rules, studio_with, less_counts, less_given, is_among)

    pub halted_held : (faults : ℕ) → IsHeld disk s → IsHeld disk (halted faults)
    halted_held faults held = search (rules, still_tells, still_whole)
