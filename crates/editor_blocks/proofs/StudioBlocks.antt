-- A studio whose new blocks are made is a studio, and what it stands for is as before.
use Rattle.editor_blocks.proofs.Common.{rules, ℤ, ◌≡◌, inl, inr, ⊎_elim, refl, sym, subst, ℕ, zero, suc, ◌+◌, ◌^◌, ◌≤◌}
use Rattle.editor_blocks.proofs.Common.{◌<◌, IsSome, Option, None, List, [], ◌∷◌, length, map, take, arith, cases_lt}
use Rattle.editor_blocks.proofs.Common.{AllByRecursion, BlockRef, upto_refl, Files, Ghosts, IsWhole, Counts, EachNow}
use Rattle.editor_blocks.proofs.Common.{EachSince, NewBlock, AreNew, ref_of, Track, Keeps, all_so, same_studio}
use Rattle.editor_blocks.proofs.Common.{AreAbsent, AreMade, PiecesThere, SameOutside, batch_of, ids_from, IsGiven}
use Rattle.editor_blocks.proofs.Common.{IsHeld, IsStudio, named_blocks, shown, studio_of, Core, AddsFree, Making}
use Rattle.disk_model.specs.{Disk.Follows}
use Rattle.project_journal.proofs.Kept.{SameJournals, each_since, is_at_still}
use Rattle.block_writer.proofs.MadeLaws.{file_of_block}
use Rattle.record_body.specs.{SavedValid.IsValidPoint}
use Rattle.record_body.proofs.SavedBounds.{tagged_more}
use Rattle.editor_state.proofs.SameStudios.{durable_so}
use Rattle.editor_state.proofs.Images.ImageProjects.{form_few, keeps_by, shown_is, covers_kept}
use Rattle.editor_state.proofs.Blocks.BlockSounds.{all_whole, trans_same}
use Rattle.editor_state.proofs.{Blocks.CachePages.pages_by_blocks}
use Rattle.editor_state.specs.Studios.{SameBlocks, IsDurable}
use Rattle.editor_state.specs.{Core.form_at}
use Rattle.editor_blocks.proofs.NextBlock.{none_where}

-- ---- the references to new blocks

abbrev pub refs : List NewBlock → List BlockRef
refs bs = map ref_of bs

-- an id of the new ones
abbrev pub IsNewId : ℕ → ℕ → ℕ → Type 0
IsNewId next n id = (next ≤ id) × (id < next + n)

pub refs_ids : (m next : ℕ) (bs : List NewBlock) → AreNew m next bs
    → AllByRecursion (λ (b : BlockRef). IsNewId next (length bs) b.id) (refs bs)
refs_ids m next [] fresh = tt
refs_ids m next (b ∷ bs) fresh = search (rules, all_so, refs_ids m (next + 1) bs fresh.5)

pub refs_all : (P : BlockRef → Type 0) (bs : List NewBlock) → AllByRecursion (λ b. P (ref_of b)) bs
    → AllByRecursion P (refs bs)
refs_all P [] h = tt
refs_all P (b ∷ bs) h = (h.0, refs_all P bs h.1)

some_file : (files : Files) (b : BlockRef) → IsWhole files b → IsSome (files b.id)
some_file files b h = subst IsSome (sym (file_of_block files b.id h.0 h.1)) refl

-- the files of the first new blocks are there
made_there : (m next n : ℕ) (bs : List NewBlock) (files : Files) → n ≤ length bs → AreNew m next bs
    → AllByRecursion (λ b. IsWhole files (ref_of b)) (take n bs)
    → (id : ℕ) → next ≤ id → id < next + n → IsSome (files id)
made_there m next zero bs files few fresh whole id low high = absurd (omega (arith, low, high))
made_there m next (suc n) [] files few fresh whole id low high = absurd (omega (arith, few))
made_there m next (suc n) (b ∷ bs) files few fresh whole id low high = ⊎_elim
    (λ first.
    let at : b.id ≡ id = omega (arith, fresh.0, low, first) in
    subst (λ (k : ℕ). IsSome (files k)) at (some_file files (ref_of b) whole.0))
    (λ later. made_there m (next + 1) n bs files (omega (arith, few)) fresh.5 whole.1 id later (omega (arith, high)))
    (cases_lt id (next + 1))

-- ---- blocks below the next one

-- ids and points that were given stay given
pub point_more : (m block track block' track' : ℕ) (p : List Track) → block ≤ block' → track ≤ track'
    → IsValidPoint m block track p → IsValidPoint m block' track' p
point_more m block track block' track' p le le' h =
    (tagged_more m block track 0 block' track' 0 (p, 0) le le' (omega arith) (h, omega arith)).0

pub below_same : (next n : ℕ) (bs : List BlockRef) (old new : Files)
    → AllByRecursion (λ (b : BlockRef). IsGiven next b.id) bs → SameOutside next n old new
    → SameBlocks bs old new
below_same next n bs old new ids same = search (rules, all_so, inl)

same_back : (bs : List BlockRef) (old new : Files) → SameBlocks bs old new → SameBlocks bs new old
same_back bs old new = all_so (λ b. new b.id ≡ old b.id) (λ b. old b.id ≡ new b.id) (λ b e. sym e) bs

journals_same : (file next n : ℕ) → file ≤ 1 → 16 ≤ next → (d c : Files) → SameOutside next n d c
    → SameJournals file d c
journals_same file next n few least d c same = search (rules, inl)

module _ {D : Type 0} (disk : Ghosts D) (s : Core D) (is : IsStudio disk s) where
  abbrev bs : List BlockRef
  bs = named_blocks s

  -- the files from the next block on are absent
  pub absent : (n : ℕ) → s.stopped ≡ None → IsHeld disk s → s.next_block + n ≤ 2 ^ 62
      → AreAbsent s.next_block n (disk.reads s.store)
  absent n going held most f low high = search (rules, none_where)

  -- while new blocks are made each image has the project of before
  pub keeps_outside : (n : ℕ) (store : D) → s.stopped ≡ None → IsHeld disk s
      → Follows (SameOutside s.next_block n) (disk.clock s.store) (disk.clock store) (disk.may_leave s.store)
      (disk.may_leave store)
      → EachSince disk s.store store (λ c. Keeps c (shown (studio_of disk s)))
  keeps_outside n store going held follows c since =
      let d = held.durable going in
      let reads = disk.reads s.store in
      let e = follows.from c since in
      let same = trans_same reads e.0 c bs (d.blocks e.0 e.1) (below_same s.next_block n bs e.0 c is.ids e.2) in
      let has = each_since {form = form_at s}
      (journals_same s.file s.next_block n is.journal.among is.counters.block_least) follows d.there c since in
      subst (Keeps c) (shown_is disk s d)
      (keeps_by (form_at s) d.log d.base d.kept reads c (form_few s is.journal.among) has d.begins d.told
      (covers_kept disk s d (λ b. c b.id ≡ reads b.id) same)
      (covers_kept disk s d (IsWhole reads) held.whole))

  -- a studio with other files from the next block on
  module _ (store : D) (n : ℕ) (counts : Counts) (stopped : Option ℕ) where
    abbrev later : Core D
    later = record s { store = store; counts = counts; next_block = s.next_block + n; stopped = stopped }

    pub with_store : s.next_block + n ≤ 2 ^ 62 → AddsFree s.next_block n s.counts counts
        → IsStudio disk later
    with_store most free = search (rules, all_so, tagged_more, point_more, pages_by_blocks)

    -- the disk that held it holds it still
    pub with_held : disk.tells store ≡ disk.tells s.store → (k : ℕ)
        → SameOutside s.next_block k (disk.reads s.store) (disk.reads store) → (stopped ≡ None → IsDurable disk later)
        → IsHeld disk s → IsHeld disk later
    with_held tells k same durable held = search (rules, all_whole, below_same)

  module _ (given : ℕ → ℤ) (makes : List NewBlock) (n : ℕ) (mid : Core D)
      (making : Making disk s (batch_of given makes) n mid) (going : s.stopped ≡ None)
      (few : n ≤ length makes) (fresh : AreNew s.block_size s.next_block makes)
      (most : s.next_block + length makes ≤ 2 ^ 62)
      (there : IsHeld disk s → PiecesThere (disk.reads s.store) makes) where
    abbrev reads : Files
    reads = disk.reads s.store

    abbrev now : Files
    now = disk.reads mid.store

    abbrev grown : Core D
    grown = record s { store = mid.store; counts = mid.counts; next_block = s.next_block + n }

    pub are_made : IsHeld disk s → AreMade (batch_of given makes) (ids_from s.next_block n) reads now
    are_made held = making.made held.tells (there held) (absent (length makes) going held most)

    named_same : IsHeld disk s → SameBlocks bs reads now
    named_same held = below_same s.next_block n bs reads now is.ids (are_made held).same

    grown_blocks : IsHeld disk s → EachNow disk mid.store (SameBlocks bs now)
    grown_blocks held c left =
        let d = held.durable going in
        let images = making.changed.images in
        let e = images.from c (images.fewer (disk.clock s.store) (disk.clock mid.store) c images.later
        (upto_refl (disk.clock mid.store)) left) in
        trans_same now reads c bs (same_back bs reads now (named_same held))
        (trans_same reads e.0 c bs (d.blocks e.0 e.1) (below_same s.next_block n bs e.0 c is.ids e.2))

    -- the ledger has the ids of the files
    counts_now : (held : IsHeld disk s) (id : ℕ) → 16 ≤ id → id < 2 ^ 62 → IsSome (mid.counts id) → IsSome (now id)
    counts_now held id least high have =
        let was = (held.durable going).files id least high in
        let made = are_made held in
        ⊎_elim
        (λ o. subst IsSome (sym (made.same id (inl (is.given id o).1))) (was.0 o))
        (λ r. made_there s.block_size s.next_block n makes now few fresh made.whole id r.0 r.1)
        ((making.ledger.ids id).0 have)

    files_now : (held : IsHeld disk s) (id : ℕ) → 16 ≤ id → id < 2 ^ 62 → IsSome (now id) → IsSome (mid.counts id)
    files_now held id least high file =
        let was = (held.durable going).files id least high in
        let made = are_made held in
        ⊎_elim
        (λ low. (making.ledger.ids id).1 (inl (was.1 (subst IsSome (made.same id (inl low)) file))))
        (λ from. ⊎_elim
        (λ under. (making.ledger.ids id).1 (inr (from, under)))
        (λ over.
        let old = was.1 (subst IsSome (made.same id (inr over)) file) in
        absurd (omega (arith, (is.given id old).1, from)))
        (cases_lt id (s.next_block + n)))
        (cases_lt id s.next_block)

    grown_durable : IsHeld disk s → IsDurable disk grown
    grown_durable held =
        let d = held.durable going in
        let least = is.counters.block_least in
        durable_so disk s mid.store s.cache s.stopped (s.next_block + n) s.clipboard s.pins s.next_pin s.uses mid.counts d
        (is_at_still {form = form_at s} (journals_same s.file s.next_block n is.journal.among least)
        (journals_same s.file s.next_block n is.journal.among least (disk.reads s.store) (disk.reads mid.store)
        (are_made held).same)
        making.changed.images d.there)
        (omega arith) (grown_blocks held) (λ id low high. (counts_now held id low high, files_now held id low high))

    grown_studio : IsStudio disk grown
    grown_studio = with_store mid.store n mid.counts s.stopped (omega (arith, most, few)) making.ledger

    grown_held : IsHeld disk s → IsHeld disk grown
    grown_held held =
        with_held mid.store n mid.counts s.stopped making.changed.tells n (are_made held).same
        (λ still. grown_durable held) held

    pub made_studio : IsStudio disk mid
    made_studio = subst (λ (z : Core D). IsStudio disk z) (sym making.is) grown_studio

    pub made_held : IsHeld disk s → IsHeld disk mid
    made_held held = subst (λ (z : Core D). IsHeld disk z) (sym making.is) (grown_held held)

    -- it stands for the same, with the next block's number risen
    pub made_state : IsHeld disk s
        → studio_of disk mid ≡ record (studio_of disk s) {
          next_block = s.next_block + n;
          read_faults = disk.read_fault_count mid.store;
        }
    made_state held = search (rules, same_studio, named_same)
