-- The journal of a studio is put into one header: each image has the project still, and then the studio stands on it.
use Rattle.editor_cleanup.proofs.Common.{◌≡◌, inr, ⊎_elim, refl, sym, ◌∙◌, subst, ℕ, ◌+◌, ◌^◌, ◌≤◌, ◌<◌, Bool, IsTrue}
use Rattle.editor_cleanup.proofs.Common.{IsSome, List, [], ◌∷◌, ◌++◌, length, map, Some, None, arith, length-append}
use Rattle.editor_cleanup.proofs.Common.{rules, AllByRecursion, BlockRef, IsHistory, packed, Files, Changed, upto_refl}
use Rattle.editor_cleanup.proofs.Common.{Ghosts, sources_of, AllWhole, IsWhole, HasLog, IsAt, Log, points_size}
use Rattle.editor_cleanup.proofs.Common.{AreShort, HasEither, MayPack, OnlyJournals, Tells, pack_room, other_file}
use Rattle.editor_cleanup.proofs.Common.{EachSince, form_3, Track, Keeps, point_bytes, IsValidTagged, packed_core}
use Rattle.editor_cleanup.proofs.Common.{packed_log, packed_size, packed_text, points_in, IsDurable, IsGiven, IsHeld}
use Rattle.editor_cleanup.proofs.Common.{IsStudio, SameBlocks, clip_blocks, named_blocks, shown, studio_by, studio_of}
use Rattle.editor_cleanup.proofs.Common.{Core, form_at, covers_kept, form_few, keeps_by, shown_is, all_both}
use Rattle.editor_cleanup.proofs.Common.{same_studio, all_whole, trans_same}
use Rattle.std.proofs.Common.{◌-◌}
use Rattle.std.proofs.lemmas.List.{length-map}
use Rattle.project_journal.specs.Packing.{IsText}
use Rattle.project_journal.specs.{Header.IsBase}
use Rattle.project_journal.proofs.{Parses.form_known, Texts.text_is}
use Rattle.project_state.specs.Numbers.{AreUnnumbered, unnumbered}
use Rattle.project_state.specs.{Meaning.history_blocks}
use Rattle.record_body.specs.Saved.{Begins, BeginsBy, IsHeaderBase, Saved}
use Rattle.record_body.proofs.Unnumbered.{are_unnumbered, history_blocks_alike, history_meant_alike, point_alike}
use Rattle.record_body.proofs.Unnumbered.{valid_alike}
use Rattle.editor_state.specs.Packing.{packed_base}
use Rattle.editor_state.specs.Studios.{pin_blocks}
use Rattle.editor_state.specs.{Spent.saved_of}
use Rattle.editor_state.proofs.{Lists.all_left, Lists.all_so, SameStudios.studio_over}
use Rattle.editor_cleanup.proofs.HeaderPoints.{length_rows}

-- ---- the text

-- a header that has a point begins by its points
begins_by : (points : List (List ℕ)) (log : Log) (base : Saved) → 0 < length points → IsHeaderBase log base
    → BeginsBy points log base
begins_by [] log base some told = absurd (omega (arith, some))
begins_by (p ∷ ps) log base some told = told

abbrev plain_point : List Track × ℕ → List Track × ℕ
plain_point p = (map unnumbered p.0, p.1)

points_alike : (ps : List (List Track × ℕ)) → map point_bytes ps ≡ map point_bytes (map plain_point ps)
points_alike [] = refl
points_alike (p ∷ ps) = search (rules, point_alike, points_alike ps)

points_valid : (m block track commit : ℕ) (ps : List (List Track × ℕ))
    → AllByRecursion (IsValidTagged m block track commit) ps
    → AllByRecursion (IsValidTagged m block track commit) (map plain_point ps)
points_valid m block track commit [] all = tt
points_valid m block track commit (p ∷ ps) all = search (rules, valid_alike, points_valid m block track commit ps all.1)

points_plain : (ps : List (List Track × ℕ))
    → AllByRecursion (λ (p : List Track × ℕ). AreUnnumbered p.0) (map plain_point ps)
points_plain [] = tt
points_plain (p ∷ ps) = (are_unnumbered p.0, points_plain ps)

-- each point has a tag and a count of tracks
points_least : (ps : List (List Track × ℕ)) → 0 < length ps → 16 ≤ points_size (map point_bytes ps)
points_least [] some = absurd (omega (arith, some))
points_least (p ∷ ps) some = omega arith

module _ {D : Type 0} (disk : Ghosts D) (s : Core D) (is : IsStudio disk s) (later : s.generation < 2 ^ 62)
    (history : IsHistory s.history) where
  some : 0 < length s.history.points
  some = omega (arith, history.current)

  pub size_least : 81 ≤ packed_size s
  size_least = omega (arith, points_least s.history.points some)

  base_is : IsBase s.history.depth (packed_base s)
  base_is = search rules

  -- the text is that of a journal that begins with the history
  pub text_spells : s.rate < 2 ^ 32 → AreShort (points_in s.history) → IsText (packed_text s) (packed_log s)
  text_spells rate short = search (rules, text_is, base_is, length-map)

  pub text_begins : Begins (packed_log s) (saved_of s)
  text_begins = search (rules, length-map, begins_by, points_alike, points_valid, points_plain)

pub text_size : {D : Type 0} (s : Core D) → 1 + length (packed_text s) ≡ packed_size s
text_size s = search (rules, length-append, length_rows)

-- ---- the files of blocks stay

only_blocks : (file : ℕ) (d c : Files) (next : ℕ) (bs : List BlockRef) → file ≤ 1 → OnlyJournals file d c
    → AllByRecursion (λ (b : BlockRef). IsGiven next b.id) bs → SameBlocks bs d c
only_blocks file d c next bs few only = search (rules, all_so)

module _ {D : Type 0} (disk : Ghosts D) (s : Core D) (is : IsStudio disk s) (going : s.stopped ≡ None) (store : D)
    (len : ℕ) (changed : Changed disk (OnlyJournals s.file) (pack_room len) s.store store) where
  blocks_same : (d c : Files) → OnlyJournals s.file d c → SameBlocks (named_blocks s) d c
  blocks_same d c only = only_blocks s.file d c s.next_block (named_blocks s) is.journal.among only is.ids

  still_same : IsTrue (disk.tells s.store) → SameBlocks (named_blocks s) (disk.reads s.store) (disk.reads store)
  still_same told = blocks_same (disk.reads s.store) (disk.reads store) (changed.reads told)

  pub still_whole : IsHeld disk s → AllWhole (disk.reads store) (named_blocks s)
  still_whole held = search (rules, all_whole, still_same)

  pub still_tells : IsHeld disk s → IsTrue (disk.tells store)
  still_tells held = subst IsTrue (sym changed.tells) held.tells

  -- what it stands for is the same
  pub still_means : IsTrue (disk.tells s.store) → studio_by (sources_of (disk.reads store)) disk s ≡ studio_of disk s
  still_means told = same_studio (disk.reads s.store) (disk.reads store) disk s (still_same told)

  -- ---- it stops

  pub halted_studio : (faults : ℕ) → IsStudio disk (record s { store = store; stopped = Some faults })
  halted_studio faults = studio_over disk s is store (Some faults)

  pub halted_held : (faults : ℕ) → IsHeld disk s → IsHeld disk (record s { store = store; stopped = Some faults })
  halted_held faults held = search (rules, still_tells, still_whole)

  -- ---- at each moment

  module _ (later : s.generation < 2 ^ 62) (history : IsHistory s.history) (rate : s.rate < 2 ^ 32)
      (short : AreShort (points_in s.history)) (there : Bool)
      (other : IsTrue (disk.tells s.store) → Tells there (other_file s.file) (disk.reads s.store)) where
    pub may_pack : (held : IsHeld disk s)
        → MayPack disk s.store s.file there (packed_text s) (form_at s) (held.durable going).log (packed_log s)
    may_pack held =
        let d = held.durable going in
        let generation = d.generation in record {
          tells = held.tells;
          known = form_known s.version s.file;
          same = refl;
          at = s.journal_end;
          here = d.there;
          other = other held.tells;
          spells = text_spells disk s is later history rate short;
          later = omega (arith, generation);
        }

    pub keeps_packing : (held : IsHeld disk s)
        → EachSince disk s.store store (HasEither (form_at s) (held.durable going).log (packed_log s))
        → EachSince disk s.store store (λ c. Keeps c (shown (studio_of disk s)))
    keeps_packing held either c since =
        let d = held.durable going in
        let files = disk.reads s.store in
        let from = changed.images.from c since in
        let same = trans_same files from.0 c (named_blocks s) (d.blocks from.0 from.1) (blocks_same from.0 c from.2) in
        ⊎_elim
        (λ (has : HasLog (form_at s) d.log c).
        subst (Keeps c) (shown_is disk s d)
        (keeps_by (form_at s) d.log d.base d.kept files c (form_few s is.journal.among) has d.begins d.told
        (covers_kept disk s d (λ b. c b.id ≡ files b.id) same) (covers_kept disk s d (IsWhole files) held.whole)))
        (λ (has : HasLog (form_3 (other_file s.file)) (packed_log s) c).
        let rest = pin_blocks s.pins ++ clip_blocks s.clipboard in
        let alike = sym (history_blocks_alike s.history) in
        subst (Keeps c) (λ i. record {
          rate = s.rate;
          block_size = s.block_size;
          history = history_meant_alike (sources_of files) s.history i;
          next_track = s.next_track;
          commit = s.commit_number;
        })
        (keeps_by (form_3 (other_file s.file)) (packed_log s) (saved_of s) (saved_of s) files c
        (record { known = inr (inr refl); few = omega arith }) has (text_begins disk s is later history) refl
        (subst (AllByRecursion (λ (b : BlockRef). c b.id ≡ files b.id)) alike
        (all_left (λ b. c b.id ≡ files b.id) (history_blocks s.history) rest same))
        (subst (AllByRecursion (IsWhole files)) alike
        (all_left (IsWhole files) (history_blocks s.history) rest held.whole))))
        (either c since)

    -- ---- after it

    abbrev new : Core D
    new = packed_core s store

    pub packed_studio : packed_size s ≤ 2 ^ 62 → IsStudio disk new
    packed_studio most = search (rules, size_least)

    packed_durable : IsTrue (disk.tells s.store)
        → IsAt (form_3 (other_file s.file)) disk store (length (packed_text s)) (packed_log s)
        → IsDurable disk s → IsDurable disk new
    packed_durable told at d =
        let files = disk.reads s.store in
        let place : length (packed_text s) ≡ packed_size s - 1 = omega (arith, text_size s) in record {
          log = packed_log s;
          base = saved_of s;
          kept = saved_of s;
          there = subst (λ (n : ℕ). IsAt (form_3 (other_file s.file)) disk store n (packed_log s)) place at;
          generation = refl;
          begins = text_begins disk s is later history;
          told = refl;
          rate = refl;
          block_size = refl;
          history = refl;
          next_block = omega arith;
          next_track = refl;
          commit = refl;
          blocks = λ c now.
              let images = changed.images in
              let from = images.from c (images.fewer (disk.clock s.store) (disk.clock store) c images.later
              (upto_refl (disk.clock store)) now) in
              let same = trans_same files from.0 c (named_blocks s) (d.blocks from.0 from.1)
              (blocks_same from.0 c from.2) in
              all_both (λ b. c b.id ≡ files b.id) (λ b. disk.reads store b.id ≡ files b.id) (λ b. c b.id
              ≡ disk.reads store b.id) (λ b one two. one ∙ sym two) (named_blocks s) same (still_same told);
          files = λ id least most.
              let same : disk.reads store id ≡ files id = changed.reads told id
              (λ e. absurd (omega (arith, e, least, is.journal.among))) (λ e. absurd (omega (arith, e, least))) in (
                (λ counted. subst IsSome (sym same) ((d.files id least most).0 counted)),
                (λ here. (d.files id least most).1 (subst IsSome same here)),
              );
        }

    pub packed_held : (IsHeld disk s
        → IsAt (form_3 (other_file s.file)) disk store (length (packed_text s)) (packed_log s))
        → IsHeld disk s → IsHeld disk new
    packed_held at held = search (rules, still_tells, still_whole, packed_durable, held.durable)

    pub packed_state : disk.read_fault_count store ≡ disk.read_fault_count s.store
        → disk.change_fault_count store ≡ disk.change_fault_count s.store → IsTrue (disk.tells s.store)
        → studio_of disk new ≡ packed (packed_size s) (studio_of disk s)
    packed_state reads changes told = λ i. record (packed (packed_size s) (still_means told i)) {
      read_faults = reads i;
      change_faults = changes i;
    }
