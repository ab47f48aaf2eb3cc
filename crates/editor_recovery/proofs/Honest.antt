-- What opening an honest disk finds.
use Rattle.editor_recovery.proofs.Common.{◌≡◌, ℕ, ◌≤◌, ◌<◌, ◌^◌, ℤ, ⊎_elim, List, [], ◌∷◌, length, Option, Some}
use Rattle.editor_recovery.proofs.Common.{None, Result, Ok, Err, refl, sym, ap, subst, ◌∙◌, arith, All-from_recursion}
use Rattle.editor_recovery.proofs.Common.{recursion_from_All, All-contains, All-contains_itself, Contains}
use Rattle.editor_recovery.proofs.Common.{IsTrue, AllByRecursion, BlockRef, Files, bytes_of, Follows, StaysStep}
use Rattle.editor_recovery.proofs.Common.{upto_refl, Ghosts, blocks, size_of, sources_of, IsWhole, Form, IsForm}
use Rattle.editor_recovery.proofs.Common.{form_of, Log, HasLog, IsAt, IsRead, Contents, log_of, Damaged}
use Rattle.editor_recovery.proofs.Common.{field, HasBase, whole_log, each_has, picked_once, read_form, Begins, Saved}
use Rattle.editor_recovery.proofs.Common.{LeadIn, Keeps, opened, version_of, history_blocks, all_append}
use Rattle.editor_recovery.proofs.Common.{history_blocks_alike, journal_fault, assembled, Parts, HeaderFault}
use Rattle.editor_recovery.proofs.Common.{RecordFault, SizeFault, IsFound, Opens, OpenFault, Found, found_in}
use Rattle.editor_recovery.proofs.Common.{AllHaveSize, Names, IsHonest, OpensHonest, Stands, JournalFault, Opened, inl}
use Rattle.editor_recovery.proofs.Common.{inr}
use Rattle.std.specs.Prelude.{slice_index_or, unwrap_or, pos}
use Rattle.sample_block.proofs.{BlockLaws.blocks_have, Spellings.spelled_size}
use Rattle.project_journal.specs.{Gate.Each}
use Rattle.project_journal.proofs.AnyFormats.{any_base, any_format}
use Rattle.project_journal.proofs.Found.{form_told, found_header, log_picked}
use Rattle.project_journal.proofs.{Chosen.one_journal}
use Rattle.record_body.proofs.{SavedOnce.begins_once, Leading.lead_once_in}
use Rattle.project_state.proofs.Meanings.{same_meaning, IsSame}
use Rattle.journal_replay.proofs.{HeaderValid.points_valid, Valid.leading_valid_in}
use Rattle.editor_core.specs.{Parts.HasParts}
use Rattle.editor_state.specs.Studios.{SameBlocks, named_blocks}
use Rattle.editor_recovery.specs.Opening.{FirstFault, Finds}
use Rattle.editor_recovery.specs.{Sizes.HasSize}
use Rattle.editor_recovery.proofs.Alone.{none_log, none_some}

-- a whole block's file has its size
pub whole_size : (files : Files) (b : BlockRef) → IsWhole files b → HasSize files b
whole_size files b is =
    let has = blocks_have files b.id is.0 is.1 in
    ap (λ (f : Option (List ℕ)). length (bytes_of f)) has.file ∙ spelled_size b.id is.0 has.bytes has.spelled
    ∙ ap size_of is.2

all_sizes : (files : Files) (bs : List BlockRef) → AllByRecursion (IsWhole files) bs → AllHaveSize files bs
all_sizes files [] all = tt
all_sizes files (b ∷ bs) all = (whole_size files b all.0, all_sizes files bs all.1)

-- a disk has one project at most in its journal
pub record IsOne (f g : Form) (a b : Log) (k l : Saved) : Type 0 where
  pub form : f ≡ g
  pub log : a ≡ b
  pub kept : k ≡ l

pub stands_once : (files : Files) (f g : Form) (a b : Log) (k l : Saved) → Stands files f a k → Stands files g b l
    → IsOne f g a b k l
stands_once files f g a b k l p q =
    let same = one_journal f g a b files p.known q.known p.few q.few p.there q.there in
    let format = any_format g b files q.known q.there in
    let base : p.base ≡ q.base =
    begins_once b format (any_base g b files q.known q.there) p.base q.base (rw same.log at p.begins) q.begins in
    record {
      form = same.form;
      log = same.log;
      kept = lead_once_in (version_of g) b.block_size b.bodies q.base k l format.block_least
          (omega (arith, format.block_most)) (rw (same.form, same.log, base) at p.told) q.told;
    }

pub same_saved : (files : Files) (f g : Form) (a b : Log) (k l : Saved) → Stands files f a k → Stands files g b l → k ≡ l
same_saved files f g a b k l p q = (stands_once files f g a b k l p q).kept

-- A project whose blocks are whole.
pub record KeepsLog (form : Form) (log : Log) (kept : Saved) (files : Files) : Type 0 where
  pub stands : Stands files form log kept
  pub whole : AllByRecursion (IsWhole files) (history_blocks kept.history)

-- what a disk keeps
pub stands_saved : (files : Files) (found : Opened) → (keeps : Keeps files found)
    → Stands files keeps.form keeps.keeps.log keeps.keeps.kept
stands_saved files found keeps = record {
  known = keeps.known;
  few = keeps.few;
  there = keeps.keeps.there;
  base = keeps.keeps.base;
  begins = keeps.keeps.begins;
  told = keeps.keeps.told;
}

-- is what stands in its journal
pub keeps_log : (form : Form) (log : Log) (kept : Saved) (files : Files) (found : Opened)
    → Stands files form log kept → Keeps files found → KeepsLog form log kept files
keeps_log form log kept files found stands keeps = record {
  stands = stands;
  whole = rw (same_saved files keeps.form form keeps.keeps.log log keeps.keeps.kept kept
      (stands_saved files found keeps) stands) at keeps.keeps.whole;
}

-- and back
keeps_as : (form : Form) (log : Log) (kept : Saved) (files : Files) (found : Opened)
    → KeepsLog form log kept files → found ≡ opened log kept files → Keeps files found
keeps_as form log kept files found is same = record {
  form = form;
  known = is.stands.known;
  few = is.stands.few;
  keeps = record {
    log = log;
    base = is.stands.base;
    kept = kept;
    there = is.stands.there;
    begins = is.stands.begins;
    told = is.stands.told;
    whole = is.whole;
    is = same;
  };
}

module _ (files : Files) (form : Form) (log : Log) (kept : Saved) (stands : Stands files form log kept) (file : ℕ)
    (d : Damaged) where
  pub no_header_fault : HeaderFault files file d → ⊥
  no_header_fault =
      found_header form log files (Err (JournalFault.Damaged file d.at d.want d.have)) stands.known stands.few
      stands.there

  -- points and records that lead to a project have no fault
  records_valid : (j : Contents) → IsRead form (bytes_of (files form.file)) j → journal_fault form j ≡ None
  records_valid j is =
      let known = stands.known in
      let whole = whole_log form log files j known stands.there is in
      let format = any_format form log files known stands.there in
      let size : j.block_size ≡ log.block_size = ap (λ (l : Log). l.block_size) whole.says in
      let begins : Begins (log_of j) stands.base =
      subst (λ (l : Log). Begins l stands.base) (sym whole.says) stands.begins in
      let lead : LeadIn (version_of form) (log_of j).block_size stands.base (log_of j).bodies kept =
      subst (λ (l : Log). LeadIn (version_of form) l.block_size stands.base l.bodies kept) (sym whole.says)
      stands.told in
      let least : 4 ≤ j.block_size = omega (arith, size, format.block_least) in
      let most : j.block_size < 2 ^ 32 = omega (arith, size, format.block_most) in
      let points = points_valid form j stands.base least most
      (subst HasBase (sym (ap (λ (l : Log). l.base) whole.says)) (any_base form log files known stands.there)) begins in
      rw (
        points.none,
        rw points.same at
            (leading_valid_in (version_of form) j.block_size stands.base kept j.records least most lead),
      ) whole.early

  pub no_record_fault : RecordFault files file d → ⊥
  no_record_fault f =
      let picked = log_picked form log files stands.known stands.few stands.there in
      let same : f.form ≡ form = sym (read_form f.form (bytes_of (files f.form.file)) f.journal f.known f.read)
      ∙ ap (λ (n : ℕ). form_of (field 5 4 (bytes_of (files n))) n)
      (picked_once f.form.file form.file files f.picked picked) ∙ form_told form log files stands.known stands.there in
      let e : None ≡ Some d = sym (records_valid f.journal (rw same at f.read)) ∙ (rw same at f.first) in
      absurd cc

  no_size_fault : AllByRecursion (IsWhole files) (history_blocks kept.history) → SizeFault files file d → ⊥
  no_size_fault whole f =
      let bs = history_blocks f.kept.history in
      f.first.wrong (All-contains (HasSize files) bs f.block (All-from_recursion (HasSize files) bs (all_sizes files bs
      (rw (same_saved files form f.form log f.log kept f.kept stands f.stands) at whole))) f.first.named)

-- a disk that keeps a project has no fault
pub no_fault : (files : Files) (found : Opened) (file : ℕ) (d : Damaged) → Keeps files found
    → FirstFault files file d → ⊥
no_fault files found file d keeps f =
    let form = keeps.form in
    let log = keeps.keeps.log in
    let kept = keeps.keeps.kept in
    let stands = stands_saved files found keeps in
    ⊎_elim (no_header_fault files form log kept stands file d) (⊎_elim
    (no_record_fault files form log kept stands file d)
    (no_size_fault files form log kept stands file d keeps.keeps.whole)) f

samples_same : (c d : Files) (id : ℕ) → blocks c id ≡ blocks d id → (sources_of c).block id ≡ (sources_of d).block id
samples_same c d id e = ap (λ (b : Option (List ℤ)). λ (i : ℕ). slice_index_or (unwrap_or b []) i (pos 0)) e

names : (form : Form) (log : Log) (kept : Saved) (files : Files) → KeepsLog form log kept files → (b : BlockRef)
    → Contains (history_blocks kept.history) b → Names files b.id
names form log kept files is b has =
    record { form = form; log = log; kept = kept; stands = is.stands; block = b; named = has; is = refl }

each_of : (P : BlockRef → Type 0) (bs : List BlockRef) → ((b : BlockRef) → Contains bs b → P b) → AllByRecursion P bs
each_of P bs f = recursion_from_All P bs (λ k d lt. f (slice_index_or bs k d) (All-contains_itself bs k d lt))

-- each block that both name is the same in both
pub opened_same : (form : Form) (log : Log) (kept : Saved) (c d : Files)
    → ((id : ℕ) → Names c id → Names d id → blocks c id ≡ blocks d id) → KeepsLog form log kept c
    → KeepsLog form log kept d → opened log kept c ≡ opened log kept d
opened_same form log kept c d same p q =
    let bs = history_blocks kept.history in
    let all : AllByRecursion (IsSame (sources_of c) (sources_of d)) bs =
    each_of (IsSame (sources_of c) (sources_of d)) bs
    (λ b has. samples_same c d b.id (same b.id (names form log kept c p b has) (names form log kept d q b has))) in
    ap (λ h. record {
      rate = log.rate;
      block_size = log.block_size;
      history = h;
      next_track = kept.next_track;
      commit = kept.commit;
    }) (same_meaning (sources_of c) (sources_of d) kept.history all)

-- the file of a block that is whole is the one spelling of its samples
file_same : (c d : Files) (b : BlockRef) → IsWhole c b → blocks c b.id ≡ blocks d b.id → c b.id ≡ d b.id
file_same c d b whole same =
    let has = blocks_have c b.id whole.0 whole.1 in
    let other = blocks_have d b.id whole.0 (sym same ∙ whole.1) in
    has.file ∙ ap (λ (bytes : List ℕ). Some bytes) (has.spelled.1 ∙ sym other.spelled.1) ∙ sym other.file

-- the version and the file are the form
form_again : (form : Form) → IsForm form → form_of (version_of form) form.file ≡ form
form_again form (inl one) = ap (λ (f : Form). form_of (version_of f) form.file) one ∙ sym one
form_again form (inr (inl two)) = ap (λ (f : Form). form_of (version_of f) form.file) two ∙ sym two
form_again form (inr (inr three)) = ap (λ (f : Form). form_of (version_of f) form.file) three ∙ sym three

-- Over an honest disk, calls that write nothing, and an answer that is right of the disk as it reads.
module _ {D : Type 0} (disk : Ghosts D) (old new : D) (honest : IsHonest disk old)
    (here : disk.may_leave old (disk.clock old) (disk.reads old))
    (follows : Follows StaysStep (disk.clock old) (disk.clock new) (disk.may_leave old) (disk.may_leave new)) where
  before : (c : Files) → disk.may_leave new (disk.clock new) c → disk.may_leave old (disk.clock old) c
  before c now =
      let d = follows.from c
      (follows.fewer (disk.clock old) (disk.clock new) c follows.later (upto_refl (disk.clock new)) now) in
      rw d.2 d.1

  -- an image on which a project stands keeps it
  stands_whole : (form : Form) (log : Log) (kept : Saved) (c : Files) → Stands c form log kept
      → disk.may_leave old (disk.clock old) c → KeepsLog form log kept c
  stands_whole form log kept c stands image = elim (honest.whole c image) [
    | inl none ↦ absurd (none_log c form log stands.known stands.few stands.there none)
    | inr found ↦ keeps_log form log kept c found.0 stands found.1
  ]

  module _ (form : Form) (log : Log) (kept : Saved) (c : Files) (keeps : KeepsLog form log kept (disk.reads old))
      (image : disk.may_leave old (disk.clock old) c) (has : HasLog form log c) where
    -- each image with this journal keeps the same records and their blocks, as they read
    image_leads : KeepsLog form log kept c
    image_leads = stands_whole form log kept c (record {
      known = keeps.stands.known;
      few = keeps.stands.few;
      there = has;
      base = keeps.stands.base;
      begins = keeps.stands.begins;
      told = keeps.stands.told;
    }) image

    image_blocks : SameBlocks (history_blocks kept.history) (disk.reads old) c
    image_blocks =
        let files = disk.reads old in
        let bs = history_blocks kept.history in
        each_of (λ b. c b.id ≡ files b.id) bs (λ b there. file_same c files b
        (All-contains (IsWhole c) bs b (All-from_recursion (IsWhole c) bs image_leads.whole) there)
        (honest.same c image files here b.id (names form log kept c image_leads b there)
        (names form log kept files keeps b there)))

    -- and so the same project
    image_keeps : Keeps c (opened log kept (disk.reads old))
    image_keeps = keeps_as form log kept c (opened log kept (disk.reads old)) image_leads
        (opened_same form log kept (disk.reads old) c (honest.same (disk.reads old) here c image) keeps image_leads)

  -- a disk on which a project was found keeps it
  found_leads : (f : Found) → (opens : Finds (disk.reads old) f)
      → KeepsLog opens.form opens.log opens.kept (disk.reads old)
  found_leads f opens =
      stands_whole opens.form opens.log opens.kept (disk.reads old) opens.project.stands here

  pub found_saved : (r : Result Found OpenFault) → Opens (disk.reads old) r
      → ((form : Form) (log : Log) → IsForm form → form.file ≤ 1 → HasLog form log (disk.reads old) → (f : Found)
      → r ≡ Ok f → Each (disk.may_leave new (disk.clock new)) (HasLog form log))
      → OpensHonest disk old new r
  found_saved (Ok f) opens rest =
      let form = opens.form in
      let log = opens.log in
      let kept = opens.kept in
      let is = found_leads f opens in
      record {
        form = form;
        log = log;
        kept = kept;
        keeps = keeps_as form log kept (disk.reads old) (opened log kept (disk.reads old)) is refl;
        each = λ c now. image_keeps form log kept c is (before c now)
            (rest form log is.stands.known is.stands.few is.stands.there f refl c now);
        found = opens.found;
      }
  found_saved (Err OpenFault.DiskFault) opens rest = tt
  found_saved (Err OpenFault.NoMemory) opens rest = tt
  found_saved (Err (OpenFault.Foreign file)) opens rest =
      honest.foreign (disk.reads old) here file opens.1.there opens.1.foreign
  found_saved (Err (OpenFault.Damaged file at want have)) opens rest =
      ⊎_elim (λ none. none_some (disk.reads old) none opens.0)
      (λ found. no_fault (disk.reads old) found.0 file _ found.1 opens.2) (honest.whole (disk.reads old) here)
  found_saved _ opens rest = opens

  -- what a studio of the parts asks of the disk
  module _ (p : Parts) (opens : Finds (disk.reads old) (found_in p)) (same : disk.reads new ≡ disk.reads old)
      (tells : IsTrue (disk.tells new)) (rest : IsAt opens.form disk new p.journal_end opens.log) where
    -- the blocks that its points name
    blocks_are : IsFound (disk.reads old) opens.form opens.log opens.kept (found_in p)
        → history_blocks p.history.history ≡ history_blocks opens.kept.history
    blocks_are found = sym (history_blocks_alike p.history.history) ∙ ap history_blocks found.history

    blocks_now : (c : Files) → disk.may_leave new (disk.clock new) c
        → SameBlocks (named_blocks (assembled new p)) (disk.reads new) c
    blocks_now c now = all_append (λ b. c b.id ≡ disk.reads new b.id) (history_blocks p.history.history) []
        (rw (blocks_are opens.found, same) (image_blocks opens.form opens.log opens.kept c
        (found_leads (found_in p) opens) (before c now) (each_has rest c now))) tt

    pub has_parts : HasParts disk new p
    has_parts =
        let found = opens.found in
        let is = found_leads (found_in p) opens in
        let form : form_of p.version p.file ≡ opens.form =
        ap (λ (v : ℕ). form_of v p.file) found.version ∙ ap (form_of (version_of opens.form)) found.file
        ∙ form_again opens.form is.stands.known in
        record {
          tells = tells;
          whole = rw (blocks_are found, same) is.whole;
          durable = record {
            log = opens.log;
            base = is.stands.base;
            kept = opens.kept;
            there = rw form rest;
            generation = sym found.generation;
            begins = is.stands.begins;
            told = subst (λ (x : Form). LeadIn (version_of x) opens.log.block_size is.stands.base opens.log.bodies
                opens.kept) (sym form) is.stands.told;
            rate = sym found.rate;
            block_size = sym found.block_size;
            history = sym found.history;
            next_block = found.next_block.no_lower;
            next_track = sym found.next_track;
            commit = sym found.commit;
            blocks = blocks_now;
            files = λ id least most. (
              λ has. rw same (found.ledger.only id has).0,
              λ has. found.ledger.there id (rw same at has) (omega (arith, least)),
            );
          };
        }
