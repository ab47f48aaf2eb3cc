-- From the fold of a journal to what opening makes of it.
use Rattle.editor_recovery.proofs.Common.{◌≡◌, ◌≤◌, ◌+◌, ◌^◌, ℕ, List, [], ◌∷◌, map, length, Ok, Err, sym, ap}
use Rattle.editor_recovery.proofs.Common.{subst, ◌∙◌, arith, length-map, Ghosts, Contents, body_at, log_of, Base}
use Rattle.editor_recovery.proofs.Common.{JournalFault, Reader, Form, IsForm, reader_form, HasBase, read_whole}
use Rattle.editor_recovery.proofs.Common.{Saved, Begins, LeadIn, version_of, base_of, saved_of, Project}
use Rattle.editor_recovery.proofs.Common.{Folded, FoldsDisk, IsValidFolded, inl, inr}
use Rattle.project_journal.specs.Journal.{IsHeader, IsJournal}
use Rattle.project_journal.specs.{Readable.IsReadable, Reader.IsLater}
use Rattle.project_journal.proofs.AnyFormats.{base_valid}
use Rattle.project_journal.proofs.{Bases.plain, Parses.form_least, Readables.readable}
use Rattle.record_body.proofs.SavedBounds.{lead_valid}
use Rattle.journal_replay.specs.{Bases.base_by, Folds.FoldsStored, Folds.Leads, Heads.HasFault, Heads.ReadsOn}
use Rattle.journal_replay.proofs.{Based.begun_depth, Based.begun_valid, Commits.lead_commits, Commits.told_few}
use Rattle.journal_replay.proofs.{Stepping.valid_by}
use Rattle.editor_state.specs.Studios.{AreJournalNumbers}
use Rattle.editor_recovery.specs.Finding.{records_fault}
use Rattle.editor_recovery.proofs.ValidParts.{format_of}

-- a reader that read on reads the same form
pub later_form : (old new : Reader) → IsLater old new → reader_form new ≡ reader_form old
later_form old new later = rw (later.version, later.file)

-- the first fault of its journal, as it is reported of the disk
pub unfolded_as : {D : Type 0} (disk : Ghosts D) (store : D) (old new : Reader) (e : JournalFault)
    → ReadsOn {T = Project} old new (Err e) → FoldsStored disk store new (Err e)
    → FoldsDisk disk store (reader_form old) (Err (records_fault e))
unfolded_as disk store old new (JournalFault.Damaged file at want have) later folds =
    subst (λ (form : Form). HasFault disk store form file (record { at = at; want = want; have = have }))
    (later_form old new later) folds
unfolded_as disk store old new JournalFault.DiskFault later folds = tt
unfolded_as disk store old new JournalFault.NoMemory later folds = tt
unfolded_as disk store old new _ later folds = absurd folds

-- the numbers that a studio keeps of a journal
numbers : (form : Form) (head : List ℕ) (j : Contents) (file version generation : ℕ) → IsForm form → form.file ≤ 1
    → IsHeader form head (log_of j) → HasBase j.base → file ≡ form.file → version ≡ version_of form
    → generation ≡ j.base.generation → AreJournalNumbers file version generation
numbers form head j file version generation known few is bounds same version_is generation_is = elim known [
  | inl one ↦
      let none = (plain form.file head (log_of j) (rw one at is)).base in
      by_version 1 (version_is ∙ ap version_of one) (omega arith) (omega arith)
      (λ first. generation_is ∙ ap (λ (b : Base). b.generation) none)
  | inr (inl two) ↦ by_version 2 (version_is ∙ ap version_of two) (omega arith) (omega arith)
      (λ first. absurd (omega (arith, first)))
  | inr (inr three) ↦ by_version 3 (version_is ∙ ap version_of three) (omega arith) (omega arith)
      (λ first. absurd (omega (arith, first)))
]
  where
    by_version : (v : ℕ) → version ≡ v → 1 ≤ v → v ≤ 3 → (v ≡ 1 → generation ≡ 0)
        → AreJournalNumbers file version generation
    by_version v is_v least most first = record {
      among = omega (arith, same, few);
      version_least = omega (arith, is_v, least);
      version_most = omega (arith, is_v, most);
      generation_most = omega (arith, generation_is, bounds.generation);
      first_version = λ one. first (sym is_v ∙ one);
    }

-- a journal of version 1 begins without commits
first_base : (j : Contents) → j.points ≡ [] → (base_of j).commit ≡ 0
first_base j none =
    ap (λ (ps : List (List ℕ)). (base_by ps j.depth j.base).commit) none

-- records lead to 2^62 commits at most
few_commits : (form : Form) (bytes : List ℕ) (j : Contents) (kept : Saved) → IsForm form
    → (is : IsJournal form bytes j) → IsReadable j → HasBase j.base → Begins (log_of j) (base_of j)
    → (base_of j).commit ≤ 2 ^ 62
    → LeadIn (version_of form) j.block_size (base_of j) (map body_at j.records) kept → kept.commit ≤ 2 ^ 62
few_commits form bytes j kept known is ready bounds begins base_few led = elim known [
  | inl one ↦
      let none = (plain form.file is.spelled.head (log_of j) (rw one at is.spelled.header)).points in
      omega (
        arith,
        lead_commits (version_of form) j.block_size (base_of j) kept (map body_at j.records) led,
        first_base j none,
        length-map j.records body_at,
        ready.records,
        ready.end,
      )
  | inr (inl two) ↦ later (omega (arith, ap version_of two))
  | inr (inr three) ↦ later (omega (arith, ap version_of three))
]
  where
    later : 2 ≤ version_of form → kept.commit ≤ 2 ^ 62
    later least = told_few (version_of form) j.block_size (base_of j) kept (map body_at j.records) least base_few led

base_few : (points : List (List ℕ)) (depth : ℕ) (b : Base) → b.commit ≤ 2 ^ 62 → (base_by points depth b).commit ≤ 2 ^ 62
base_few [] depth b few = omega arith
base_few (p ∷ ps) depth b few = few

module _ {D : Type 0} (disk : Ghosts D) (store : D) (reader : Reader) (f : Folded)
    (l : Leads disk store reader f.project) (rate : f.rate ≡ reader.rate) (size : f.block_size ≡ reader.block_size)
    (end : f.end ≡ reader.at) (file : f.file ≡ reader.window.file) (version : f.version ≡ version_of (reader_form reader))
    (generation : f.generation ≡ reader.base.generation) where
  abbrev form : Form
  form = reader_form reader

  abbrev j : Contents
  j = l.journal

  generation_is : f.generation ≡ j.base.generation
  generation_is = generation ∙ ap (λ (b : Base). b.generation) l.base

  -- a journal whose points and records have no fault
  pub folds : FoldsDisk disk store form (Ok f)
  folds = (
    j,
    l.stored,
    record {
      rate = rate ∙ l.rate;
      block_size = size ∙ l.block_size;
      file = file;
      version = version;
      generation = generation_is;
      end = end ∙ l.end;
      valid = l.fault;
      early = l.early;
      begins = l.begins;
      leads = l.leads;
      few = omega (arith, l.few, l.end, ap (λ (b : Base). b.count) l.base);
    },
  )

  pub folded_valid : IsValidFolded f
  folded_valid =
      let known = l.stored.known in
      let is = read_whole form l.stored.bytes j l.stored.read l.early in
      let ready = readable form l.stored.bytes j known l.stored.few is in
      let head = is.spelled.header in
      let bounds : HasBase j.base = subst HasBase head.base (base_valid form is.spelled.head known head.valid) in
      let base = base_of j in
      let valid = begun_valid j.points (log_of j) base bounds l.begins in
      let so_valid = lead_valid (version_of form) j.block_size base.history.depth base.commit base (saved_of f.project)
      (map body_at j.records) l.leads valid in
      let same_size : f.block_size ≡ j.block_size = size ∙ l.block_size in
      let depth : f.project.numbered.history.history.depth ≡ j.depth =
      so_valid.depth_is ∙ begun_depth j.points (log_of j) base l.begins in
      record {
        format = format_of f.rate j.rate f.block_size j.block_size f.project.numbered.history.history.depth j.depth
            (rate ∙ l.rate) same_size depth ready.format;
        kept = rw same_size (valid_by j.block_size base.history.depth (base.commit + length (map body_at j.records))
            (saved_of f.project) so_valid);
        commit = few_commits form l.stored.bytes j (saved_of f.project) known is ready bounds l.begins
            (base_few j.points j.depth j.base bounds.commit) l.leads;
        journal = numbers form is.spelled.head j f.file f.version f.generation known l.stored.among head bounds file
            version generation_is;
        end_least = omega (arith, end, l.end, ready.records);
        end_most = omega (arith, end, l.end, ready.end);
        numbers = l.numbers;
        layouts = omega (arith, end, l.few, form_least form known);
      }
