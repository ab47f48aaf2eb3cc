-- From what the steps of opening answer to what opening answers.
use Rattle.editor_recovery.proofs.Common.{◌≡◌, ℕ, inl, inr, List, Result, Ok, Err, ap, ◌∙◌, arith}
use Rattle.editor_recovery.proofs.Common.{IfErr, IfOk, IsTrue, BlockRef, Files, bytes_of, Ghosts, Contents}
use Rattle.editor_recovery.proofs.Common.{log_of, IsPicked, Form, IsOpened, Damaged, Reader, read_whole}
use Rattle.editor_recovery.proofs.Common.{stored_here, history_blocks, history_blocks_alike, base_of, saved_of}
use Rattle.editor_recovery.proofs.Common.{ArePartsOf, FoldsDisk, IsValidFolded, TestsMeasured, Refuses, AllHaveSize}
use Rattle.editor_recovery.proofs.Common.{file_size, Disk, Folded, OpenFault, AreFiles, Lists, NoForeign}
use Rattle.editor_recovery.proofs.Common.{answer_in, HeaderFault, Opens, Stands, Parts}
use Rattle.std.specs.Prelude.{⊤}
use Rattle.project_journal.specs.{Reader.IsStored}
use Rattle.project_journal.proofs.Found.{journal_generation, log_there}
use Rattle.project_state.specs.{Numbers.unnumbered_history}
use Rattle.editor_recovery.specs.Finding.{IsFoldOf, TestsSizes}
use Rattle.editor_recovery.specs.Reading.{IsRead, ReadsDisk}
use Rattle.editor_recovery.proofs.{Alone.some_picked, Alone.some_refused, Ledgers.ledger_of, Listed.next_block}
use Rattle.editor_recovery.proofs.{ValidParts.parts_numbered, Wrong.all_right, Wrong.one_wrong}

abbrev pub damaged : ℕ → ℕ → ℕ → Damaged
damaged at want have = record { at = at; want = want; have = have }

-- a journal that is stored in the file that is chosen, as its files are read
pub stored_read : {D : Type 0} (disk : Ghosts D) (store : D) (files : Files) (form : Form) (j : Contents)
    (listed : List ℕ) → disk.reads store ≡ files → IsTrue (disk.tells store) → IsStored disk store form j
    → IsPicked form.file files → AreFiles files listed → NoForeign files → IsRead files form j listed
stored_read disk store files form j listed same tells stored picked are foreign =
    let here = stored_here disk store form j stored tells in
    record {
      known = stored.known;
      picked = picked;
      read = rw same at here.1;
      listed = are;
      foreign = foreign;
    }

-- its first fault
pub not_folded : {D : Type 0} (disk : Ghosts D) (store : D) (files : Files) (form : Form) (e : OpenFault)
    → disk.reads store ≡ files → IsTrue (disk.tells store) → IsPicked form.file files → NoForeign files
    → FoldsDisk disk store form (Err e) → Opens files (Err e)
not_folded disk store files form OpenFault.DiskFault same tells picked foreign folds = tt
not_folded disk store files form OpenFault.NoMemory same tells picked foreign folds = tt
not_folded disk store files form (OpenFault.Damaged file at want have) same tells picked foreign folds = (
  some_picked files form.file picked,
  foreign,
  inr (inl (record {
    form = form;
    known = folds.1.known;
    picked = picked;
    journal = folds.0;
    read = rw same at (stored_here disk store form folds.0 folds.1 tells).1;
    same = folds.2;
    first = folds.3;
  })),
)
not_folded disk store files form _ same tells picked foreign folds = absurd folds

-- the journal that was read to a gate that is 0 is the disk's
stands_read : (files : Files) (form : Form) (j : Contents) (listed : List ℕ) (f : Folded) → IsRead files form j listed
    → IsFoldOf form j f → Stands files form (log_of j) (saved_of f.project)
stands_read files form j listed f is fold =
    let bytes = bytes_of (files form.file) in
    let whole = read_whole form bytes j is.read fold.early in
    record {
      known = is.known;
      few = is.picked.few;
      there = log_there form files j is.picked.project whole fold.early
          (rw (journal_generation form bytes j is.known whole) at is.picked.newest);
      base = base_of j;
      begins = fold.begins;
      told = fold.leads;
    }

-- the sizes of files
pub measured : {T : Type 0} (files : Files) (sizes : ℕ → ℕ) (bs : List BlockRef) (r : Result T OpenFault)
    → ((file : ℕ) → sizes file ≡ file_size files file) → TestsMeasured sizes bs r → TestsSizes files bs r
measured files sizes bs (Ok x) same tests = all_right files sizes bs same tests
measured files sizes bs (Err OpenFault.DiskFault) same tests = absurd tests
measured files sizes bs (Err OpenFault.NoMemory) same tests = tt
measured files sizes bs (Err (OpenFault.Damaged file at want have)) same tests =
    (tests.0, one_wrong files sizes bs tests.0 same tests.1, tests.2, tests.3, tests.4, tests.5 ∙ same tests.0.id)
measured files sizes bs _ same tests = tests

module _ (files : Files) (form : Form) (j : Contents) (listed : List ℕ) (f : Folded) (is : IsRead files form j listed)
    (fold : IsFoldOf form j f) where
  -- a block's file that has not its size
  pub unsized : (e : OpenFault)
      → TestsSizes {T = ⊤} files (history_blocks f.project.numbered.history.history) (Err e) → Opens files (Err e)
  unsized OpenFault.DiskFault tests = tt
  unsized OpenFault.NoMemory tests = tt
  unsized (OpenFault.Damaged file at want have) tests = (
    some_picked files form.file is.picked,
    is.foreign,
    inr (inr (record {
      form = form;
      log = log_of j;
      kept = saved_of f.project;
      stands = stands_read files form j listed f is fold;
      block = tests.0;
      first = rw (history_blocks_alike f.project.numbered.history.history) tests.1;
      tells = (tests.2, λ i. record { at = tests.3 i; want = tests.4 i; have = tests.5 i });
    })),
  )
  unsized _ tests = absurd tests

  -- and none
  pub parts_result : (r : Result Parts OpenFault) → IsValidFolded f
      → AllHaveSize files (history_blocks f.project.numbered.history.history)
      → IfOk r (ArePartsOf listed f) → IfErr r (λ e. e ≡ OpenFault.NoMemory) → Opens files (answer_in r)
  parts_result (Ok p) valid sizes parts memory =
      let numbers = parts_numbered listed f p valid parts in
      record {
        form = form;
        log = log_of j;
        kept = saved_of f.project;
        project = record {
          stands = stands_read files form j listed f is fold;
          sizes = rw (history_blocks_alike f.project.numbered.history.history) sizes;
        };
        found = record {
          rate = parts.rate ∙ fold.rate;
          block_size = parts.block_size ∙ fold.block_size;
          history = ap unnumbered_history parts.history;
          layouts = omega (arith, parts.next_layout, parts.end, valid.layouts);
          layouts_least = numbers.least;
          layouts_few = omega (arith, parts.next_layout, parts.end, fold.end, fold.few);
          numbered = numbers.numbered;
          drawn = numbers.drawn;
          counted = parts.counted;
          ledger = ledger_of files listed _ is.listed parts.ledger;
          next_block = next_block files listed f.project.next_block p.next_block is.listed parts.next_block;
          next_track = parts.next_track;
          commit = parts.commit;
          file = parts.file ∙ fold.file;
          version = parts.version ∙ fold.version;
          generation = parts.generation ∙ fold.generation;
        };
        foreign = is.foreign;
      }
  parts_result (Err e) valid sizes parts memory = rw memory tt

-- a listing beside a header without faults
pub with_listing : (files : Files) (reader : Reader) (r : Result Disk OpenFault) → IsOpened files reader
    → IfOk r (λ d. d.reader ≡ reader) → Lists files (λ d. d.files.items) r → ReadsDisk files r
with_listing files reader (Ok d) opened same lists = (rw same opened, lists.0, lists.1)
with_listing files reader (Err OpenFault.DiskFault) opened same lists = tt
with_listing files reader (Err OpenFault.NoMemory) opened same lists = tt
with_listing files reader (Err (OpenFault.Foreign file)) opened same lists =
    (some_picked files reader.window.file opened.picked, lists)
with_listing files reader _ opened same lists = absurd lists

-- a listing beside a header that has a fault
pub with_fault : (files : Files) (file at want have : ℕ) (r : Result Disk OpenFault)
    → HeaderFault files file (damaged at want have) → Refuses files file at want have r → ReadsDisk files r
with_fault files file at want have (Err OpenFault.DiskFault) read refuses = tt
with_fault files file at want have (Err OpenFault.NoMemory) read refuses = tt
with_fault files file at want have (Err (OpenFault.Foreign other)) read refuses =
    (some_refused files file (damaged at want have) read, refuses)
with_fault files file at want have (Err (OpenFault.Damaged file' at' want' have')) read refuses = (
  some_refused files file (damaged at want have) read,
  refuses.0,
  rw (refuses.1, refuses.2, refuses.3, refuses.4) read,
)
with_fault files file at want have _ read refuses = absurd refuses
