-- New blocks that are written and then synced before a record names them, and what a failure leaves.
use Rattle.std.specs.Prelude.{◌≡◌, ◌↔◌, ◌⊎◌, ℕ, ◌+◌, ◌*◌, ◌≤◌, ◌<◌, IsTrue, IsSome, Some, None, List, length, Contains}
use Rattle.std.specs.Prelude.{Result, MatchResult, ℤ}
use Rattle.pcm_base.specs.{Causes.Rose, declared.wav.WavFault.TheVariants.Truncated, Pieces.all_samples}
use Rattle.pcm_base.specs.{declared.refusal.Refusal.Refusal, declared.piece.Piece.Piece}
use Rattle.disk_model.specs.Disk.{Files, SameElsewhere, StaysStep}
use Rattle.disk_model.specs.{Frames.Kept, Frames.Changed, Room.Room, declared.store.Store.Ghosts}
use Rattle.sample_block.specs.{Blocks.blocks, Sources.sources_with, Spelling.size_of}
use Rattle.block_ledger.specs.Counts.{Counts, occurrences}
use Rattle.project_journal.specs.Gate.{EachNow}
use Rattle.edit_ops.specs.declared.types.NewBlock.{NewBlock}
use Rattle.block_writer.specs.{Brought.Brought, Brought.IsNotBrought, Reading.AllThere, Reading.IsFaultAmong}
use Rattle.editor_state.specs.Made.{AreAbsent, AreMade, Batch, IdRange, PiecesThere, SameInside, SameOutside, ids_from}
use Rattle.editor_state.specs.{Adding.HasFailed, Adding.stopped_by, Core.Core}
use Rattle.pcm_base.specs.declared.refusal.Refusal.TheVariants as refusal
use Rattle.block_store.specs.declared.fault.BlockFault.TheVariants as fault
use Rattle.block_writer.specs.declared.fault.BringFault.TheVariants as bring

-- no occurrence comes or goes, and the ids from one number on, this many, are there too
pub record AddsFree (next n : ℕ) (old new : Counts) : Type 0 where
  pub counts : (id : ℕ) → occurrences (new id) ≡ occurrences (old id)
  pub ids : (id : ℕ) → IsSome (new id) ↔ (IsSome (old id) ⊎ ((next ≤ id) × (id < next + n)))

-- what this many blocks ask of a disk whose files have at most this many bytes
abbrev pub made_room : (bytes n : ℕ) → Room
made_room bytes n = record { files = n; bytes = n * bytes; calls = 2 * n }

-- what a sync asks
abbrev pub one_call : Room
one_call = record { files = 0; bytes = 0; calls = 1 }

-- a piece of the next block could not be read, or samples did not come: the disk is as it was, and the studio goes on
pub record Unread {D : Type 0} (disk : Ghosts D) (old new : Core D) : Type 0 where
  pub is : new ≡ record old { store = new.store }
  pub kept : Kept disk old.store new.store

-- the disk failed as the next block was written, or as one was synced: the studio is stopped
pub record Unput {D : Type 0} (disk : Ghosts D) (old new : Core D) : Type 0 where
  pub is : new ≡ stopped_by disk old new.store
  pub changed : Changed disk (SameElsewhere old.next_block) (made_room (size_of old.block_size) 1) old.store new.store
  pub failed : HasFailed disk old.store new.store
  pub read_faults : disk.read_fault_count new.store ≡ disk.read_fault_count old.store

-- a read of the disk failed
pub record HasMissed {D : Type 0} (disk : Ghosts D) (old new : D) : Type 0 where
  pub rose : Rose (disk.read_fault_count old) (disk.read_fault_count new)
  pub later : disk.read_fault_count old ≤ disk.read_fault_count new

-- damage that is reported is that of a block that one of these pieces names
abbrev pub IsDamageAmong : Files → List Piece → Refusal → Type 0
IsDamageAmong files ps (refusal.Damaged file at want have) =
    IsFaultAmong files ps (fault.Damaged file (record { at = at; want = want; have = have }))
IsDamageAmong files ps why = Unit {0}

-- the disk failed, or the vault, which may have given fewer bytes than it said
abbrev pub IsOfDevices : Refusal → Type 0
IsOfDevices refusal.DiskFault = Unit {0}
IsOfDevices refusal.VaultFault = Unit {0}
IsOfDevices (refusal.BadWav (Truncated want have)) = Unit {0}
IsOfDevices why = ⊥

-- what the vault did not bring comes only where it may fail to
abbrev pub IsBroughtRefusal : Brought → Refusal → Type 0
IsBroughtRefusal b refusal.VaultFault = IsNotBrought b bring.Vault
IsBroughtRefusal b (refusal.BadWav (Truncated want have)) = IsNotBrought b (bring.Short want have)
IsBroughtRefusal b (refusal.BadWav fault) = ⊥
IsBroughtRefusal b why = Unit {0}

-- nothing holds of a sound that is cut short: fewer bytes came than were said
abbrev pub OrCut : Refusal → Type 0 → Type 0
OrCut (refusal.BadWav (Truncated want have)) fact = Unit {0}
OrCut why fact = fact

-- where a vault failed its count of faults rose, and elsewhere it stays
abbrev pub RefusedBroughtBy : Refusal → ℕ → ℕ → Type 0
RefusedBroughtBy refusal.VaultFault old new = Rose old new × (old ≤ new)
RefusedBroughtBy why old new = new ≡ old

abbrev pub RefusedBrought : {T : Type 0} → Result T Refusal → ℕ → ℕ → Type 0
RefusedBrought result old new = MatchResult result (λ _. new ≡ old) (λ why. RefusedBroughtBy why old new)

-- why the next block was not written
abbrev pub NotMade : {D : Type 0} → Ghosts D → Core D → Refusal → Core D → Type 0
NotMade disk old refusal.DiskFault new =
    (Unread disk old new × HasMissed disk old.store new.store) ⊎ Unput disk old new
NotMade disk old (refusal.Damaged file at want have) new =
    Unread disk old new × (disk.read_fault_count new.store ≡ disk.read_fault_count old.store)
NotMade disk old refusal.VaultFault new =
    Unread disk old new × (disk.read_fault_count new.store ≡ disk.read_fault_count old.store)
NotMade disk old (refusal.BadWav (Truncated want have)) new =
    Unread disk old new × (disk.read_fault_count new.store ≡ disk.read_fault_count old.store)
NotMade disk old why new = ⊥

-- One block is written, and the ledger has its id.
pub record MadeOne {D : Type 0} (disk : Ghosts D) (old : Core D) (given : ℕ → ℤ) (b : NewBlock)
    (new : Core D) : Type 0 where
  pub is : new ≡ record old { store = new.store; counts = new.counts; next_block = old.next_block + 1 }
  pub ledger : AddsFree old.next_block 1 old.counts new.counts
  pub stored : IsTrue (disk.tells old.store) → AllThere (disk.reads old.store) b.pieces
      → disk.reads old.store b.id ≡ None
      → blocks (disk.reads new.store) b.id
      ≡ Some (all_samples (sources_with (disk.reads old.store) given) b.pieces)
  pub changed : Changed disk (SameElsewhere b.id) (record {
    files = 1;
    bytes = size_of b.len;
    calls = 1;
  }) old.store new.store
  pub read_faults : disk.read_fault_count new.store ≡ disk.read_fault_count old.store
  pub change_faults : disk.change_fault_count new.store ≡ disk.change_fault_count old.store

-- The first n blocks of a batch are there as the disk reads, and the ledger has their ids. Of failed reads it says
-- nothing, and of images no more than that all other files stay.
pub record Making {D : Type 0} (disk : Ghosts D) (old : Core D) (batch : Batch) (n : ℕ) (new : Core D)
    : Type 0 where
  pub is : new ≡ record old { store = new.store; counts = new.counts; next_block = old.next_block + n }
  pub ledger : AddsFree old.next_block n old.counts new.counts
  pub made : IsTrue (disk.tells old.store) → PiecesThere (disk.reads old.store) batch.blocks
      → AreAbsent old.next_block (length batch.blocks) (disk.reads old.store)
      → AreMade batch (ids_from old.next_block n) (disk.reads old.store) (disk.reads new.store)
  pub changed : Changed disk (SameOutside old.next_block n) (made_room (size_of old.block_size) n) old.store new.store
  pub change_faults : disk.change_fault_count new.store ≡ disk.change_fault_count old.store

-- They are written, by a call each, and no read failed.
pub record Written {D : Type 0} (disk : Ghosts D) (old : Core D) (batch : Batch) (n : ℕ) (new : Core D)
    : Type 0 where
  pub making : Making disk old batch n new
  pub calls : disk.change_calls new.store ≤ disk.change_calls old.store + n
  pub read_faults : disk.read_fault_count new.store ≡ disk.read_fault_count old.store

-- in each image the files of these ids are as the store reads
abbrev pub AreSynced : {D : Type 0} → Ghosts D → IdRange → D → Type 0
AreSynced disk ids store = EachNow disk store (SameInside ids.first ids.count (disk.reads store))

-- The files of these ids are synced, by a call each, and nothing else has changed.
pub record Synced {D : Type 0} (disk : Ghosts D) (old : Core D) (ids : IdRange) (new : Core D) : Type 0 where
  pub is : new ≡ record old { store = new.store }
  pub reads : disk.reads new.store ≡ disk.reads old.store
  pub same : AreSynced disk ids new.store
  pub changed : Changed disk StaysStep (record { files = 0; bytes = 0; calls = ids.count }) old.store new.store
  pub read_faults : disk.read_fault_count new.store ≡ disk.read_fault_count old.store
  pub change_faults : disk.change_fault_count new.store ≡ disk.change_fault_count old.store

-- some were synced, and the sync of the next one failed
pub record Unsynced {D : Type 0} (disk : Ghosts D) (old : Core D) (ids : IdRange) (why : Refusal) (new : Core D)
    : Type 0 where
  pub synced : ℕ
  pub some_left : synced < ids.count
  pub mid : Core D
  pub before : Synced disk old (ids_from ids.first synced) mid
  pub is : why ≡ refusal.DiskFault
  pub by : Unput disk mid new
  pub stays : Changed disk StaysStep one_call mid.store new.store

-- Some were written, and the next one was not; or all were, and a sync failed, which left the files as they were. Where
-- the disk has the blocks of all pieces, the disk failed, or the vault.
pub record Stuck {D : Type 0} (disk : Ghosts D) (old : Core D) (batch : Batch) (why : Refusal) (new : Core D)
    : Type 0 where
  pub made : ℕ
  pub few : made ≤ length batch.blocks
  pub mid : Core D
  pub before : Making disk old batch made mid
  pub read_faults : disk.read_fault_count mid.store ≡ disk.read_fault_count old.store
  pub by : NotMade disk mid why new
  pub left : (made < length batch.blocks) ⊎ Changed disk StaysStep one_call mid.store new.store
  pub block : NewBlock
  pub stands : Contains batch.blocks block
  pub damaged : IsTrue (disk.tells mid.store) → IsDamageAmong (disk.reads mid.store) block.pieces why
  pub valid : IsTrue (disk.tells old.store) → PiecesThere (disk.reads old.store) batch.blocks
      → AreAbsent old.next_block (length batch.blocks) (disk.reads old.store) → IsOfDevices why

-- all are written, or the next one was not
abbrev pub Writes : {D : Type 0} → Ghosts D → Core D → Batch → Result (Unit {0}) Refusal → Core D → Type 0
Writes disk old batch result new = MatchResult result
    (λ _. Written disk old batch (length batch.blocks) new)
    (λ why. Stuck disk old batch why new)

-- all are synced, or one is not
abbrev pub Syncs : {D : Type 0} → Ghosts D → Core D → IdRange → Result (Unit {0}) Refusal → Core D → Type 0
Syncs disk old ids result new =
    MatchResult result (λ _. Synced disk old ids new) (λ why. Unsynced disk old ids why new)

-- both in turn
abbrev pub Makes : {D : Type 0} → Ghosts D → Core D → Batch → Result (Unit {0}) Refusal → Core D → Type 0
Makes disk old batch result new = MatchResult result
    (λ _. Making disk old batch (length batch.blocks) new
    × (disk.read_fault_count new.store ≡ disk.read_fault_count old.store)
    × AreSynced disk (ids_from old.next_block (length batch.blocks)) new.store)
    (λ why. Stuck disk old batch why new)
