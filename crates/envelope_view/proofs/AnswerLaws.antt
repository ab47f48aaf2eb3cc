-- The reasons of tests and of faults.
use Rattle.envelope_view.proofs.Common.{◌≡◌, ℕ, List, Result, Ok, Err, refl, sym, subst, arith, Files, Ghosts}
use Rattle.envelope_view.proofs.Common.{BlockRef, AllWhole, IsWhole, BlockFault, BlockReader, Entries, SameCache, Reads}
use Rattle.envelope_view.proofs.Common.{reads_err}
use Rattle.std.specs.Prelude.{IfErr, IsOk}
use Rattle.disk_model.specs.{Disk.bytes_of}
use Rattle.pcm_base.specs.{declared.refusal.Refusal.Refusal}
use Rattle.sample_block.specs.{Spelling.size_of}
use Rattle.block_store.specs.Reads.{Counted, IsFault, IsFaultIn}
use Rattle.block_store.specs.{Reasons.reason_of}
use Rattle.block_store.proofs.FaultLaws.{block_valid}
use Rattle.envelope_view.specs.Answers.{IsOfTests, IsOfReads, IsDamagedIn, IsUndamaged, IsCountedBy, read_part}
use Rattle.envelope_view.proofs.BlockReads.{hits_none}
use Rattle.envelope_view.proofs.NamedLaws.{each_of}
use Rattle.pcm_base.specs.declared.refusal.Refusal.TheVariants as refusal
use Rattle.block_store.specs.declared.fault.BlockFault.TheVariants as fault

pub tests_undamaged : (e : Refusal) → IsOfTests e → IsUndamaged e
tests_undamaged refusal.BadRange own = tt
tests_undamaged refusal.BadColumns own = tt
tests_undamaged _ own = absurd own

pub reason_reads : (why : BlockFault) → IsOfReads (reason_of why)
reason_reads fault.DiskFault = tt
reason_reads (fault.Damaged file found) = tt

pub reason_damaged : (files : Files) (bs : List BlockRef) (why : BlockFault) → IsFaultIn files bs why
    → IsDamagedIn files bs (reason_of why)
reason_damaged files bs fault.DiskFault is = tt
reason_damaged files bs (fault.Damaged file found) is = is

-- ---- what reads say

-- a test that refuses reads nothing
tests_part : (e : Refusal) → IsOfTests e → read_part e ≡ Ok tt
tests_part refusal.BadRange own = refl
tests_part refusal.BadColumns own = refl
tests_part _ own = absurd own

-- the reason of a fault of a block says that fault
reason_part : (why : BlockFault) → read_part (reason_of why) ≡ Err why
reason_part fault.DiskFault = refl
reason_part (fault.Damaged file found) = refl

module _ {D : Type 0} {disk : Ghosts D} where
  pub reads_tests : (bs : List BlockRef) (a b : BlockReader D disk) (e : Refusal) → IsOfTests e
      → Reads {T = Unit {0}} bs a b (Ok tt) → Reads bs a b (read_part e)
  reads_tests bs a b e own f =
      subst (λ (r : Result (Unit {0}) BlockFault). Reads bs a b r) (sym (tests_part e own)) f

  pub reads_reason : {T : Type 0} {bs : List BlockRef} {a b : BlockReader D disk} {why : BlockFault}
      → Reads {T = T} bs a b (Err why) → Reads bs a b (read_part (reason_of why))
  reads_reason {bs = bs} {a = a} {b = b} {why = why} f =
      subst (λ (r : Result (Unit {0}) BlockFault). Reads bs a b r) (sym (reason_part why)) (reads_err f)

-- a test that refuses asks the store nothing
pub hits_tests : {D P : Type 0} {s : D} {c : Entries} (e : Refusal) → IsOfTests e → P
    → IsOk (read_part e) × (s ≡ s) × SameCache c c
hits_tests refusal.BadRange own = hits_none
hits_tests refusal.BadColumns own = hits_none
hits_tests _ own = absurd own

-- the same by reasons of lines, for the crates above
pub counted_of : (why : Refusal) (old new : ℕ) → Counted (read_part why) old new → IsCountedBy why old new
counted_of refusal.DiskFault old new is = is
counted_of (refusal.Damaged file at want have) old new is = is
counted_of _ old new is = is

pub damaged_of : (files : Files) (bs : List BlockRef) (why : Refusal)
    → IfErr (read_part why) (λ e. IsFaultIn files bs e) → IsDamagedIn files bs why
damaged_of files bs (refusal.Damaged file at want have) is = is
damaged_of files bs _ is = tt

-- ---- damage

abbrev IsOfDisk : BlockFault → Type 0
IsOfDisk fault.DiskFault = Unit {0}
IsOfDisk (fault.Damaged file found) = ⊥

-- no fault of a block that is whole
block_undamaged : (files : Files) (b : BlockRef) (why : BlockFault) → IsWhole files b
    → IsFault b.id b.len (bytes_of (files b.id)) why → IsOfDisk why
block_undamaged files b why whole is =
    subst IsOfDisk (sym (block_valid files b.id b.len (size_of b.len) whole.0 why whole.1 whole.2 (omega arith) is)) tt

pub whole_undamaged : (files : Files) (bs : List BlockRef) (e : Refusal) → AllWhole files bs → IsDamagedIn files bs e
    → IsUndamaged e
whole_undamaged files bs (refusal.Damaged file at want have) whole is =
    block_undamaged files is.0 (fault.Damaged file (record { at = at; want = want; have = have }))
    (each_of (IsWhole files) bs whole is.0 is.1) is.2
whole_undamaged files bs _ whole is = tt
