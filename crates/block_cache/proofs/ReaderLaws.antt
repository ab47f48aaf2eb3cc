-- Reads in turn, by what each leaves of a reader.
use Rattle.block_cache.proofs.Common.{◌≡◌, ◌∙◌, ◌≤◌, ℕ, ℤ, List, [], ◌∷◌, Contains, Option, refl, ap, subst, IsTrue}
use Rattle.block_cache.proofs.Common.{Contains-head, Files, bytes_of, Kept, Ghosts, tells_on, kept_none, kept_turn}
use Rattle.block_cache.proofs.Common.{BlockRef, size_of, KeepsCache, Entries, sym}
use Rattle.std.proofs.Common.{Result, Ok, Err}
use Rattle.std.proofs.lemmas.Result.{IfErr-weaker}
use Rattle.std.specs.Prelude.{IfErr}
use Rattle.disk_model.proofs.Frames.{Fewer}
use Rattle.block_store.specs.{declared.fault.BlockFault.BlockFault, Reads.Counted, Reads.IsFault, Reads.IsFaultIn}
use Rattle.block_store.specs.{Reads.IsReadFault}
use Rattle.block_store.proofs.FaultLaws.{fault_on}
use Rattle.sample_block.specs.{Blocks.blocks}
use Rattle.block_cache.specs.{declared.reader.BlockReader.BlockReader, Readers.Reads}
use Rattle.block_store.specs.declared.fault.BlockFault.TheVariants as fault
use Rattle.block_cache.proofs.CacheLaws.{keeps_more, keeps_same, keeps_then, same_none}

-- a fault of a read of a block, among those of this block alone
pub fault_in : {T : Type 0} (files : Files) (b : BlockRef) (end : ℕ) (r : Result T BlockFault) → end ≤ size_of b.len
    → IfErr r (λ e. IsReadFault b.id b.len end (bytes_of (files b.id)) e) → IfErr r (λ e. IsFaultIn files (b ∷ []) e)
fault_in files b end r le is =
    IfErr-weaker r (λ e. IsReadFault b.id b.len end (bytes_of (files b.id)) e) (λ e. IsFaultIn files (b ∷ []) e)
    (λ e found. (b, Contains-head b [], fault_on b.id b.len end (size_of b.len) (bytes_of (files b.id)) e le found)) is

module _ {D : Type 0} {disk : Ghosts D} where
  -- a read of one block through the cache
  pub read_through : {T : Type 0} (b : BlockRef) (end : ℕ) (old new : BlockReader D disk) (r : Result T BlockFault)
      → end ≤ size_of b.len → Kept disk old.store new.store
      → Counted r (disk.read_fault_count old.store) (disk.read_fault_count new.store)
      → KeepsCache (disk.tells old.store) (disk.reads old.store) (b ∷ []) old.cache new.cache
      → (IsTrue (disk.tells old.store)
      → IfErr r (λ e. IsReadFault b.id b.len end (bytes_of (disk.reads old.store b.id)) e))
      → Reads (b ∷ []) old new r
  read_through b end old new r le kept faults cache damaged = record {
    kept = kept;
    faults = faults;
    cache = cache;
    damaged = λ told. fault_in (disk.reads old.store) b end r le (damaged told);
  }

  -- a read that names no block, which the disk alone may refuse, among reads of some blocks
  pub reads_any : {T : Type 0} (bs : List BlockRef) (b : BlockRef) (old new : BlockReader D disk)
      (r : Result T BlockFault) → Contains bs b → Kept disk old.store new.store
      → Counted r (disk.read_fault_count old.store) (disk.read_fault_count new.store) → new.cache ≡ old.cache
      → IfErr r (λ e. e ≡ fault.DiskFault) → Reads bs old new r
  reads_any bs b old new r has kept faults same only = record {
    kept = kept;
    faults = faults;
    cache = subst (λ (c : Entries). KeepsCache (disk.tells old.store) (disk.reads old.store) bs old.cache c) (sym same)
        (keeps_same (same_none old.cache));
    damaged = λ told.
        let files : Files = disk.reads old.store in
        IfErr-weaker r (λ e. e ≡ fault.DiskFault) (λ e. IsFaultIn files bs e)
        (λ e is. (b, has, subst (λ (why : BlockFault). IsFault b.id b.len (bytes_of (files b.id)) why) (sym is) tt))
        only;
  }

  -- no read at all
  pub reads_none : {T : Type 0} {bs : List BlockRef} {a : BlockReader D disk} (x : T) → Fewer disk a.store
      → Reads bs a a (Ok x)
  reads_none {a = a} x fewer = record {
    kept = kept_none a.store fewer;
    faults = refl;
    cache = keeps_same (same_none _);
    damaged = λ told. tt;
  }

  -- reads, and then others with this answer
  pub reads_then : {T U : Type 0} {bs : List BlockRef} {a b c : BlockReader D disk} {x : T} {r : Result U BlockFault}
      → Reads bs a b (Ok x) → Reads bs b c r → Reads bs a c r
  reads_then {bs = bs} {a = a} {b = b} {c = c} {r = r} f g = record {
    kept = kept_turn f.kept g.kept;
    faults = subst (λ (n : ℕ). Counted r n (disk.read_fault_count c.store)) f.faults g.faults;
    cache = keeps_then a.store b.store bs a.cache b.cache c.cache f.kept f.cache g.cache;
    damaged = λ told.
        let still = tells_on f.kept told in
        subst (λ (files : Files). IfErr r (λ e. IsFaultIn files bs e)) f.kept.same_reads (g.damaged still);
  }

  -- reads of fewer blocks
  pub reads_more : {T : Type 0} (bs more : List BlockRef) {a b : BlockReader D disk} {r : Result T BlockFault}
      → ((d : BlockRef) → Contains bs d → Contains more d) → Reads bs a b r → Reads more a b r
  reads_more bs more {a = a} {r = r} among f = record {
    kept = f.kept;
    faults = f.faults;
    cache = keeps_more _ _ bs more _ _ among f.cache;
    damaged = λ told.
        let files : Files = disk.reads a.store in
        IfErr-weaker r (λ e. IsFaultIn files bs e) (λ e. IsFaultIn files more e)
        (λ e is. (is.0, among is.0 is.1, is.2)) (f.damaged told);
  }

  -- the same with another value
  pub reads_ok : {T U : Type 0} {bs : List BlockRef} {a b : BlockReader D disk} {x : T} {y : U} → Reads bs a b (Ok x)
      → Reads bs a b (Ok y)
  reads_ok f = record {
    kept = f.kept;
    faults = f.faults;
    cache = f.cache;
    damaged = λ told. tt;
  }

  -- and with the same error, in place of another value
  pub reads_err : {T U : Type 0} {bs : List BlockRef} {a b : BlockReader D disk} {why : BlockFault}
      → Reads {T = T} bs a b (Err why) → Reads {T = U} bs a b (Err why)
  reads_err f = record {
    kept = f.kept;
    faults = f.faults;
    cache = f.cache;
    damaged = f.damaged;
  }

  -- where the disk reported its bytes it does so still, and they are the same
  pub told_on : {T : Type 0} {bs : List BlockRef} {a b : BlockReader D disk} {r : Result T BlockFault} → Reads bs a b r
      → IsTrue (disk.tells a.store) → IsTrue (disk.tells b.store)
  told_on f told = tells_on f.kept told

  -- and a block that stood there does so too
  pub there_on : {T : Type 0} {bs : List BlockRef} {a b : BlockReader D disk} {r : Result T BlockFault}
      {found : Option (List ℤ)} (id : ℕ) → Reads bs a b r → blocks (disk.reads a.store) id ≡ found
      → blocks (disk.reads b.store) id ≡ found
  there_on id f is = ap (λ (files : Files). blocks files id) f.kept.same_reads ∙ is
