-- An answer of blocks, as one of a check.
use Rattle.editor_recovery.proofs.Common.{◌≡◌, refl, ap, subst, ℕ, zero, suc, ◌<◌, inl, List, [], ◌∷◌, length}
use Rattle.editor_recovery.proofs.Common.{take, get_or, Result, Ok, Err, arith, Contains, IfErr, AllByRecursion}
use Rattle.editor_recovery.proofs.Common.{BlockRef, Kept, Ghosts, BlockFault, ids_of, OpenFault, Causes}
use Rattle.std.specs.{Prelude.IsOkUnless}
use Rattle.block_store.specs.{Reads.Counted}
use Rattle.editor_recovery.specs.Checking.{IsCheckFault, IsNotDamage}
use Rattle.editor_recovery.specs.{Blocks.fault_of}
use Rattle.editor_recovery.proofs.Listed.{contains_none, contains_there}

-- ---- an answer of blocks as one of a check

-- this many, all whole, or what was found of one of them
abbrev pub Tells : {T : Type 0} → Result T BlockFault → ℕ → Result ℕ OpenFault → Type 0
Tells (Ok done) n told = told ≡ Ok n
Tells (Err why) n told = told ≡ Err (fault_of why)

pub known : {T : Type 0} (r : Result T BlockFault) (told : Result ℕ OpenFault) (n : ℕ) → Tells r n told
    → IfErr told IsCheckFault
known (Err BlockFault.DiskFault) told n is = rw is tt
known _ told n is = rw is tt

pub valid_told : {T : Type 0} (r : Result T BlockFault) (told : Result ℕ OpenFault) (n : ℕ) → Tells r n told
    → IsOkUnless r BlockFault.DiskFault
    → IfErr told IsNotDamage
valid_told (Err (BlockFault.Damaged file found)) told n is valid = absurd cc
valid_told _ told n is valid = rw is tt

pub cause_told : {D T : Type 0} (disk : Ghosts D) (old new : D) (r : Result T BlockFault) (told : Result ℕ OpenFault)
    (n : ℕ) → Tells r n told
    → Kept disk old new → Counted r (disk.read_fault_count old) (disk.read_fault_count new) → Causes disk old new told
cause_told disk old new (Err BlockFault.DiskFault) told n is kept counted =
    rw is (record { rose = inl counted.0; later_reads = counted.1; later_changes = omega (arith, kept.same_faults) })
cause_told disk old new _ told n is kept counted =
    rw is (record { same_read_faults = counted; same_change_faults = kept.same_faults })

pub of_id : (bs : List BlockRef) (id : ℕ) → Contains (ids_of bs) id → (b : BlockRef) × Contains bs b × (b.id ≡ id)
of_id [] id has = absurd (contains_none id has)
of_id (b ∷ bs) id (zero, lt, e) = (b, (0, omega arith, refl), e)
of_id (b ∷ bs) id (suc k, lt, e) =
    let found = of_id bs id (k, omega (arith, lt), e) in
    (found.0, contains_there b bs found.0 found.1, found.2)

pub id_there : (bs : List BlockRef) (b : BlockRef) → Contains bs b → Contains (ids_of bs) b.id
id_there [] b has = absurd (contains_none b has)
id_there (x ∷ bs) b (zero, lt, e) = (0, omega arith, ap (λ (r : BlockRef). r.id) e)
id_there (x ∷ bs) b (suc k, lt, e) = contains_there x.id (ids_of bs) b.id (id_there bs b (k, omega (arith, lt), e))

pub before : (P : BlockRef → Type 0) (bs : List BlockRef) (k j : ℕ) (b : BlockRef) → j < k → j < length bs
    → get_or bs j b ≡ b
    → AllByRecursion P (take k bs) → P b
before P [] k j b low lt at all = absurd (omega (arith, lt))
before P (x ∷ bs) zero j b low lt at all = absurd (omega (arith, low))
before P (x ∷ bs) (suc k) zero b low lt at all = subst P at all.0
before P (x ∷ bs) (suc k) (suc j) b low lt at all = before P bs k j b (omega (arith, low)) (omega (arith, lt)) at all.1
