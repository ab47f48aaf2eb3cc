-- Reads of a block of the disk give its samples, and find no fault in it.
use Rattle.std.proofs.Common.{◌≡◌, ℕ, ◌+◌, ◌*◌, take, drop, ◌^◌, ◌<◌, ◌≤◌, ℤ, List, length, Option, Some, None, refl}
use Rattle.std.proofs.Common.{sym, ap, ◌∙◌, arith, ⊎_elim, inl, inr, zero, suc, Result, Ok, Err}
use Rattle.std.specs.Prelude.{IfErr, IsOkUnless, OnOk}
use Rattle.disk_model.specs.Disk.{Files, bytes_of}
use Rattle.sample_block.specs.{Spelling.header_fields, Spelling.size_of, Faults.difference, Faults.samples_in}
use Rattle.sample_block.specs.{Blocks.blocks}
use Rattle.sample_block.proofs.Spellings.{spelled_read, spelled_header, spelled_size}
use Rattle.sample_block.proofs.{Laws.samples_stretch, BlockLaws.blocks_have}
use Rattle.block_store.specs.declared.fault.BlockFault.{BlockFault}
use Rattle.block_store.specs.Reads.{HasHeader, IsEarly, IsReadFault, end_of}
use Rattle.block_store.specs.declared.fault.BlockFault.TheVariants as fault

-- the samples of a block are those in its file
pub block_samples : (files : Files) (id len : ℕ) (xs : List ℤ) → blocks files id ≡ Some xs → length xs ≡ len
    → samples_in (bytes_of (files id)) 16 len ≡ xs
block_samples files id len xs e size =
    let has = blocks_have files id xs e in
    let low : id < 2 ^ 64 = omega (arith, has.block.id_high) in
    let few : length xs < 2 ^ 32 = omega (arith, has.block.few) in
    ap (λ (o : Option (List ℕ)). samples_in (bytes_of o) 16 len) has.file ∙ ap (samples_in has.bytes 16) (sym size)
    ∙ (spelled_read id xs has.bytes low few has.spelled).1

pub fault_on : (id len before end : ℕ) (bytes : List ℕ) (why : BlockFault) → before ≤ end
    → IsReadFault id len before bytes why → IsReadFault id len end bytes why
fault_on id len before end bytes fault.DiskFault le is = tt
fault_on id len before end bytes (fault.Damaged file found) le is =
    (is.0, ⊎_elim (λ header. inl header) (λ early. inr ((early.0.0, omega (arith, early.0.1)), early.1)) is.1)

-- where the header is right a file can only end too early
pub early_fault : (id len end : ℕ) (bytes : List ℕ) (why : BlockFault)
    → difference bytes 0 (header_fields id len) ≡ None → IsEarly id len end bytes why → IsReadFault id len end bytes why
early_fault id len end bytes fault.DiskFault none early = tt
early_fault id len end bytes (fault.Damaged file found) none early = (early.0, inr (early.1, λ there. none))

-- a read after a header that was compared
pub early_result : {T : Type 0} (r : Result T BlockFault) (id len end : ℕ) (bytes : List ℕ) → HasHeader id len bytes
    → IfErr r (λ e. IsEarly id len end bytes e) → IfErr r (λ e. IsReadFault id len end bytes e)
early_result (Ok x) id len end bytes has early = tt
early_result (Err why) id len end bytes has early = early_fault id len end bytes why has.1 early

pub end_most : (n place most : ℕ) → 16 ≤ most → place ≤ most → end_of n place ≤ most
end_most zero place most front le = front
end_most (suc n) place most front le = le

-- a block has no fault
pub block_valid : (files : Files) (id len end : ℕ) (xs : List ℤ) (why : BlockFault) → blocks files id ≡ Some xs
    → length xs ≡ len → end ≤ size_of len
    → IsReadFault id len end (bytes_of (files id)) why → why ≡ fault.DiskFault
block_valid files id len end xs (fault.Damaged file found) e size le is =
    let has = blocks_have files id xs e in
    let low : id < 2 ^ 64 = omega (arith, has.block.id_high) in
    let few : length xs < 2 ^ 32 = omega (arith, has.block.few) in
    let bytes : bytes_of (files id) ≡ has.bytes = ap bytes_of has.file in
    let none : difference (bytes_of (files id)) 0 (header_fields id len) ≡ None =
    ap (λ (ys : List ℕ). difference ys 0 (header_fields id len)) bytes
    ∙ ap (λ (n : ℕ). difference has.bytes 0 (header_fields id n)) (sym size)
    ∙ spelled_header id xs has.bytes low few has.spelled in
    let long : length (bytes_of (files id)) ≡ size_of len =
    ap length bytes ∙ spelled_size id xs has.bytes has.spelled ∙ ap size_of size in
    ⊎_elim (λ some. absurd (let clash = sym none ∙ some.1 in cc))
    (λ early. absurd (omega (arith, early.0.1, le, long))) is.1
block_valid files id len end xs fault.DiskFault e size le is = refl

pub valid_result : {T : Type 0} (r : Result T BlockFault) (files : Files) (id len end : ℕ) (xs : List ℤ)
    → blocks files id ≡ Some xs → length xs ≡ len → end ≤ size_of len
    → IfErr r (λ e. IsReadFault id len end (bytes_of (files id)) e) → IsOkUnless r fault.DiskFault
valid_result (Ok x) files id len end xs e size le is = tt
valid_result (Err why) files id len end xs e size le is = block_valid files id len end xs why e size le is

pub read_result : {T : Type 0} (r : Result T BlockFault) (files : Files) (id len from n : ℕ) (xs out : List ℤ)
    → blocks files id ≡ Some xs → length xs ≡ len
    → from + n ≤ len → OnOk r (out ≡ samples_in (bytes_of (files id)) (16 + 2 * from) n)
    → OnOk r (out ≡ take n (drop from xs))
read_result (Ok x) files id len from n xs out e size le read =
    read ∙ samples_stretch (bytes_of (files id)) len from n le
    ∙ ap (λ (ys : List ℤ). take n (drop from ys)) (block_samples files id len xs e size)
read_result (Err why) files id len from n xs out e size le read = tt
