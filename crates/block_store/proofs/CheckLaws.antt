-- A file that is the spelling of a block is a block of the disk, and no block of the disk has anything that differs.
use Rattle.std.proofs.Common.{◌≡◌, ◌^◌, ◌<◌, ◌∙◌, ℕ, ℤ, List, length, Option, Some, None, Result, Ok, Err, refl, sym}
use Rattle.std.proofs.Common.{ap, subst, arith}
use Rattle.std.specs.Prelude.{OnOk, IsOkUnless}
use Rattle.disk_model.specs.Disk.{Files, bytes_of}
use Rattle.sample_block.specs.{Spelling.IsBlock, Spelling.IsSpelled, Faults.damage_of, Faults.samples_in}
use Rattle.sample_block.specs.{Blocks.HasBlock}
use Rattle.sample_block.proofs.{Laws.length_samples, Spellings.spelled_read, Spellings.spelled_size}
use Rattle.sample_block.proofs.{BlockLaws.blocks_have, BlockLaws.blocks_of_has}
use Rattle.block_store.specs.{declared.fault.BlockFault.BlockFault, Checks.Checks, Checks.IsWhole}
use Rattle.block_store.specs.declared.fault.BlockFault.TheVariants as fault

there : (file : Option (List ℕ)) → 0 < length (bytes_of file) → file ≡ Some (bytes_of file)
there None some = absurd (omega (arith, some))
there (Some bytes) some = refl

pub whole_spelled : (files : Files) (id len : ℕ) (xs : List ℤ) → IsBlock id len → length xs ≡ len
    → IsSpelled id xs (bytes_of (files id)) → IsWhole files id len
whole_spelled files id len xs block size spelled =
    let long = spelled_size id xs (bytes_of (files id)) spelled in
    let has : HasBlock files id xs = record {
      block = subst (IsBlock id) (sym size) block;
      bytes = bytes_of (files id);
      file = there (files id) (omega (arith, long));
      spelled = spelled;
    } in
    (xs, blocks_of_has files id xs has, size)

pub whole_valid : (files : Files) (id len : ℕ) → IsWhole files id len → damage_of id len (bytes_of (files id)) ≡ None
whole_valid files id len whole =
    let has = blocks_have files id whole.0 whole.1 in
    let low : id < 2 ^ 64 = omega (arith, has.block.id_high) in
    let few : length whole.0 < 2 ^ 32 = omega (arith, has.block.few) in
    ap (λ (file : Option (List ℕ)). damage_of id len (bytes_of file)) has.file ∙ ap
    (λ (n : ℕ). damage_of id n has.bytes) (sym whole.2) ∙ (spelled_read id whole.0 has.bytes low few has.spelled).0

pub whole_result : {T : Type 0} (r : Result T BlockFault) (files : Files) (id len : ℕ) → IsBlock id len
    → OnOk r (IsSpelled id (samples_in (bytes_of (files id)) 16 len) (bytes_of (files id)))
    → OnOk r (IsWhole files id len)
whole_result (Ok x) files id len block spelled = whole_spelled files id len
    (samples_in (bytes_of (files id)) 16 len) block (length_samples (bytes_of (files id)) 16 len) spelled
whole_result (Err why) files id len block spelled = tt

pub valid_check : {T : Type 0} (r : Result T BlockFault) (files : Files) (id len : ℕ) → IsWhole files id len
    → Checks id (damage_of id len (bytes_of (files id))) r → IsOkUnless r fault.DiskFault
valid_check (Ok x) files id len whole checked = tt
valid_check (Err fault.DiskFault) files id len whole checked = refl
valid_check (Err (fault.Damaged file found)) files id len whole checked =
    absurd (let clash = sym (whole_valid files id len whole) ∙ checked.1 in cc)
