-- Files that are put as blocks.
use Rattle.std.proofs.Common.{◌≡◌, ℕ, ℤ, List, Some, ap, ◌∙◌}
use Rattle.disk_model.specs.Disk.{Files}
use Rattle.sample_block.specs.{Spelling.spelling, Blocks.blocks}
use Rattle.sample_block.proofs.BlockLaws.{blocks_have}

-- the file of a block is the spelling of its samples
pub file_of_block : (files : Files) (id : ℕ) (xs : List ℤ) → blocks files id ≡ Some xs
    → files id ≡ Some (spelling id xs)
file_of_block files id xs e =
    let has = blocks_have files id xs e in
    has.file ∙ ap (λ (ys : List ℕ). Some ys) has.spelled.1
