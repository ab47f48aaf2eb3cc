-- Blocks of four samples each are half full.
use Rattle.std.proofs.Common.{◌≡◌, ℕ, ◌-◌, ◌*◌, ◌≤◌, List, [], ◌∷◌, ◌++◌, length, take, drop, ap, ◌∙◌, arith}
use Rattle.std.proofs.Common.{append_assoc}
use Rattle.std.proofs.lemmas.List.{take_all, length-drop}
use Rattle.pcm_base.specs.declared.block.BlockRef.{BlockRef}
use Rattle.pcm_base.specs.declared.limits.TheConstants.{MAX_CELLS}
use Rattle.pcm_base.specs.Blocks.{AllFull, NoneEmpty, block_lens, blocks_len}
use Rattle.block_sequence.specs.{Rows.from_to, Rows.spliced, Sequences.IsHalfFullSomewhere}
use Rattle.block_sequence.proofs.HalfFull.{IsHalfFull-from_full}
use Rattle.row_examples.specs.Fours.{AreFours}

four_full : (bs : List BlockRef) → AreFours bs → AllFull 4 (block_lens bs)
four_full [] are = tt
four_full (b ∷ bs) are = ((omega (arith, are.0), omega (arith, are.0)), four_full bs are.1)

pub half_full : (bs : List BlockRef) → AreFours bs → IsHalfFullSomewhere bs
half_full bs are = (4, IsHalfFull-from_full 4 (block_lens bs) (omega arith) (four_full bs are))

pub none_empty : (bs : List BlockRef) → AreFours bs → NoneEmpty bs
none_empty [] are = tt
none_empty (b ∷ bs) are = (omega (arith, are.0), none_empty bs are.1)

len_fours : (bs : List BlockRef) → AreFours bs → blocks_len bs ≡ 4 * length bs
len_fours [] are = omega arith
len_fours (b ∷ bs) are = omega (arith, are.0, len_fours bs are.1)

pub few_fours : (bs : List BlockRef) → AreFours bs → length bs ≤ 1000000 → blocks_len bs ≤ MAX_CELLS
few_fours bs are few = omega (arith, len_fours bs are, few)

-- the list that is tested
pub spliced_of : (from to count : ℕ) (old middle : List BlockRef) → length old ≤ count
    → (from_to 0 from old ++ middle) ++ from_to to count old ≡ spliced from to middle old
spliced_of from to count old middle all =
    let front : from - 0 ≡ from = omega arith in
    ap (λ n. (take n old ++ middle) ++ from_to to count old) front
    ∙ append_assoc (take from old) middle (from_to to count old)
    ∙ ap (λ (bs : List BlockRef). take from old ++ (middle ++ bs))
    (take_all (count - to) (drop to old) (omega (arith, length-drop to old, all)))
