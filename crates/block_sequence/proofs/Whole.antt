-- Blocks as whole pieces.
use Rattle.std.proofs.Common.{◌≡◌, ℕ, ◌+◌, ◌<◌, List, [], ◌∷◌, ◌++◌, length, get_or, drop, map, refl, ap, ap₂, ◌∙◌}
use Rattle.std.proofs.Common.{◌-◌, ◌≤◌, pos, sym, arith, length-append, length-take, length-drop}
use Rattle.std.proofs.{lemmas.List.drop_more, Math.Nat.sub-zero}
use Rattle.pcm_base.specs.declared.piece.Piece.{Piece}
use Rattle.pcm_base.specs.Pieces.{Sources, stretch, total, all_samples, whole, AllValid}
use Rattle.pcm_base.specs.{declared.block.BlockRef.BlockRef, Blocks.NoneEmpty, Blocks.block_samples, Blocks.blocks_len}
use Rattle.pcm_base.proofs.Pieces.{length-stretch, length-all_samples}
use Rattle.block_sequence.specs.Rows.{from_to}

pub blocks_next : (bs : List BlockRef) (i : ℕ) (d : BlockRef) → i < length bs
    → blocks_len (drop i bs) ≡ (get_or bs i d).len + blocks_len (drop (i + 1) bs)
blocks_next bs i d h = ap blocks_len (drop_more bs i d h)

pub total_whole : (bs : List BlockRef) → total (map whole bs) ≡ blocks_len bs
total_whole [] = refl
total_whole (b ∷ bs) = ap₂ ◌+◌ (sub-zero b.len) (total_whole bs)

pub samples_whole : (src : Sources) (bs : List BlockRef) → all_samples src (map whole bs) ≡ block_samples src bs
samples_whole src [] = refl
samples_whole src (b ∷ bs) = ap₂ ◌++◌ (ap (stretch (src.block b.id) 0) (sub-zero b.len)) (samples_whole src bs)

pub valid_whole : (bs : List BlockRef) → NoneEmpty bs → AllValid (map whole bs)
valid_whole [] h = tt
valid_whole (b ∷ bs) h = ((omega arith, omega arith, h.0), valid_whole bs h.1)

pub length-blocks : (src : Sources) (bs : List BlockRef) → length (block_samples src bs) ≡ blocks_len bs
length-blocks src [] = refl
length-blocks src (b ∷ bs) =
    length-append (stretch (src.block b.id) 0 b.len) (block_samples src bs)
    ∙ ap₂ ◌+◌ (length-stretch (src.block b.id) 0 b.len) (length-blocks src bs)

pub total_part : (ps : List Piece) (bs : List BlockRef) (from to : ℕ) → from ≤ to → to ≤ blocks_len bs
    → ((src : Sources) → all_samples src ps ≡ from_to from to (block_samples src bs)) → total ps ≡ to - from
total_part ps bs from to h k same =
    let src : Sources = record { block = λ id at. pos 0; given = λ at. pos 0 } in
    let xs = block_samples src bs in
    sym (length-all_samples src ps)
    ∙ ap length (same src)
    ∙ omega (arith, length-take (to - from) (drop from xs), length-drop from xs, length-blocks src bs)
