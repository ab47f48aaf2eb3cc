-- What stands in the files of blocks that are whole are their samples.
use Rattle.cell_reader.proofs.Common.{◌≡◌, ℕ, zero, suc, ◌+◌, ◌-◌, ◌*◌, ℤ, ◌≤◌, List, [], ◌∷◌, ◌++◌, length, take, drop}
use Rattle.cell_reader.proofs.Common.{map, min, refl, sym, ap, ap₂, ◌∙◌, arith, length-drop, take_min, replicate, Files}
use Rattle.cell_reader.proofs.Common.{bytes_of, BlockRef, Cell, stretch, block_samples, part, Clip, clip_end}
use Rattle.cell_reader.proofs.Common.{cells_from, layout_blocks, samples_in, samples_on, IsWhole, AllWhole}
use Rattle.cell_reader.proofs.Common.{length_samples, View, place_in, stored_on, stored_of}
use Rattle.std.proofs.lemmas.{Simd.map-map}
use Rattle.sample_block.specs.Sources.{sources_of}
use Rattle.sample_block.proofs.Laws.{samples_stretch}
use Rattle.cell_reader.proofs.{PartLists.part-map, SeenLaws.block_whole, SeenLaws.whole_back, SeenLaws.whole_front}
use Rattle.pcm_base.specs.declared.sound.Cell.TheVariants as cell
use Rattle.block_store.proofs.FaultLaws as store_laws

-- a stretch of a block, from one of its samples on
pub stored_stretch : (files : Files) (id from n : ℕ)
    → stretch (stored_on files id) from n ≡ samples_in (bytes_of (files id)) (16 + 2 * from) n
stored_stretch files id from zero = refl
stored_stretch files id from (suc n) =
    let next : 16 + 2 * suc from ≡ 16 + 2 * from + 2 = omega arith in
    ap (λ xs. stored_on files id from ∷ xs)
    (stored_stretch files id (suc from) n ∙ ap (λ at. samples_in (bytes_of (files id)) at n) next)

stored_block : (files : Files) (b : BlockRef) → IsWhole files b
    → stretch (stored_on files b.id) 0 b.len ≡ stretch (samples_on files b.id) 0 b.len
stored_block files b whole =
    stored_stretch files b.id 0 b.len
    ∙ store_laws.block_samples files b.id b.len whole.0 whole.1 whole.2
    ∙ sym (block_whole files b whole.0 whole.1 whole.2)

stored_blocks : (files : Files) (bs : List BlockRef) → AllWhole files bs
    → block_samples (stored_of files) bs ≡ block_samples (sources_of files) bs
stored_blocks files [] whole = refl
stored_blocks files (b ∷ bs) whole =
    ap₂ ◌++◌ (stored_block files b whole.0) (stored_blocks files bs whole.1)

pub stored_cells : (files : Files) (at : ℕ) (cs : List Clip) → AllWhole files (layout_blocks cs)
    → cells_from (stored_of files) at cs ≡ cells_from (sources_of files) at cs
stored_cells files at [] whole = refl
stored_cells files at (c ∷ cs) whole =
    ap₂ (λ xs ys. replicate (c.start - at) cell.Gap ++ map cell.Sample xs ++ ys)
    (stored_blocks files c.blocks (whole_front files c.blocks (layout_blocks cs) whole))
    (stored_cells files (clip_end c) cs (whole_back files c.blocks (layout_blocks cs) whole))

-- what is made of those of a block that are seen
pub stored_part : {A : Type 0} (made : Cell → A) (files : Files) (b : BlockRef) (view : View) (at k skip : ℕ)
    (out : List A) → view.from ≤ view.to → k ≡ place_in view (at + b.len) - place_in view at → skip ≡ view.from - at
    → skip + k ≤ b.len → out ≡ map (λ s. made (cell.Sample s)) (samples_in (bytes_of (files b.id)) (16 + 2 * skip) k)
    → out ≡ map made (part (view.from - at) (view.to - at) (map cell.Sample (stretch (stored_on files b.id) 0 b.len)))
stored_part made files b view at k skip out order size place fits is =
    let bytes : List ℕ = bytes_of (files b.id) in
    let xs : List ℤ = samples_in bytes 16 b.len in
    let low : ℕ = view.from - at in
    let high : ℕ = view.to - at in
    let long : length (drop skip xs) ≡ b.len - skip =
    omega (arith, length-drop skip xs, length_samples bytes 16 b.len) in
    let e : k ≡ min (high - low) (length (drop skip xs)) = omega (arith, long, size, place) in
    is
    ∙ ap (map (λ s. made (cell.Sample s)))
    (samples_stretch bytes b.len skip k fits
    ∙ ap (λ n. take n (drop skip xs)) e ∙ take_min (high - low) (drop skip xs)
    ∙ ap (λ n. take (high - low) (drop n xs)) place)
    ∙ sym (map-map made cell.Sample (part low high xs))
    ∙ ap (map made) (sym (part-map cell.Sample low high xs)
    ∙ ap (λ zs. part low high (map cell.Sample zs)) (sym (stored_stretch files b.id 0 b.len)))
