-- The cells of what is left, and the samples among them.
use Rattle.envelope_view.proofs.Common.{◌≡◌, ℕ, zero, suc, ◌+◌, ◌-◌, ◌≤◌, ℤ, List, [], ◌∷◌, ◌++◌, length, take, drop}
use Rattle.envelope_view.proofs.Common.{map, Some, refl, sym, ap, ap₂, subst, ◌∙◌, arith, length-drop, drop-drop}
use Rattle.envelope_view.proofs.Common.{take_rest, All-take, All-drop, All-nil, Contains, FitsSigned, w16, Files}
use Rattle.envelope_view.proofs.Common.{Sources, BlockRef, Cell, part, blocks, sources_of, IsNamed, blocks_have}
use Rattle.envelope_view.proofs.Common.{samples_among, Summary, AreSamples, summary_of, Block, item_len, part_of_item}
use Rattle.envelope_view.proofs.Common.{strip_blocks, strip_cells, Stretch, Item, stretch_item, IsInBlock}
use Rattle.envelope_view.proofs.Common.{stretch_blocks, stretch_cells, stretch_len, AreWhole}
use Rattle.std.proofs.lemmas.List.{take-append-le, drop-append-le, take-map, take-replicate, length-take}
use Rattle.std.proofs.lemmas.List.{nil_from_length}
use Rattle.std.proofs.lemmas.List.Elements.{Contains-append_right}
use Rattle.std.proofs.Math.Seq.{take-add}
use Rattle.std.specs.{Prelude.replicate}
use Rattle.pcm_base.specs.declared.sound.Cell.TheVariants.{Gap, Sample}
use Rattle.pcm_base.specs.Pieces.{stretch}
use Rattle.pcm_base.proofs.Pieces.{take-stretch}
use Rattle.sample_block.specs.{Sources.samples_on}
use Rattle.block_store.proofs.StretchLaws.{block_stretch}
use Rattle.clip_track.specs.declared.rest.Stretch.TheVariants.{Gaps}
use Rattle.clip_track.specs.Items.{item_blocks, item_cells}
use Rattle.clip_track.proofs.Strips.{item_part_cells, length-item_cells}
use Rattle.envelope_view.specs.Named.{AreNamed}
use Rattle.envelope_view.proofs.NamedLaws.{one_there}

-- samples among cells

pub among-append : (xs ys : List Cell) → samples_among (xs ++ ys) ≡ samples_among xs ++ samples_among ys
among-append [] ys = refl
among-append (Gap ∷ xs) ys = among-append xs ys
among-append (Sample s ∷ xs) ys = ap (λ (zs : List ℤ). s ∷ zs) (among-append xs ys)

among-samples : (xs : List ℤ) → samples_among (map Sample xs) ≡ xs
among-samples [] = refl
among-samples (x ∷ xs) = ap (λ (zs : List ℤ). x ∷ zs) (among-samples xs)

among-gaps : (n : ℕ) → samples_among (replicate n Gap) ≡ []
among-gaps zero = refl
among-gaps (suc n) = among-gaps n

among_most : (xs : List Cell) → length (samples_among xs) ≤ length xs
among_most [] = omega arith
among_most (Gap ∷ xs) = omega (arith, among_most xs)
among_most (Sample s ∷ xs) = omega (arith, among_most xs)

pub among_few : (n : ℕ) (xs : List Cell) → length (samples_among (take n xs)) ≤ n
among_few n xs = omega (arith, among_most (take n xs), length-take n xs)

-- of a stretch and what follows it this many cells are taken, first some of the stretch
pub swept : (xs ys : List Cell) (left size : ℕ) → size ≤ left → size ≤ length xs
    → samples_among (take left (xs ++ ys)) ≡ samples_among (take size xs)
    ++ samples_among (take (left - size) (drop size xs ++ ys))
swept xs ys left size within part =
    let e : left ≡ size + (left - size) = omega arith in
    ap (λ (k : ℕ). samples_among (take k (xs ++ ys))) e
    ∙ ap samples_among (take-add size (left - size) (xs ++ ys) ∙ ap₂ (λ (zs ws : List Cell). zs
    ++ take (left - size) ws) (take-append-le size xs ys part) (drop-append-le size xs ys part))
    ∙ among-append (take size xs) (take (left - size) (drop size xs ++ ys))

pub passed_on : (xs ys : List Cell) (left size : ℕ) → size ≤ left → size ≤ length xs
    → drop left (xs ++ ys) ≡ drop (left - size) (drop size xs ++ ys)
passed_on xs ys left size within part =
    let e : size + (left - size) ≡ left = omega arith in
    sym (ap (drop (left - size)) (sym (drop-append-le size xs ys part)) ∙ drop-drop (left - size) size (xs ++ ys)
    ∙ ap (λ (k : ℕ). drop k (xs ++ ys)) e)

pub behind_cells : (src : Sources) (s t : Stretch) (n : ℕ) → n ≤ stretch_len s
    → stretch_item t ≡ part_of_item n (stretch_len s - n) (stretch_item s)
    → stretch_cells src t ≡ drop n (stretch_cells src s)
behind_cells src s t n within is =
    let x = stretch_item s in
    let len : item_len x - n ≡ length (item_cells src x) - n = omega (arith, length-item_cells src x) in
    ap (item_cells src) is ∙ item_part_cells src n (item_len x - n) x (omega (arith, within))
    ∙ ap (λ (k : ℕ). take k (drop n (item_cells src x))) len ∙ take_rest (item_cells src x) n

-- a stretch of a block of the disk
pub block_front : (files : Files) (b : BlockRef) (from n : ℕ) (xs : List ℤ) → blocks files b.id ≡ Some xs
    → length xs ≡ b.len → from + n ≤ b.len
    → samples_among (take n (stretch_cells (sources_of files) (Block b from))) ≡ part from (from + n) xs
block_front files b from n xs e size within =
    let ys : List ℤ = stretch (samples_on files b.id) from (b.len - from) in
    let k : n ≡ from + n - from = omega arith in
    ap samples_among (take-map Sample n ys) ∙ among-samples (take n ys)
    ∙ take-stretch (samples_on files b.id) from n (b.len - from) (omega (arith, within))
    ∙ block_stretch files b.id from n xs e (omega (arith, size, within))
    ∙ ap (λ (j : ℕ). take j (drop from xs)) k

pub gaps_front : (src : Sources) (len n : ℕ) → n ≤ len → samples_among (take n (stretch_cells src (Gaps len))) ≡ []
gaps_front src len n within = ap samples_among (take-replicate n len Gap within) ∙ among-gaps n

-- samples of whole blocks fit 16 bits
pub front_fits : (files : Files) (s : Stretch) (n : ℕ) → IsInBlock s → n ≤ stretch_len s
    → AreWhole files (stretch_blocks s)
    → AreSamples (samples_among (take n (stretch_cells (sources_of files) s)))
front_fits files (Gaps len) n ok within whole =
    subst AreSamples (sym (gaps_front (sources_of files) len n within)) (All-nil (λ s. FitsSigned w16 s))
front_fits files (Block b from) n ok within whole =
    let w = whole b (one_there b) in
    subst AreSamples (sym (block_front files b from n w.0 w.1 w.2 (omega (arith, within, ok))))
    (All-take (λ s. FitsSigned w16 s) (from + n - from) _
    (All-drop (λ s. FitsSigned w16 s) from w.0 (blocks_have files b.id w.0 w.1).spelled.0))

-- the next stretch is entered where all of one is passed

pub entered_blocks : (x s : Stretch) (old new : List Item) (b : BlockRef) → old ≡ stretch_item s ∷ new
    → Contains (strip_blocks (stretch_item s ∷ new)) b → Contains (strip_blocks (stretch_item x ∷ old)) b
entered_blocks x s old new b is there =
    Contains-append_right (item_blocks (stretch_item x)) (strip_blocks old) b
    (subst (λ (ys : List Item). Contains (strip_blocks ys) b) (sym is) there)

-- some cells of a stretch are passed, out of this many

pub step_heard : (src : Sources) (s t : Stretch) (rest : List Item) (old : List Cell) (left size : ℕ) → size ≤ left
    → size ≤ stretch_len s
    → stretch_item t ≡ part_of_item size (stretch_len s - size) (stretch_item s)
    → strip_cells src (stretch_item s ∷ rest) ≡ old
    → samples_among (take left old) ≡ samples_among (take size (stretch_cells src s))
    ++ samples_among (take (left - size) (strip_cells src (stretch_item t ∷ rest)))
step_heard src s t rest old left size within part is all =
    let xs : List Cell = stretch_cells src s in
    let ys : List Cell = strip_cells src rest in
    let long : size ≤ length xs = omega (arith, part, length-item_cells src (stretch_item s)) in
    ap (λ (cs : List Cell). samples_among (take left cs)) (sym all)
    ∙ swept xs ys left size within long
    ∙ ap (λ (cs : List Cell). samples_among (take size xs) ++ samples_among (take (left - size) (cs ++ ys)))
    (sym (behind_cells src s t size part is))

pub step_passed : (src : Sources) (s t : Stretch) (rest : List Item) (old : List Cell) (left size : ℕ) → size ≤ left
    → size ≤ stretch_len s
    → stretch_item t ≡ part_of_item size (stretch_len s - size) (stretch_item s)
    → strip_cells src (stretch_item s ∷ rest) ≡ old
    → drop (left - size) (strip_cells src (stretch_item t ∷ rest)) ≡ drop left old
step_passed src s t rest old left size within part is all =
    let xs : List Cell = stretch_cells src s in
    let ys : List Cell = strip_cells src rest in
    let long : size ≤ length xs = omega (arith, part, length-item_cells src (stretch_item s)) in
    ap (λ (cs : List Cell). drop (left - size) (cs ++ ys)) (behind_cells src s t size part is)
    ∙ sym (passed_on xs ys left size within long)
    ∙ ap (drop left) all

-- where no cell is left

pub none_heard : (cells : List Cell) (left : ℕ) → cells ≡ [] → samples_among (take left cells) ≡ []
none_heard cells left none = nil_from_length (samples_among (take left cells))
    (omega (arith, among_most (take left cells), length-take left cells, ap length none))

pub none_passed : (cells : List Cell) (left : ℕ) → cells ≡ [] → drop left cells ≡ cells
none_passed cells left none =
    nil_from_length (drop left cells) (omega (arith, length-drop left cells, ap length none)) ∙ sym none

-- a stretch by its kind

pub gaps_read : (src : Sources) (s : Stretch) (len n : ℕ) → s ≡ Gaps len → n ≤ stretch_len s
    → samples_among (take n (stretch_cells src s)) ≡ []
gaps_read src s len n is within =
    let few = subst (λ (x : Stretch). n ≤ stretch_len x) is within in
    ap (λ (x : Stretch). samples_among (take n (stretch_cells src x))) is ∙ gaps_front src len n few

pub named_one : (s : Stretch) (b : BlockRef) (from : ℕ) → s ≡ Block b from → AreNamed (stretch_blocks s) → IsNamed b
named_one s b from is named = subst (λ (x : Stretch). AreNamed (stretch_blocks x)) is named b (one_there b)

-- the block of a stretch is among its blocks
pub blocks_one : (s : Stretch) (b : BlockRef) (from : ℕ) → s ≡ Block b from → (d : BlockRef) → Contains (b ∷ []) d
    → Contains (stretch_blocks s) d
blocks_one s b from is d has = subst (λ (x : Stretch). Contains (stretch_blocks x) d) (sym is) has

pub block_read : (files : Files) (s : Stretch) (b : BlockRef) (from to n : ℕ) (sum : Summary) → s ≡ Block b from
    → from ≤ b.len → n ≤ stretch_len s → to ≡ from + n
    → AreWhole files (stretch_blocks s)
    → ((xs : List ℤ) → blocks files b.id ≡ Some xs → length xs ≡ b.len → sum ≡ summary_of (part from to xs))
    → sum ≡ summary_of (samples_among (take n (stretch_cells (sources_of files) s)))
block_read files s b from to n sum is ok within ends whole read =
    let few = subst (λ (x : Stretch). n ≤ stretch_len x) is within in
    let w = subst (λ (x : Stretch). AreWhole files (stretch_blocks x)) is whole b (one_there b) in
    read w.0 w.1 w.2
    ∙ ap (λ (k : ℕ). summary_of (part from k w.0)) ends
    ∙ ap summary_of (sym (block_front files b from n w.0 w.1 w.2 (omega (arith, few, ok))))
    ∙ ap (λ (x : Stretch). summary_of (samples_among (take n (stretch_cells (sources_of files) x)))) (sym is)
