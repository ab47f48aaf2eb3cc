-- The samples of pieces, by the blocks of a disk.
use Rattle.std.proofs.Common.{◌≡◌, ℕ, zero, suc, ◌+◌, ◌-◌, ◌≤◌, ◌<◌, ℤ, pos, List, [], ◌∷◌, ◌++◌, length, get_or, take}
use Rattle.std.proofs.Common.{drop, map, Some, refl, sym, ap, ◌∙◌, arith, ⊎_elim}
use Rattle.std.proofs.lemmas.List.{get_or-drop, drop-drop, take_more_set, map_more, drop-set-lt}
use Rattle.std.proofs.Math.ListN.{set}
use Rattle.std.specs.Prelude.{◌+ℤ◌, ◌*ℤ◌}
use Rattle.pcm_base.specs.Arithmetic.{clamped, scaled}
use Rattle.pcm_base.specs.declared.piece.Piece.TheVariants.{Old, Scaled, Zero, Given}
use Rattle.pcm_base.specs.{declared.block.BlockRef.BlockRef, declared.piece.Piece.Piece, Pieces.stretch}
use Rattle.block_writer.specs.declared.fault.MakeFault.TheVariants.{Read, Bring, Put}
use Rattle.block_writer.specs.Reading.{IsThere, AllThere, IsFaultOf, IsFaultAmong}
use Rattle.block_writer.specs.{Bringing.brought, Bringing.ramp_samples, declared.fault.MakeFault.MakeFault}
use Rattle.block_writer.specs.{Making.IsFaultRead, Making.IsOfDevice}
use Rattle.disk_model.specs.Disk.{Files}
use Rattle.sample_block.specs.{Spelling.size_of, Blocks.blocks, Sources.samples_on, Sources.IsWhole}
use Rattle.block_store.specs.declared.fault.BlockFault.{BlockFault}
use Rattle.block_store.proofs.{FaultLaws.block_valid, StretchLaws.block_stretch}
use Rattle.block_store.specs.declared.fault.BlockFault.TheVariants as fault
use Rattle.block_writer.specs.declared.given.Given.TheVariants as brings

-- a part of a block that was read is that of the piece
pub old_read : (files : Files) (b : BlockRef) (from to n : ℕ) (out : List ℤ) → from ≤ to → to ≤ b.len → n ≡ to - from
    → IsWhole files b
    → ((xs : List ℤ) → blocks files b.id ≡ Some xs → length xs ≡ b.len → out ≡ take n (drop from xs))
    → out ≡ stretch (samples_on files b.id) from (to - from)
old_read files b from to n out low high size whole read =
    let h : from + (to - from) ≤ length whole.0 = omega (arith, whole.2) in
    read whole.0 whole.1 whole.2 ∙ ap (λ (k : ℕ). take k (drop from whole.0)) size
    ∙ sym (block_stretch files b.id from (to - from) whole.0 whole.1 h)

-- the disk has all blocks of some pieces, so none of them is at fault
valid_piece : (files : Files) (p : Piece) (why : BlockFault) → IsThere files p → IsFaultOf files p why
    → why ≡ fault.DiskFault
valid_piece files (Old b from to) why there is =
    block_valid files b.id b.len (size_of b.len) there.0 why there.1 there.2 (omega arith) is
valid_piece files (Scaled b from to gain) why there is =
    block_valid files b.id b.len (size_of b.len) there.0 why there.1 there.2 (omega arith) is
valid_piece files (Zero len) why there is = absurd is
valid_piece files (Given from to) why there is = absurd is

valid_pieces : (files : Files) (ps : List Piece) (why : BlockFault) → AllThere files ps → IsFaultAmong files ps why
    → why ≡ fault.DiskFault
valid_pieces files [] why there is = absurd is
valid_pieces files (p ∷ ps) why there is =
    ⊎_elim (valid_piece files p why there.0) (valid_pieces files ps why there.1) is

-- so nothing refuses but a device
pub valid_made : (files : Files) (ps : List Piece) (why : MakeFault) → AllThere files ps → IsFaultRead files ps why
    → IsOfDevice why
valid_made files ps (Read why) there is = valid_pieces files ps why there is
valid_made files ps (Bring why) there is = tt
valid_made files ps Put there is = tt

-- two lists that are the same from a place on have the same item there
head_same : (xs ys : List ℤ) (i : ℕ) (d : ℤ) → drop i xs ≡ drop i ys → get_or xs i d ≡ get_or ys i d
head_same xs ys i d h =
    let e : i ≡ i + 0 = omega arith in
    ap (λ (k : ℕ). get_or xs k d) e ∙ sym (get_or-drop i xs 0 d) ∙ ap (λ (zs : List ℤ). get_or zs 0 d) h
    ∙ get_or-drop i ys 0 d ∙ ap (λ (k : ℕ). get_or ys k d) (sym e)

rest_same : (xs ys : List ℤ) (i : ℕ) → drop i xs ≡ drop i ys → drop (i + 1) xs ≡ drop (i + 1) ys
rest_same xs ys i h = sym (drop-drop 1 i xs) ∙ ap (drop 1) h ∙ drop-drop 1 i ys

-- one sample more of a ramp
ramp_more : (start step : ℤ) (from n : ℕ) → ramp_samples start step from (suc n) ≡ ramp_samples start step from n
    ++ clamped (start +ℤ pos (from + n) *ℤ step) ∷ []
ramp_more start step from zero =
    let e : from ≡ from + 0 = omega arith in
    ap (λ (k : ℕ). clamped (start +ℤ pos k *ℤ step) ∷ []) e
ramp_more start step from (suc n) =
    let e : suc from + n ≡ from + suc n = omega arith in
    ap (λ (xs : List ℤ). clamped (start +ℤ pos from *ℤ step) ∷ xs) (ramp_more start step (suc from) n
    ∙ ap (λ (k : ℕ). ramp_samples start step (suc from) n ++ clamped (start +ℤ pos k *ℤ step) ∷ []) e)

pub ramp_step : (out : List ℤ) (start step : ℤ) (from i : ℕ) (v w y z : ℤ) → i < length out
    → take i out ≡ ramp_samples start step from i
    → v ≡ w → w ≡ clamped y → y ≡ z → z ≡ start +ℤ pos (from + i) *ℤ step
    → take (i + 1) (set out i v) ≡ ramp_samples start step from (i + 1)
ramp_step out start step from i v w y z lt before ev ew ey ez =
    let e : suc i ≡ i + 1 = omega arith in
    let value : v ≡ clamped (start +ℤ pos (from + i) *ℤ step) = ev ∙ ew ∙ ap clamped (ey ∙ ez) in
    take_more_set out i v lt ∙ ap (λ (xs : List ℤ). xs ++ v ∷ []) before
    ∙ ap (λ (x : ℤ). ramp_samples start step from i ++ x ∷ []) value
    ∙ sym (ramp_more start step from i) ∙ ap (ramp_samples start step from) e

pub ramp_stretch : (start step : ℤ) (count from n : ℕ)
    → ramp_samples start step from n ≡ stretch (brought (brings.Ramp start step count)) from n
ramp_stretch start step count from zero = refl
ramp_stretch start step count from (suc n) =
    ap (λ (xs : List ℤ). clamped (start +ℤ pos from *ℤ step) ∷ xs) (ramp_stretch start step count (suc from) n)

-- one sample more under a gain
pub scale_step : (gain i : ℕ) (old out : List ℤ) (v w y z x : ℤ) → i < length out → length out ≡ length old
    → take i out ≡ map (λ s. clamped (scaled gain s)) (take i old) → drop i out ≡ drop i old
    → v ≡ w → w ≡ clamped y → y ≡ z → z ≡ scaled gain x → x ≡ get_or out i (pos 0)
    → (take (i + 1) (set out i v) ≡ map (λ s. clamped (scaled gain s)) (take (i + 1) old))
    × (drop (i + 1) (set out i v) ≡ drop (i + 1) old)
scale_step gain i old out v w y z x lt same before rest ev ew ey ez ex =
    let f : ℤ → ℤ = λ s. clamped (scaled gain s) in
    let value : v ≡ f (get_or old i (pos 0)) =
    ev ∙ ew ∙ ap clamped (ey ∙ ez) ∙ ap f (ex ∙ head_same out old i (pos 0) rest) in (
      take_more_set out i v lt ∙ ap (λ (xs : List ℤ). xs ++ v ∷ []) before
          ∙ ap (λ (r : ℤ). map f (take i old) ++ r ∷ []) value
          ∙ sym (map_more f old i (pos 0) (omega (arith, same))),
      drop-set-lt (i + 1) out i v (omega arith) ∙ rest_same out old i rest,
    )
