-- Damage that a call returns is that of a block that the studio names.
use Rattle.editor_state.proofs.Common.{◌≡◌, inl, inr, subst, ℕ, zero, suc, ◌<◌, List, [], ◌∷◌, length, Contains, Result}
use Rattle.editor_state.proofs.Common.{Ok, Err, arith, Old, Scaled, Zero, Given, BlockRef, Refusal, Files, BlockFault}
use Rattle.editor_state.proofs.Common.{IsDamagedIn, AreAmong, rules}
use Rattle.std.proofs.Common.{get_or}
use Rattle.std.specs.Prelude.{IfErr}
use Rattle.pcm_base.specs.{declared.piece.Piece.Piece}
use Rattle.block_sequence.specs.Origins.{AllFrom}
use Rattle.block_store.specs.{Reads.IsFaultIn}
use Rattle.edit_ops.specs.{declared.types.NewBlock.NewBlock, Plans.AllNewFrom}
use Rattle.block_writer.specs.Reading.{IsFaultAmong}
use Rattle.editor_state.specs.{Makes.IsDamageAmong}
use Rattle.editor_state.proofs.Blocks.BlockLists.{contained}
use Rattle.pcm_base.specs.declared.refusal.Refusal.TheVariants as refusal

-- ---- damage of some of its blocks

pub fault_among : (files : Files) (every bs : List BlockRef) (why : BlockFault) → AreAmong every bs
    → IsFaultIn files bs why → IsFaultIn files every why
fault_among files every bs why among f = (f.0, contained (Contains every) bs f.0 among f.1, f.2)

pub damage_among : (files : Files) (every bs : List BlockRef) (why : Refusal) → AreAmong every bs
    → IsDamagedIn files bs why → IsDamagedIn files every why
damage_among files every bs (refusal.Damaged file at want have) among damage = search (rules, fault_among)
damage_among files every bs why among damage = tt

pub part_among : (files : Files) (every bs : List BlockRef) (r : Result (Unit {0}) BlockFault) → AreAmong every bs
    → IfErr r (λ e. IsFaultIn files bs e) → IfErr r (λ e. IsFaultIn files every e)
part_among files every bs (Ok x) among damage = tt
part_among files every bs (Err why) among damage = fault_among files every bs why among damage

-- ---- damage of the pieces of new blocks

-- of each new block
pub from_at : (named : List BlockRef) (count : ℕ) (bs : List NewBlock) → AllNewFrom named count bs
    → (k : ℕ) (b : NewBlock) → k < length bs
    → get_or bs k b ≡ b → AllFrom named count b.pieces
from_at named count [] all k b lt is = absurd (omega (arith, lt))
from_at named count (x ∷ xs) all zero b lt is = subst (λ (z : NewBlock). AllFrom named count z.pieces) is all.0
from_at named count (x ∷ xs) all (suc k) b lt is = from_at named count xs all.1 k b (omega (arith, lt)) is

-- a fault of a piece is that of its block
fault_named : (named : List BlockRef) (count : ℕ) (files : Files) (ps : List Piece) (why : BlockFault)
    → AllFrom named count ps
    → IsFaultAmong files ps why → IsFaultIn files named why
fault_named named count files [] why all f = absurd f
fault_named named count files (Old b from to ∷ ps) why all (inl f) = (b, all.0, f)
fault_named named count files (Scaled b from to gain ∷ ps) why all (inl f) = (b, all.0, f)
fault_named named count files (Zero len ∷ ps) why all (inl f) = absurd f
fault_named named count files (Given from to ∷ ps) why all (inl f) = absurd f
fault_named named count files (p ∷ ps) why all (inr f) = fault_named named count files ps why all.1 f

-- it is there in files that have the same of each block
fault_still : (named : List BlockRef) (old now : Files) (why : BlockFault)
    → ((b : BlockRef) → Contains named b → now b.id ≡ old b.id)
    → IsFaultIn now named why → IsFaultIn old named why
fault_still named old now why same f = search rules

pub damage_named : (named : List BlockRef) (count : ℕ) (old now : Files) (ps : List Piece) (why : Refusal)
    → AllFrom named count ps
    → ((b : BlockRef) → Contains named b → now b.id ≡ old b.id) → IsDamageAmong now ps why → IsDamagedIn old named why
damage_named named count old now ps (refusal.Damaged file at want have) all same damage =
    search (rules, fault_still, fault_named)
damage_named named count old now ps why all same damage = tt
