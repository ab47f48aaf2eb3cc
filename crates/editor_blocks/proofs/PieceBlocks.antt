-- Pieces of blocks that are there, and ids that are counted.
use Rattle.editor_blocks.proofs.Common.{⊎_elim, refl, ap, subst, ℕ, ◌<◌, if◌then◌else◌, IsSome, List, [], ◌∷◌, arith}
use Rattle.editor_blocks.proofs.Common.{eqb_tells, AllByRecursion, Old, Scaled, Zero, Given, BlockRef, Piece, Files}
use Rattle.editor_blocks.proofs.Common.{IsWhole, AllFrom, Counts, NewBlock, AllNewFrom, AllThere, PiecesThere}
use Rattle.editor_blocks.proofs.Common.{contained, rules}
use Rattle.sample_block.specs.Sources.{AllWhole}
use Rattle.block_ledger.specs.Counts.{occurrences}
use Rattle.editor_state.specs.{Occurrences.HasIds, Occurrences.times_named}
use Rattle.editor_state.proofs.{Blocks.BlockNumbers.some_count}

pieces_all : (files : Files) (xs : List BlockRef) (n : ℕ) (ps : List Piece) → AllWhole files xs → AllFrom xs n ps
    → AllThere files ps
pieces_all files xs n [] whole from = tt
pieces_all files xs n (Old b lo hi ∷ ps) whole from =
    (contained (IsWhole files) xs b whole from.0, pieces_all files xs n ps whole from.1)
pieces_all files xs n (Scaled b lo hi gain ∷ ps) whole from =
    (contained (IsWhole files) xs b whole from.0, pieces_all files xs n ps whole from.1)
pieces_all files xs n (Zero len ∷ ps) whole from = (tt, pieces_all files xs n ps whole from.1)
pieces_all files xs n (Given lo hi ∷ ps) whole from = (tt, pieces_all files xs n ps whole from.1)

pub makes_all : (files : Files) (xs : List BlockRef) (n : ℕ) (bs : List NewBlock) → AllWhole files xs
    → AllNewFrom xs n bs → PiecesThere files bs
makes_all files xs n [] whole from = tt
makes_all files xs n (b ∷ bs) whole from = search (rules, pieces_all, makes_all files xs n bs whole from.1)

abbrev pub IsCounted : Counts → BlockRef → Type 0
IsCounted counts b = IsSome (counts b.id)

pub counted_there : (counts : Counts) (bs : List BlockRef) → ((id : ℕ) → 0 < times_named id bs → 0 < occurrences
    (counts id))
    → AllByRecursion (IsCounted counts) bs
counted_there counts [] h = tt
counted_there counts (b ∷ bs) h = (
  ⊎_elim
      (λ (same : _). some_count (counts b.id) (h b.id (omega (arith, ap {B = ℕ} (λ t. if t then 1 else 0) same.0))))
      (λ other. absurd (other.1 refl)) (eqb_tells b.id b.id),
  counted_there counts bs (λ id some. h id (omega (arith, some))),
)

pub there_of : (counts : Counts) (bs : List BlockRef) → AllByRecursion (IsCounted counts) bs → HasIds counts bs
there_of counts [] all id some = absurd (omega (arith, some))
there_of counts (b ∷ bs) all id some = ⊎_elim
    (λ same. subst (λ (n : ℕ). IsSome (counts n)) same.1 all.0)
    (λ other. there_of counts bs all.1 id (omega (arith, some, ap {B = ℕ} (λ t. if t then 1 else 0) other.0)))
    (eqb_tells b.id id)
