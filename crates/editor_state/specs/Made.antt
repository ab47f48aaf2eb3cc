-- New blocks of a plan on a disk, the first n of them made.
use Rattle.std.specs.Prelude.{◌≡◌, ◌⊎◌, ℕ, ℤ, ◌+◌, ◌≤◌, ◌<◌, List, [], ◌∷◌, take, None}
use Rattle.std.specs.List.{AllByRecursion}
use Rattle.disk_model.specs.Disk.{Files}
use Rattle.sample_block.specs.Sources.{sources_with, IsWhole}
use Rattle.edit_ops.specs.{declared.types.NewBlock.NewBlock, Plans.AreWritten, Plans.ref_of}
use Rattle.block_writer.specs.{Brought.AreInOrder, Reading.AllReadable, Reading.AllThere}

-- the disk has the blocks that the pieces of new blocks name
abbrev pub PiecesThere : Files → List NewBlock → Type 0
PiecesThere files bs = AllByRecursion (λ b. AllThere files b.pieces) bs

abbrev pub PiecesReadable : ℕ → List NewBlock → Type 0
PiecesReadable count bs = AllByRecursion (λ b. AllReadable count b.pieces) bs

-- files that are not among the n from a number on are the same
abbrev pub SameOutside : ℕ → ℕ → Files → Files → Type 0
SameOutside next n old new = (f : ℕ) → (f < next) ⊎ (next + n ≤ f) → new f ≡ old f

-- and those that are among them
abbrev pub SameInside : ℕ → ℕ → Files → Files → Type 0
SameInside next n old new = (f : ℕ) → next ≤ f → f < next + n → new f ≡ old f

abbrev pub AreAbsent : ℕ → ℕ → Files → Type 0
AreAbsent next n files = (f : ℕ) → next ≤ f → f < next + n → files f ≡ None

-- New blocks that are made together, and the samples that are brought for them.
pub record Batch : Type 0 where
  pub given : ℕ → ℤ
  pub blocks : List NewBlock

abbrev pub batch_of : (ℕ → ℤ) → List NewBlock → Batch
batch_of given blocks = record { given = given; blocks = blocks }

-- The ids from one on, this many.
pub record IdRange : Type 0 where
  pub first : ℕ
  pub count : ℕ

abbrev pub ids_from : (first count : ℕ) → IdRange
ids_from first count = record { first = first; count = count }

-- the parts of what is brought come in order over all blocks, from a place on up to another
abbrev pub AllInOrder : ℕ → ℕ → List NewBlock → Type 0
AllInOrder low high [] = low ≤ high
AllInOrder low high (b ∷ bs) = (mid : ℕ) × AreInOrder low mid b.pieces × AllInOrder mid high bs

-- The first blocks of a batch, of these ids, were made, and no other file has changed.
pub record AreMade (batch : Batch) (ids : IdRange) (old new : Files) : Type 0 where
  pub same : SameOutside ids.first ids.count old new
  pub written : AreWritten (sources_with new batch.given) (take ids.count batch.blocks)
  pub whole : AllByRecursion (λ b. IsWhole new (ref_of b)) (take ids.count batch.blocks)
