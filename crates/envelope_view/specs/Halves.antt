-- The two sides of an edge inside a long frame, and what is known of a block from them.
use Rattle.std.specs.Prelude.{◌≡◌, ℕ, ◌+◌, ◌*◌, ◌^◌, ◌<◌, ◌≤◌, ℤ, List, length, min}
use Rattle.std.specs.Prelude.{Option, Some, None, Result}
use Rattle.sample_block.specs.{declared.levels.TheConstants.LONG_FRAME, Blocks.blocks}
use Rattle.disk_model.specs.Disk.{Files}
use Rattle.pcm_base.specs.{declared.block.BlockRef.BlockRef, Edits.part}
use Rattle.disk_model.specs.declared.store.Store.{Ghosts}
use Rattle.block_cache.specs.declared.reader.BlockReader.{BlockReader}
use Rattle.envelope_view.specs.{Kept.HasPart, Parts.IsSum, Parts.ReadsBlock}
use Rattle.block_store.specs.declared.fault.BlockFault.{BlockFault}
use Rattle.peak_summary.specs.{declared.stretch.Summary.Summary, Peaks.joined, Peaks.summary_of}
use Rattle.envelope_view.specs.{declared.halves.Halves.Halves, declared.halves.Split.Split, declared.known.Known.Known}

-- a whole is a part and a rest, in either order, both with samples, whose numbers do not stand still
pub record IsRest (whole side rest : Summary) : Type 0 where
  pub is : whole ≡ joined side rest
  pub side_some : 0 < side.count
  pub rest_some : 0 < rest.count
  pub squares : side.squares + rest.squares < 2 ^ 64
  pub count : side.count + rest.count < 2 ^ 64

-- the summaries of samples up to the edge, and from the edge on
abbrev pub AreHalves : Split → List ℤ → Halves → Type 0
AreHalves at xs h = IsSum at.from at.edge xs h.before × IsSum at.edge at.to xs h.after

-- they are read
abbrev pub SumsHalves : {D : Type 0} {disk : Ghosts D} → BlockRef → Split → (old new : BlockReader D disk)
    → Result Halves BlockFault → Type 0
SumsHalves b at = ReadsBlock b (λ c. HasPart c b at.from at.to) (AreHalves at)

-- what is known, if anything is, is the summary of those samples of the block of the disk
abbrev pub IsKnown : Files → Option Known → Type 0
IsKnown files None = Unit {0}
IsKnown files (Some k) = (xs : List ℤ) → blocks files k.block.id ≡ Some xs → length xs ≡ k.block.len
    → k.summary ≡ summary_of (part k.from k.to xs)

-- A part ends inside long frame k of a block of this many samples, and begins before the frame or with it. The frame
-- ends within this reach of it.
pub record IsEdgeIn (len from to reach k : ℕ) : Type 0 where
  pub front : from ≤ LONG_FRAME * k
  pub before : LONG_FRAME * k < to
  pub behind : to < LONG_FRAME * k + LONG_FRAME
  pub inside : to < len
  pub near : min len (LONG_FRAME * k + LONG_FRAME) ≤ to + reach

-- the same of the short frame from a place on
pub record IsShortEdge (len from to reach start : ℕ) : Type 0 where
  pub front : from ≤ start
  pub before : start < to
  pub behind : to < start + 256
  pub inside : to < len
  pub near : min len (start + 256) ≤ to + reach
