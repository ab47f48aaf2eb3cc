-- Blocks whose files are taken into a size, as long as it stays within a bound.
use Rattle.std.specs.Prelude.{◌≡◌, ℕ, ◌+◌, ◌<◌, ◌≤◌, Bool, true, false, List, ◌++◌}
use Rattle.std.specs.List.{AllByRecursion}
use Rattle.pcm_base.specs.declared.block.BlockRef.{BlockRef}
use Rattle.project_state.specs.declared.track.Track.{Track}
use Rattle.layout_uses.specs.Layouts.{AreNumbered, has_number, track_blocks}
use Rattle.purge_size.specs.{declared.fitting.Fitting.Fitting, Numbers.has, Sizes.has_id, Sizes.sizes}

-- the files of these blocks can be measured
abbrev pub AreSmall : List BlockRef → Type 0
AreSmall bs = AllByRecursion (λ (b : BlockRef). b.len ≤ 262144) bs

-- these blocks were taken
pub record HasBlocks (bs : List BlockRef) (f : Fitting) : Type 0 where
  pub ids : (id : ℕ) → has f.ids id ≡ has_id id bs
  pub size : f.left + sizes bs ≡ f.most

-- blocks were to be taken before those that were: they were, or all of them have too many bytes
pub record Takes (fits : Bool) (bs : List BlockRef) (old new : Fitting) : Type 0 where
  pub taken : (others : List BlockRef) → HasBlocks others old → fits ≡ true → HasBlocks (bs ++ others) new
  pub over : (others : List BlockRef) → HasBlocks others old → fits ≡ false → old.most < sizes (bs ++ others)
  pub most : new.most ≡ old.most
  pub numbers : new.numbers ≡ old.numbers

-- these tracks were taken
pub record HasTracks (ts : List Track) (f : Fitting) : Type 0 where
  pub blocks : HasBlocks (track_blocks ts) f
  pub numbers : (n : ℕ) → has f.numbers n ≡ has_number n ts

-- the same of tracks
pub record TakesTracks (fits : Bool) (ts : List Track) (old new : Fitting) : Type 0 where
  pub taken : (others : List Track) → AreNumbered (ts ++ others) → HasTracks others old → fits ≡ true
      → HasTracks (ts ++ others) new
  pub over : (others : List Track) → AreNumbered (ts ++ others) → HasTracks others old → fits ≡ false
      → old.most < sizes (track_blocks (ts ++ others))
  pub most : new.most ≡ old.most
