-- What is counted: the uses of layouts, and how often each block is named.
use Rattle.std.specs.Prelude.{◌≡◌, ◌↔◌, ◌⊎◌, ℕ, ◌+◌, ◌^◌, ◌≤◌, ◌<◌, false, if◌then◌else◌, Option, Some, None, IsSome}
use Rattle.std.specs.Prelude.{is_none, List, [], ◌∷◌, ◌++◌, length}
use Rattle.std.specs.List.{AllByRecursion}
use Rattle.pcm_base.specs.declared.block.BlockRef.{BlockRef}
use Rattle.clip_track.specs.Clips.{layout_blocks}
use Rattle.block_ledger.specs.{Counts.Counts, Counts.IsFreshCount, Counts.occurrences, Entries.count_of}
use Rattle.row_ledger.specs.Lists.{counts_of, list_of, singles_of}
use Rattle.project_state.specs.declared.track.Track.{Track}
use Rattle.layout_uses.specs.Layouts.{AreDrawn, AreNumbered, has_number, numbers_of, one_each, used_blocks, track_blocks}
use Rattle.layout_uses.specs.{declared.tally.Tally.Tally, Occurrences.ids_of, Occurrences.times_named}

-- How often each layout is used, by its number, which layouts are named by a list of their ids, and how often each id is
-- named by itself.
pub record Uses : Type 0 where
  pub counts : Counts
  pub lists : ℕ → Option (List ℕ)
  pub singles : ℕ → ℕ

-- the tracks whose layouts have no list
abbrev pub unlisted : (ℕ → Option (List ℕ)) → List Track → List Track
unlisted lists [] = []
unlisted lists (t ∷ ts) = if is_none (lists t.number) then t ∷ unlisted lists ts else unlisted lists ts

-- where the layout of a track has a list, that has its ids
abbrev pub IsListed : (ℕ → Option (List ℕ)) → Track → Type 0
IsListed lists t = (lists t.number ≡ None) ⊎ (lists t.number ≡ Some (ids_of (layout_blocks t.layout)))

-- The uses are a fresh count over these tracks, and have no layout that is not used; the counts are a fresh count over
-- the layouts so used, of each once, and over other blocks, as the clipboard's are. A list has the ids of a layout that
-- is used, and a layout without one and the other blocks are named by themselves.
pub record AreCounts (tracks : List Track) (others : List BlockRef) (uses : Uses) (counts : Counts) : Type 0 where
  pub fresh_uses : IsFreshCount (numbers_of tracks) uses.counts
  pub none_free : (n : ℕ) → uses.counts n ≡ Some 0 → ⊥
  pub fresh_counts : IsFreshCount (ids_of (used_blocks tracks ++ others)) counts
  pub listed : AllByRecursion (IsListed uses.lists) (one_each tracks)
  pub no_other : (n : ℕ) → has_number n tracks ≡ false → uses.lists n ≡ None
  pub singles : (id : ℕ) → uses.singles id ≡ times_named id (used_blocks (unlisted uses.lists tracks) ++ others)

-- what a tally has of uses
abbrev pub uses_of : Tally → Uses
uses_of t = record { counts = count_of t.uses; lists = list_of t.ledger; singles = singles_of t.ledger }

abbrev pub IsTally : List Track → List BlockRef → Tally → Type 0
IsTally tracks others t = AreCounts tracks others (uses_of t) (counts_of t.ledger)

-- the ledger has the same ids
abbrev pub SameIds : Tally → Tally → Type 0
SameIds old new = (id : ℕ) → IsSome (counts_of new.ledger id) ↔ IsSome (counts_of old.ledger id)

-- these tracks are used once more
pub record Comes (tracks : List Track) (old new : Tally) : Type 0 where
  pub counted : (others : List Track) (blocks : List BlockRef) → length tracks + length others < 2 ^ 128
      → IsTally others blocks old → IsTally (tracks ++ others) blocks new
  pub ids : SameIds old new
  pub most : (id : ℕ) → occurrences (counts_of new.ledger id)
      ≤ occurrences (counts_of old.ledger id) + times_named id (track_blocks tracks)
  pub room : old.uses.spare ≤ new.uses.spare + length tracks

-- these tracks are counted, and others
pub record Has (tracks : List Track) (t : Tally) : Type 0 where
  pub others : List Track
  pub blocks : List BlockRef
  pub counted : IsTally (tracks ++ others) blocks t

-- these tracks are used once less
pub record Goes (tracks : List Track) (old new : Tally) : Type 0 where
  pub counted : (others : List Track) (blocks : List BlockRef) → IsTally (tracks ++ others) blocks old
      → IsTally others blocks new
  pub ids : SameIds old new
  pub room : new.uses.spare ≡ old.uses.spare

-- these tracks may be used by points that come, where those are so far
pub record MayBecome (came before : List Track) (t : Tally) : Type 0 where
  pub others : List Track
  pub blocks : List BlockRef
  pub numbered : AreNumbered (came ++ (before ++ others))
  pub few : length came + length (before ++ others) < 2 ^ 128
  pub counted : IsTally (before ++ others) blocks t

-- Some tracks are counted in the place of others, whatever else is counted; those that came agree with what was there.
pub record Becomes (came before after : List Track) (old new : Tally) : Type 0 where
  pub counted : (others : List Track) (blocks : List BlockRef) → AreNumbered (came ++ (before ++ others))
      → length came + length (before ++ others) < 2 ^ 128
      → IsTally (before ++ others) blocks old → IsTally (after ++ others) blocks new
  pub numbered : (others : List Track) → AreNumbered (came ++ (before ++ others)) → AreNumbered (after ++ others)
  pub drawn : (next : ℕ) (others : List Track) → AreDrawn next (came ++ (before ++ others))
      → AreDrawn next (after ++ others)
  pub ids : SameIds old new
