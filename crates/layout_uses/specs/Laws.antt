-- What counts of layouts say of blocks, and how layouts get their numbers.
use Rattle.std.specs.Prelude.{◌≡◌, ◌↔◌, ◌⊎◌, ℕ, ◌+◌, List, [], ◌∷◌, ◌++◌}
use Rattle.std.specs.List.{AllByRecursion}
use Rattle.pcm_base.specs.declared.block.BlockRef.{BlockRef}
use Rattle.block_ledger.specs.Counts.{Counts, IsFreshCount, IsNamed}
use Rattle.project_state.specs.{declared.track.Track.Track, Tracks.put_in}
use Rattle.layout_uses.specs.Layouts.{AreDrawn, AreNumbered, track_blocks}
use Rattle.layout_uses.specs.{Occurrences.ids_of, Tallies.AreCounts, Tallies.Uses}

-- Counts over the layouts that are used, of each once, name the ids that counts over all tracks name.
abbrev pub SameNames : Type 0
SameNames =
    (tracks : List Track) (others : List BlockRef) (uses : Uses) (counts all : Counts) → AreNumbered tracks
    → AreCounts tracks others uses counts → IsFreshCount (ids_of (track_blocks tracks ++ others)) all
    → (id : ℕ) → IsNamed (counts id) ↔ IsNamed (all id)

-- The order of the tracks does not matter.
abbrev pub AnyOrder : Type 0
AnyOrder =
    (xs ys zs : List Track) (others : List BlockRef) (uses : Uses) (counts : Counts) → AreNumbered (xs ++ (ys ++ zs))
    → AreCounts (xs ++ (ys ++ zs)) others uses counts → AreCounts (ys ++ (xs ++ zs)) others uses counts

-- the track is one of these
abbrev pub IsAmong : Track → List Track → Type 0
IsAmong t [] = ⊥
IsAmong t (u ∷ us) = (u ≡ t) ⊎ IsAmong t us

abbrev pub AreAmong : List Track → List Track → Type 0
AreAmong xs ts = AllByRecursion (λ t. IsAmong t ts) xs

-- Tracks that are there already agree with all that are there.
abbrev pub SharedAgree : Type 0
SharedAgree = (xs ts : List Track) → AreNumbered ts → AreAmong xs ts → AreNumbered (xs ++ ts)

-- A track whose layout has the next number agrees with all, and so does a point that has it and tracks that are there.
abbrev pub NewAgrees : Type 0
NewAgrees = (next : ℕ) (new : Track) (current ts : List Track) → AreNumbered ts → AreDrawn next ts → new.number ≡ next
    → AreAmong current ts
    → AreNumbered (put_in new current ++ (new ∷ ts)) × AreDrawn (next + 1) (put_in new current ++ (new ∷ ts))
