-- The two ways in which a strip is put into a track.
use Rattle.std.specs.Prelude.{ℕ, ◌+◌, ◌≤◌, ◌<◌, ◌^◌, List, [], ◌∷◌}
use Rattle.pcm_base.specs.declared.edits.Placing.TheVariants.{Insert, Cover}
use Rattle.pcm_base.specs.{declared.limits.TheConstants.MAX_CELLS, declared.edits.Placing.Placing}
use Rattle.pcm_base.specs.{Refusals.placed_length}
use Rattle.clip_track.specs.{declared.items.Item.Item, declared.clips.Clip.Clip, Clips.end_of, Items.strip_len}
use Rattle.edit_ops.specs.Strips.{with_inserted, with_covered}

-- the items of a track with those of a strip put in
abbrev pub placed_items : Placing → ℕ → List Item → List Item → List Item
placed_items Insert at = with_inserted at
placed_items Cover at = with_covered at

-- the place, each strip and the track that it goes to are together fewer than 2^64 cells
abbrev pub SumsFit : ℕ → List (List Item) → List (List Clip) → Type 0
SumsFit at [] ts = Unit {0}
SumsFit at (c ∷ cs) [] = Unit {0}
SumsFit at (c ∷ cs) (t ∷ ts) = (at + strip_len c + end_of 0 t < 2 ^ 64) × SumsFit at cs ts

-- no track would have too many cells
abbrev pub LengthsFit : Placing → ℕ → List (List Item) → List (List Clip) → Type 0
LengthsFit placing at [] ts = Unit {0}
LengthsFit placing at (c ∷ cs) [] = Unit {0}
LengthsFit placing at (c ∷ cs) (t ∷ ts) =
    (placed_length placing at (strip_len c) (end_of 0 t) ≤ MAX_CELLS) × LengthsFit placing at cs ts
