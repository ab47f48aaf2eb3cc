-- The pages that a view of a track wants are all there.
use Rattle.std.specs.Prelude.{ℕ, ◌+◌, ◌-◌, List, [], ◌∷◌, ◌++◌}
use Rattle.pcm_base.specs.declared.block.BlockRef.{BlockRef}
use Rattle.block_sequence.specs.Rows.{flat}
use Rattle.clip_track.specs.declared.clips.Clip.{Clip}
use Rattle.block_cache.specs.Caches.{Entries, HasSamples}
use Rattle.cell_reader.specs.{declared.places.View.View, declared.rest.TrackRest.TrackRest, Seen.place_in}

-- those of the samples of a block that are seen, which stands at a place
abbrev pub HasBlock : Entries → View → ℕ → BlockRef → Type 0
HasBlock c view at b = HasSamples c b (view.from - at) (place_in view (at + b.len) - place_in view at)

-- of blocks one after another
abbrev pub HasBlocks : Entries → View → ℕ → List BlockRef → Type 0
HasBlocks c view at [] = Unit {0}
HasBlocks c view at (b ∷ bs) = HasBlock c view at b × HasBlocks c view (at + b.len) bs

-- of clips, each at its place
abbrev pub HasClips : Entries → View → List Clip → Type 0
HasClips c view [] = Unit {0}
HasClips c view (x ∷ xs) = HasBlocks c view x.start x.blocks × HasClips c view xs

-- the blocks that are left of a clip: those of a row, and the rows after it
abbrev pub left_blocks : TrackRest → List BlockRef
left_blocks r = r.blocks.now ++ flat r.rows.now

-- of what is left of a track
abbrev pub HasRest : Entries → View → TrackRest → Type 0
HasRest c view r = HasBlocks c view r.start (left_blocks r) × HasClips c view r.clips.now

-- of a layout, from one place to another
abbrev pub HasSeen : Entries → (from to : ℕ) → List Clip → Type 0
HasSeen c from to cs = HasClips c (record { from = from; to = to }) cs
