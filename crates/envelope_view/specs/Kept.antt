-- The pages that the columns of a layout may ask for are all there.
use Rattle.std.specs.Prelude.{ℕ, ◌+◌, ◌-◌, ◌/◌, ◌<◌, ◌≤◌, min, List, [], ◌∷◌}
use Rattle.pcm_base.specs.{declared.block.BlockRef.BlockRef, declared.piece.Piece.Piece}
use Rattle.pcm_base.specs.declared.piece.Piece.TheVariants.{Old, Scaled, Zero, Given}
use Rattle.block_store.specs.{declared.frames.Level.Level, Reads.frame_len}
use Rattle.block_cache.specs.{Caches.Entries, Entries.HasKey, Pages.frame_key, Pages.sample_key}
use Rattle.clip_track.specs.{declared.clips.Clip.Clip, declared.items.Item.Item, Clips.items_from, Items.item_len}
use Rattle.clip_track.specs.declared.items.Item.TheVariants.{Gap, Sound}

-- the page of samples that has sample i of a block, and of each level the page that has its frame
pub record HasPages (c : Entries) (b : BlockRef) (i : ℕ) : Type 0 where
  pub samples : HasKey c.samples (sample_key b (i / 4096))
  pub frames : (l : Level) → HasKey c.frames (frame_key l b (i / frame_len l / 256))

-- those of the samples of a block from one up to another
abbrev pub HasPart : Entries → BlockRef → (from to : ℕ) → Type 0
HasPart c b from to = (i : ℕ) → from ≤ i → i < to → HasPages c b i

-- those of a piece, from one place of it up to another, or to its end where that comes first
abbrev pub HasPiece : Entries → (from to : ℕ) → Piece → Type 0
HasPiece c from to (Old b start end) = HasPart c b (start + from) (min end (start + to))
HasPiece c from to (Scaled b start end gain) = HasPart c b (start + from) (min end (start + to))
HasPiece c from to (Zero len) = Unit {0}
HasPiece c from to (Given start end) = Unit {0}

-- gaps have no page
abbrev pub HasItem : Entries → (from to : ℕ) → Item → Type 0
HasItem c from to (Gap len) = Unit {0}
HasItem c from to (Sound p) = HasPiece c from to p

-- those of a strip, from one place of it up to another: of what stands before or after them none
abbrev pub HasItems : Entries → (from to : ℕ) → List Item → Type 0
HasItems c from to [] = Unit {0}
HasItems c from to (x ∷ xs) = HasItem c from to x × HasItems c (from - item_len x) (to - item_len x) xs

-- those of a layout, whose strip has its blocks and the gaps between them, from one place up to another
abbrev pub HasColumns : Entries → (from to : ℕ) → List Clip → Type 0
HasColumns c from to cs = HasItems c from to (items_from 0 cs)
