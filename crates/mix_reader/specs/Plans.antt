-- Tracks whose samples are read together, each by parts of one file or of two.
use Rattle.std.specs.Prelude.{◌≡◌, ◌<◌, ◌+◌, ◌≤◌, ℕ, ℤ, List, [], ◌∷◌, ◌++◌, take, drop, Contains}
use Rattle.std.specs.Prelude.{slice_index_or}
use Rattle.disk_model.specs.{Disk.Files, declared.parts.Part.Part, Parts.part_samples}
use Rattle.pcm_base.specs.{declared.sound.Cell.TheVariants.Gap, declared.sound.Cell.TheVariants.Sample, Pieces.Sources}
use Rattle.pcm_base.specs.declared.block.BlockRef.{BlockRef}
use Rattle.clip_track.specs.declared.clips.Clip.{Clip}
use Rattle.clip_track.specs.Clips.{layout_blocks, layout_cells}
use Rattle.sample_block.specs.Sources.{IsNamed}
use Rattle.block_cache.specs.Caches.{Entries, HasSamples}
use Rattle.project_state.specs.{declared.track.Track.Track, Meaning.meant_track}
use Rattle.cell_reader.specs.{Kept.HasSeen, Stored.stored_of}
use Rattle.mixdown.specs.Stretches.{IsStretch}

-- the cells of a layout from a place on, as many as len, are samples of one of its blocks, from number `skip` on
pub record IsAlone (from len : ℕ) (cs : List Clip) (b : BlockRef) (skip : ℕ) : Type 0 where
  pub named : IsNamed b
  pub among : Contains (layout_blocks cs) b
  pub within : skip + len ≤ b.len
  pub cells : (src : Sources) (k : ℕ) → k < len
      → slice_index_or (layout_cells src cs) (from + k) Gap ≡ Sample (src.block b.id (skip + k))
  pub pages : (c : Entries) → HasSeen c from (from + len) cs → HasSamples c b skip len

-- two parts, the first of some samples, have between them all that is heard of a track from a place on, whatever stands
-- in the files
abbrev pub IsPlan : (from len : ℕ) → Track → (p q : Part) → Type 0
IsPlan from len t p q = 0 < p.len
    → (p.len + q.len ≡ len) × (q.to ≡ p.to + p.len) × ((files : Files)
    → IsStretch from len (meant_track (stored_of files) t) (part_samples files p ++ part_samples files q))

-- two parts for each track, and others after them
abbrev pub ArePlans : (from len : ℕ) → List Track → List Part → Type 0
ArePlans from len [] ps = Unit {0}
ArePlans from len (t ∷ ts) [] = ⊥
ArePlans from len (t ∷ ts) (p ∷ []) = ⊥
ArePlans from len (t ∷ ts) (p ∷ q ∷ ps) = IsPlan from len t p q × ArePlans from len ts ps

-- where the first of a track's two parts has some samples, what is heard of the track stands from that part's place on
abbrev pub ArePut : Sources → (from len : ℕ) → List Track → List Part → List ℤ → Type 0
ArePut src from len [] ps xs = Unit {0}
ArePut src from len (t ∷ ts) [] xs = Unit {0}
ArePut src from len (t ∷ ts) (p ∷ ps) xs =
    (0 < p.len → IsStretch from len (meant_track src t) (take len (drop p.to xs)))
    × ArePut src from len ts (drop 1 ps) xs
