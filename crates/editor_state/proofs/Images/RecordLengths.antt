-- A record of a valid point is as short as its project asks.
use Rattle.editor_state.proofs.Common.{ℕ, ◌≤◌, ◌<◌, List, [], ◌∷◌, length, arith, Sources, IsValidPoint, AllValidTracks}
use Rattle.editor_state.proofs.Common.{Track, meant}
use Rattle.pcm_base.specs.{Sizes.project_body_most}
use Rattle.record_body.specs.{declared.body.Body.TheVariants.Edit, Lengths.AreHalfFull, Lengths.AreLayouts}
use Rattle.record_body.specs.{Spelling.spelling, Changes.delta_spelling}
use Rattle.record_body.proofs.{DeltaLengths.diff_short, Lengths.tracks_short}

module _ (m next_block next_track : ℕ) where
  layouts_of : (ts : List Track) → AllValidTracks m next_block next_track ts → AreLayouts ts
  layouts_of [] all = tt
  layouts_of (t ∷ ts) all = (all.0.layout, layouts_of ts all.1)

  half_full_of : (ts : List Track) → AllValidTracks m next_block next_track ts → AreHalfFull m ts
  half_full_of [] all = tt
  half_full_of (t ∷ ts) all = (all.0.half_full, half_full_of ts all.1)

  pub record_most : (src : Sources) (tag block_then track_then : ℕ) (ts : List Track) → 0 < m
      → IsValidPoint m next_block next_track ts
      → length (spelling (Edit tag block_then track_then ts)) ≤ project_body_most m (meant src ts)
  record_most src tag block_then track_then ts some is =
      omega (arith, tracks_short src m ts some is.few (layouts_of ts is.valid) (half_full_of ts is.valid))

  -- also one that is written by a point of these tracks
  pub diff_most : (src : Sources) (current : List Track) (tag block_then track_then : ℕ) (ts : List Track) → 0 < m
      → IsValidPoint m next_block next_track ts
      → length (delta_spelling current (Edit tag block_then track_then ts)) ≤ project_body_most m (meant src ts)
  diff_most src current tag block_then track_then ts some is =
      omega (
        arith,
        diff_short src m current ts some is.few (layouts_of ts is.valid) (half_full_of ts is.valid),
      )
