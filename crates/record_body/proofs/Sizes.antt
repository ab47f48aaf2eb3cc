-- How many parts are read, and how many bytes they have.
use Rattle.record_body.proofs.Common.{◌≡◌, ℕ, zero, suc, ◌+◌, List, length, refl, arith, length-append, flat_map}
use Rattle.record_body.proofs.Common.{blocks_at, block_count, clip_at, clip_size, clips_at, clips_size, clip_count}
use Rattle.record_body.proofs.Common.{track_at, track_size, tracks_at, clip_bytes, track_bytes}
use Rattle.record_body.proofs.Parts.{length_clip}

module _ (bytes : List ℕ) where
  pub length-blocks_at : (count at : ℕ) → length (blocks_at count at bytes) ≡ count
  length-blocks_at zero at = refl
  length-blocks_at (suc count) at = omega (arith, length-blocks_at count (at + 12))

  pub length-clips_at : (count at : ℕ) → length (clips_at count at bytes) ≡ count
  length-clips_at zero at = refl
  length-clips_at (suc count) at = omega (arith, length-clips_at count (at + clip_size at bytes))

  pub length-tracks_at : (count at : ℕ) → length (tracks_at count at bytes) ≡ count
  length-tracks_at zero at = refl
  length-tracks_at (suc count) at = omega (arith, length-tracks_at count (at + track_size at bytes))

  pub size_of_clip : (at : ℕ) → length (clip_bytes (clip_at at bytes)) ≡ clip_size at bytes
  size_of_clip at = omega (arith, length_clip (clip_at at bytes), length-blocks_at (block_count at bytes) (at + 12))

  size_of_clips : (count at : ℕ) → length (flat_map clip_bytes (clips_at count at bytes)) ≡ clips_size count at bytes
  size_of_clips zero at = refl
  size_of_clips (suc count) at =
      search (arith, size_of_clips count (at + clip_size at bytes), length-append, size_of_clip)

  pub size_of_track : (at : ℕ) → length (track_bytes (track_at at bytes)) ≡ track_size at bytes
  size_of_track at = omega (arith, size_of_clips (clip_count at bytes) (at + 18))
