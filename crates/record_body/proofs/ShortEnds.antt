-- The last clip of each track of a valid point has fewer than 2^32 blocks.
use Rattle.record_body.proofs.Common.{ℕ, ◌+◌, ◌^◌, ◌≤◌, ◌<◌, List, [], ◌∷◌, length, arith}
use Rattle.record_body.proofs.Common.{blocks_len, Clip, IsLayout, AllHalfFull, Track, track_of, last_blocks, last_start}
use Rattle.record_body.proofs.Common.{EndsShort, HasShortEnds, AreHalfFull, AllValidTracks, IsValidPoint}
use Rattle.record_body.proofs.{ValidBounds.half_full_few, Tails.end_last, Tails.last_end}

short_last : (m : ℕ) (cs : List Clip) → 4 ≤ m → IsLayout cs → AllHalfFull m cs → length (last_blocks cs) < 2 ^ 32
short_last m [] large is half = omega arith
short_last m (c ∷ cs) large is half =
    let near : last_start (c ∷ cs) + blocks_len (last_blocks (c ∷ cs)) ≤ 2 ^ 32 =
    omega (arith, end_last 0 (c ∷ cs) (omega arith), is.few) in
    half_full_few m (last_blocks (c ∷ cs)) large (last_end m 0 (c ∷ cs) is.apart half).half_full (omega (arith, near))

tracks_short_ends : (m block track id : ℕ) (ts : List Track) → 4 ≤ m → AllValidTracks m block track ts
    → EndsShort (track_of id ts)
tracks_short_ends m block track id [] large valid = tt
tracks_short_ends m block track id (t ∷ ts) large valid =
    search (arith, tracks_short_ends m block track id ts large valid.1, short_last)

pub valid_ends : (m block track : ℕ) (ts : List Track) → 4 ≤ m → IsValidPoint m block track ts → HasShortEnds ts
valid_ends m block track ts large is = λ id. tracks_short_ends m block track id ts large is.valid

tracks_half : (m block track : ℕ) (ts : List Track) → AllValidTracks m block track ts → AreHalfFull m ts
tracks_half m block track [] valid = tt
tracks_half m block track (t ∷ ts) valid = (valid.0.half_full, tracks_half m block track ts valid.1)

-- and is half full
pub valid_half : (m block track : ℕ) (ts : List Track) → IsValidPoint m block track ts → AreHalfFull m ts
valid_half m block track ts is = tracks_half m block track ts is.valid
