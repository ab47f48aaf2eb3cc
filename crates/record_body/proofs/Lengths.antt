-- The body of an edit is as short as the cells of its project let it be.
use Rattle.record_body.proofs.Common.{◌≡◌, ℕ, ◌+◌, ◌*◌, ◌≤◌, ◌<◌, List, [], ◌∷◌, ◌++◌, length, refl, arith}
use Rattle.record_body.proofs.Common.{length-append, flat_map, IsHalfFull, AllFull, block_lens, blocks_len, BlockRef}
use Rattle.record_body.proofs.Common.{Sources, AllHalfFull, IsLayout, layout_blocks, Clip, Track, meant, clip_bytes}
use Rattle.record_body.proofs.Common.{track_bytes, AreLayouts, AreHalfFull}
use Rattle.std.proofs.{lemmas.Grind.div_ceil_times, Math.Nat.le_of_mul-le-mul_left}
use Rattle.std.specs.{Int.div_ceil}
use Rattle.pcm_base.specs.Sizes.{clip_count, sample_count, project_clips, project_samples, body_most}
use Rattle.clip_track.specs.Clips.{layout_cells}
use Rattle.clip_track.specs.{Counts.clips_len}
use Rattle.clip_track.proofs.CellCounts.{clip_count-layout, sample_count-layout}
use Rattle.record_body.proofs.Parts.{length_clip}

pub AreLayouts-push : (ts : List Track) (t : Track) → AreLayouts ts → IsLayout t.layout → AreLayouts (ts ++ t ∷ [])
AreLayouts-push [] t all is = (is, tt)
AreLayouts-push (s ∷ ts) t all is = (all.0, AreLayouts-push ts t all.1 is)

-- blocks of half the size at least
full_most : (m : ℕ) (bs : List BlockRef) → AllFull m (block_lens bs) → m * length bs ≤ 2 * blocks_len bs
full_most m [] h = omega arith
full_most m (b ∷ bs) h = omega (arith, h.0.0, full_most m bs h.1)

clip_most : (m : ℕ) (bs : List BlockRef) → IsHalfFull m (block_lens bs) → m * length bs ≤ m + 2 * blocks_len bs
clip_most m [] h = omega arith
clip_most m (b ∷ []) h = omega arith
clip_most m (b ∷ c ∷ bs) h = omega (arith, full_most m (b ∷ c ∷ bs) h)

clips_most : (m : ℕ) (cs : List Clip) → AllHalfFull m cs
    → m * length (layout_blocks cs) ≤ m * length cs + 2 * clips_len cs
clips_most m [] h = omega arith
clips_most m (c ∷ cs) h =
    let n : length (layout_blocks (c ∷ cs)) ≡ length c.blocks + length (layout_blocks cs) =
    length-append c.blocks (layout_blocks cs) in
    rw n (omega (arith, clip_most m c.blocks h.0, clips_most m cs h.1))

-- clips and blocks of a track, and of all tracks
pub clips_bytes : (cs : List Clip) → length (flat_map clip_bytes cs) ≡ 12 * length cs + 12 * length (layout_blocks cs)
clips_bytes [] = refl
clips_bytes (c ∷ cs) = search (arith, clips_bytes cs, length-append, length_clip)

abbrev tracks_blocks : List Track → ℕ
tracks_blocks [] = 0
tracks_blocks (t ∷ ts) = length (layout_blocks t.layout) + tracks_blocks ts

sums : (m a b c d e f : ℕ) → m * a ≤ m * b + 2 * c → m * d ≤ m * e + 2 * f → m * (a + d) ≤ m * (b + e) + 2 * (c + f)
sums m a b c d e f one two = omega (arith, one, two)

module _ (src : Sources) where
  tracks_bytes : (ts : List Track) → AreLayouts ts
      → length (flat_map track_bytes ts) ≡ 18 * length ts + 12 * project_clips (meant src ts) + 12 * tracks_blocks ts
  tracks_bytes [] all = refl
  tracks_bytes (t ∷ ts) all = search (arith, tracks_bytes ts all.1, length-append, clips_bytes, clip_count-layout)

  track_most : (m : ℕ) (t : Track) → IsLayout t.layout → AllHalfFull m t.layout
      → m * length (layout_blocks t.layout) ≤ m * clip_count (layout_cells src t.layout) + 2 * sample_count
      (layout_cells src t.layout)
  track_most m t is h = search (arith, clip_count-layout, sample_count-layout, clips_most)

  tracks_most : (m : ℕ) (ts : List Track) → AreLayouts ts → AreHalfFull m ts
      → m * tracks_blocks ts ≤ m * project_clips (meant src ts) + 2 * project_samples (meant src ts)
  tracks_most m [] all h = omega arith
  tracks_most m (t ∷ ts) all h = search (arith, tracks_most m ts all.1 h.1, sums, track_most)

-- (over plain numbers)
blocks_most : (m blocks clips samples q : ℕ) → 0 < m → m * blocks ≤ m * clips + 2 * samples → samples ≤ q * m
    → blocks ≤ clips + 2 * q
blocks_most m blocks clips samples q some h up = le_of_mul-le-mul_left (omega (arith, h, up)) some

-- with a byte of each track besides
pub tracks_short_more : (src : Sources) (m : ℕ) (ts : List Track) → 0 < m → length ts ≤ 64 → AreLayouts ts
    → AreHalfFull m ts
    → 29 + length (flat_map track_bytes ts) + length ts
    ≤ body_most m (project_clips (meant src ts)) (project_samples (meant src ts))
tracks_short_more src m ts some few all half =
    let q = div_ceil (project_samples (meant src ts)) m in
    let blocks = blocks_most m (tracks_blocks ts) (project_clips (meant src ts)) (project_samples (meant src ts)) q some
    (tracks_most src m ts all half) (div_ceil_times (project_samples (meant src ts)) m some).0 in
    omega (arith, tracks_bytes src ts all, blocks, few)

pub tracks_short : (src : Sources) (m : ℕ) (ts : List Track) → 0 < m → length ts ≤ 64 → AreLayouts ts → AreHalfFull m ts
    → 29 + length (flat_map track_bytes ts)
    ≤ body_most m (project_clips (meant src ts)) (project_samples (meant src ts))
tracks_short src m ts some few all half = omega (arith, tracks_short_more src m ts some few all half)
