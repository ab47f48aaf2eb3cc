-- A body that is written by the current point is hardly longer than one that is written out: by a byte a track.
use Rattle.record_body.proofs.Common.{◌≡◌, ℕ, ◌+◌, ◌*◌, ◌≤◌, ◌<◌, List, [], ◌∷◌, length, Option}
use Rattle.record_body.proofs.Common.{Some, None, arith, length-append, length-drop, flat_map, Sources}
use Rattle.record_body.proofs.Common.{Clip, layout_blocks, Track, meant, track_of, change_of, change_bytes, heard_bytes}
use Rattle.record_body.proofs.Common.{diff_bytes, last_blocks}
use Rattle.record_body.proofs.Common.{AreLayouts, AreHalfFull, track_bytes}
use Rattle.pcm_base.specs.{Sizes.project_body_most}
use Rattle.record_body.proofs.{Lengths.clips_bytes, Lengths.tracks_short_more, Parts.length_blocks}

last_few : (cs : List Clip) → length (last_blocks cs) ≤ length (layout_blocks cs)
last_few [] = omega arith
last_few (c ∷ []) = omega (arith, length-append c.blocks [])
last_few (c ∷ d ∷ cs) = omega (arith, length-append c.blocks (layout_blocks (d ∷ cs)), last_few (d ∷ cs))

heard_size : (t : Track) → length (heard_bytes t) ≡ 10 + 12 * length t.layout + 12 * length (layout_blocks t.layout)
heard_size t = omega (arith, clips_bytes t.layout)

change_most : (old : Option Track) (t : Track) → length (change_bytes (change_of old t)) ≤ 1 + length (heard_bytes t)
change_most None t = omega arith
change_most (Some o) t = search (arith, length_blocks, length-drop, last_few, heard_size)

diff_most : (current : List Track) (t : Track) → length (diff_bytes current t) ≤ length (track_bytes t) + 1
diff_most current t = omega (arith, change_most (track_of t.id current) t)

pub all_diff_most : (current ts : List Track)
    → length (flat_map (diff_bytes current) ts) ≤ length (flat_map track_bytes ts) + length ts
all_diff_most current [] = omega arith
all_diff_most current (t ∷ ts) = search (arith, all_diff_most current ts, length-append, diff_most)

pub diff_short : (src : Sources) (m : ℕ) (current ts : List Track) → 0 < m → length ts ≤ 64 → AreLayouts ts
    → AreHalfFull m ts → 29 + length (flat_map (diff_bytes current) ts) ≤ project_body_most m (meant src ts)
diff_short src m current ts some few all half = search (arith, all_diff_most, tracks_short_more)
