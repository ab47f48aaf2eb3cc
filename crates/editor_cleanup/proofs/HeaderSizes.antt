-- A journal that is put into one header is as short as the points of the history let it be.
use Rattle.editor_cleanup.proofs.Common.{ℕ, ◌≤◌, ◌<◌, List, [], ◌∷◌, map, arith, rules, AllByRecursion, Ghosts}
use Rattle.editor_cleanup.proofs.Common.{points_size, Track, point_bytes, IsValidTagged, packed_size, Core, IsStudio}
use Rattle.editor_cleanup.proofs.Common.{studio_of}
use Rattle.pcm_base.specs.Pieces.{Sources}
use Rattle.project_state.specs.{Meaning.meant}
use Rattle.editor_state.specs.Packing.{packed_most, points_most}
use Rattle.editor_state.proofs.Images.RecordLengths.{record_most}

points_few : (src : Sources) (m next_block next_track commit : ℕ) (ps : List (List Track × ℕ)) → 0 < m
    → AllByRecursion (IsValidTagged m next_block next_track commit) ps
    → points_size (map point_bytes ps) ≤ points_most m (map (λ (p : List Track × ℕ). (meant src p.0, p.1)) ps)
points_few src m next_block next_track commit [] some all = omega arith
points_few src m next_block next_track commit (p ∷ ps) some all =
    let one = record_most m next_block next_track src 0 0 0 p.0 some all.0.0 in
    let more = points_few src m next_block next_track commit ps some all.1 in
    omega (arith, one, more)

pub packed_few : {D : Type 0} (disk : Ghosts D) (s : Core D) → IsStudio disk s
    → packed_size s ≤ packed_most (studio_of disk s)
packed_few disk s is = search (rules, points_few)
