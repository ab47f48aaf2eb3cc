-- The history names no more blocks than can be counted.
use Rattle.editor_recovery.proofs.Common.{◌≤◌, ◌<◌, ◌^◌, ℕ, List, length, arith, recursion_from_All, Contains}
use Rattle.editor_recovery.proofs.Common.{BlockRef, History, Track, history_blocks, history_tracks, times_named}
use Rattle.editor_recovery.proofs.Common.{IsValidTagged, Folded, IsValidFolded}
use Rattle.editor_recovery.proofs.{Ledgers.counts_fit, Plain.valid_back, Points.all_flat}
use Rattle.editor_recovery.proofs.finding.parts_of.Goals as goal

pub count_layouts-requires-clause-named : goal.count_layouts-requires-clause-named
count_layouts-requires-clause-named c =
    let h : History (List Track) = c.args.folded.project.numbered.history.history in
    let Q : BlockRef → Type 0 = λ b. (2 ≤ b.id) × Contains c.args.files.now b.id in
    all_flat Q h.points c.requires.named

-- no count is too large for the history of a valid project
fits : (f : Folded) → IsValidFolded f → length f.project.numbered.history.history.points ≤ 65536
    → ((id : ℕ) → times_named id (history_blocks f.project.numbered.history.history) < 2 ^ 128)
    × (length (history_tracks f.project.numbered.history.history) < 2 ^ 128)
fits f is many =
    let k = f.project in
    let h : History (List Track) = k.numbered.history.history in
    counts_fit f.block_size k.next_block k.next_track k.commit h
    (recursion_from_All (IsValidTagged f.block_size k.next_block k.next_track k.commit) h.points
    (valid_back f.block_size k is.kept).points) many

pub count_layouts-requires-clause-few : goal.count_layouts-requires-clause-few
count_layouts-requires-clause-few c = (fits c.args.folded c.requires.valid
    (omega (arith, c.len-points.ensures.whole.few, c.requires.valid.format.depth_most))).0

pub count_layouts-requires-clause-fits : goal.count_layouts-requires-clause-fits
count_layouts-requires-clause-fits c = (fits c.args.folded c.requires.valid
    (omega (arith, c.len-points.ensures.whole.few, c.requires.valid.format.depth_most))).1
