-- The track stands after the others.
use Rattle.record_body.proofs.Common.{◌≡◌, ℕ, ◌+◌, [], ◌∷◌, ◌++◌, ap₂, sym, subst, ◌∙◌, field, first_failed, mark_at}
use Rattle.record_body.proofs.Common.{mark_tests, whole_tests, Finds, place, track_at}
use Rattle.record_body.proofs.{DiffTracks.finds_on, ToldAdds.below_read}
use Rattle.record_body.proofs.changes_reading.add_new.Goals as goal

pub add_read-requires-clause-above : goal.add_read-requires-clause-above
add_read-requires-clause-above c =
    let at = c.args.at in
    let bytes = c.args.bytes.now in
    below_read (whole_tests c.args.limits (at + 1) bytes) (record (track_at (at + 1) bytes) { id = c.u64_at.result })
    (field at 8 bytes) c.args.point.now c.read_whole-track.result c.read_whole-track.ensures c.u64_at.ensures
    c.requires.above

pub returns : goal.returns
returns c =
    let at = c.args.at in
    let bytes = c.args.bytes.now in
    let tests = whole_tests c.args.limits (at + 1) bytes in
    let added : ℕ → Unit {0} → Type 0 =
    λ n _. c.add_read.new.point ≡ c.args.point.now ++ (record (track_at (at + 1) bytes) { id = n }) ∷ [] in
    let mark = ap₂ (λ p m. first_failed (mark_tests p 1 m)) c.place.ensures c.u8_at.ensures in
    finds_on (mark_tests (place c.args.limits.base (at + 8)) 1 (mark_at at bytes)) tests (added (field at 8 bytes))
    c.add_read.result (sym mark ∙ c.in_ok-test_mark.ensures.0)
    (subst (λ (n : ℕ). Finds tests (added n) c.add_read.result) c.u64_at.ensures
    (c.add_read.ensures tests (record (track_at (at + 1) bytes) { id = c.u64_at.result }) c.read_whole-track.ensures))
