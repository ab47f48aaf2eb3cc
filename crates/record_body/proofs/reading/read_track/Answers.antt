-- The tests of the id, and of what stands after it.
use Rattle.record_body.proofs.Common.{◌≡◌, ℕ, subst, exit_err, some_first, id_tests, whole_tests, Finds, track_at}
use Rattle.record_body.proofs.DiffTracks.{finds_on}
use Rattle.record_body.proofs.reading.read_track.Goals as goal

pub returns-in_err-test_id : goal.returns-in_err-test_id
returns-in_err-test_id c = rw (exit_err c.from_residual.result c.from_residual.ensures.1)
    (some_first (id_tests c.args.limits c.args.from c.args.at c.args.bytes.now) (whole_tests c.args.limits c.args.at
    c.args.bytes.now) c.in_err-test_id.field-0.0 c.in_err-test_id.ensures)

pub returns : goal.returns
returns c =
    let at = c.args.at in
    let bytes = c.args.bytes.now in
    let tests = whole_tests c.args.limits at bytes in
    finds_on (id_tests c.args.limits c.args.from at bytes) tests (λ t. t ≡ track_at at bytes) c.read_whole.result
    c.in_ok-test_id.ensures.0 (subst (λ (n : ℕ). Finds tests (λ t. t ≡ record (track_at at bytes) { id = n })
    c.read_whole.result) c.u64_at.ensures c.read_whole.ensures)
