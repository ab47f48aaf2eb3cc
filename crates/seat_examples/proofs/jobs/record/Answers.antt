-- One piece more.
use Rattle.std.proofs.Common.{◌≡◌, ◌∙◌, ℕ, ◌+◌, ◌≤◌, true, false, refl, ap, subst, arith, length}
use Rattle.pin_turn.specs.Calls.{known}
use Rattle.studio_seats.specs.{Desks.IsAt, Desks.start_at, Onward.Onward, Recording.RecorderAsks, Recording.recorder}
use Rattle.studio_seats.proofs.OnwardLemmas.{onward_on}
use Rattle.studio_seats.proofs.RecordingLemmas.{pieces_free, records_free, records_self}
use Rattle.seat_examples.specs.Jobs.{piece_count}
use Rattle.seat_examples.proofs.CallLemmas.{taken_more, told_ok}
use Rattle.seat_examples.proofs.jobs.record.Goals as goal

pub returns-in-Err-clause-same : goal.returns-in-Err-clause-same
returns-in-Err-clause-same g c =
    let s = c.pieces.taker in
    let a = recorder (known s.seat) s.refused s.since in
    let on = c.take_pieces.ensures.goes s (refl, refl, refl, records_self s.track s.tag a) in
    subst (λ (d : _). IsAt d c.finish.result) (on.0 ∙ c.pieces.invariant.desk) c.finish.ensures.at

pub returns-in-Err-clause-goes : goal.returns-in-Err-clause-goes
returns-in-Err-clause-goes g c =
    let s = c.pieces.taker in
    let inv = c.pieces.invariant in
    let pieces = RecorderAsks c.args.recording.track c.args.recording.tag in
    let t = c.take_pieces.new.self in
    let a = recorder (known s.seat) s.refused s.since in
    let on = c.take_pieces.ensures.goes s (refl, refl, refl, records_self s.track s.tag a) in
    let here = known c.finish.result in
    let freed = records_free s.track s.tag (known t.seat) here _ a t.refused t.since on.3 true 0
    c.finish.ensures.frees in
    let named : ℕ × ℕ → Type 0 = λ z. Onward (RecorderAsks z.0 z.1) (known s.seat) here in
    let more = subst named (λ i. (inv.track i, inv.tag i)) freed.onward in
    onward_on pieces (known c.args.seat) (known s.seat) here inv.goes more

pub returns-clause-goes : goal.returns-clause-goes
returns-clause-goes g c =
    let s = c.pieces.taker in
    let inv = c.pieces.invariant in
    let pieces = RecorderAsks c.args.recording.track c.args.recording.tag in
    let a = recorder (known s.seat) s.refused s.since in
    let here = known c.finish-2.result in
    let freed = records_free s.track s.tag (known s.seat) here false a s.refused s.since
    (records_self s.track s.tag a) true 0 c.finish-2.ensures.frees in
    let named : ℕ × ℕ → Type 0 = λ z. Onward (RecorderAsks z.0 z.1) (known s.seat) here in
    let more = subst named (λ i. (inv.track i, inv.tag i)) freed.onward in
    onward_on pieces (known c.args.seat) (known s.seat) here inv.goes more

pub returns-clause-done : goal.returns-clause-done
returns-clause-done g c = λ is.
    let s = c.pieces.taker in
    let first = (start_at c.args.desk.now).commit_number in
    let same = ap length (pieces_free c.args.recording.track c.args.recording.tag (known s.seat) (known c.finish-2.result) true s.since 0
    first c.finish-2.ensures.frees) in
    let was = c.pieces.invariant.pieces in
    let end = c.pieces.auto.number-end in
    let test = c.pieces-test.false in
    omega (arith, same, was, end, test)

pub pieces-preserved : goal.pieces-preserved
pieces-preserved g c =
    let s = c.pieces.taker in
    let inv = c.pieces.invariant in
    let pieces = RecorderAsks c.args.recording.track c.args.recording.tag in
    let there = known s.seat in
    let here = known c.take_pieces.new.self.seat in
    let a = recorder there s.refused s.since in
    let on = c.take_pieces.ensures.goes s (refl, refl, refl, records_self s.track s.tag a) in
    let named : ℕ × ℕ → Type 0 = λ z. Onward (RecorderAsks z.0 z.1) there here in
    let more = subst named (λ i. (inv.track i, inv.tag i)) on.3.onward in
    let desk = on.0 ∙ inv.desk in
    let track = on.1 ∙ inv.track in
    let tag = on.2 ∙ inv.tag in
    let told = told_ok _ c.take_pieces.result.what c.in_default.not-Err c.take_pieces.ensures.taken in
    let one : told.0.count ≤ 1 = told.1.few in
    let some = told.1.some in
    let added : piece_count c.take_pieces.new.self.track c.take_pieces.new.self.tag
    (start_at c.take_pieces.new.self.desk.now).commit_number here
    ≡ piece_count s.track s.tag (start_at s.desk.now).commit_number there + told.0.count =
    taken_more _ _ _ told.0 told.1 in
    let before : piece_count s.track s.tag (start_at s.desk.now).commit_number there
    ≡ piece_count c.args.recording.track c.args.recording.tag (start_at c.args.desk.now).commit_number there =
    (λ i. piece_count (inv.track i) (inv.tag i) (start_at (inv.desk i)).commit_number there) in
    let after : piece_count c.take_pieces.new.self.track c.take_pieces.new.self.tag
    (start_at c.take_pieces.new.self.desk.now).commit_number here
    ≡ piece_count c.args.recording.track c.args.recording.tag (start_at c.args.desk.now).commit_number here =
    (λ i. piece_count (track i) (tag i) (start_at (desk i)).commit_number here) in
    let was = inv.pieces in
    record {
      desk = desk;
      track = track;
      tag = tag;
      goes = onward_on pieces (known c.args.seat) there here inv.goes more;
      pieces = omega (arith, added, one, some, before, after, was);
    }
