-- The track at hand stands in front of those that are left.
use Rattle.record_body.proofs.Common.{◌≡◌, List, ◌+◌, ◌-◌, ◌<◌, ◌∷◌, [], length, refl, sym, ap, subst, ◌∙◌, arith}
use Rattle.record_body.proofs.Common.{length-append, exit_err, field, Track, AllBelow, track_at, track_size, tracks_at}
use Rattle.record_body.proofs.Common.{tracks_size, track_bytes, track_tests, all_pass, AllBelow-higher, AllBelow-push}
use Rattle.record_body.proofs.Steps.{row_next, row_passes, row_stops, row_values}
use Rattle.record_body.proofs.{Reaching.first_within, Reaching.parts_behind, Sizes.size_of_track, ValidBodies.track_id}
use Rattle.record_body.proofs.reading.read_tracks.Goals as goal

pub read_track-requires : goal.read_track-requires
read_track-requires c =
    let bytes = c.args.bytes.now in
    let within = first_within (λ j a. tracks_size j a bytes) (track_size c.loop.next bytes) c.loop.next c.loop.next
    (λ j. refl) (c.args.count - c.loop.counter) (omega (arith, c.loop-test.true)) in
    record { within = omega (arith, within, c.loop.invariant.1, c.requires.within) }

pub returns-in_err-track : goal.returns-in_err-track
returns-in_err-track c =
    let found : Track → Type 0 = λ x. x ≡ track_at c.loop.next c.args.bytes.now in
    let all : List Track → Type 0 = λ x. x ≡ tracks_at c.args.count c.args.at c.args.bytes.now in
    rw (exit_err c.from_residual.result c.from_residual.ensures.1) (row_stops _ _ _ _ _ _ _ _ c.loop.invariant.0
    (λ n. refl) found all c.in_err-track.field-0.0 (omega (arith, c.loop-test.true)) c.in_err-track.ensures)

pub push-requires-clause-above : goal.push-requires-clause-above
push-requires-clause-above c =
    let bytes = c.args.bytes.now in
    let at = c.loop.next in
    let id = track_id c.args.limits c.loop.from at bytes
    (all_pass (track_tests c.args.limits c.loop.from at bytes) c.in_ok-track.ensures.0) in
    AllBelow-higher c.loop.from c.in_ok-track.track.id c.loop.point
    (omega (arith, id.1, ap (λ t. t.id) c.in_ok-track.ensures.1)) c.loop.invariant.2

pub loop-preserved : goal.loop-preserved
loop-preserved c =
    let bytes = c.args.bytes.now in
    let l = c.args.limits in
    let at = c.loop.next in
    let track = c.in_ok-track.track in
    let some : 0 < c.args.count - c.loop.counter = omega (arith, c.loop-test.true) in
    let less : c.args.count - (c.loop.counter + 1) ≡ c.args.count - c.loop.counter - 1 = omega arith in
    let size : c.track_len-next.result ≡ track_size at bytes = c.track_len-next.ensures.value
    ∙ ap (λ x. length (track_bytes x)) c.in_ok-track.ensures.1 ∙ size_of_track bytes at in
    let ends : at + track_size at bytes ≡ at + c.track_len-next.result = ap (λ i. at + i) (sym size) in
    let id : field at 8 bytes ≡ track.id = ap (λ t. t.id) (sym c.in_ok-track.ensures.1) in
    let above =
    track_id l c.loop.from at bytes (all_pass (track_tests l c.loop.from at bytes) c.in_ok-track.ensures.0) in
    let point = c.in_ok-push.ensures.added in (
      row_next _ _ _ _ _ _ _ _ c.loop.invariant.0 (λ n. refl) (λ n. refl) _ _ _ _ _ some less c.in_ok-track.ensures.0
          (sym c.in_ok-track.ensures.1) (ap (λ i. i + 1) id) ends point,
      parts_behind (λ j a. tracks_size j a bytes) (track_size at bytes) at _ (λ j. refl) _ _ some less ends
          ∙ c.loop.invariant.1,
      subst (AllBelow (track.id + 1)) (sym point) (AllBelow-push (track.id + 1) c.loop.point track (AllBelow-higher
          c.loop.from (track.id + 1) c.loop.point (omega (arith, above.1, id)) c.loop.invariant.2) (omega arith)),
      omega (arith, ap length point, length-append c.loop.point (track ∷ []), c.loop.invariant.3),
    )

pub returns : goal.returns
returns c =
    let none : c.args.count - c.loop.counter ≡ 0 = omega (arith, c.loop-test.false) in (
      row_passes _ _ _ _ _ _ _ _ none refl c.loop.invariant.0,
      row_values _ _ _ _ _ _ _ _ none refl c.loop.invariant.0,
    )
