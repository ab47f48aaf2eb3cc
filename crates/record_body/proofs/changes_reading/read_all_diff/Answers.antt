-- The track at hand stands in front of those that are left.
use Rattle.record_body.proofs.Common.{exit_err, ◌≡◌, List, ◌+◌, ◌-◌, ◌<◌, ◌∷◌, [], Some, length, refl, sym, ap, subst}
use Rattle.record_body.proofs.Common.{◌∙◌, arith, length-append, field, AreNewOrCurrent, unnumbered, Track, AllBelow}
use Rattle.record_body.proofs.Common.{track_of, diff_size, diff_tests, AddsTold, AreDiff, all_pass, AllBelow-higher}
use Rattle.record_body.proofs.Common.{AllBelow-push}
use Rattle.project_state.specs.Numbers.{IsNewOrCurrent}
use Rattle.record_body.proofs.SavedBounds.{all_append}
use Rattle.record_body.proofs.Steps.{row_next, row_passes, row_stops, row_values}
use Rattle.record_body.proofs.ToldAdds.{last_is, said_more}
use Rattle.record_body.proofs.DiffTracks.{have_first, have_rest, known_mark, id_bounds, diff_id, diff_whole}
use Rattle.record_body.proofs.changes_reading.read_all_diff.Goals as goal

pub add_told-requires-clause-within : goal.add_told-requires-clause-within
add_told-requires-clause-within c = have_first (c.args.count - c.loop.counter) c.loop.next c.args.bytes.now
    (omega (arith, c.loop-test.true)) c.loop.invariant.within

pub returns-in_err-add_told : goal.returns-in_err-add_told
returns-in_err-add_told c =
    let bytes = c.args.bytes.now in
    let now = c.args.current.now in
    let at = c.loop.next in
    let adds : Unit {0} → Type 0 =
    λ _. AddsTold now (track_of (field at 8 bytes) now) at bytes c.loop.point c.add_told.new.point in
    let all : List Track → Type 0 = λ p. AreDiff now c.args.count c.args.at bytes p in
    rw (exit_err c.from_residual.result c.from_residual.ensures.1)
    (row_stops _ _ _ _ _ _ _ _ c.loop.invariant.told (λ n. refl) adds all c.in_err-add_told.field-0.0
    (omega (arith, c.loop-test.true)) c.in_err-add_told.ensures)

pub overflow_sub-last : goal.overflow_sub-last
overflow_sub-last c = search (arith, c.in_ok-add_told.ensures.1, c.len-last.ensures.value, length-append)

pub track_at-track-requires : goal.track_at-track-requires
track_at-track-requires c = search (arith, c.in_ok-add_told.ensures.1, c.len-last.ensures.value, length-append)

pub diff_len_at-next-requires-clause-within : goal.diff_len_at-next-requires-clause-within
diff_len_at-next-requires-clause-within c = have_first (c.args.count - c.loop.counter) c.loop.next c.args.bytes.now
    (omega (arith, c.loop-test.true)) c.loop.invariant.within

pub diff_len_at-next-requires-clause-known : goal.diff_len_at-next-requires-clause-known
diff_len_at-next-requires-clause-known c = search (arith, c.in_ok-add_told.ensures.0, known_mark, all_pass)

pub diff_len_at-next-requires-clause-whole : goal.diff_len_at-next-requires-clause-whole
diff_len_at-next-requires-clause-whole c =
    search (arith, c.in_ok-add_told.ensures.1, c.len-last.ensures.value, c.track_at-track.ensures, last_is, diff_whole)

pub overflow_add-next : goal.overflow_add-next
overflow_add-next c =
    let bytes = c.args.bytes.now in
    let pass = all_pass (diff_tests c.args.limits c.args.current.now c.loop.from c.loop.next bytes)
    c.in_ok-add_told.ensures.0 in
    let known = known_mark c.args.limits c.args.current.now c.loop.from c.loop.next bytes pass in
    let has = have_first (c.args.count - c.loop.counter) c.loop.next bytes (omega (arith, c.loop-test.true))
    c.loop.invariant.within in
    omega (arith, c.diff_len_at-next.ensures, has.1 known)

pub overflow_add-from : goal.overflow_add-from
overflow_add-from c =
    let bytes = c.args.bytes.now in
    let bounds = id_bounds c.args.limits c.args.current.now c.loop.from c.loop.next bytes
    (all_pass (diff_tests c.args.limits c.args.current.now c.loop.from c.loop.next bytes) c.in_ok-add_told.ensures.0) in
    let one = c.in_ok-add_told.ensures.1 in
    let track : Track = c.track_at-track.result.now in
    let same : track ≡ one.track = last_is c.loop.point c.add_told.new.point one.track track c.len-last.result one.added
    c.len-last.ensures.value c.track_at-track.ensures in
    omega (
      arith,
      bounds.2,
      ap (λ (t : Track). t.id) same,
      diff_id c.args.current.now c.loop.next bytes (unnumbered one.track) one.said,
    )

pub loop-preserved : goal.loop-preserved
loop-preserved c =
    let bytes = c.args.bytes.now in
    let l = c.args.limits in
    let now = c.args.current.now in
    let at = c.loop.next in
    let one = c.in_ok-add_told.ensures.1 in
    let new : Track = one.track in
    let track : Track = c.track_at-track.result.now in
    let same : track ≡ new = last_is c.loop.point c.add_told.new.point new track c.len-last.result one.added
    c.len-last.ensures.value c.track_at-track.ensures in
    let n = c.args.count - c.loop.counter in
    let k = c.args.count - (c.loop.counter + 1) in
    let some : 0 < n = omega (arith, c.loop-test.true) in
    let less : k ≡ n - 1 = omega arith in
    let ends : at + diff_size at bytes ≡ at + c.diff_len_at-next.result =
    ap (λ i. at + i) (sym c.diff_len_at-next.ensures) in
    let id : field at 8 bytes ≡ track.id =
    sym (diff_id now at bytes (unnumbered new) one.said) ∙ ap (λ (t : Track). t.id) (sym same) in
    let pass = all_pass (diff_tests l now c.loop.from at bytes) c.in_ok-add_told.ensures.0 in
    let bounds = id_bounds l now c.loop.from at bytes pass in
    record {
      told = row_next _ _ _ _ _ _ _ _ c.loop.invariant.told (λ j. refl) (λ j. refl) k _ _ (Some (unnumbered new)) _ some
          less c.in_ok-add_told.ensures.0 one.said (ap (λ i. i + 1) id) ends
          (said_more c.loop.point c.add_told.new.point new one.added);
      within = have_rest n k at (at + c.diff_len_at-next.result) bytes some less (sym ends)
          (known_mark l now c.loop.from at bytes pass) c.loop.invariant.within;
      below = subst (AllBelow (track.id + 1)) (sym one.added) (AllBelow-push (track.id + 1) c.loop.point new
          (AllBelow-higher c.loop.from (track.id + 1) c.loop.point (omega (arith, bounds.1, id))
          c.loop.invariant.below) (omega (arith, ap (λ (t : Track). t.id) same)));
      many = omega (arith, ap length one.added, length-append c.loop.point (new ∷ []), c.loop.invariant.many);
      numbers = subst (AreNewOrCurrent now) (sym one.added)
          (all_append (IsNewOrCurrent now) c.loop.point (new ∷ []) c.loop.invariant.numbers (one.number, tt));
    }

pub returns : goal.returns
returns c =
    let none : c.args.count - c.loop.counter ≡ 0 = omega (arith, c.loop-test.false) in (
      row_passes _ _ _ _ _ _ _ _ none refl c.loop.invariant.told,
      record {
        said = row_values _ _ _ _ _ _ _ _ none refl c.loop.invariant.told;
        numbers = c.loop.invariant.numbers;
      },
    )
