-- By the mark: the current track, one that is written out, or one whose end is another.
use Rattle.record_body.proofs.Common.{◌≡◌, ℕ, ◌+◌, ◌<◌, length, List, None, Some, Result}
use Rattle.record_body.proofs.Common.{IfOk, refl, sym, ◌∙◌, arith, field, first_failed, Damaged, Track, AllBelow}
use Rattle.record_body.proofs.Common.{track_of, last_blocks, last_start, tailed, fresh_at, gone_at, mark_at}
use Rattle.record_body.proofs.Common.{mark_tests, mark_want, tail_tests, whole_tests, blocks_at, track_at}
use Rattle.record_body.proofs.Common.{BadBody, Finds}
use Rattle.record_body.proofs.ToldAdds.{adds_found, adds_same, adds_tail, adds_whole, below_read, mark_fails}
use Rattle.record_body.proofs.ToldAdds.{marks_pass}
use Rattle.record_body.proofs.{DiffValid.has_clips, DiffTracks.found_id, DiffTracks.found_in}
use Rattle.record_body.proofs.changes_reading.add_known.Goals as goal

pub returns-in_err-test_mark : goal.returns-in_err-test_mark
returns-in_err-test_mark c =
    search (
      arith,
      c.from_residual.ensures.1,
      c.requires.found,
      c.track_at-old.ensures,
      c.place-mark_place.ensures,
      c.wanted_mark.ensures,
      c.u8_at-mark.ensures,
      c.in_err-test_mark.ensures,
      mark_fails,
    )

pub share-requires-clause-above : goal.share-requires-clause-above
share-requires-clause-above c = search (arith, c.requires.found, c.requires.above, found_id)

pub returns-then-mark-eq0 : goal.returns-then-mark-eq0
returns-then-mark-eq0 c =
    search (
      arith,
      c.track_at-old.ensures,
      c.requires.found,
      c.u8_at-mark.ensures,
      c.if-mark-eq0.true,
      c.in_ok-share.ensures.added,
      adds_found,
      adds_same,
      found_id,
    )

pub read_whole-track-requires : goal.read_whole-track-requires
read_whole-track-requires c = search (arith, c.u8_at-mark.ensures, c.if-mark-eq1.true, c.requires.within.1)

-- the id of the track, which is above those before
module _ (id : ℕ) (now before : List Track) (old : Track) (found : track_of id now ≡ Some old) where
  below : (tests : List Damaged) (t : Track) (r : Result Track BadBody) → t.id ≡ old.id → AllBelow id before
      → Finds tests (λ x. x ≡ t) r → IfOk r (λ x. AllBelow x.id before)
  below tests t r same above h = below_read tests t id before r h (same ∙ found_id id now old found) above

pub add_read-requires-clause-above : goal.add_read-requires-clause-above
add_read-requires-clause-above c =
    let at = c.args.start.at in
    let bytes = c.args.bytes.now in
    below (field at 8 bytes) c.args.current.now c.args.point.now c.track_at-old.result.now
    (c.requires.found c.track_at-old.result.now c.track_at-old.ensures) (whole_tests c.args.start.limits (at + 1) bytes)
    (record (track_at (at + 1) bytes) { id = c.track_at-old.result.now.id })
    c.read_whole-track.result refl c.requires.above c.read_whole-track.ensures

pub returns-then-mark-eq1 : goal.returns-then-mark-eq1
returns-then-mark-eq1 c =
    let l = c.args.start.limits in
    let at = c.args.start.at in
    let bytes = c.args.bytes.now in
    let now = c.args.current.now in
    let old : Track = c.track_at-old.result.now in
    let found = c.requires.found old c.track_at-old.ensures in
    let one : mark_at at bytes ≡ 1 = sym c.u8_at-mark.ensures ∙ c.if-mark-eq1.true in
    adds_found l now at bytes c.args.point.now c.add_read.new.point (Some old) c.add_read.result found
    (adds_whole l now at bytes c.args.point.now c.add_read.new.point old c.add_read.result
    (found_id (field at 8 bytes) now old found) one
    (c.add_read.ensures (whole_tests l (at + 1) bytes) (record (track_at (at + 1) bytes) { id = old.id })
    c.read_whole-track.ensures))

-- a mark that passes, and is neither of the others
is_two : (old : Track) (at want mark : ℕ) → first_failed (mark_tests at want mark) ≡ None
    → want ≡ mark_want (Some old) mark → (mark ≡ 0 → ⊥) → (mark ≡ 1 → ⊥) → (mark ≡ 2) × (0 < length old.layout)
is_two old at want mark none is not_same not_whole = search (arith, marks_pass, has_clips)

pub read_tail-requires-clause-within : goal.read_tail-requires-clause-within
read_tail-requires-clause-within c =
    search (
      arith,
      c.in_ok-test_mark.ensures.0,
      c.wanted_mark.ensures,
      c.if-mark-eq0.false,
      c.if-mark-eq1.false,
      c.u8_at-mark.ensures,
      c.requires.within.1,
      is_two,
    )

pub read_tail-requires-clause-some : goal.read_tail-requires-clause-some
read_tail-requires-clause-some c =
    let mark = is_two c.track_at-old.result.now c.place-mark_place.result c.wanted_mark.result c.u8_at-mark.result
    c.in_ok-test_mark.ensures.0 c.wanted_mark.ensures c.if-mark-eq0.false c.if-mark-eq1.false in
    mark.1

pub read_tail-requires-clause-half_full : goal.read_tail-requires-clause-half_full
read_tail-requires-clause-half_full c =
    search (arith, c.requires.half_full, c.requires.found, c.track_at-old.ensures, found_in)

pub add_read-requires-2-clause-above : goal.add_read-requires-2-clause-above
add_read-requires-2-clause-above c =
    let at = c.args.start.at in
    let bytes = c.args.bytes.now in
    let old : Track = c.track_at-old.result.now in
    below (field at 8 bytes) c.args.current.now c.args.point.now old (c.requires.found old c.track_at-old.ensures)
    (tail_tests c.args.start.limits (last_start old.layout) (last_blocks old.layout) at bytes)
    (tailed (gone_at at bytes) (blocks_at (fresh_at at bytes) (at + 17) bytes) old)
    c.read_tail.result refl c.requires.above c.read_tail.ensures

pub returns : goal.returns
returns c =
    let l = c.args.start.limits in
    let at = c.args.start.at in
    let bytes = c.args.bytes.now in
    let now = c.args.current.now in
    let old : Track = c.track_at-old.result.now in
    let mark = is_two old c.place-mark_place.result c.wanted_mark.result c.u8_at-mark.result
    c.in_ok-test_mark.ensures.0 c.wanted_mark.ensures c.if-mark-eq0.false c.if-mark-eq1.false in
    let point = c.add_read-2.new.point in
    let result = c.add_read-2.result in
    adds_found l now at bytes c.args.point.now point (Some old) result (c.requires.found old c.track_at-old.ensures)
    (adds_tail l now at bytes c.args.point.now point old result (sym c.u8_at-mark.ensures ∙ mark.0) mark.1
    (c.add_read-2.ensures (tail_tests l (last_start old.layout) (last_blocks old.layout) at bytes)
    (tailed (gone_at at bytes) (blocks_at (fresh_at at bytes) (at + 17) bytes) old) c.read_tail.ensures))
