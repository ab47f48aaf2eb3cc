-- One point more at each pass.
use Rattle.journal_replay.proofs.Common.{exit_err, ◌≡◌, ◌+◌, ◌<◌, ◌∙◌, ◌++◌, ⊎_elim, ℕ, List, [], ◌∷◌, length, map, sym}
use Rattle.journal_replay.proofs.Common.{ap, subst, arith, length-append, length-map, kept_turn, History, at_cursor}
use Rattle.journal_replay.proofs.Common.{Base, last_record, reader_form, Track, AreUnnumbered, unnumbered}
use Rattle.journal_replay.proofs.Common.{unnumbered_history, point_count, tracks_unnumbered, HasPoints}
use Rattle.undo_history.specs.Stored.{Stored}
use Rattle.journal_replay.proofs.Pointed.{PointsSoFar, heading_at, heading_counts, heading_format, points_all}
use Rattle.journal_replay.proofs.Pointed.{points_count, points_err, points_err_first, points_first, points_more}
use Rattle.journal_replay.proofs.{Few.point_size, Journals.later_turn, Journals.none_turn, Numbered.moved_numbers}
use Rattle.journal_replay.proofs.heading.read_points.Goals.{After-take_point-in-loop}
use Rattle.journal_replay.proofs.heading.read_points.Goals as goal

abbrev Tagged : Type 0
Tagged = List Track × ℕ

-- the same without numbers has as many points
as_many : (h : History (List Track)) → length (unnumbered_history h).points ≡ length h.points
as_many h = length-map h.points (λ (p : Tagged). (map unnumbered p.0, p.1))

-- a history of one point more
longer : (g h : History (List Track)) (p : Tagged)
    → unnumbered_history g
    ≡ record (unnumbered_history h) { points = (unnumbered_history h).points ++ p ∷ [] }
    → length g.points ≡ length h.points + 1
longer g h p same = omega (
  arith,
  as_many g,
  as_many h,
  ap (λ (x : History (List Track)). length x.points) same,
  length-append (unnumbered_history h).points (p ∷ []),
)

-- there are points left
is_fewer : (g : _) (c : After-take_point-in-loop g)
    → length c.loop.invariant.so_far.points < c.loop.reader.base.count
is_fewer g c =
    let inv = c.loop.invariant in
    let h : History (List Track) = c.loop.numbered.history.history in
    omega (
      arith,
      points_count g.S.Store c.loop.store c.loop.reader c.args.m (reader_form c.args.reader.now).header_size
          c.args.reader.now.base (unnumbered_history h).points inv.so_far,
      as_many h,
      inv.count,
      c.loop-test.true,
      ap (λ (b : Base). b.count) c.base-base.ensures,
      ap (λ (b : Base). b.count) inv.later.base,
    )

pub first_point-requires-clause-depth : goal.first_point-requires-clause-depth
first_point-requires-clause-depth g c =
    let format = heading_format g.S.Store c.args.store.now c.args.reader.now [] c.requires.heading in
    omega (arith, format.depth_least, c.depth.ensures, c.in_ok-point.ensures.later.depth)

pub first_point-requires-clause-plain : goal.first_point-requires-clause-plain
first_point-requires-clause-plain g c =
    let takes = c.in_ok-point.ensures.takes [] c.requires.heading (omega (arith, c.requires.some)) in
    let bytes = (last_record c.take_point.new.reader).1 in
    subst AreUnnumbered (sym (ap (λ (p : Tagged). p.0) takes.1.is)) (tracks_unnumbered (point_count bytes) 12 bytes)

pub returns-in_err-point-clause-brings : goal.returns-in_err-point-clause-brings
returns-in_err-point-clause-brings g c =
    rw (exit_err c.from_residual.result c.from_residual.ensures.1)
    (points_err_first g.S.Store c.args.store.now c.take_point.new.store c.args.reader.now
    c.take_point.new.reader c.args.m c.requires.heading c.in_err-point.field-0.0 c.requires.size c.requires.some
    c.in_err-point.ensures.later
    (c.in_err-point.ensures.takes [] c.requires.heading (omega (arith, c.requires.some))))

pub loop-init : goal.loop-init
loop-init g c =
    let old = c.args.reader.now in
    let new = c.take_point.new.reader in
    let size = (reader_form old).header_size in
    let takes = c.in_ok-point.ensures.takes [] c.requires.heading (omega (arith, c.requires.some)) in
    let later = c.in_ok-point.ensures.later in
    let p : Tagged = (c.in_ok-point.point, c.in_ok-point.tag) in
    let one = points_first g.S.Store c.args.store.now c.take_point.new.store old new c.args.m c.requires.heading later
    p takes.0 takes.1 in
    let n : History (List Track) = c.in_ok-numbered.numbered.history.history in
    let same = c.in_ok-numbered.ensures.same in
    let count : length n.points ≡ 1 =
    omega (arith, as_many n, ap (λ (h : History (List Track)). length h.points) same) in
    let here = point_size g.S.Store c.take_point.new.store new [] c.args.m p takes.0 takes.1 in
    record {
      kept = c.in_ok-point.ensures.kept;
      no_fault = c.in_ok-point.ensures.cause;
      later = later;
      so_far = subst (λ (ps : List Tagged). PointsSoFar g.S.Store c.take_point.new.store new c.args.m size old.base ps)
          (sym (ap (λ (h : History (List Track)). h.points) same)) one;
      count = count;
      depth = ap (λ (h : History (List Track)). h.depth) same ∙ c.depth.ensures ∙ later.depth;
      numbers = c.in_ok-numbered.ensures.numbered;
      few = omega (arith, c.in_ok-numbered.ensures.most, here.at, here.nine, one.header);
    }

pub returns-in_err-point-2-clause-brings : goal.returns-in_err-point-2-clause-brings
returns-in_err-point-2-clause-brings g c =
    let inv = c.loop.invariant in
    let old = c.args.reader.now in
    let size = (reader_form old).header_size in
    let h : History (List Track) = c.loop.numbered.history.history in
    let ps = (unnumbered_history h).points in
    let so = inv.so_far in
    let fewer = is_fewer g (goal.at.returns-in_err-point-2-clause-brings g c).After-take_point-in-loop in
    rw (exit_err c.from_residual-in_err-point-2.result c.from_residual-in_err-point-2.ensures.1)
    (points_err g.S.Store c.loop.store c.take_point-in-loop.new.store c.loop.reader
    c.take_point-in-loop.new.reader c.args.m size old.base ps so c.in_err-point-2.field-0.0
    (c.requires.size ∙ sym inv.later.block_size) fewer c.in_err-point-2.ensures.later
    (c.in_err-point-2.ensures.takes so.points so.heading fewer))

pub returns-in_err-point-2-clause-kept : goal.returns-in_err-point-2-clause-kept
returns-in_err-point-2-clause-kept g c = kept_turn c.loop.invariant.kept c.in_err-point-2.ensures.kept

pub add_point-requires-clause-room : goal.add_point-requires-clause-room
add_point-requires-clause-room g c =
    let inv = c.loop.invariant in
    let counts = heading_counts g.S.Store c.args.store.now c.args.reader.now [] c.requires.heading in
    omega (arith, inv.count, inv.depth, c.loop-test.true, ap (λ (b : Base). b.count) c.base-base.ensures, counts.few)

pub add_point-requires-clause-next : goal.add_point-requires-clause-next
add_point-requires-clause-next g c =
    let inv = c.loop.invariant in
    let held = inv.so_far.heading.placed.held in
    omega (arith, inv.few, held.within, held.inside, held.bound)

pub add_point-requires-clause-numbered : goal.add_point-requires-clause-numbered
add_point-requires-clause-numbered g c = c.loop.invariant.numbers

pub add_point-requires-clause-plain : goal.add_point-requires-clause-plain
add_point-requires-clause-plain g c =
    let so = c.loop.invariant.so_far in
    let fewer = is_fewer g (goal.at.add_point-requires-clause-plain g c).After-take_point-in-loop in
    let takes = c.in_ok-point-2.ensures.takes so.points so.heading fewer in
    let bytes = (last_record c.take_point-in-loop.new.reader).1 in
    subst AreUnnumbered (sym (ap (λ (p : Tagged). p.0) takes.1.is)) (tracks_unnumbered (point_count bytes) 12 bytes)

pub returns-in_err-add_point-clause-kept : goal.returns-in_err-add_point-clause-kept
returns-in_err-add_point-clause-kept g c = kept_turn c.loop.invariant.kept c.in_ok-point-2.ensures.kept

pub loop-preserved : goal.loop-preserved
loop-preserved g c =
    let inv = c.loop.invariant in
    let old = c.args.reader.now in
    let was = c.loop.reader in
    let new = c.take_point-in-loop.new.reader in
    let size = (reader_form old).header_size in
    let h : History (List Track) = c.loop.numbered.history.history in
    let n : History (List Track) = c.add_point.new.numbered.history.history in
    let ps = (unnumbered_history h).points in
    let so = inv.so_far in
    let p : Tagged = (c.in_ok-point-2.point, c.in_ok-point-2.tag) in
    let fewer = is_fewer g (goal.at.loop-preserved g c).After-take_point-in-loop in
    let takes = c.in_ok-point-2.ensures.takes so.points so.heading fewer in
    let later = c.in_ok-point-2.ensures.later in
    let one = points_more g.S.Store c.loop.store c.take_point-in-loop.new.store was new c.args.m size old.base
    ps so later p takes.0 takes.1 in
    let same = c.in_ok-add_point.ensures.same in
    let here = point_size g.S.Store c.take_point-in-loop.new.store new so.points c.args.m p takes.0 takes.1 in
    record {
      kept = kept_turn inv.kept c.in_ok-point-2.ensures.kept;
      no_fault = none_turn g.S.Store c.args.store.now c.loop.store c.take_point-in-loop.new.store inv.no_fault
          c.in_ok-point-2.ensures.cause;
      later = later_turn old was new inv.later later;
      so_far = subst (λ (qs : List Tagged). PointsSoFar g.S.Store c.take_point-in-loop.new.store new c.args.m size
          old.base qs) (sym (ap (λ (x : History (List Track)). x.points) same)) one;
      count = omega (arith, longer n h p same, inv.count);
      depth = ap (λ (x : History (List Track)). x.depth) same ∙ inv.depth;
      numbers = c.in_ok-add_point.ensures.numbered;
      few = omega (
        arith,
        inv.few,
        c.in_ok-add_point.ensures.most,
        heading_at g.S.Store c.loop.store was so.points so.heading,
        here.at,
        here.nine,
        so.header,
        one.header,
      );
    }

pub go_to-requires : goal.go_to-requires
go_to-requires g c =
    let inv = c.loop.invariant in
    let same = c.base-base.ensures in
    let counts = heading_counts g.S.Store c.args.store.now c.args.reader.now [] c.requires.heading in
    ⊎_elim (λ zero. absurd (omega (arith, zero, c.requires.some)))
    (λ below. omega (
      arith,
      below,
      ap (λ (b : Base). b.cursor) same,
      ap (λ (b : Base). b.count) same,
      inv.count,
      c.loop-test.false,
    )) counts.current

pub returns-clause-brings : goal.returns-clause-brings
returns-clause-brings g c =
    let inv = c.loop.invariant in
    let old = c.args.reader.now in
    let n : History (List Track) = c.loop.numbered.history.history in
    let h = at_cursor (unnumbered_history n) c.base-base.result.cursor in
    let same = c.base-base.ensures ∙ sym inv.later.base in
    let some = c.requires.some in
    let count : length h.points ≡ c.loop.reader.base.count = omega (
      arith,
      as_many n,
      inv.count,
      c.loop-test.false,
      c.loop.auto.counter-end,
      some,
      ap (λ (b : Base). b.count) c.base-base.ensures,
      ap (λ (b : Base). b.count) same,
    ) in
    subst (λ (x : Stored (List Track)). HasPoints g.S.Store c.loop.store c.args.m c.loop.reader
    (unnumbered_history x.history)) (sym c.go_to.ensures)
    (points_all g.S.Store c.loop.store c.loop.reader c.args.m (reader_form old).header_size old.base h inv.so_far count
    (ap (λ (b : Base). b.cursor) same) (inv.depth ∙ sym inv.later.depth))

pub returns-clause-numbered : goal.returns-clause-numbered
returns-clause-numbered g c =
    let n : History (List Track) = c.loop.numbered.history.history in
    moved_numbers n _ c.loop.numbered.next c.base-base.result.cursor
    (ap (λ (x : Stored (List Track)). x.history) c.go_to.ensures) c.loop.invariant.numbers

pub returns-clause-few : goal.returns-clause-few
returns-clause-few g c =
    let inv = c.loop.invariant in
    omega (
      arith,
      inv.few,
      inv.so_far.header,
      c.loop-test.false,
      c.loop.auto.counter-end,
      c.requires.some,
      ap (λ (b : Base). b.count) c.base-base.ensures,
      ap (λ (b : Base). b.count) inv.later.base,
    )
