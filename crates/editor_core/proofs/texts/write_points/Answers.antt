-- One point more is written.
use Rattle.editor_core.proofs.Common.{◌≡◌, ◌∙◌, ℕ, List, [], sym, ap, length, map, drop, arith, take_all, slice_index}
use Rattle.editor_core.proofs.Common.{flat_map, tag_of, points_size, Track, point_bytes, drop_some, take_some, row}
use Rattle.editor_core.proofs.Common.{size_left, tagged}
use Rattle.std.proofs.lemmas.List.{drop_all}
use Rattle.project_journal.specs.{Packing.sized}
use Rattle.record_body.proofs.Parts.{part_written}
use Rattle.editor_cleanup.proofs.HeaderPoints.{rows, short_at}
use Rattle.editor_core.proofs.texts.write_points.Goals as goal

pub slice_bounds-write_sized-end : goal.slice_bounds-write_sized-end
slice_bounds-write_sized-end c =
    let h = c.args.history.now.history in
    let i = c.loop-i.i in
    let tag = slice_index (map tag_of h.points) i in
    let x : List Track × ℕ = (c.point-point.result.now, tag) in
    let at = tagged h.points i c.point-point.result.now c.point-point.ensures in
    let size = c.point_len-len.ensures.value tag in
    let left = size_left h.points i x (drop_some h.points i x at) in
    let room = c.loop-i.invariant.room in
    omega (arith, left, size, room)

pub write_sized-requires-clause-len : goal.write_sized-requires-clause-len
write_sized-requires-clause-len c = c.point_len-len.ensures.value c.tag.result

pub write_sized-requires-clause-short : goal.write_sized-requires-clause-short
write_sized-requires-clause-short c =
    let h = c.args.history.now.history in
    let i = c.loop-i.i in
    let tag = slice_index (map tag_of h.points) i in
    let x : List Track × ℕ = (c.point-point.result.now, tag) in
    let at = tagged h.points i c.point-point.result.now c.point-point.ensures in
    let size = c.point_len-len.ensures.value tag in
    let short = short_at h.points i x at c.requires.short in
    omega (arith, size, short)

pub loop-i-preserved : goal.loop-i-preserved
loop-i-preserved c =
    let h = c.args.history.now.history in
    let i = c.loop-i.i in
    let tag = slice_index (map tag_of h.points) i in
    let p = c.point-point.result.now in
    let x : List Track × ℕ = (p, tag) in
    let at = tagged h.points i p c.point-point.ensures in
    let size = c.point_len-len.ensures.value tag in
    let left = size_left h.points i x (drop_some h.points i x at) in
    let room = c.loop-i.invariant.room in
    let here : c.write_sized.new.out ≡ row x =
    c.write_sized.ensures ∙ ap (λ (n : ℕ). sized (point_bytes (p, n))) c.tag.ensures in
    record {
      written = part_written row h.points i _ c.loop-i.at c.loop-i.out c.write_sized.new.out x
          (take_some h.points i x at) (omega (arith, room)) c.loop-i.invariant.written here _
          (omega (arith, size, ap length here));
      room = omega (arith, left, size, room, ap length here);
    }

pub returns : goal.returns
returns c =
    let h = c.args.history.now.history in
    let i = c.loop-i.i in
    let len = c.len-i-end.ensures.len in
    let last = c.loop-i-test.false in
    let none : drop i h.points ≡ [] = drop_all i h.points (omega (arith, len, last)) in
    let room = c.loop-i.invariant.room in
    let left = ap (λ (ps : List (List Track × ℕ)). points_size (map point_bytes ps)) none in
    sym (take_all c.loop-i.at c.loop-i.out (omega (arith, room, left)))
    ∙ c.loop-i.invariant.written
    ∙ ap (flat_map row) (take_all i h.points (omega (arith, len, last)))
    ∙ sym (rows h.points)
