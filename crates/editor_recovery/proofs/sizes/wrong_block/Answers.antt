-- One point more is searched.
use Rattle.editor_recovery.proofs.Common.{◌+◌, ◌-◌, List, Option, None, drop, sym, ap, ◌∙◌, arith, All, BlockRef}
use Rattle.editor_recovery.proofs.Common.{History, points_of, Track, point_blocks, IsBlockRef, history_tracks, size_in}
use Rattle.editor_recovery.proofs.Common.{first_wrong}
use Rattle.layout_uses.proofs.InTurn.{point_among}
use Rattle.editor_recovery.proofs.Points.{all_blocks, blocks_left, all_at}
use Rattle.editor_recovery.proofs.{Searched.agree_points, Searched.last_searched, Wrong.wrong_append}
use Rattle.editor_recovery.proofs.sizes.wrong_block.Goals as goal

pub wrong_first-found-requires : goal.wrong_first-found-requires
wrong_first-found-requires c =
    all_at (λ ts. All IsBlockRef (point_blocks ts)) c.args.history.now.history.points 0 c.point.result.now
    c.requires.blocks c.point.ensures

pub loop-i-init : goal.loop-i-init
loop-i-init c =
    let h : History (List Track) = c.args.history.now.history in
    let sizes = size_in c.args.sizes.now in
    let ts = c.point.result.now in
    let rest = all_blocks (drop 1 h.points) in (
      ap (λ (f : Option BlockRef). first_wrong sizes f rest) c.wrong_first-found.ensures
          ∙ sym (wrong_append sizes None (point_blocks ts) rest)
          ∙ ap (first_wrong sizes None) (sym (blocks_left h.points 0 ts c.point.ensures)),
      last_searched sizes None c.wrong_first-found.result (points_of h) 0 ts c.point.ensures c.wrong_first-found.ensures,
    )

pub wrong_point-found-requires-clause-blocks : goal.wrong_point-found-requires-clause-blocks
wrong_point-found-requires-clause-blocks c =
    all_at (λ ts. All IsBlockRef (point_blocks ts)) c.args.history.now.history.points c.loop-i.i
    c.point-in-loop-i-2.result.now c.requires.blocks c.point-in-loop-i-2.ensures

pub wrong_point-found-requires-clause-numbered : goal.wrong_point-found-requires-clause-numbered
wrong_point-found-requires-clause-numbered c =
    let h : History (List Track) = c.args.history.now.history in
    let before = c.point-in-loop-i.result.now in
    let point = c.point-in-loop-i-2.result.now in
    agree_points point before (history_tracks h) c.requires.numbered
    (point_among (points_of h) c.loop-i.i point c.point-in-loop-i-2.ensures)
    (point_among (points_of h) (c.loop-i.i - 1) before c.point-in-loop-i.ensures)

pub wrong_point-found-requires-clause-searched : goal.wrong_point-found-requires-clause-searched
wrong_point-found-requires-clause-searched c =
    c.loop-i.invariant.1 (c.loop-i.i - 1) c.point-in-loop-i.result.now (omega (arith, c.loop-i.auto.i))
    c.point-in-loop-i.ensures

pub loop-i-preserved : goal.loop-i-preserved
loop-i-preserved c =
    let h : History (List Track) = c.args.history.now.history in
    let sizes = size_in c.args.sizes.now in
    let found = c.loop-i.found in
    let ts = c.point-in-loop-i-2.result.now in
    let rest = all_blocks (drop (c.loop-i.i + 1) h.points) in (
      ap (λ (f : Option BlockRef). first_wrong sizes f rest) c.wrong_point-found.ensures
          ∙ sym (wrong_append sizes found (point_blocks ts) rest)
          ∙ ap (first_wrong sizes found) (sym (blocks_left h.points c.loop-i.i ts c.point-in-loop-i-2.ensures))
          ∙ c.loop-i.invariant.0,
      last_searched sizes found c.wrong_point-found.result (points_of h) c.loop-i.i ts c.point-in-loop-i-2.ensures
          c.wrong_point-found.ensures,
    )
