-- One track more is searched.
use Rattle.editor_recovery.proofs.Common.{◌+◌, List, Option, refl, drop, sym, ap, ◌∙◌, All-from_recursion}
use Rattle.editor_recovery.proofs.Common.{recursion_from_All, BlockRef, layout_blocks, Track, point_blocks, IsBlockRef}
use Rattle.editor_recovery.proofs.Common.{drop_some, AgreesWith, size_in, first_wrong}
use Rattle.editor_recovery.proofs.Searched.{still_searched, track_holds, track_part}
use Rattle.editor_recovery.proofs.Wrong.{wrong_append}
use Rattle.editor_recovery.proofs.sizes.wrong_point.Goals as goal

pub loop-i-init : goal.loop-i-init
loop-i-init c = (refl, c.requires.searched)

pub wrong_track-found-requires-clause-blocks : goal.wrong_track-found-requires-clause-blocks
wrong_track-found-requires-clause-blocks c =
    let ts = c.args.point.now in
    let t = c.track_at.result.now in
    All-from_recursion IsBlockRef (layout_blocks t.layout)
    (track_part IsBlockRef ts c.loop-i.i t c.track_at.ensures
    (recursion_from_All IsBlockRef (point_blocks ts) c.requires.blocks))

pub wrong_track-found-requires-clause-numbered : goal.wrong_track-found-requires-clause-numbered
wrong_track-found-requires-clause-numbered c =
    track_holds (λ (t : Track). AgreesWith t c.args.before.now) c.args.point.now c.loop-i.i c.track_at.result.now
    c.track_at.ensures c.requires.numbered

pub wrong_track-found-requires-clause-searched : goal.wrong_track-found-requires-clause-searched
wrong_track-found-requires-clause-searched c = c.loop-i.invariant.1

pub loop-i-preserved : goal.loop-i-preserved
loop-i-preserved c =
    let ts = c.args.point.now in
    let t = c.track_at.result.now in
    let sizes = size_in c.args.sizes.now in
    let found = c.loop-i.found in
    let rest = point_blocks (drop (c.loop-i.i + 1) ts) in (
      ap (λ (f : Option BlockRef). first_wrong sizes f rest) c.wrong_track-found.ensures
          ∙ sym (wrong_append sizes found (layout_blocks t.layout) rest)
          ∙ ap (λ (l : List Track). first_wrong sizes found (point_blocks l))
          (sym (drop_some ts c.loop-i.i t c.track_at.ensures))
          ∙ c.loop-i.invariant.0,
      rw c.wrong_track-found.ensures
          (still_searched sizes found (layout_blocks t.layout) (point_blocks c.args.before.now) c.loop-i.invariant.1),
    )
