-- The rows of one of the clips.
use Rattle.editor_recovery.proofs.Common.{get_or, slice_get-get_or}
use Rattle.editor_recovery.specs.Sizes.{IsSearched}
use Rattle.editor_recovery.proofs.Searched.{clip_part}
use Rattle.editor_recovery.proofs.sizes.rows_at.Goals as goal

pub returns-then-place-clips : goal.returns-then-place-clips
returns-then-place-clips c = λ sizes found searched.
    let cs = c.args.clips.now in
    let other = c.index-clips-place.result in
    let clip = get_or cs c.args.place other in
    let here = slice_get-get_or cs c.args.place other c.if-place-clips.true in
    rw c.rows.ensures.value (clip_part (IsSearched sizes found) cs c.args.place clip here searched)
