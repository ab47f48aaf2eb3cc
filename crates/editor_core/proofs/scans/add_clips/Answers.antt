-- All blocks of one clip more.
use Rattle.editor_core.proofs.Common.{◌≡◌, ◌+◌, ◌∷◌, ◌++◌, List, drop, sym, ap, ◌∙◌, arith, append_assoc}
use Rattle.editor_core.proofs.Common.{BlockRef, layout_blocks}
use Rattle.std.proofs.lemmas.List.{drop_more}
use Rattle.clip_track.specs.declared.clips.Clip.{Clip}
use Rattle.block_sequence.proofs.FromTo.{from_to_all}
use Rattle.editor_core.proofs.scans.add_clips.Goals as goal

pub loop-clip-preserved : goal.loop-clip-preserved
loop-clip-preserved c =
    let cs = c.args.clips.now in
    let x : Clip = c.clip-item.result in
    let rest = drop (c.loop-clip.clip-index + 1) cs in
    let old = c.loop-clip.blocks.items in
    let all = from_to_all c.count.result x.blocks (omega (arith, c.count.ensures.value)) in
    let next = drop_more cs c.loop-clip.clip-index x c.loop-clip-test.true
    ∙ ap (λ (y : Clip). y ∷ rest) (sym c.clip-item.is) in
    ap (λ (bs : List BlockRef). bs ++ layout_blocks rest) (c.in_ok-append_to.ensures
    ∙ ap (λ (bs : List BlockRef). old ++ bs) all)
    ∙ append_assoc old x.blocks (layout_blocks rest)
    ∙ ap (λ (ds : List Clip). old ++ layout_blocks ds) (sym next)
    ∙ c.loop-clip.invariant
