-- The goals of `slice` that the search leaves open.
use Rattle.std.proofs.Common.{◌++◌, List, ap, ap₂, ◌∙◌}
use Rattle.pcm_base.specs.{declared.block.BlockRef.BlockRef, declared.piece.Piece.Piece, Blocks.block_samples}
use Rattle.pcm_base.specs.Pieces.{all_samples}
use Rattle.block_sequence.specs.Rows.{flat, from_to}
use Rattle.block_sequence.proofs.Whole.{total_part}
use Rattle.block_sequence.proofs.seq.Sequence.slice.Goals as goal

pub returns-clause-total : goal.returns-clause-total
returns-clause-total c =
    let from = c.args.from in
    let to = c.args.to in
    total_part c.new.result c.args.self.now from to c.requires.rising c.requires.within (
    λ src. ap (all_samples src) c.new.ensures
    ∙ c.in_ok-append_pieces.ensures.samples src
    ∙ ap₂ (λ (ps : List Piece) (rs : List (List BlockRef)). all_samples src ps
    ++ from_to from to (block_samples src (flat rs))) c.new-out.ensures.items c.as_slice.ensures.value
    ∙ ap (λ (bs : List BlockRef). from_to from to (block_samples src bs)) c.self.view_is
    )
