-- One clip of the window's blocks.
use Rattle.edit_ops.proofs.Common.{◌≡◌, ◌<◌, ◌++◌, [], ◌∷◌, List, length, sym, ap, ap₂, subst, ◌∙◌, arith, BlockRef, Clip}
use Rattle.clip_track.specs.Clips.{IsLayout}
use Rattle.edit_ops.specs.{Windows.middle_of}
use Rattle.edit_ops.proofs.TouchingClips.{of_any, of_none}
use Rattle.edit_ops.proofs.WindowBlocks.{part_length, some_len}
use Rattle.edit_ops.proofs.windows.window_layout.Goals as goal

pub append-requires-clause-full : goal.append-requires-clause-full
append-requires-clause-full c = rw c.empty.ensures c.requires.half_full

pub append-requires-clause-none_empty : goal.append-requires-clause-none_empty
append-requires-clause-none_empty c = rw c.empty.ensures c.requires.none_empty

pub append-requires-clause-few : goal.append-requires-clause-few
append-requires-clause-few c = rw c.empty.ensures c.requires.few

pub from_clips-requires : goal.from_clips-requires
from_clips-requires c =
    let w = c.args.window in
    let bs = middle_of w in
    let size = part_length w.begin w.end w.blocks.now c.requires.rising c.requires.within in
    let some : 0 < length bs = omega (arith, size, c.requires.rising, c.if-window.false) in
    let one : Clip = record { start = 0; blocks = bs } in
    let blocks = c.in_ok-blocks.ensures ∙ ap (λ (xs : List BlockRef). xs ++ bs) c.empty.ensures in
    let all : c.push.new.self.items ≡ one ∷ [] =
    c.in_ok-push.ensures.items
    ∙ ap₂ (λ (cs : List Clip) (xs : List BlockRef). cs ++ record { start = 0; blocks = xs } ∷ [])
    c.new-clips.ensures.items blocks in
    subst IsLayout (sym all) (record {
      apart = (omega arith, some_len bs c.requires.none_empty some, c.requires.none_empty, tt);
      few = omega (arith, c.requires.few);
    })

pub returns-then-window : goal.returns-then-window
returns-then-window c =
    let w = c.args.window in
    let size = part_length w.begin w.end w.blocks.now c.requires.rising c.requires.within in
    c.new.ensures ∙ sym (of_none 0 (middle_of w) (omega (arith, size, c.if-window.true)))

pub returns : goal.returns
returns c =
    let w = c.args.window in
    let bs = middle_of w in
    let size = part_length w.begin w.end w.blocks.now c.requires.rising c.requires.within in
    let some : 0 < length bs = omega (arith, size, c.requires.rising, c.if-window.false) in
    let blocks = c.in_ok-blocks.ensures ∙ ap (λ (xs : List BlockRef). xs ++ bs) c.empty.ensures in
    c.in_ok-from_clips.ensures
    ∙ c.in_ok-push.ensures.items
    ∙ ap₂ (λ (cs : List Clip) (xs : List BlockRef). cs ++ record { start = 0; blocks = xs } ∷ [])
    c.new-clips.ensures.items blocks
    ∙ sym (of_any 0 bs some)
