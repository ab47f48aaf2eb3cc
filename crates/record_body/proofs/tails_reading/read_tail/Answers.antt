-- All tests of the end passed.
use Rattle.record_body.proofs.Common.{◌≡◌, ℕ, ◌+◌, ◌-◌, ◌^◌, ◌≤◌, ◌<◌, ◌++◌, None, List, length, sym, ap, ap₂, subst}
use Rattle.record_body.proofs.Common.{◌∙◌, arith, BlockRef, IsHalfFull, NoneEmpty, block_lens, blocks_len, Clip}
use Rattle.record_body.proofs.Common.{AllHalfFull, IsLayout, first_failed, fresh_at, gone_at, kept_blocks, tail_tests}
use Rattle.record_body.proofs.Common.{last_blocks, last_start, with_last, blocks_at, Limits, all_pass}
use Rattle.record_body.proofs.Tails.{IsTail, end_last, last_end, valid_tail, layout_with, ended_tail, tail_within}
use Rattle.record_body.proofs.tails_reading.read_tail.Goals as goal

-- the last clip of a layout, by the start and the blocks that were read of it
module _ (layout clips : List Clip) (start : ℕ) (olds : List BlockRef) (same : clips ≡ layout)
    (is_start : start ≡ last_start clips) (are_olds : olds ≡ last_blocks clips) (is : IsLayout layout)
    (some : 0 < length layout) where
  of_layout : last_blocks layout ≡ olds
  of_layout = sym (are_olds ∙ ap last_blocks same)

  near : start + blocks_len olds ≤ 2 ^ 32
  near = search (arith, of_layout, end_last)

  tail : (l : Limits) (at : ℕ) (bytes : List ℕ) (blocks : List BlockRef) → AllHalfFull l.block_size layout
      → first_failed (tail_tests l start olds at bytes) ≡ None
      → blocks ≡ kept_blocks olds (gone_at at bytes) ++ blocks_at (fresh_at at bytes) (at + 17) bytes
      → IsTail l start olds at bytes blocks
  tail l at bytes blocks half pass are =
      let end = last_end l.block_size 0 layout is.apart half in
      subst (IsTail l start olds at bytes) (sym are) (valid_tail l start olds at bytes
      (subst (λ bs. IsHalfFull l.block_size (block_lens bs)) of_layout end.half_full)
      (subst NoneEmpty of_layout end.none_empty) near (all_pass (tail_tests l start olds at bytes) pass))

pub read_fresh-requires-clause-near : goal.read_fresh-requires-clause-near
read_fresh-requires-clause-near c = near c.args.old.now.layout _ _ _ c.as_slice-clips.ensures.value
    c.last_start.ensures c.last_blocks-olds.ensures c.as_slice-clips.ensures.apart c.requires.some

pub overflow_sub-kept : goal.overflow_sub-kept
overflow_sub-kept c =
    let within = tail_within c.args.limits c.last_start.result c.last_blocks-olds.result.now c.args.at c.args.bytes.now
    (all_pass (tail_tests c.args.limits c.last_start.result c.last_blocks-olds.result.now c.args.at c.args.bytes.now)
    c.in_ok-fresh.ensures.0) in
    omega (arith, within, c.count-count.ensures.value, c.u32_at-gone.ensures)

pub ended-requires : goal.ended-requires
ended-requires c =
    let olds = c.last_blocks-olds.result.now in
    let are = ended_tail olds _ _ _ _ (gone_at c.args.at c.args.bytes.now) c.count-count.ensures.value
    (ap (λ g. c.count-count.result - g) c.u32_at-gone.ensures) c.in_ok-fresh.ensures.1 in
    let end = tail c.args.old.now.layout _ _ _ c.as_slice-clips.ensures.value c.last_start.ensures
    c.last_blocks-olds.ensures c.as_slice-clips.ensures.apart c.requires.some c.args.limits c.args.at
    c.args.bytes.now _ c.requires.half_full c.in_ok-fresh.ensures.0 are in
    record {
      within = omega (arith, c.count-count.ensures.value);
      full = (c.args.limits.block_size, end.half_full);
      none_empty = end.none_empty;
      few = omega (arith, end.end);
    }

pub from_clips-requires : goal.from_clips-requires
from_clips-requires c =
    let layout = c.args.old.now.layout in
    let same = c.as_slice-clips.ensures.value in
    let olds = c.last_blocks-olds.result.now in
    let are = ended_tail olds _ _ _ _ (gone_at c.args.at c.args.bytes.now) c.count-count.ensures.value
    (ap (λ g. c.count-count.result - g) c.u32_at-gone.ensures) c.in_ok-fresh.ensures.1 in
    let end = tail layout _ _ _ same c.last_start.ensures
    c.last_blocks-olds.ensures c.as_slice-clips.ensures.apart c.requires.some c.args.limits c.args.at
    c.args.bytes.now _ c.requires.half_full c.in_ok-fresh.ensures.0 (c.in_ok-blocks.ensures ∙ are) in
    let clips = c.in_ok-clips.ensures ∙ ap (with_last c.in_ok-blocks.blocks) same in
    subst IsLayout (sym clips) (layout_with layout _ c.requires.some c.as_slice-clips.ensures.apart end.none_empty
    end.some (omega (arith, end.end, c.last_start.ensures ∙ ap last_start same)))

pub returns : goal.returns
returns c =
    let layout = c.args.old.now.layout in
    let same = c.as_slice-clips.ensures.value in
    let olds = c.last_blocks-olds.result.now in
    let gone = gone_at c.args.at c.args.bytes.now in
    let bs = blocks_at (fresh_at c.args.at c.args.bytes.now) (c.args.at + 17) c.args.bytes.now in
    let start = c.last_start.ensures ∙ ap last_start same in
    let are_olds = c.last_blocks-olds.ensures ∙ ap last_blocks same in
    let are = ended_tail olds _ _ _ _ gone c.count-count.ensures.value
    (ap (λ g. c.count-count.result - g) c.u32_at-gone.ensures) c.in_ok-fresh.ensures.1 in
    let blocks = c.in_ok-blocks.ensures ∙ are ∙ ap (λ os. kept_blocks os gone ++ bs) are_olds in
    let clips =
    c.in_ok-clips.ensures ∙ ap (with_last c.in_ok-blocks.blocks) same ∙ ap (λ os. with_last os layout) blocks in (
      ap₂ (λ s os. first_failed (tail_tests c.args.limits s os c.args.at c.args.bytes.now)) (sym start) (sym are_olds)
          ∙ c.in_ok-fresh.ensures.0,
      ap (λ l. record c.args.old.now { number = 0; layout = l }) (c.in_ok-layout.ensures ∙ clips),
    )
