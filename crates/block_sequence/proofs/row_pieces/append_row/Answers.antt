-- The goals of `append_row` that the search leaves open.
use Rattle.std.proofs.Common.{◌≡◌, ℕ, ◌+◌, ◌++◌, List, [], get_or, drop, sym, ap, ap₂, ◌∙◌, ℤ, arith}
use Rattle.std.proofs.lemmas.List.{drop_more}
use Rattle.pcm_base.specs.{Blocks.block_samples, Pieces.all_samples, Pieces.stretch, declared.block.BlockRef.BlockRef}
use Rattle.pcm_base.proofs.Pieces.{length-stretch}
use Rattle.block_sequence.specs.Rows.{from_to}
use Rattle.block_sequence.proofs.FromTo.{from_to_past, from_to_empty, part_none, part_more}
use Rattle.block_sequence.proofs.Whole.{length-blocks}
use Rattle.block_sequence.proofs.row_pieces.append_row.Goals as goal
use Rattle.block_sequence.proofs.row_pieces.append_row.Goals.{then-len-from-via-then-len-from}
use Rattle.block_sequence.proofs.row_pieces.append_row.Goals.{then-len-from-via-else-len-from+then-to-from}

-- what the code reads where there is no block
abbrev nothing : BlockRef
nothing = record { id = 0; len = 0 }

pub returns-then-len-from-clause-samples : goal.returns-then-len-from-clause-samples
returns-then-len-from-clause-samples c src =
    let xs = block_samples src c.args.row.now in
    let none : from_to c.args.from c.args.to xs ≡ [] = elim c.then-len-from.branch [
      | then-len-from-via-then-len-from w ↦
          from_to_past c.args.from c.args.to xs (omega (arith, length-blocks src c.args.row.now))
      | then-len-from-via-else-len-from+then-to-from w ↦ from_to_empty c.args.from c.args.to xs (omega arith)
    ] in
    part_none c.args.from c.args.to (all_samples src c.args.out.now.items) xs none

pub loop-block-preserved : goal.loop-block-preserved
loop-block-preserved c =
    let row = c.args.row.now in
    let blocks = c.as_slice-block-items.result.now in
    let same = c.as_slice-block-items.ensures.value in
    let i = c.loop-block.block-index in
    let skip = c.loop-block.skip in
    let end = c.loop-block.end in
    let block = get_or blocks i nothing in
    record {
      valid = c.in_ok-append_piece.ensures.valid;
      samples = λ src.
          let out = all_samples src c.loop-block.out.items in
          let xs = stretch (src.block block.id) 0 block.len in
          let rest = block_samples src (drop (i + 1) row) in
          let d = ap (λ (bs : List BlockRef). block_samples src (drop i bs)) (sym same)
          ∙ ap (block_samples src) (drop_more blocks i nothing c.loop-block-test.true)
          ∙ ap (λ (bs : List BlockRef). xs ++ block_samples src (drop (i + 1) bs)) same in
          ap (λ (os : List ℤ). os ++ from_to c.saturating_sub-skip.result c.saturating_sub-end.result rest)
          (c.in_ok-append_piece.ensures.samples src)
          ∙ ap₂ (λ (a b : ℕ). (out ++ from_to skip end xs) ++ from_to a b rest)
          c.saturating_sub-skip.ensures c.saturating_sub-end.ensures
          ∙ part_more skip end block.len out xs rest (length-stretch (src.block block.id) 0 block.len)
          ∙ ap (λ (ys : List ℤ). out ++ from_to skip end ys) (sym d)
          ∙ c.loop-block.invariant.samples src;
    }
