-- One row more is passed.
use Rattle.cell_reader.proofs.Common.{◌≡◌, ◌+◌, ◌-◌, ◌∷◌, ◌++◌, List, length, take, drop, refl, sym, ap, ◌∙◌, arith}
use Rattle.cell_reader.proofs.Common.{length-drop, length-take, BlockRef, blocks_len, first_of}
use Rattle.block_sequence.{specs.Rows.flat, proofs.FlatRows.blocks_len-append}
use Rattle.cell_reader.proofs.RestLaws.{ends_from, blocks_rest, blocks_passed}
use Rattle.cell_reader.proofs.rest.pass_rows.Goals as goal

pub rows-init : goal.rows-init
rows-init c = record { rest = c.requires.rest; end = refl; clips = refl; of = λ cs is. is }

pub overflow_add-left : goal.overflow_add-left
overflow_add-left c =
    let r = c.rows.left in
    let x : List BlockRef = c.row-item.result in
    let more : List (List BlockRef) = take (length r.rows.now - 1) (drop 1 r.rows.now) in
    let same : r.rows.now ≡ x ∷ more =
    first_of r.rows.now x c.in-len1-up.len_at_least ∙ ap (λ (y : List BlockRef). y ∷ more) (sym c.row-item.is) in
    let ok = c.rows.invariant.rest in
    omega (
      arith,
      ap (λ rs. blocks_len (flat rs)) same,
      blocks_len-append x (flat more),
      blocks_len-append r.blocks.now (flat r.rows.now),
      c.len.ensures,
      ok.row,
      ok.whole,
      ends_from r.end r.clips.now ok.apart,
      ok.few,
    )

pub rows-smaller : goal.rows-smaller
rows-smaller c = omega (
  arith,
  length-take (length c.rows.left.rows.now - 1) (drop 1 c.rows.left.rows.now),
  length-drop 1 c.rows.left.rows.now,
  c.in-len1-up.len_at_least,
)

pub rows-preserved : goal.rows-preserved
rows-preserved c =
    let r = c.rows.left in
    let x : List BlockRef = c.row-item.result in
    let more : List (List BlockRef) = take (length r.rows.now - 1) (drop 1 r.rows.now) in
    let same : r.rows.now ≡ x ∷ more =
    first_of r.rows.now x c.in-len1-up.len_at_least ∙ ap (λ (y : List BlockRef). y ∷ more) (sym c.row-item.is) in
    let ok = c.rows.invariant.rest in
    let value = c.as_slice.ensures.value in
    let all = ap (λ rs. r.blocks.now ++ flat rs) same ∙ ap (λ (ys : List BlockRef). r.blocks.now ++ (ys ++ flat more)) (sym value) in
    let end = ap (λ n. r.row_end + n) (c.len.ensures ∙ ap blocks_len (sym value)) in
    record {
      rest = blocks_rest r _ r.blocks.now all ok.row refl end refl refl ok;
      end = c.rows.invariant.end;
      clips = c.rows.invariant.clips;
      of = λ cs is. blocks_passed r _ r.blocks.now all ok.row refl end refl refl ok c.args.from cs c.rows-test.true
          (c.rows.invariant.of cs is);
    }
