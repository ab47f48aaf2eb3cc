-- One block more is passed.
use Rattle.cell_reader.proofs.Common.{◌≡◌, ◌+◌, ◌-◌, ◌<◌, ◌∷◌, ◌++◌, [], List, length, take, drop, get_or, refl, sym}
use Rattle.cell_reader.proofs.Common.{ap, arith, subst, ⊎_elim, length-drop, length-take, nil_from_length, BlockRef}
use Rattle.cell_reader.proofs.Common.{blocks_len, first_of}
use Rattle.block_sequence.{specs.Rows.flat, proofs.FlatRows.blocks_len-append}
use Rattle.cell_reader.specs.Rests.{EndsBehind}
use Rattle.cell_reader.proofs.RestLaws.{ends_from, blocks_rest, blocks_passed, ends_later}
use Rattle.cell_reader.proofs.rest.pass_blocks.Goals as goal

pub rows-init : goal.rows-init
rows-init c = record {
  rest = c.requires.rest;
  end = refl;
  past = c.requires.past;
  clips = refl;
  of = λ cs is. is;
}

pub overflow_add-end : goal.overflow_add-end
overflow_add-end c =
    let r = c.rows.left in
    let none : BlockRef = record { id = 0; len = 0 } in
    let same = first_of r.blocks.now none c.in-len1-up.len_at_least in
    let ok = c.rows.invariant.rest in
    omega (
      arith,
      ap blocks_len same,
      blocks_len-append r.blocks.now (flat r.rows.now),
      ok.whole,
      ends_from r.end r.clips.now ok.apart,
      ok.few,
    )

pub rows-smaller : goal.rows-smaller
rows-smaller c = omega (
  arith,
  length-take (length c.rows.left.blocks.now - 1) (drop 1 c.rows.left.blocks.now),
  length-drop 1 c.rows.left.blocks.now,
  c.in-len1-up.len_at_least,
)

pub rows-preserved : goal.rows-preserved
rows-preserved c =
    let r = c.rows.left in
    let b : BlockRef = get_or r.blocks.now 0 (record { id = 0; len = 0 }) in
    let more : List BlockRef = take (length r.blocks.now - 1) (drop 1 r.blocks.now) in
    let same : r.blocks.now ≡ b ∷ more = first_of r.blocks.now (record { id = 0; len = 0 }) c.in-len1-up.len_at_least in
    let ok = c.rows.invariant.rest in
    let all = ap (λ (bs : List BlockRef). bs ++ flat r.rows.now) same in
    let at : r.start + b.len ≡ r.start + blocks_len (b ∷ []) = omega arith in
    let row : r.row_end ≡ r.start + b.len + blocks_len more = omega (arith, ok.row, ap blocks_len same) in
    record {
      rest = blocks_rest r _ (b ∷ []) all at refl row refl refl ok;
      end = c.rows.invariant.end;
      past = c.rows.invariant.past;
      clips = c.rows.invariant.clips;
      of = λ cs is. blocks_passed r _ (b ∷ []) all at refl row refl refl ok c.args.from cs (omega arith)
          (c.rows.invariant.of cs is);
    }

pub returns-clause-past : goal.returns-clause-past
returns-clause-past c =
    let r = c.rows.left in
    let from = c.args.from in
    let none : r.blocks.now ≡ [] = nil_from_length r.blocks.now (omega (arith, c.in_default.len_below)) in
    let E : List BlockRef → Type 0 = λ bs. EndsBehind from r.start bs in
    subst E (sym (ap (λ (bs : List BlockRef). bs ++ flat r.rows.now) none))
    (⊎_elim
    (λ (last : r.rows.now ≡ []). subst (λ rs. EndsBehind from r.start (flat rs)) (sym last) tt)
    (λ (before : from < r.row_end).
    ends_later from r.start (flat r.rows.now) (omega (arith, c.rows.invariant.rest.row, ap blocks_len none, before)))
    c.rows.invariant.past)

pub returns-then-from-end-clause-past : goal.returns-then-from-end-clause-past
returns-then-from-end-clause-past c =
    let r = c.rows.left in
    let same = first_of r.blocks.now (record { id = 0; len = 0 }) c.in-len1-up.len_at_least in
    subst (λ (bs : List BlockRef). EndsBehind c.args.from r.start (bs ++ flat r.rows.now)) (sym same)
    c.if-from-end.true
