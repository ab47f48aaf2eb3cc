use Rattle.clip_track.proofs.Common.{◌≡◌, ◌++◌, sym, ap, ◌∙◌, arith, append-nil, part_items}
use Rattle.clip_track.proofs.Strips.{part_none}
use Rattle.clip_track.proofs.rest.take_items.Goals as goal

pub returns : goal.returns
returns c =
    let none : c.rows.left ≡ 0 = omega (arith, c.rows-test.false) in
    let end = ap (λ n. c.rows.items.items ++ part_items 0 n c.rows.rest) none
    ∙ ap (λ xs. c.rows.items.items ++ xs) (part_none 0 c.rows.rest) ∙ append-nil c.rows.items.items in
    sym end ∙ c.rows.invariant
