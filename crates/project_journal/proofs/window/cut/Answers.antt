-- What is kept stands in front, and what stands behind it goes.
use Rattle.std.proofs.Common.{◌≡◌, ◌+◌, ◌-◌, length, take, drop, ap, ◌∙◌, arith, rules, length-drop, take_all}
use lib.Seq.{paste}
use Rattle.std.proofs.lemmas.List.Edits.{take-paste}
use Rattle.std.specs.Vec.{vec_len}
use Rattle.project_journal.proofs.window.cut.Goals as goal

pub returns : goal.returns
returns c =
    let row = c.args.row.now in
    let all = row.items in
    let gone = c.args.gone in
    let held = c.len.result - gone in
    let long : vec_len row ≡ length all = search rules in
    let kept : vec_len row - gone ≡ held = omega (arith, long, c.len.ensures) in
    let same : held ≡ 0 + held = omega arith in
    let rest : length (drop gone all) ≡ held = omega (arith, length-drop gone all, long, c.len.ensures) in
    c.truncate.ensures.items
    ∙ ap (take held) (c.copy_within.ensures.items ∙ ap (paste all 0 (drop gone all)) kept)
    ∙ ap (λ k. take k (paste all 0 (drop gone all) held)) same
    ∙ take-paste all 0 (drop gone all) held (omega arith) (omega (arith, rest))
    ∙ take_all held (drop gone all) (omega (arith, rest))
