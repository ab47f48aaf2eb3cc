-- One point has its numbers.
use Rattle.layout_uses.proofs.Common.{sym, ap, subst, ◌∙◌, ℕ, List, History, history_of_one, Track, unnumbered_history}
use Rattle.layout_uses.proofs.Common.{plain_new, tracks_plain, DrawsPoint, IsNumbered}
use Rattle.layout_uses.proofs.InTurn.{first_numbers}
use Rattle.layout_uses.proofs.numbering.Numbered.new.Goals as goal

pub draw_numbers-requires-clause-kept : goal.draw_numbers-requires-clause-kept
draw_numbers-requires-clause-kept c = plain_new c.new-none.result c.args.point.now c.requires.plain

pub returns-in-Ok-clause-same : goal.returns-in-Ok-clause-same
returns-in-Ok-clause-same c =
    let plain = c.in_ok-point.ensures.same ∙ tracks_plain c.args.point.now c.requires.plain in
    ap unnumbered_history c.in-Ok.ensures.ok ∙ (λ i. history_of_one (plain i) c.args.tag c.args.depth)

pub returns-in-Ok-clause-numbered : goal.returns-in-Ok-clause-numbered
returns-in-Ok-clause-numbered c =
    let tracks : List Track = c.args.point.now in
    let point : List Track = c.in_ok-point.field-0.point in
    let next : ℕ = c.in_ok-point.field-0.next in
    subst (λ (h : History (List Track)). IsNumbered h next) (sym c.in-Ok.ensures.ok)
    (first_numbers c.args.tag c.args.depth tracks point next
    (subst (λ (ts : List Track). DrawsPoint tracks ts 1 point next) c.new-none.ensures c.in_ok-point.ensures))
