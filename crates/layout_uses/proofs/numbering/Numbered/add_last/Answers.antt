-- A point after all others has its numbers by the one before it.
use Rattle.layout_uses.proofs.Common.{sym, ap, subst, ◌∙◌, ℕ, ◌-◌, List, History, points_of, Track, unnumbered_history}
use Rattle.layout_uses.proofs.Common.{plain_new, tracks_plain, IsNumbered}
use Rattle.layout_uses.proofs.InTurn.{last_numbers, plain_last, point_among}
use Rattle.layout_uses.proofs.numbering.Numbered.add_last.Goals.{in-Ok, in-Err}
use Rattle.layout_uses.proofs.numbering.Numbered.add_last.Goals as goal

pub draw_numbers-requires-clause-kept : goal.draw_numbers-requires-clause-kept
draw_numbers-requires-clause-kept c = plain_new c.point-before.result.now c.args.point.now c.requires.plain

pub returns-clause-same : goal.returns-clause-same
returns-clause-same c =
    let h : History (List Track) = c.args.self.now.history.history in
    let tracks : List Track = c.args.point.now in
    let point : List Track = c.in_ok-point.field-0.point in
    let same =
    plain_last h point tracks c.args.tag (c.in_ok-point.ensures.same ∙ tracks_plain tracks c.requires.plain) in
    elim c.match-add_last.branch [
      | in-Ok w ↦ rw (w.result-is, w.self-is) (ap unnumbered_history w.in-Ok.ensures.ok ∙ same)
      | in-Err w ↦ rw w.result-is tt
    ]

pub returns-clause-numbered : goal.returns-clause-numbered
returns-clause-numbered c =
    let h : History (List Track) = c.args.self.now.history.history in
    let before : List Track = c.point-before.result.now in
    let point : List Track = c.in_ok-point.field-0.point in
    let next : ℕ = c.in_ok-point.field-0.next in
    let numbers = last_numbers h c.args.self.now.next next c.args.tag c.args.point.now before point c.requires.numbered
    (point_among (points_of h) (c.len-last.result - 1) before c.point-before.ensures) c.in_ok-point.ensures in
    elim c.match-add_last.branch [
      | in-Ok w ↦
          rw (w.result-is, w.self-is)
          (subst (λ (k : History (List Track)). IsNumbered k next) (sym w.in-Ok.ensures.ok) numbers)
      | in-Err w ↦ rw w.result-is tt
    ]
