-- A point that is recorded has its numbers by the current one.
use Rattle.layout_uses.proofs.Common.{slice_get, sym, ap, subst, ◌∙◌, ℕ, List, map, History, points_of, recorded, Track}
use Rattle.layout_uses.proofs.Common.{unnumbered, unnumbered_history, IsNumbered}
use Rattle.project_state.proofs.MeantHistories.{mapped_recorded}
use Rattle.layout_uses.proofs.InTurn.{point_among, recorded_numbers}
use Rattle.layout_uses.proofs.numbering.Numbered.record.Goals.{in-Ok, in-Err}
use Rattle.layout_uses.proofs.numbering.Numbered.record.Goals as goal

pub draw_numbers-requires-clause-kept : goal.draw_numbers-requires-clause-kept
draw_numbers-requires-clause-kept c =
    let h : History (List Track) = c.args.self.now.history.history in
    c.requires.kept c.point-current.result.now
    (ap (slice_get (points_of h)) (sym c.cursor-cursor.ensures.cursor) ∙ c.point-current.ensures)

pub returns-clause-same : goal.returns-clause-same
returns-clause-same c =
    let h : History (List Track) = c.args.self.now.history.history in
    let point : List Track = c.in_ok-point.field-0.point in
    let same = mapped_recorded (map unnumbered) h point c.args.tag
    ∙ ap (λ (ts : List Track). recorded (unnumbered_history h) ts c.args.tag) c.in_ok-point.ensures.same in
    elim c.match-record.branch [
      | in-Ok w ↦ rw (w.result-is, w.self-is) (ap unnumbered_history w.in-Ok.ensures.ok ∙ same)
      | in-Err w ↦ rw w.result-is tt
    ]

pub returns-clause-numbered : goal.returns-clause-numbered
returns-clause-numbered c =
    let h : History (List Track) = c.args.self.now.history.history in
    let current : List Track = c.point-current.result.now in
    let point : List Track = c.in_ok-point.field-0.point in
    let next : ℕ = c.in_ok-point.field-0.next in
    let numbers = recorded_numbers h c.args.self.now.next next c.args.tag c.args.point.now current point
    c.cursor-cursor.ensures.whole c.requires.numbered
    (point_among (points_of h) c.cursor-cursor.result current c.point-current.ensures) c.in_ok-point.ensures in
    elim c.match-record.branch [
      | in-Ok w ↦
          rw (w.result-is, w.self-is)
          (subst (λ (k : History (List Track)). IsNumbered k next) (sym w.in-Ok.ensures.ok) numbers)
      | in-Err w ↦ rw w.result-is tt
    ]
