-- A step after what stands at the reader's place among the points.
use Rattle.project_journal.proofs.Common.{sym, subst, Reader, GoesOn}
use Rattle.project_journal.proofs.Readings.{goes_on}
use Rattle.project_journal.proofs.reader.Reader.next_point.Goals as goal

pub returns-clause-goes : goal.returns-clause-goes
returns-clause-goes g c = λ points is fewer.
    subst (λ (r : Reader). GoesOn g.S.Store c.look_at_point.new.store r points c.in_ok-next.next) (sym c.pass_point.ensures)
    (goes_on g.S.Store c.args.store.now c.look_at_point.new.store c.args.self.now c.look_at_point.new.self
    c.look_at_point.ensures.kept.same_tells c.look_at_point.ensures.kept.same_reads c.look_at_point.ensures.file
    c.in_ok-next.ensures.held c.in_ok-next.ensures.view points is fewer c.in_ok-next.next c.in_ok-next.ensures.stands
    c.in_ok-next.ensures.within c.in_ok-next.ensures.room)
