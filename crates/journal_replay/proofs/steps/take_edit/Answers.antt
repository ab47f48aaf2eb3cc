-- The point is recorded with its numbers.
use Rattle.journal_replay.proofs.Common.{◌+◌, List, sym, subst, History, Track, Project}
use Rattle.project_state.specs.{Numbers.AreNewOrCurrent}
use Rattle.journal_replay.proofs.Versions.{at_cursor}
use Rattle.journal_replay.proofs.steps.take_edit.Goals as goal

pub record-requires-clause-kept : goal.record-requires-clause-kept
record-requires-clause-kept c = λ current here.
    let h : History (List Track) = c.args.project.now.numbered.history.history in
    subst (λ (ts : List Track). AreNewOrCurrent ts c.args.point.now) (sym (at_cursor h.cursor h.points current here))
    c.requires.shared

pub returns : goal.returns
returns c =
    let p : Project = c.args.project.now in
    let is = c.in_ok-record.ensures in
    record {
      kept = λ i. record {
        history = is.same i;
        next_block = c.args.next_block;
        next_track = c.args.next_track;
        commit = p.commit + 1;
      };
      numbers = is.numbered;
      most = is.most;
    }
