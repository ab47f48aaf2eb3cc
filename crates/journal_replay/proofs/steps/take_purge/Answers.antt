-- The oldest points went.
use Rattle.journal_replay.proofs.Common.{◌+◌, List, ap, ◌∙◌, arith, History, Track, unnumbered_history, Project}
use Rattle.record_body.proofs.Unnumbered.{purged_alike}
use Rattle.journal_replay.proofs.Numbered.{left_numbers}
use Rattle.journal_replay.proofs.steps.take_purge.Goals as goal

pub returns : goal.returns
returns c =
    let p : Project = c.args.project.now in
    let h : History (List Track) = p.numbered.history.history in
    let is = c.in_ok-drop_oldest.ensures.1 in
    let history = ap unnumbered_history is ∙ purged_alike h c.args.n in (
      c.in_ok-drop_oldest.ensures.0,
      record {
        kept = λ i. record {
          history = history i;
          next_block = p.next_block;
          next_track = p.next_track;
          commit = p.commit + 1;
        };
        numbers = left_numbers h _ p.numbered.next c.args.n is c.requires.numbers;
        most = omega arith;
      },
    )
