-- The point before is current.
use Rattle.journal_replay.proofs.Common.{◌-◌, arith, Project}
use Rattle.journal_replay.proofs.Numbered.{kept_moved, moved_numbers}
use Rattle.journal_replay.proofs.steps.take_undo.Goals as goal

pub returns : goal.returns
returns c =
    let p : Project = c.args.project.now in
    let n = p.numbered.history.history.cursor - 1 in
    let is = c.in_ok-go_back.ensures.1 in (
      c.in_ok-go_back.ensures.0,
      record {
        kept = kept_moved p _ n is;
        numbers = moved_numbers p.numbered.history.history _ p.numbered.next n is c.requires.numbers;
        most = omega arith;
      },
    )
