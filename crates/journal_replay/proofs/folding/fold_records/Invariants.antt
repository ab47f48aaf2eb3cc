-- How far the fold has come.
use Rattle.journal_replay.proofs.Common.{◌≤◌, ◌+◌, ◌-◌, ◌^◌, NoFault, IsPlaced, IsLater, reader_form, version_of}
use Rattle.journal_replay.proofs.Common.{saved_of, HasLayoutNumbers, DrawsFew}
use Rattle.disk_model.specs.Frames.{Kept as IsKept}
use Rattle.journal_replay.proofs.Journals.{FoldedSoFar}
use Rattle.journal_replay.proofs.folding.fold_records.Given as goal

abbrev pub invariant-records : goal.invariant-records
invariant-records g l = record {
  kept : IsKept g.S.Store l.fn.store l.store;
  no_fault : NoFault g.S.Store l.fn.store l.store;
  placed : IsPlaced l.reader;
  later : IsLater l.fn.reader l.reader;
  commits : l.project.commit ≤ 2 ^ 62 + l.reader.at;
  numbers : HasLayoutNumbers l.project;
  few : DrawsFew l.project.numbered.next l.reader;
  so_far : FoldedSoFar g.S.Store l.fn.store l.fn.reader l.store l.reader (version_of (reader_form l.fn.reader)) l.fn.m
      (saved_of l.fn.project) (saved_of l.project);
}

abbrev pub decreases-records : goal.decreases-records
decreases-records g l = l.reader.window.size - l.reader.at
