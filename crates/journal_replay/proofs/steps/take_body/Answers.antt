-- By the kind of the record.
use Rattle.journal_replay.proofs.Common.{List, subst, Track, Body, current_tracks, BodyShares}
use Rattle.journal_replay.proofs.steps.take_body.Goals as goal

pub take_edit-requires-clause-shared : goal.take_edit-requires-clause-shared
take_edit-requires-clause-shared c =
    let current : List Track = current_tracks c.args.project.now.numbered.history.history in
    subst (λ (b : Body). BodyShares current b) c.in-Edit.is c.requires.shared

pub returns-in-Undo : goal.returns-in-Undo
returns-in-Undo c = rw c.in-Undo.is c.take_undo.ensures

pub returns-in-Redo : goal.returns-in-Redo
returns-in-Redo c = rw c.in-Redo.is c.take_redo.ensures

pub returns-in-Purge : goal.returns-in-Purge
returns-in-Purge c = rw c.in-Purge.is c.take_purge.ensures
