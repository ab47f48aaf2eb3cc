-- The clause of the count after an edit holds for each tag.
use Rattle.project_state.proofs.KeptTracks.{none_keep}
use Rattle.editor_core.proofs.studio.Studio.take_point.Goals as goal

pub count_edit-requires-clause-kept : goal.count_edit-requires-clause-kept
count_edit-requires-clause-kept g c = λ current found. none_keep c.none.result current c.args.point
    c.none.ensures.front c.none.ensures.back

pub returns-clause-counts : goal.returns-clause-counts
returns-clause-counts g c = c.count_edit.ensures 0
