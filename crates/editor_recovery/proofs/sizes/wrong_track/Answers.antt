-- The old track is one of the point before.
use Rattle.editor_recovery.proofs.Common.{size_in}
use Rattle.layout_uses.specs.Layouts.{Agree}
use Rattle.editor_recovery.specs.Sizes.{IsSearched}
use Rattle.editor_recovery.proofs.Searched.{track_holds, track_part}
use Rattle.editor_recovery.proofs.sizes.wrong_track.Goals as goal

pub wrong_layout-requires-clause-numbered : goal.wrong_layout-requires-clause-numbered
wrong_layout-requires-clause-numbered c =
    track_holds (Agree c.args.track.now) c.args.before.now c.in-Some.i c.track_at.result.now c.track_at.ensures
    c.requires.numbered

pub wrong_layout-requires-clause-searched : goal.wrong_layout-requires-clause-searched
wrong_layout-requires-clause-searched c =
    track_part (IsSearched (size_in c.args.sizes.now) c.args.found) c.args.before.now c.in-Some.i
    c.track_at.result.now c.track_at.ensures c.requires.searched
