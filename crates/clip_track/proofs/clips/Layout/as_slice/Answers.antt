use Rattle.clip_track.proofs.Common.{subst, IsLayout}
use Rattle.clip_track.proofs.CellCounts.{clip_count-layout, sample_count-layout}
use Rattle.clip_track.proofs.clips.Layout.as_slice.Goals as goal

pub returns-clause-clips : goal.returns-clause-clips
returns-clause-clips c src =
    let l : IsLayout c.args.self.now = subst IsLayout c.self.view_is c.self.invariant in
    clip_count-layout src c.args.self.now l.apart

pub returns-clause-samples : goal.returns-clause-samples
returns-clause-samples c src = sample_count-layout src c.args.self.now
