-- The goals of `len` that the search leaves open.
use Rattle.clip_track.proofs.Common.{sym, ap, subst, ◌∙◌, IsLayout, end_of}
use Rattle.clip_track.proofs.Layouts.{length-layout}
use Rattle.clip_track.proofs.clips.Layout.len.Goals as goal

pub returns-clause-cells : goal.returns-clause-cells
returns-clause-cells c src =
    let l : IsLayout c.args.self.now = subst IsLayout c.self.view_is c.self.invariant in
    length-layout src c.args.self.now l.apart
    ∙ sym (c.end_of.ensures ∙ ap (end_of 0) (c.as_slice.ensures ∙ c.self.view_is))
