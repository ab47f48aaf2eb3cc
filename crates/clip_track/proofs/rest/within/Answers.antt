-- In the gaps before the clip, or in one of its blocks.
use Rattle.clip_track.proofs.Common.{◌-◌, ap, ◌∙◌, arith, blocks_len}
use Rattle.clip_track.proofs.RestItems.{in_gap, in_sound}
use Rattle.clip_track.proofs.rest.within.Goals as goal

pub returns-then-place-clip-clause-items : goal.returns-then-place-clip-clause-items
returns-then-place-clip-clause-items c =
    let e = c.enter-left.ensures in
    rw (e.whole, e.row, e.sound, e.end, e.clips) (in_gap c.args.end c.args.place c.args.clip.now c.args.more.now
    c.requires.apart c.requires.later c.if-place-clip.true)

pub pass_rows-requires-clause-whole : goal.pass_rows-requires-clause-whole
pass_rows-requires-clause-whole c = c.enter-left.ensures.whole

pub pass_rows-requires-clause-within : goal.pass_rows-requires-clause-within
pass_rows-requires-clause-within c =
    omega (arith, ap blocks_len c.enter-left.ensures.sound, c.requires.within, c.if-place-clip.false)

pub returns-clause-items : goal.returns-clause-items
returns-clause-items c =
    let e = c.enter-left.ensures in
    let n = c.args.place - c.args.clip.now.start in
    c.pass_rows.ensures.items
    ∙ rw (e.whole, e.row, e.sound, e.end, e.clips) (in_sound c.args.end c.args.place c.args.clip.now c.args.more.now
    c.requires.apart (omega (arith, c.if-place-clip.false)))
