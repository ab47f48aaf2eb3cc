-- The window stands apart from all clips.
use Rattle.edit_ops.proofs.Common.{◌≡◌, ℕ, ◌+◌, refl, subst, arith}
use Rattle.clip_track.specs.Clips.{AreClips}
use Rattle.clip_track.proofs.Layouts.{AreClips-earlier}
use Rattle.edit_ops.specs.Windows.{next_of}
use Rattle.edit_ops.proofs.WindowBlocks.{apart_parts}
use Rattle.edit_ops.proofs.windows.window_between.Goals as goal

pub start_after-requires : goal.start_after-requires
start_after-requires c =
    let before = c.args.before.now in
    let after = c.args.after.now in
    AreClips-earlier 0 (next_of 0 before) after (omega arith) (apart_parts 0 before after c.requires.layout.apart).1

pub returns-clause-window : goal.returns-clause-window
returns-clause-window c m =
    let before = c.args.before.now in
    let after = c.args.after.now in
    let place = c.args.place in
    let A : ℕ → Type 0 = λ n. AreClips n after in
    let e : place + 1 ≡ place + 0 + 1 = omega arith in
    record {
      layout = c.requires.layout;
      rising = omega arith;
      last = omega arith;
      within = omega arith;
      clips = refl;
      before = (apart_parts 0 before after c.requires.layout.apart).0;
      apart = c.end_before.ensures c.if-not-end_before.false;
      after = subst A e (c.start_after.ensures c.if-not-start_after.false);
      len = refl;
      none_empty = tt;
      front = tt;
      middle = tt;
      back = tt;
      from = omega arith;
    }
