-- A layout that was taken, or a new one.
use Rattle.std.proofs.Common.{refl, sym, ◌∙◌}
use Rattle.purge_size.proofs.Taking.{not_false, track_again}
use Rattle.purge_size.proofs.fitting.Fitting.take_track.Goals as goal

pub returns-then-not-branch : goal.returns-then-not-branch
returns-then-not-branch c =
    track_again c.args.track.now c.args.self.now _ c.in_ok-insert.ensures.there
    (not_false _ (sym c.in_ok-insert.ensures.new ∙ c.if-not-branch.true)) refl refl refl
