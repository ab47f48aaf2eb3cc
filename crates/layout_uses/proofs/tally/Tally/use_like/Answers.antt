-- The point has a track of the id, or none.
use Rattle.layout_uses.proofs.Common.{inr, ids_of, layout_blocks}
use Rattle.clip_track.proofs.KeptLists.{keeps_none}
use Rattle.layout_uses.proofs.tally.Tally.use_like.Goals as goal

pub use_track-requires-clause-kept : goal.use_track-requires-clause-kept
use_track-requires-clause-kept c =
    c.requires.kept c.track_at-old.result.now (c.in-Some.ensures.found c.track_at-old.result.now c.track_at-old.ensures)

pub use_track-requires-in-None-clause-kept : goal.use_track-requires-in-None-clause-kept
use_track-requires-in-None-clause-kept c = λ xs has. inr
    (keeps_none c.none-none.result xs (ids_of (layout_blocks c.args.track.now.layout)) c.none-none.ensures.front
    c.none-none.ensures.back)
