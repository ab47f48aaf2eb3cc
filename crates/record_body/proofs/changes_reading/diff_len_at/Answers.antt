-- A track that is written out has its bytes after the mark.
use Rattle.record_body.proofs.Common.{arith}
use Rattle.record_body.proofs.Sizes.{size_of_track}
use Rattle.record_body.proofs.changes_reading.diff_len_at.Goals as goal

pub returns-in-1 : goal.returns-in-1
returns-in-1 c =
    search (arith, c.u8_at.ensures, c.in-1.is, c.track_len.ensures.value, c.requires.whole, size_of_track)
