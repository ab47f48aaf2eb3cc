-- Where the last clip ends.
use Rattle.edit_ops.proofs.Common.{◌<◌, ap, arith, clip_end, length}
use Rattle.clip_track.proofs.Layouts.{end_of_last}
use Rattle.edit_ops.proofs.WindowBlocks.{next_end}
use Rattle.edit_ops.proofs.windows.end_before.Goals as goal

pub returns : goal.returns
returns c t =
    let clips = c.args.clips.now in
    let some : 0 < length clips = omega (arith, c.in-len1-up.len_at_least) in
    omega (
      arith,
      next_end 0 0 clips some,
      end_of_last 0 clips c.last-item.result some,
      ap clip_end c.last-item.is,
      c.len.ensures.value,
      c.saturating_add.ensures,
      c.ranges.place.fits,
      c.if-saturating_add-place.false,
    )
