-- What the loop of `collect_clips` keeps.
use Rattle.clip_track.proofs.Common.{◌≡◌, ◌+◌, ◌-◌, ◌≤◌, ◌++◌, drop, map, replicate, Sources, total, all_samples}
use Rattle.clip_track.proofs.Common.{AllValid, AreItems, strip_len, strip_cells}
use Rattle.pcm_base.specs.declared.sound.Cell.TheVariants as cell
use Rattle.clip_track.specs.StripClips as clips
use Rattle.clip_track.proofs.strip_clips.collect_clips.Given as goal

abbrev pub invariant-loop-item : goal.invariant-loop-item
invariant-loop-item l = record {
  valid : AllValid l.held.items;
  same_size : l.size ≡ total l.held.items;
  room : l.start + l.size + strip_len (drop l.item-index l.items) ≡ strip_len l.items;
  apart : clips.AreStripClips 0 l.out.items;
  later : clips.next_start 0 l.out.items ≤ l.start;
  rest_ok : AreItems (drop l.item-index l.items);
  cells : (src : Sources) → clips.clips_cells src 0 l.out.items ++ replicate (l.start - clips.clips_end 0 l.out.items)
      cell.Gap ++ map cell.Sample (all_samples src l.held.items) ++ strip_cells src (drop l.item-index l.items)
      ≡ strip_cells src l.items;
}
