-- What the loop of `lay_strip` keeps.
use Rattle.edit_ops.proofs.Common.{◌≡◌, ℕ, List, ◌+◌, ◌-◌, ◌≤◌, ◌*◌, [], ◌++◌, drop, map, replicate, Sources}
use Rattle.edit_ops.proofs.Common.{all_samples, BlockRef, ItemsFit, AreItems, strip_len, strip_cells, room_from}
use Rattle.edit_ops.proofs.Common.{rough_from, ItemsShort, AllShort, AllFrom, ItemsFrom}
use Rattle.pcm_base.specs.Pieces.{total, AllValid, AllFit}
use Rattle.pcm_base.specs.declared.sound.Cell.TheVariants as cell
use Rattle.edit_ops.specs.LaidClips as clips
use Rattle.edit_ops.proofs.laying.lay_strip.Given as goal

abbrev pub invariant-loop-item : goal.invariant-loop-item
invariant-loop-item l = record {
  valid : AllValid l.held.items;
  fit : AllFit l.planner.block_size l.held.items;
  same_size : l.size ≡ total l.held.items;
  sum : l.start + l.size + strip_len (drop l.item-index l.items) ≡ strip_len l.items;
  apart : clips.AreLaidClips l.planner.block_size 0 l.out.items;
  later : clips.laid_next 0 l.out.items ≤ l.start;
  rest_ok : AreItems (drop l.item-index l.items);
  rest_fit : ItemsFit l.planner.block_size (drop l.item-index l.items);
  origin : (old : List BlockRef) (count : ℕ) → ItemsFrom old count l.items
      → AllFrom old count l.held.items × ItemsFrom old count (drop l.item-index l.items)
      × clips.ClipsFrom old count l.out.items;
  few_made : ItemsShort l.planner.block_size l.items → AllShort l.planner.block_size l.held.items
      × ItemsShort l.planner.block_size (drop l.item-index l.items)
      × (clips.made_clips l.out.items + 2 * rough_from l.planner.block_size l.held.items (drop l.item-index l.items)
      ≤ 2 * rough_from l.planner.block_size [] l.items);
  few_samples : l.planner.block_size * clips.made_clips l.out.items
      + room_from l.planner.block_size l.held.items (drop l.item-index l.items)
      ≤ room_from l.planner.block_size [] l.items;
  cells : (src : Sources) → clips.laid_cells src 0 l.out.items ++ replicate (l.start - clips.laid_end 0 l.out.items)
      cell.Gap ++ map cell.Sample (all_samples src l.held.items) ++ strip_cells src (drop l.item-index l.items)
      ≡ strip_cells src l.items;
}
