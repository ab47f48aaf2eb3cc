-- The goals of `plan_strip` that the search leaves open.
use Rattle.edit_ops.proofs.Common.{◌≡◌, ◌+◌, List, [], length, sym, ap, subst, ◌∙◌, arith, trimmed, rough_from}
use Rattle.edit_ops.proofs.Common.{ItemsShort, Item, strip_cells, room_from, clips_new_blocks, made_clips, NewBlock}
use Rattle.edit_ops.proofs.Common.{AreWritten, ItemsFrom}
use Rattle.clip_track.specs.{Clips.layout_cells}
use Rattle.clip_track.proofs.{RoomClips.room_from_le, RoughStrips.rough_from_le}
use Rattle.edit_ops.proofs.Named.{AllHalfFull-named, cells_named, clips_next_counts, count_clips_new, AreNew-clips}
use Rattle.edit_ops.proofs.Named.{AllNewFrom-clips, old_or_new_clips}
use Rattle.edit_ops.proofs.planning.plan_strip.Goals as goal

pub returns-clause-plan : goal.returns-clause-plan
returns-clause-plan c old count h =
    let clips = c.in_ok-clips.clips.items in
    let next = c.args.planner.next in
    let m = c.args.planner.block_size in
    let T : List Item → Type 0 = ItemsFrom old count in
    let f = c.in_ok-clips.ensures.origin old count (subst T (sym c.as_slice.ensures.value) h) in
    let named = c.in_ok-name_clips.ensures in
    record {
      half_full = rw named.layout (AllHalfFull-named m 0 next clips c.in_ok-clips.ensures.apart);
      new = rw named.makes (AreNew-clips m 0 next clips c.args.planner.some c.in_ok-clips.ensures.apart);
      origin = rw named.makes (AllNewFrom-clips old count next clips f);
      blocks = rw (named.makes, named.layout) (old_or_new_clips old count next clips f);
      next_id =
          named.next ∙ clips_next_counts next clips ∙ ap (λ (ms : List NewBlock). next + length ms) (sym named.makes);
    }

pub returns-clause-cells : goal.returns-clause-cells
returns-clause-cells c src w =
    let clips = c.in_ok-clips.clips.items in
    let P : List NewBlock → Type 0 = AreWritten src in
    ap (layout_cells src) c.in_ok-name_clips.ensures.layout
    ∙ cells_named src 0 c.args.planner.next clips (subst P c.in_ok-name_clips.ensures.makes w)
    ∙ c.in_ok-clips.ensures.cells src
    ∙ ap (λ xs. trimmed (strip_cells src xs)) c.as_slice.ensures.value

pub returns-clause-few_made : goal.returns-clause-few_made
returns-clause-few_made c h =
    let m = c.args.planner.block_size in
    let clips = c.in_ok-clips.clips.items in
    let T : List Item → Type 0 = ItemsShort m in
    let few = c.in_ok-clips.ensures.few_made (subst T (sym c.as_slice.ensures.value) h) in
    let same = ap (rough_from m []) c.as_slice.ensures.value in
    rw c.in_ok-name_clips.ensures.makes
    (omega (arith, count_clips_new c.args.planner.next clips, few, same, rough_from_le m c.args.strip.now))

pub returns-clause-few_samples : goal.returns-clause-few_samples
returns-clause-few_samples c =
    let m = c.args.planner.block_size in
    let clips = c.in_ok-clips.clips.items in
    let next = c.args.planner.next in
    let e : length (clips_new_blocks next clips) ≡ made_clips clips = count_clips_new next clips in
    rw (c.in_ok-name_clips.ensures.makes, e) (omega (
      arith,
      c.in_ok-clips.ensures.few_samples,
      ap (room_from m []) c.as_slice.ensures.value,
      room_from_le m c.args.strip.now,
    ))
