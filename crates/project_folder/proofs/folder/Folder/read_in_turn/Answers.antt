-- Each part lies within the buffer.
use Rattle.std.proofs.Common.{◌≤◌, ◌<◌, ◌+◌, ◌*◌, ℕ, List, length, length-take, length-drop, get_or, arith}
use Rattle.std.proofs.lemmas.Grind.{common_steps}
use Rattle.pcm_base.specs.declared.limits.TheConstants.{COUNTER_LIMIT}
use Rattle.disk_model.specs.{declared.parts.Part.Part, Parts.AreParts}
use Rattle.disk_model.proofs.Buffers.{parts_at}
use Rattle.project_folder.proofs.folder.Folder.read_in_turn.Goals as goal

no_part : Part
no_part = record { file = 0; at = 0; to = 0; len = 0 }

part_at : (parts : List Part) (room k : ℕ) → AreParts 0 room parts → k < length parts
    → ((get_or parts k no_part).at + 2 * (get_or parts k no_part).len ≤ COUNTER_LIMIT)
    × ((get_or parts k no_part).to + (get_or parts k no_part).len ≤ room)
part_at parts room k are lt = let at = parts_at parts 0 room k no_part are lt in (at.1, at.2)

pub overflow_add-end : goal.overflow_add-end
overflow_add-end g c =
    let at = part_at c.args.parts.now (length c.args.out.now) c.parts.part-index c.requires c.parts-test.true in
    grind (arith, common_steps, at.1, c.parts.invariant, c.parts.auto.out, c.well_formed)

pub offset_bounds-out-part : goal.offset_bounds-out-part
offset_bounds-out-part g c =
    let at = part_at c.args.parts.now (length c.args.out.now) c.parts.part-index c.requires c.parts-test.true in
    grind (arith, common_steps, at.1, c.parts.invariant, c.parts.auto.out, c.well_formed)

pub slice_bounds-read_samples-end : goal.slice_bounds-read_samples-end
slice_bounds-read_samples-end g c =
    let at = part_at c.args.parts.now (length c.args.out.now) c.parts.part-index c.requires c.parts-test.true in
    grind (arith, common_steps, at.1, c.parts.invariant)

pub read_samples-requires : goal.read_samples-requires
read_samples-requires g c =
    let at = part_at c.args.parts.now (length c.args.out.now) c.parts.part-index c.requires c.parts-test.true in
    grind (arith, common_steps, at.0, at.1, c.parts.invariant)
