-- There is room for the numbers.
use Rattle.editor_core.proofs.Common.{arith, length-take}
use Rattle.editor_core.proofs.studio.Studio.write_packed.Goals as goal

pub slice_bounds-write_header-end-2 : goal.slice_bounds-write_header-end-2
slice_bounds-write_header-end-2 g c =
    let room = c.requires.room in
    omega (arith, length-take 63 c.args.out.now, room)

pub write_header-requires : goal.write_header-requires
write_header-requires g c =
    let room = c.requires.room in
    omega (arith, length-take 63 c.args.out.now, room)
