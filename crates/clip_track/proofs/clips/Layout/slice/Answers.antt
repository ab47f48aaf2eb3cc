-- A part of what is left.
use Rattle.clip_track.proofs.Common.{◌-◌, sym, subst, ap, ◌∙◌, take, drop, arith, part_items, strip_len, strip_cells}
use Rattle.clip_track.proofs.Common.{AreItems, ItemsFit, IsLayout, items_from}
use Rattle.clip_track.proofs.Strips.{AreItems-part, strip_len-part, strip_cells-part, ItemsFit-part}
use Rattle.clip_track.proofs.Layouts.{AreItems-items, strip_len-items, strip_cells-items, ItemsFit-items}
use Rattle.clip_track.proofs.RestItems.{part_after}
use Rattle.clip_track.proofs.clips.Layout.slice.Goals as goal

pub from_items-requires-clause-ok : goal.from_items-requires-clause-ok
from_items-requires-clause-ok c =
    let l : IsLayout c.args.self.now = subst IsLayout c.self.view_is c.self.invariant in
    let items = items_from 0 c.args.self.now in
    let made = c.in_ok-items.ensures ∙ ap (part_items 0 (c.args.to - c.args.from)) c.rest-rest.ensures.items
    ∙ part_after c.args.from (c.args.to - c.args.from) items in
    subst AreItems (sym made)
    (AreItems-part c.args.from (c.args.to - c.args.from) items (AreItems-items 0 0 c.args.self.now l.apart))

pub from_items-requires-clause-room : goal.from_items-requires-clause-room
from_items-requires-clause-room c =
    let l : IsLayout c.args.self.now = subst IsLayout c.self.view_is c.self.invariant in
    let items = items_from 0 c.args.self.now in
    let made = c.in_ok-items.ensures ∙ ap (part_items 0 (c.args.to - c.args.from)) c.rest-rest.ensures.items
    ∙ part_after c.args.from (c.args.to - c.args.from) items in
    let len = ap strip_len made ∙ strip_len-part c.args.from (c.args.to - c.args.from) items (omega (
      arith,
      strip_len-items 0 0 c.args.self.now (omega arith) l.apart,
      c.requires.rising,
      c.requires.within,
    )) in
    omega (arith, len, c.ranges.to.fits)

pub returns-clause-items : goal.returns-clause-items
returns-clause-items c =
    let items = items_from 0 c.args.self.now in
    c.from_items.ensures ∙ c.in_ok-items.ensures
    ∙ ap (part_items 0 (c.args.to - c.args.from)) c.rest-rest.ensures.items
    ∙ part_after c.args.from (c.args.to - c.args.from) items

pub returns-clause-cells : goal.returns-clause-cells
returns-clause-cells c src =
    let items = items_from 0 c.args.self.now in
    ap (strip_cells src) (returns-clause-items c)
    ∙ strip_cells-part src c.args.from (c.args.to - c.args.from) items
    ∙ ap (λ cs. take (c.args.to - c.args.from) (drop c.args.from cs)) (strip_cells-items src 0 c.args.self.now)

pub returns-clause-len : goal.returns-clause-len
returns-clause-len c =
    let l : IsLayout c.args.self.now = subst IsLayout c.self.view_is c.self.invariant in
    let items = items_from 0 c.args.self.now in
    ap strip_len (returns-clause-items c)
    ∙ strip_len-part c.args.from (c.args.to - c.args.from) items
    (omega (arith, strip_len-items 0 0 c.args.self.now (omega arith) l.apart, c.requires.rising, c.requires.within))

pub returns-clause-fit : goal.returns-clause-fit
returns-clause-fit c m h =
    subst (ItemsFit m) (sym (returns-clause-items c))
    (ItemsFit-part m c.args.from (c.args.to - c.args.from) (items_from 0 c.args.self.now)
    (ItemsFit-items m 0 c.args.self.now h))
