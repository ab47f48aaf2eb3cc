-- The goals of `to_strip` that the search leaves open.
use Rattle.clip_track.proofs.Common.{ap, subst, ◌∙◌, arith, strip_len, strip_cells, IsLayout, items_from}
use Rattle.clip_track.proofs.Layouts.{AreItems-items, strip_len-items, strip_cells-items, ItemsFit-items}
use Rattle.clip_track.proofs.{RoughStrips.rough_layout, ShortStrips.short_layout}
use Rattle.clip_track.proofs.clips.Layout.to_strip.Goals as goal

pub from_items-requires-clause-ok : goal.from_items-requires-clause-ok
from_items-requires-clause-ok c = rw (c.in_ok-items.ensures, c.as_slice.ensures)
    (AreItems-items 0 0 c.self.inside.clips c.self.invariant.apart)

pub from_items-requires-clause-room : goal.from_items-requires-clause-room
from_items-requires-clause-room c = rw (c.in_ok-items.ensures, c.as_slice.ensures) (
    omega (
      arith,
      strip_len-items 0 0 c.self.inside.clips (omega arith) c.self.invariant.apart,
      c.self.invariant.few,
    ))

pub returns-clause-cells : goal.returns-clause-cells
returns-clause-cells c src =
    ap (strip_cells src)
    (c.from_items.ensures ∙ c.in_ok-items.ensures ∙ ap (items_from 0) (c.as_slice.ensures ∙ c.self.view_is))
    ∙ strip_cells-items src 0 c.args.self.now

pub returns-clause-len : goal.returns-clause-len
returns-clause-len c =
    let l : IsLayout c.args.self.now = subst IsLayout c.self.view_is c.self.invariant in
    ap strip_len
    (c.from_items.ensures ∙ c.in_ok-items.ensures ∙ ap (items_from 0) (c.as_slice.ensures ∙ c.self.view_is))
    ∙ omega (arith, strip_len-items 0 0 c.args.self.now (omega arith) l.apart)

pub returns-clause-fit : goal.returns-clause-fit
returns-clause-fit c m h = rw (c.from_items.ensures, c.in_ok-items.ensures, c.as_slice.ensures, c.self.view_is)
    (ItemsFit-items m 0 c.args.self.now h)

pub returns-clause-smooth : goal.returns-clause-smooth
returns-clause-smooth c m h =
    let l : IsLayout c.args.self.now = subst IsLayout c.self.view_is c.self.invariant in
    rw (c.from_items.ensures, c.in_ok-items.ensures, c.as_slice.ensures, c.self.view_is)
    (rough_layout m 0 0 c.args.self.now l.apart h)

pub returns-clause-short : goal.returns-clause-short
returns-clause-short c m h = rw (c.from_items.ensures, c.in_ok-items.ensures, c.as_slice.ensures, c.self.view_is)
    (short_layout m 0 c.args.self.now h)

pub returns-clause-ok : goal.returns-clause-ok
returns-clause-ok c = rw (c.from_items.ensures, c.in_ok-items.ensures, c.as_slice.ensures)
    (AreItems-items 0 0 c.self.inside.clips c.self.invariant.apart)

pub returns-clause-few : goal.returns-clause-few
returns-clause-few c = rw (c.from_items.ensures, c.in_ok-items.ensures, c.as_slice.ensures) (
    omega (
      arith,
      strip_len-items 0 0 c.self.inside.clips (omega arith) c.self.invariant.apart,
      c.self.invariant.few,
    ))
