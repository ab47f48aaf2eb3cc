-- All items of the layout but those before the place.
use Rattle.clip_track.proofs.Common.{List, ap, subst, sym, ◌∙◌, drop, arith, Contains, BlockRef, items_after, strip_len}
use Rattle.clip_track.proofs.Common.{strip_cells, strip_blocks, ItemsFit, Item, IsLayout, items_from}
use Rattle.clip_track.proofs.Layouts.{AreItems-items, strip_len-items, strip_cells-items, ItemsFit-items}
use Rattle.clip_track.proofs.RestItems.{after_cells, after_len, after_blocks, blocks-layout, ItemsFit-after}
use Rattle.clip_track.proofs.clips.Layout.rest.Goals as goal

pub returns-clause-items : goal.returns-clause-items
returns-clause-items c = c.rest_from.ensures.items
    ∙ ap (λ cs. items_after c.args.place (items_from 0 cs)) (c.as_slice.ensures ∙ c.self.view_is)

pub returns-clause-cells : goal.returns-clause-cells
returns-clause-cells c src =
    let l : IsLayout c.args.self.now = subst IsLayout c.self.view_is c.self.invariant in
    let items = items_from 0 c.args.self.now in
    ap (strip_cells src) (returns-clause-items c)
    ∙ after_cells src c.args.place items (AreItems-items 0 0 c.args.self.now l.apart)
    ∙ ap (drop c.args.place) (strip_cells-items src 0 c.args.self.now)

pub returns-clause-len : goal.returns-clause-len
returns-clause-len c =
    let l : IsLayout c.args.self.now = subst IsLayout c.self.view_is c.self.invariant in
    ap strip_len (returns-clause-items c) ∙ omega (
      arith,
      after_len c.args.place (items_from 0 c.args.self.now),
      strip_len-items 0 0 c.args.self.now (omega arith) l.apart,
    )

pub returns-clause-fit : goal.returns-clause-fit
returns-clause-fit c m h = subst (ItemsFit m) (sym (returns-clause-items c))
    (ItemsFit-after m c.args.place (items_from 0 c.args.self.now) (ItemsFit-items m 0 c.args.self.now h))

pub returns-clause-blocks : goal.returns-clause-blocks
returns-clause-blocks c b there =
    subst (λ (bs : List BlockRef). Contains bs b) (blocks-layout 0 c.args.self.now)
    (after_blocks c.args.place (items_from 0 c.args.self.now) b
    (subst (λ (xs : List Item). Contains (strip_blocks xs) b) (returns-clause-items c) there))
