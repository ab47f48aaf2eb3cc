-- The strips so far, and how many blocks they may name.
use Rattle.editor_core.proofs.Common.{refl, sym, ap, subst, List, take, length, length-append, arith, slice_get_read}
use Rattle.editor_core.proofs.Common.{counts_of, Item, strip_blocks, strips_blocks, HasIds, Names, Few, there_here}
use Rattle.editor_core.proofs.Common.{named_on, next}
use Rattle.editor_state.proofs.Blocks.BlockNumbers.{named_most}
use Rattle.editor_tracks.proofs.CopyStrips.{items_few}
use Rattle.editor_core.proofs.clipboards.hold_strips.Goals as goal

pub hold_items-requires-clause-there : goal.hold_items-requires-clause-there
hold_items-requires-clause-there c =
    let here = slice_get_read c.args.strips.now _ c.loop-strip.strip-index c.strip-item.result refl
    c.loop-strip-test.true c.strip-item.is in
    subst (λ (z : List Item). HasIds (counts_of c.loop-strip.ledger) (strip_blocks z)) (sym c.as_slice.ensures.value)
    (there_here strip_blocks c.args.strips.now c.loop-strip.strip-index c.strip-item.result here
    c.args.ledger.now c.loop-strip.ledger c.requires.there c.loop-strip.invariant.0)

pub hold_items-requires-clause-few : goal.hold_items-requires-clause-few
hold_items-requires-clause-few c =
    let front = strips_blocks (take c.loop-strip.strip-index c.args.strips.now) in
    let mine = strip_blocks c.strip-item.result in
    let small = items_few c.strip-item.result c.as_slice.ensures.ok in
    subst (λ (z : List Item). Few (counts_of c.loop-strip.ledger) (strip_blocks z)) (sym c.as_slice.ensures.value)
    (λ id. omega (
      arith,
      c.loop-strip.invariant.0.held.counts id,
      named_most id front,
      c.loop-strip.invariant.1,
      named_most id mine,
      small,
      c.as_slice.ensures.small,
      c.requires.room id,
      c.requires.few,
      c.loop-strip-test.true,
    ))

pub loop-strip-preserved : goal.loop-strip-preserved
loop-strip-preserved c =
    let here = slice_get_read c.args.strips.now _ c.loop-strip.strip-index c.strip-item.result refl
    c.loop-strip-test.true c.strip-item.is in
    let o = c.args.ledger.now in
    let m = c.loop-strip.ledger in
    let n = c.hold_items.new.ledger in
    let i = c.loop-strip.strip-index in
    let front = strips_blocks (take i c.args.strips.now) in
    let mine = strip_blocks c.strip-item.result in
    let small = items_few c.strip-item.result c.as_slice.ensures.ok in (
      named_on strip_blocks c.args.strips.now i c.strip-item.result here o m n c.loop-strip.invariant.0
          (subst (λ (z : List Item). Names m n (strip_blocks z)) c.as_slice.ensures.value c.hold_items.ensures),
      omega (
        arith,
        ap length (next strip_blocks c.args.strips.now i c.strip-item.result here),
        length-append front mine,
        c.loop-strip.invariant.1,
        small,
        c.as_slice.ensures.small,
      ),
    )
