-- The pin, or none.
use Rattle.editor_core.proofs.Common.{◌+◌, ◌<◌, length, sym, ap, ◌∙◌, subst, take, drop, Some, arith, take_all}
use Rattle.editor_core.proofs.Common.{slice_get-get_or, take_some, Pin, LacksPin, around}
use Rattle.std.proofs.Common.{Vec, Global}
use Rattle.std.proofs.{lemmas.List.get_or_default}
use Rattle.editor_views.proofs.PinNumbers.{lacks_more}
use Rattle.editor_core.proofs.pins.take_pin.Goals as goal

pub returns-then-index-number : goal.returns-then-index-number
returns-then-index-number c =
    let now = c.loop-i.pins.items in
    let i = c.loop-i.i in
    let pin = c.remove.result in
    let same = ap (λ (v : Vec Pin Global). v.items) c.loop-i.invariant.0 in
    let lt : i < length now = omega (
      arith,
      c.loop-i-test.true,
      c.len-i-end.ensures,
      c.loop-i.pins.ok,
      ap (λ (v : Vec Pin Global). v.len) c.loop-i.invariant.0,
    ) in
    let here = slice_get-get_or now i pin lt ∙ ap Some (sym c.remove.ensures.value) in record {
      front = take i now;
      back = drop (i + 1) now;
      before = sym same ∙ around now i pin here;
      after = c.remove.ensures.by_index.2;
      is = ap (λ (p : Pin). p.number) (c.remove.ensures.value ∙ get_or_default now i pin c.index.result.now lt
          ∙ sym c.index.ensures) ∙ c.if-index-number.true;
    }

pub loop-i-preserved : goal.loop-i-preserved
loop-i-preserved c =
    let now = c.loop-i.pins.items in
    let i = c.loop-i.i in
    let x = c.index.result.now in
    let lt : i < length now = omega (
      arith,
      c.loop-i-test.true,
      c.len-i-end.ensures,
      c.loop-i.pins.ok,
      ap (λ (v : Vec Pin Global). v.len) c.loop-i.invariant.0,
    ) in
    let here = slice_get-get_or now i x lt ∙ ap Some (sym c.index.ensures) in (
      c.loop-i.invariant.0,
      subst (LacksPin c.args.number) (sym (take_some now i x here))
          (lacks_more c.args.number (take i now) x c.loop-i.invariant.1 c.if-index-number.false),
    )

pub returns : goal.returns
returns c =
    let same = ap (λ (v : Vec Pin Global). v.items) c.loop-i.invariant.0 in (
      same,
      subst (LacksPin c.args.number)
          (take_all c.loop-i.i c.loop-i.pins.items (omega (
            arith,
            c.loop-i-test.false,
            c.len-i-end.ensures,
            c.loop-i.pins.ok,
            ap (λ (v : Vec Pin Global). v.len) c.loop-i.invariant.0,
          )) ∙ same) c.loop-i.invariant.1,
    )
