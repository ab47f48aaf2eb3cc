-- The pin, where it stands.
use Rattle.editor_core.proofs.Common.{◌∙◌, refl, ◌+◌, ◌∷◌, ◌++◌, take, drop, slice_get_read, Pin, around}
use Rattle.editor_core.proofs.pinned.point_of.Goals as goal

pub returns-then-pin-number : goal.returns-then-pin-number
returns-then-pin-number c =
    let pins = c.args.pins.now in
    let i = c.loop-pin.pin-index in
    let x : Pin = c.pin-item.result in
    let here = slice_get_read pins _ i x refl c.loop-pin-test.true c.pin-item.is in (
      take i pins,
      drop (i + 1) pins,
      around pins i x here
          ∙ (λ j. take i pins ++ record { number = c.if-pin-number.true j; point = x.point } ∷ drop (i + 1) pins),
    )
