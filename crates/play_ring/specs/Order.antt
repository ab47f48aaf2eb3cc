-- In which order items are sent.
use Rattle.std.specs.Prelude.{◌≢◌, List, All}
use Rattle.play_ring.specs.{declared.ends.Item.Item, declared.ends.Item.TheVariants.End}

-- no end mark is among them
abbrev pub IsOpen : List Item → Type 0
IsOpen items = All (λ item. item ≢ End) items
