-- What a view from one place to another has of some cells.
use Rattle.std.specs.Prelude.{◌≡◌, ℕ, ◌+◌, ◌-◌, min, List, ◌++◌, length, map, take}
use Rattle.pcm_base.specs.{declared.sound.Cell.Cell, Edits.part}
use Rattle.cell_reader.specs.declared.places.View.{View}

-- how much of a view lies before a place
abbrev pub place_in : View → ℕ → ℕ
place_in view at = min at view.to - view.from

-- what is made of cells that stand from a place on is put where the view has them, and what is before it stays
abbrev pub Puts : {A : Type 0} → (Cell → A) → View → ℕ → List Cell → List A → List A → Type 0
Puts made view at cells old new = take (place_in view (at + length cells)) new
    ≡ take (place_in view at) old ++ map made (part (view.from - at) (view.to - at) cells)
