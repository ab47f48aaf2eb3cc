-- What a studio stands for is the same while the files of the blocks that it names are.
use Rattle.editor_state.proofs.Common.{rules, ◌≡◌, refl, ap, ℕ, ◌-◌, ℤ, pos, List, [], ◌∷◌, map, flat_map, Option, Some}
use Rattle.editor_state.proofs.Common.{None, AllByRecursion, Old, Scaled, Zero, Given, BlockRef, Sources, Files, Ghosts}
use Rattle.editor_state.proofs.Common.{sources_of, Item, strip_cells, point_blocks, SameBlocks, pin_at, clip_cells}
use Rattle.editor_state.proofs.Common.{clip_blocks, pin_blocks, named_blocks, Core, Pin}
use Rattle.pcm_base.specs.{Pieces.stretch}
use Rattle.clip_track.specs.declared.items.Item.TheVariants.{Gap, Sound}
use Rattle.clip_track.specs.Items.{item_blocks, item_cells, strip_blocks}
use Rattle.editor_state.specs.Studios.{studio_by}
use Rattle.editor_state.proofs.Lists.{all_left, all_right}
use Rattle.editor_state.proofs.Blocks.BlockSounds.{SameSound, same_point, same_history, all_sound}
use Rattle.pcm_base.specs.declared.sound.Cell.TheVariants as cell

module _ (f g : ℕ → ℕ → ℤ) where
  abbrev was : Sources
  was = record { block = f; given = λ _. pos 0 }

  abbrev now : Sources
  now = record { block = g; given = λ _. pos 0 }

  abbrev Same : BlockRef → Type 0
  Same = SameSound was now

  same_item : (x : Item) → AllByRecursion Same (item_blocks x) → item_cells now x ≡ item_cells was x
  same_item (Gap n) h = refl
  same_item (Sound (Old b from to)) h = λ i. map cell.Sample (stretch (h.0 i) from (to - from))
  same_item (Sound (Scaled b from to gain)) h = search (rules, h.0)
  same_item (Sound (Zero len)) h = refl
  same_item (Sound (Given from to)) h = refl

  same_strip : (xs : List Item) → AllByRecursion Same (strip_blocks xs) → strip_cells now xs ≡ strip_cells was xs
  same_strip [] h = refl
  same_strip (x ∷ xs) h =
      search (rules, same_item, all_left, all_right, same_strip xs (all_right Same (item_blocks x) (strip_blocks xs) h))

  same_strips : (strips : List (List Item)) → AllByRecursion Same (flat_map strip_blocks strips)
      → map (strip_cells now) strips ≡ map (strip_cells was) strips
  same_strips [] h = refl
  same_strips (s ∷ ss) h =
      search (
        rules,
        same_strip,
        all_left,
        all_right,
        same_strips ss (all_right Same (strip_blocks s) (flat_map
            strip_blocks ss) h),
      )

  same_clip : (clip : Option (List (List Item))) → AllByRecursion Same (clip_blocks clip)
      → clip_cells now clip ≡ clip_cells was clip
  same_clip None h = refl
  same_clip (Some strips) h = ap Some (same_strips strips h)

  same_pin : (pins : List Pin) → AllByRecursion Same (pin_blocks pins) → (n : ℕ) → pin_at now pins n ≡ pin_at was pins n
  same_pin [] h n = refl
  same_pin (p ∷ ps) h n =
      search (
        rules,
        same_point,
        all_left,
        all_right,
        p.point,
        p.number,
        same_pin ps (all_right Same (point_blocks
            p.point) (pin_blocks ps) h) n,
      )

  -- the blocks that it names have the same samples
  pub same_by : {D : Type 0} (disk : Ghosts D) (s : Core D) → AllByRecursion Same (named_blocks s)
      → studio_by now disk s ≡ studio_by was disk s
  same_by disk s all = search (rules, all_right, same_history, all_left, same_pin, same_clip)

-- their files are the same
pub same_studio : (files other : Files) {D : Type 0} (disk : Ghosts D) (s : Core D)
    → SameBlocks (named_blocks s) files other
    → studio_by (sources_of other) disk s ≡ studio_by (sources_of files) disk s
same_studio files other disk s same = search (rules, same_by, all_sound)
