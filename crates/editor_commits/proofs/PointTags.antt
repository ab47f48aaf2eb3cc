-- A history in which a point was recorded under a tag: what holds of its points, and which is its current one.
use Rattle.editor_commits.proofs.Common.{rules, ◌≡◌, refl, ℕ, zero, suc, ◌≤◌, Bool, true, false, if◌then◌else◌, List}
use Rattle.editor_commits.proofs.Common.{[], ◌∷◌, map, length, arith, AllByRecursion, BlockRef, History, kept, edited}
use Rattle.editor_commits.proofs.Common.{Track, point_blocks, history_blocks, current_tracks, all_take, all_each}
use Rattle.editor_commits.proofs.Common.{all_joined}
use Rattle.std.proofs.Common.{take}
use Rattle.std.specs.{Prelude.slice_index}
use Rattle.pcm_base.specs.History.{amended, is_of_recording, recorded, tag_of, tags_of}
use Rattle.editor_commits.proofs.HistoryPoints.{Tagged, ending_all, ending_current, ending_few}

either : (P : History (List Track) → Type 0) (b : Bool) (x y : History (List Track)) → P x → P y
    → P (if b then x else y)
either P true x y p q = p
either P false x y p q = q

module _ (h : History (List Track)) (p : List Track) (tag : ℕ) where
  abbrev here : ℕ
  here = slice_index (tags_of h) h.cursor

  by_both : (P : History (List Track) → Type 0) → P (amended h p) → P (edited h p tag) → P (recorded h p tag)
  by_both P = either P (is_of_recording h tag) (amended h p) (edited h p tag)

  pub all_recorded : (Q : Tagged → Type 0) → AllByRecursion Q h.points → Q (p, tag) → Q (p, here)
      → AllByRecursion Q (recorded h p tag).points
  all_recorded Q all one same = search (rules, by_both, ending_all, all_take)

  pub blocks_recorded : (P : BlockRef → Type 0) → AllByRecursion P (history_blocks h)
      → AllByRecursion P (point_blocks p) → AllByRecursion P (history_blocks (recorded h p tag))
  blocks_recorded P all one = search (rules, all_joined, all_recorded, all_each)

  pub recorded_few : length (recorded h p tag).points ≤ (recorded h p tag).depth
  recorded_few = by_both (λ z. length z.points ≤ z.depth) (ending_few h (take h.cursor h.points) p here)
      (ending_few h (kept h) p tag)

  pub recorded_depth : (recorded h p tag).depth ≡ h.depth
  recorded_depth = by_both (λ z. z.depth ≡ h.depth) refl refl

  pub recorded_current : 1 ≤ h.depth → current_tracks (recorded h p tag) ≡ p
  recorded_current some = search (rules, by_both, ending_current)

-- ---- tags

tag_low : (commit : ℕ) (ps : List Tagged) (i : ℕ) → AllByRecursion (λ p. p.1 ≤ commit) ps
    → slice_index (map tag_of ps) i ≤ commit
tag_low commit [] i all = omega arith
tag_low commit (p ∷ ps) zero all = all.0
tag_low commit (p ∷ ps) (suc i) all = tag_low commit ps i all.1

-- no tag is greater than these
pub tag_here : (commit : ℕ) (h : History (List Track)) → AllByRecursion (λ p. p.1 ≤ commit) h.points
    → slice_index (tags_of h) h.cursor ≤ commit
tag_here commit h all = tag_low commit h.points h.cursor all
