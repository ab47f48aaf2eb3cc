-- Edits of several tracks: a run is a track and those after it in the project.
use Rattle.std.specs.Prelude.{◌≡◌, ℕ, ◌-◌, ◌≤◌, max, List, [], ◌∷◌, ◌++◌, length, map, take, Option, None, Some}
use Rattle.pcm_base.specs.Refusals.{◌otherwise◌, too_narrow, bad_range, length_limit}
use Rattle.pcm_base.specs.{declared.sound.Cell.Cell, Edits.range_of, Pieces.Sources, declared.refusal.Refusal.Refusal}
use Rattle.pcm_base.specs.{declared.refusal.Refusal.TheVariants.EmptyClipboard}
use Rattle.clip_track.specs.Clips.{end_of, layout_cells, AllHalfFull, layout_blocks}
use Rattle.clip_track.specs.Items.{strip_len, strip_cells, strip_blocks}
use Rattle.clip_track.specs.{declared.items.Item.Item, declared.clips.Clip.Clip}
use Rattle.clip_track.specs.Kept.{Keeps}
use Rattle.edit_ops.specs.{Plans.Start, Plans.IsPlan, Plans.Means}
use Rattle.edit_ops.specs.{declared.types.Plan.Plan, Strips.IsClip, Strips.ItemsFrom}
use denote.Ref.{Bor}

-- the layout after each reference
abbrev pub layouts : List (Bor (List Clip)) → List (List Clip)
layouts refs = map (λ r. r.now) refs

-- the greatest length of some tracks, 0 where there are none
abbrev pub longest_of : List (List Clip) → ℕ
longest_of [] = 0
longest_of (t ∷ ts) = max (end_of 0 t) (longest_of ts)

-- the tests of a copy or a cut of n tracks
abbrev pub copy_tests : List (List Clip) → ℕ → ℕ → ℕ → Option Refusal
copy_tests run n from to = (too_narrow (length run) n) otherwise (bad_range from to (longest_of (take n run)))

-- what each strip would make of the track that it goes to
abbrev pub lengths_of : (ℕ → ℕ → ℕ) → List (List Item) → List (List Clip) → List ℕ
lengths_of f [] ts = []
lengths_of f (c ∷ cs) [] = []
lengths_of f (c ∷ cs) (t ∷ ts) = f (strip_len c) (end_of 0 t) ∷ lengths_of f cs ts

-- the tests of a paste, where f gives a track's length from the strip's and its own
abbrev pub paste_tests : (ℕ → ℕ → ℕ) → List (List Item) → List (List Clip) → Option Refusal
paste_tests f clip run = (too_narrow (length run) (length clip)) otherwise (length_limit (lengths_of f clip run))

-- the same of what may be there to paste
abbrev pub clipboard_tests : (ℕ → ℕ → ℕ) → Option (List (List Item)) → List (List Clip) → Option Refusal
clipboard_tests f None run = Some EmptyClipboard
clipboard_tests f (Some clip) run = paste_tests f clip run

abbrev pub AllTracksHalfFull : ℕ → List (List Clip) → Type 0
AllTracksHalfFull m [] = Unit {0}
AllTracksHalfFull m (t ∷ ts) = AllHalfFull m t × AllTracksHalfFull m ts

abbrev pub AreClips : ℕ → List (List Item) → Type 0
AreClips m [] = Unit {0}
AreClips m (c ∷ cs) = IsClip m c × AreClips m cs

-- a strip has all cells of a range of a track, gaps where it is shorter, as parts of its blocks
pub record IsCopy (from to : ℕ) (t : List Clip) (s : List Item) : Type 0 where
  pub cells : (src : Sources) → strip_cells src s ≡ range_of from to (layout_cells src t)
  pub len : strip_len s ≡ to - from
  pub clip : (m : ℕ) → AllHalfFull m t → IsClip m s
  pub origin : ItemsFrom (layout_blocks t) 0 s

-- one strip for each track
abbrev pub AreCopies : ℕ → ℕ → List (List Clip) → List (List Item) → Type 0
AreCopies from to [] [] = Unit {0}
AreCopies from to [] (s ∷ ss) = ⊥
AreCopies from to (t ∷ ts) [] = ⊥
AreCopies from to (t ∷ ts) (s ∷ ss) = IsCopy from to t s × AreCopies from to ts ss

-- where the next plan begins
abbrev pub start_behind : Start → Plan → Start
start_behind start p = record start { next = p.next }

-- the plan of one edit of a track
pub record IsCut (edit : List Cell → List Cell) (start : Start) (t : List Clip) (p : Plan) : Type 0 where
  pub plan : IsPlan start (layout_blocks t) 0 p
  pub kept : Keeps p.kept (layout_blocks t) (layout_blocks p.layout)
  pub cells : Means (λ src. edit) t p
  pub few_made : length p.makes ≤ 8

-- one plan for each track, each begun at the next id of the one before
abbrev pub AreCuts : (List Cell → List Cell) → Start → List (List Clip) → List Plan → Type 0
AreCuts edit start [] [] = Unit {0}
AreCuts edit start [] (p ∷ ps) = ⊥
AreCuts edit start (t ∷ ts) [] = ⊥
AreCuts edit start (t ∷ ts) (p ∷ ps) = IsCut edit start t p × AreCuts edit (start_behind start p) ts ps

-- the plan of one strip pasted into a track
pub record IsPaste (edit : List Cell → List Cell → List Cell) (start : Start) (c : List Item) (t : List Clip)
    (p : Plan) : Type 0 where
  pub plan : IsPlan start (layout_blocks t ++ strip_blocks c) 0 p
  pub kept : Keeps p.kept (layout_blocks t) (layout_blocks p.layout)
  pub cells : Means (λ src. edit (strip_cells src c)) t p
  pub few_made : length p.makes ≤ 8

-- one plan for each strip, which goes to the next track, each begun at the next id of the one before
abbrev pub ArePastes : (List Cell → List Cell → List Cell) → Start → List (List Item) → List (List Clip) → List Plan
    → Type 0
ArePastes edit start [] [] [] = Unit {0}
ArePastes edit start [] [] (p ∷ ps) = ⊥
ArePastes edit start [] (t ∷ ts) ps = ⊥
ArePastes edit start (c ∷ cs) [] ps = ⊥
ArePastes edit start (c ∷ cs) (t ∷ ts) [] = ⊥
ArePastes edit start (c ∷ cs) (t ∷ ts) (p ∷ ps) =
    IsPaste edit start c t p × ArePastes edit (start_behind start p) cs ts ps

-- the next id after some plans
abbrev pub next_of : ℕ → List Plan → ℕ
next_of next [] = next
next_of next (p ∷ ps) = next_of p.next ps
