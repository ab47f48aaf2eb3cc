-- A window of a track: blocks of one clip that follow each other, which an edit changes alone. In a gap there are none.
use Rattle.std.specs.Prelude.{◌≡◌, ℕ, ◌+◌, ◌-◌, ◌<◌, ◌≤◌, ◌^◌, List, [], ◌∷◌, ◌++◌, length, Option, None, Some}
use Rattle.pcm_base.specs.{declared.block.BlockRef.BlockRef, Blocks.AllFull, Blocks.IsHalfFull, Blocks.NoneEmpty}
use Rattle.pcm_base.specs.{Blocks.block_lens, Blocks.blocks_len}
use Rattle.block_sequence.specs.Rows.{from_to}
use Rattle.clip_track.specs.{declared.clips.Clip.Clip, Clips.AllHalfFull, Clips.AreClips, Clips.IsLayout, Clips.clip_end}
use Rattle.clip_track.specs.{Clips.end_of, Clips.layout_blocks, declared.kept.Kept.Kept}
use Rattle.edit_ops.specs.{declared.windows.Near.Near, declared.windows.Window.Window, declared.types.Plan.Plan}
use Rattle.edit_ops.specs.{declared.strips.Cutting.Cutting, declared.strips.Cutting.TheVariants.Delete}
use Rattle.edit_ops.specs.declared.strips.Cutting.TheVariants.{SplitDelete, Trim}
use Rattle.edit_ops.specs.declared.joins.Joining.{Joining}
use Rattle.edit_ops.specs.Joins.{IsJoining, clip_of, finished, joined_clips, moved}

-- where the next clip may begin
abbrev pub next_of : ℕ → List Clip → ℕ
next_of from [] = from
next_of from (c ∷ cs) = next_of (clip_end c + 1) cs

-- the blocks of the window's clip: before the window, in it, and after it
abbrev pub front_of : Window → List BlockRef
front_of w = from_to 0 w.begin w.blocks.now

abbrev pub middle_of : Window → List BlockRef
middle_of w = from_to w.begin w.end w.blocks.now

abbrev pub back_of : Window → List BlockRef
back_of w = from_to w.end w.count w.blocks.now

abbrev pub window_blocks : Window → List BlockRef
window_blocks w = front_of w ++ middle_of w ++ back_of w

-- where a window stands in a track, at block size m: in a clip, or apart from all clips
pub record IsWindow (m : ℕ) (t : List Clip) (w : Window) : Type 0 where
  pub layout : IsLayout t
  pub rising : w.begin ≤ w.end
  pub last : w.end ≤ w.count
  pub within : w.count ≤ length w.blocks.now
  pub clips : t ≡ w.before.now ++ (clip_of w.start (window_blocks w) ++ w.after.now)
  pub before : AreClips 0 w.before.now
  pub apart : next_of 0 w.before.now ≤ w.start
  pub after : AreClips (w.start + w.len + 1) w.after.now
  pub len : w.len ≡ blocks_len (window_blocks w)
  pub none_empty : NoneEmpty (window_blocks w)
  pub front : AllFull m (block_lens (front_of w))
  pub middle : IsHalfFull m (block_lens (middle_of w))
  pub back : AllFull m (block_lens (back_of w))
  pub from : w.from ≡ w.start + blocks_len (front_of w)

-- a window that a range lies in
pub record IsNear (m from to : ℕ) (t : List Clip) (n : Near) : Type 0 where
  pub window : IsWindow m t n.window
  pub small : n.small ≡ clip_of 0 (middle_of n.window)
  pub past : n.window.from ≤ from
  pub within : to - n.window.from ≤ end_of 0 n.small

-- the clip up to the window, and its blocks after it, of new cells where there were old ones
abbrev pub front_clip : Window → Clip
front_clip w = record { start = w.start; blocks = front_of w }

abbrev pub back_clip : Window → ℕ → Clip
back_clip w new = record { start = w.from + new; blocks = back_of w }

-- the track with another one in the window's place, of new cells where there were old ones
abbrev pub track_with : Window → ℕ → ℕ → List Clip → List Clip
track_with w old new small = w.before.now
    ++ (joined_clips (front_clip w) (moved 0 w.from small ++ back_clip w new ∷ [])
    ++ moved (w.from + old) (w.from + new) w.after.now)

-- all of it but the clips after
pub record IsJoined (m : ℕ) (w : Window) (new : ℕ) (small : List Clip) (j : Joining) : Type 0 where
  pub joining : IsJoining m j
  pub apart : AreClips 0 small
  pub clips : finished j []
      ≡ w.before.now ++ joined_clips (front_clip w) (moved 0 w.from small ++ back_clip w new ∷ [])

-- another track in the place of a window's
pub record IsAround (m : ℕ) (w : Window) (old new : ℕ) (small all : List Clip) : Type 0 where
  pub apart : AreClips 0 small
  pub within : end_of 0 small ≤ new
  pub clips : all ≡ track_with w old new small
  pub layout : IsLayout all
  pub half_full : AllHalfFull m all

-- the same of a plan
pub record IsPlaced (m : ℕ) (w : Window) (old new : ℕ) (small p : Plan) : Type 0 where
  pub around : IsAround m w old new small.layout p.layout
  pub makes : p.makes ≡ small.makes
  pub next : p.next ≡ small.next

-- how many of some cells are left where this many are cut, if a window is enough to cut them
abbrev pub cells_left : Cutting → ℕ → ℕ → Option ℕ
cells_left Delete old count = Some (old - count)
cells_left SplitDelete old count = Some old
cells_left Trim old count = None

-- no clip begins too far on
abbrev pub StartsFit : List Clip → Type 0
StartsFit [] = Unit {0}
StartsFit (c ∷ cs) = (c.start < 2 ^ 64) × StartsFit cs

-- all blocks before a window and after it
pub record IsKeptAround (w : Window) (k : Kept) : Type 0 where
  pub front : k.front ≡ length (layout_blocks w.before.now) + w.begin
  pub back : k.back ≡ length (layout_blocks w.after.now) + (w.count - w.end)
