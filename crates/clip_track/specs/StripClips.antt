-- The clips of a strip: pieces that follow each other, with the place where they begin.
use Rattle.std.specs.Prelude.{ℕ, ◌+◌, ◌-◌, ◌≤◌, ◌<◌, List, [], ◌∷◌, ◌++◌, map, replicate}
use Rattle.pcm_base.specs.{declared.sound.Cell.Cell, Pieces.Sources, Pieces.total, Pieces.all_samples, Pieces.AllValid}
use Rattle.clip_track.specs.declared.strip_clips.StripClip.{StripClip}
use Rattle.pcm_base.specs.declared.sound.Cell.TheVariants as cell

abbrev pub strip_clip_end : StripClip → ℕ
strip_clip_end c = c.start + total c.pieces

-- where the last clip ends
abbrev pub clips_end : ℕ → List StripClip → ℕ
clips_end at [] = at
clips_end at (c ∷ cs) = clips_end (strip_clip_end c) cs

-- where the next clip may begin
abbrev pub next_start : ℕ → List StripClip → ℕ
next_start from [] = from
next_start from (c ∷ cs) = next_start (strip_clip_end c + 1) cs

-- the cells up to the end of the last clip, written out clip by clip
abbrev pub clips_cells : Sources → ℕ → List StripClip → List Cell
clips_cells src at [] = []
clips_cells src at (c ∷ cs) = replicate (c.start - at) cell.Gap ++ map cell.Sample (all_samples src c.pieces)
    ++ clips_cells src (strip_clip_end c) cs

-- clips of at least one sample that begin at a place or later, each at least one gap after the one before
abbrev pub AreStripClips : ℕ → List StripClip → Type 0
AreStripClips from [] = Unit {0}
AreStripClips from (c ∷ cs) =
    (from ≤ c.start) × (0 < total c.pieces) × AllValid c.pieces × AreStripClips (strip_clip_end c + 1) cs
