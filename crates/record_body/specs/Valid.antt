-- Valid bodies: what a record may say at block size m, after the records before it.
use Rattle.std.specs.Prelude.{ℕ, ◌^◌, ◌≤◌, ◌<◌, List, [], ◌∷◌, length}
use Rattle.pcm_base.specs.declared.limits.TheConstants.{COUNTER_LIMIT, FIRST_BLOCK, MAX_GAIN, MAX_TRACKS}
use Rattle.pcm_base.specs.declared.block.BlockRef.{BlockRef}
use Rattle.clip_track.specs.{declared.clips.Clip.Clip, Clips.IsLayout, Clips.AllHalfFull}
use Rattle.project_state.specs.{declared.track.Track.Track, Numbers.AreUnnumbered, Tracks.AreAbove}
use Rattle.record_body.specs.declared.body.Body.TheVariants.{Edit, Undo, Redo, Purge}
use Rattle.record_body.specs.{declared.body.Body.Body, declared.limits.Before.Before}

-- each is a block of sound whose id was given
abbrev pub AllGiven : ℕ → List BlockRef → Type 0
AllGiven next [] = Unit {0}
AllGiven next (b ∷ bs) = (FIRST_BLOCK ≤ b.id) × (b.id < next) × AllGiven next bs

abbrev pub AllClipsGiven : ℕ → List Clip → Type 0
AllClipsGiven next [] = Unit {0}
AllClipsGiven next (c ∷ cs) = AllGiven next c.blocks × AllClipsGiven next cs

pub record IsValidTrack (m next_block next_track : ℕ) (t : Track) : Type 0 where
  pub given : t.id < next_track
  pub gain : t.gain ≤ MAX_GAIN
  pub layout : IsLayout t.layout
  pub half_full : AllHalfFull m t.layout
  pub blocks : AllClipsGiven next_block t.layout

abbrev pub AllValidTracks : ℕ → ℕ → ℕ → List Track → Type 0
AllValidTracks m next_block next_track [] = Unit {0}
AllValidTracks m next_block next_track (t ∷ ts) =
    IsValidTrack m next_block next_track t × AllValidTracks m next_block next_track ts

-- tracks of blocks at this block size, whose ids and blocks were all given
pub record IsValidPoint (m next_block next_track : ℕ) (tracks : List Track) : Type 0 where
  pub few : length tracks ≤ MAX_TRACKS
  pub rising : AreAbove 1 tracks
  pub valid : AllValidTracks m next_block next_track tracks

-- and a tag of an earlier record
abbrev pub IsValidTagged : ℕ → ℕ → ℕ → ℕ → List Track × ℕ → Type 0
IsValidTagged m next_block next_track commit p = IsValidPoint m next_block next_track p.0 × (p.1 ≤ commit)

-- what the record of an edit says
pub record EditBody : Type 0 where
  pub tag : ℕ
  pub next_block : ℕ
  pub next_track : ℕ
  pub tracks : List Track

-- an edit, or a piece of a recording that begins with an earlier record
pub record IsValidEdit (m : ℕ) (before : Before) (edit : EditBody) : Type 0 where
  pub tag_number : edit.tag < 2 ^ 64
  pub tag_given : edit.tag ≤ before.commits
  pub block_least : FIRST_BLOCK ≤ edit.next_block
  pub block_most : edit.next_block ≤ COUNTER_LIMIT
  pub block_later : before.next_block ≤ edit.next_block
  pub track_least : 1 ≤ edit.next_track
  pub track_most : edit.next_track ≤ COUNTER_LIMIT
  pub track_later : before.next_track ≤ edit.next_track
  pub few : length edit.tracks ≤ MAX_TRACKS
  pub rising : AreAbove 1 edit.tracks
  pub valid : AllValidTracks m edit.next_block edit.next_track edit.tracks
  pub unnumbered : AreUnnumbered edit.tracks

-- What the history says of an undo, a redo and a purge is not asked here.
abbrev pub IsValidBody : ℕ → Before → Body → Type 0
IsValidBody m before (Edit tag next_block next_track tracks) =
    IsValidEdit m before (record { tag = tag; next_block = next_block; next_track = next_track; tracks = tracks })
IsValidBody m before Undo = Unit {0}
IsValidBody m before Redo = Unit {0}
IsValidBody m before (Purge n) = n < 2 ^ 64
