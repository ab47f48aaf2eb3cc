-- New tracks of a sound's channels. What is brought is the samples of all channels, those of each after those of the
-- one before.
use Rattle.std.specs.Prelude.{◌≡◌, ℕ, ◌+◌, ◌/◌, ◌^◌, ◌<◌, ◌≤◌, nat_lt, ℤ, false, Option, List, [], ◌∷◌, ◌++◌, length}
use Rattle.std.specs.Prelude.{map}
use Rattle.std.specs.List.{AllByRecursion}
use Rattle.pcm_base.specs.declared.piece.Piece.TheVariants.{Old, Scaled, Zero, Given}
use Rattle.pcm_base.specs.Refusals.{◌otherwise◌, length_limit, refused_if}
use Rattle.pcm_base.specs.{declared.limits.TheConstants.MAX_TRACKS, declared.limits.TheConstants.UNITY_GAIN}
use Rattle.pcm_base.specs.{declared.piece.Piece.Piece, declared.refusal.Refusal.Refusal}
use Rattle.pcm_base.specs.{declared.sound.Side.TheVariants.Both, Edits.as_cells, Pieces.Sources, Pieces.stretch}
use Rattle.pcm_base.specs.{Sizes.blocks_of_samples, Sizes.blocks_of_tracks, Step.channel_tracks}
use Rattle.clip_track.specs.{declared.clips.Clip.Clip, Clips.IsLayout, Clips.layout_cells}
use Rattle.edit_ops.specs.Plans.{AllNewFrom, AreNew, AreWritten, IsPlan, ref_of}
use Rattle.edit_ops.specs.{declared.types.NewBlock.NewBlock, declared.types.Plan.Plan}
use Rattle.project_state.specs.{declared.track.Track.Track, Meaning.meant, Meaning.point_blocks, Tracks.AreAbove}
use Rattle.record_body.specs.{Saved.current_tracks, Valid.AllValidTracks}
use Rattle.layout_uses.specs.Drawing.{HasNumbers}
use Rattle.editor_state.specs.{Core.Core, declared.planned.Planned.Planned, Edits.AreAmong, Edits.alone, Edits.beside}
use Rattle.editor_imports.specs.declared.growing.Growing.{Growing}
use Rattle.pcm_base.specs.declared.refusal.Refusal.TheVariants as refusal

-- ---- pieces of one channel, and of all

-- a piece of a channel's samples, as a piece of all, where this many stand before the channel's
abbrev pub piece_behind : ℕ → Piece → Piece
piece_behind skip (Old b from to) = Old b from to
piece_behind skip (Scaled b from to gain) = Scaled b from to gain
piece_behind skip (Zero len) = Zero len
piece_behind skip (Given from to) = Given (from + skip) (to + skip)

abbrev pub block_behind : ℕ → NewBlock → NewBlock
block_behind skip b = record b { pieces = map (piece_behind skip) b.pieces }

-- its places can be counted
abbrev pub FitsBehind : ℕ → Piece → Type 0
FitsBehind skip (Old b from to) = Unit {0}
FitsBehind skip (Scaled b from to gain) = Unit {0}
FitsBehind skip (Zero len) = Unit {0}
FitsBehind skip (Given from to) = (from + skip < 2 ^ 64) × (to + skip < 2 ^ 64)

abbrev pub AllFitBehind : ℕ → List NewBlock → Type 0
AllFitBehind skip bs = AllByRecursion (λ (b : NewBlock). AllByRecursion (FitsBehind skip) b.pieces) bs

-- ---- one channel

-- The plan of a new track of this many of the samples that are brought, from a place among them on.
pub record IsChannelPlan (from count m next : ℕ) (p : Plan) : Type 0 where
  pub plan : IsPlan (record { block_size = m; next = next }) [] (from + count) p
  pub means : (src : Sources) → AreWritten src p.makes
      → layout_cells src p.layout ≡ as_cells (stretch src.given from count)
  pub few : length p.makes ≤ blocks_of_samples m count
  pub layout : IsLayout p.layout

-- a track that is new, with these clips
abbrev pub track_with : (id number : ℕ) → List Clip → Track
track_with id number layout =
    record { id = id; gain = UNITY_GAIN; side = Both; mute = false; number = number; layout = layout }

-- ---- all channels

abbrev pub total_of : List ℕ → ℕ
total_of [] = 0
total_of (n ∷ ns) = n + total_of ns

-- this many samples each, from a place on
abbrev pub parts_from : (ℕ → ℤ) → ℕ → List ℕ → List (List ℤ)
parts_from given from [] = []
parts_from given from (n ∷ ns) = stretch given from n ∷ parts_from given (from + n) ns

-- Tracks for channels of this many samples each stand after those of a studio's project, and the blocks that are to be
-- made for them have the ids from its next one on. The first new track has its next track id.
pub record AreGrown {D : Type 0} (s : Core D) (counts : List ℕ) (g : Growing) : Type 0 where
  pub news : List Track
  pub point : g.point ≡ current_tracks s.history ++ news
  pub ids : AreAbove s.next_track news
  pub many : length news ≡ length counts
  pub valid : AllValidTracks s.block_size (s.next_block + length g.makes.items) (s.next_track + length counts) news
  pub new : AreNew s.block_size s.next_block g.makes.items
  pub origin : AllNewFrom [] g.brought g.makes.items
  pub names : AreAmong (map ref_of g.makes.items) (point_blocks news)
  pub used : AreAmong (point_blocks news) (map ref_of g.makes.items)
  pub few : length g.makes.items ≤ blocks_of_tracks (length counts) + g.brought / s.block_size
  pub next_is : g.next ≡ s.next_block + length g.makes.items
  pub brought : g.brought ≡ total_of counts
  pub number_is : g.number ≡ s.next_layout + length counts
  pub layouts : HasNumbers (current_tracks s.history) s.next_layout g.point g.number
  pub means : (block : ℕ → ℕ → ℤ) (given : ℕ → ℤ) → AreWritten (beside block given) g.makes.items
      → meant (alone block) news ≡ channel_tracks s.next_track (parts_from given 0 counts)

-- a track for a channel of this many samples comes after the others
pub record AddsChannel (m id count : ℕ) (old new : Growing) : Type 0 where
  pub plan : Plan
  pub is : IsChannelPlan old.brought count m old.next plan
  pub point : new.point ≡ old.point ++ track_with id old.number plan.layout ∷ []
  pub makes : new.makes.items ≡ old.makes.items ++ plan.makes
  pub next : new.next ≡ plan.next
  pub brought : new.brought ≡ old.brought + count
  pub number : new.number ≡ old.number + 1

-- the plan of a studio's project that has grown by a track for each channel
pub record IsChannelsPlan {D : Type 0} (s : Core D) (counts : List ℕ) (p : Planned) : Type 0 where
  pub grown : Growing
  pub are : AreGrown s counts grown
  pub point_is : p.point ≡ grown.point
  pub makes_is : p.makes ≡ grown.makes.items
  pub next_is : p.next ≡ grown.next
  pub tracks_is : p.tracks ≡ length counts
  pub layouts_is : p.layouts ≡ length counts
  pub kept_is : p.kept ≡ record { front = 0; back = 0 }

-- what refuses new tracks of this many samples each in a project of this many tracks
abbrev pub channels_refusal : ℕ → List ℕ → Option Refusal
channels_refusal tracks counts =
    (refused_if (nat_lt MAX_TRACKS (tracks + length counts)) refusal.TrackLimit) otherwise (length_limit counts)
