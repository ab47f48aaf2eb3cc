-- What the thread that reads the mix has done.
use Rattle.std.specs.Prelude.{◌≡◌, ◌↔◌, ℕ, ◌^◌, ◌≤◌, List, [], ◌∷◌, ◌++◌, length, take, Option, Some, None}
use Rattle.pcm_base.specs.{declared.sound.Frame.Frame, declared.refusal.Refusal.Refusal}
use Rattle.edit_ports.specs.Answers.{AtEnd, NextAt, Reading, RefusedAt}
use Rattle.play_ring.specs.Ends.{sent, sounds, SameIn}
use Rattle.play_ring.specs.{declared.ends.PlayIn.PlayIn, declared.ends.Item.Item, declared.ends.Item.TheVariants.End}
use Rattle.player_threads.specs.declared.mix.Filled.{Filled}
use Rattle.edit_ports.specs.declared.frames.FrameGiver as giver

-- the first frames were sent so far, and no end mark
pub record Gave (shown : List Frame → Type 0) (sent : List Item) (from : ℕ) : Type 0 where
  pub frames : List Frame
  pub sent_is : sent ≡ sounds frames
  pub count : length frames ≡ from
  pub told : (all : List Frame) → shown all → frames ≡ take from all

-- Frames were sent and then the end mark: of those that are shown the first, and all where nothing was refused. Where a
-- read at this place was refused they are all that were read before it.
pub record Sends (shown : List Frame → Type 0) (sent : List Item) (refused : Option Refusal) (place : ℕ) : Type 0
  where
    pub frames : List Frame
    pub sent_is : sent ≡ sounds frames ++ End ∷ []
    pub told : (all : List Frame) → shown all → frames ≡ take (length frames) all
    pub small : length frames ≤ 2 ^ 32
    pub whole : refused ≡ None → (all : List Frame) → shown all → frames ≡ all
    pub given : (why : Refusal) → refused ≡ Some why → length frames ≡ place

-- how the reads of a mix ended: by one that gave fewer frames than it asked for, or by a refusal at this place
abbrev pub reads_to : Option Refusal → ℕ → Reading
reads_to None place = AtEnd
reads_to (Some why) place = RefusedAt place

-- The frames of a giver were sent. It was read from its first frame on, each time from where the read before ended, for
-- at most `most_frames` at once, up to the read that gave fewer or was refused, and no more. It shows what it showed,
-- and the refusal that is told is its own.
pub record Fills {V : Type 0} (givers : giver.Ghosts V) (giver : V) (input : PlayIn) (r : Filled V) : Type 0 where
  -- where the last read began
  pub place : ℕ
  pub sends : Sends (givers.shows giver) (sent r.input) r.refused place
  pub same : (all : List Frame) → givers.shows giver all ↔ givers.shows r.giver all
  pub cause : givers.refused r.giver ≡ r.refused
  pub goes : (first : V) → givers.follows first (NextAt 0) giver
      → givers.follows first (reads_to r.refused place) r.giver
  pub ring : SameIn input r.input
