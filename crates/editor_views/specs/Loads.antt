-- A pin that is loaded.
use Rattle.std.specs.Prelude.{◌≡◌, ℕ, ◌-◌, ◌≤◌, min, List, length, Some, Result, Err, IfOk}
use Rattle.disk_model.specs.declared.store.Store.{Ghosts}
use Rattle.pcm_base.specs.{declared.command.Call.TheVariants.LoadPin, declared.refusal.Refusal.Refusal}
use Rattle.pcm_base.specs.{declared.refusal.Refusal.TheVariants.NoMemory}
use Rattle.project_state.specs.{declared.track.Track.Track, Meaning.meant}
use Rattle.sample_block.specs.Sources.{sources_of}
use Rattle.mixdown.specs.{declared.loaded.Loaded.Loaded, Loads.IsLoaded, Loads.Shows, Loads.tracks_in}
use Rattle.mix_reader.specs.Tracks.{mix_length_of}
use Rattle.editor_state.specs.{Core.Core, Reads.Looks, Studios.IsHeld, Took.Took, Took.quietly, Took.as_reply}
use Rattle.editor_views.specs.Pins.{MayFind}
use Rattle.pcm_base.specs.declared.answer.Reply.TheVariants as reply

-- what is asked: the pin, the place, and how many frames at most
pub record Ask : Type 0 where
  pub pin : ℕ
  pub from : ℕ
  pub most : ℕ

-- Of the pin's project this many frames are loaded, if there are as many. If the disk holds the studio, they are those of
-- what its tracks mean.
pub record LoadsPin {D : Type 0} (disk : Ghosts D) (s : Core D) (ask : Ask) (frames : ℕ) (loaded : Loaded) : Type 0
  where
    pub point : List Track
    pub found : MayFind s.pins ask.pin (Some point)
    pub count : frames ≡ min ask.most (mix_length_of point - ask.from)
    pub len : loaded.len ≡ frames
    pub valid : IsLoaded loaded
    pub shows : IsHeld disk s → Shows ask.from (meant (sources_of (disk.reads s.store)) point) loaded

-- This many frames are loaded, no more than were asked for. Of no track there is no frame.
pub record HasLoaded (most frames : ℕ) (loaded : Loaded) : Type 0 where
  pub len : loaded.len ≡ frames
  pub few : frames ≤ most
  pub valid : IsLoaded loaded
  pub silent : length loaded.gains.items ≡ 0 → frames ≡ 0

-- A call that loads a pin: it only looks. Its reply is what was loaded. If then there is no memory for the reply, it is
-- a step too.
pub record Loads {D : Type 0} (disk : Ghosts D) (old : Core D) (ask : Ask) (told : Result ℕ Refusal) (loaded : Loaded)
    (new : Core D) : Type 0 where
  pub looks : Looks disk old (LoadPin ask.pin ask.from ask.most)
      (as_reply (λ _. reply.Loaded (tracks_in loaded)) told) new
  pub loads : IfOk told (λ count. LoadsPin disk old ask count loaded)
  pub has : IfOk told (λ count. HasLoaded ask.most count loaded)
  pub wants : IfOk told (λ _. Took disk old (quietly (LoadPin ask.pin ask.from ask.most) (Err NoMemory)) new)
