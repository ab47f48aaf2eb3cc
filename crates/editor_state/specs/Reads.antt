-- Calls that only look.
use Rattle.std.specs.Prelude.{◌≡◌, ℕ, ◌≤◌, Some, List, length, take, Result, IfOk, IfErr}
use Rattle.pcm_base.specs.{declared.answer.Reply.Reply, declared.command.Call.Call, declared.refusal.Refusal.Refusal}
use Rattle.clip_track.specs.declared.clips.Clip.{Clip}
use Rattle.disk_model.specs.{Frames.Kept, declared.store.Store.Ghosts}
use Rattle.envelope_view.specs.Answers.{IsUndamaged}
use Rattle.project_state.specs.{declared.track.Track.Track, Tracks.track_of}
use Rattle.editor_state.specs.{Adding.IsNoWant, Core.Core, Studios.IsHeld, Took.Took, Took.quietly, Took.as_reply}

-- A call that only looks: it is one step; whatever the disk tells, nothing of the studio changes but the pages that it
-- keeps, and nothing of its disk; and a disk that holds what the studio stands for shows no damaged file.
pub record Looks {D : Type 0} (disk : Ghosts D) (old : Core D) (call : Call) (told : Result Reply Refusal)
    (new : Core D) : Type 0 where
  pub took : Took disk old (quietly call told) new
  pub same : new ≡ record old { store = new.store; cache = new.cache }
  pub kept : Kept disk old.store new.store
  pub valid : IsHeld disk old → IfErr told IsUndamaged

-- a call that replies by what it put at the front of a buffer: the reply, the buffer after the call, and how much of
-- it is put there
pub record Seen (A : Type 0) : Type 0 where
  pub call : Call
  pub reply : List A → Reply
  pub out : List A
  pub count : Result ℕ Refusal

-- The same of such a call, which has no answer for want of memory.
pub record Sees {D A : Type 0} (disk : Ghosts D) (old : Core D) (seen : Seen A) (new : Core D) : Type 0 where
  pub looks : Looks disk old seen.call (as_reply (λ n. seen.reply (take n seen.out)) seen.count) new
  pub count : IfOk seen.count (λ n. n ≤ length seen.out)
  pub memory : IfErr seen.count IsNoWant

-- the layout of the track with this id
pub record HasLayout (id : ℕ) (ts : List Track) (layout : List Clip) : Type 0 where
  pub track : Track
  pub found : track_of id ts ≡ Some track
  pub is : layout ≡ track.layout
