-- What a call does that may name a sound of a vault.
use Rattle.std.specs.Prelude.{◌≡◌, ◌⊎◌, ◌<◌, ℕ, Bool, IsTrue, IsSome, Option, Some, None, List, Result, Ok, Err, IfErr}
use Rattle.std.specs.Prelude.{IfOk, ◌-◌}
use Rattle.pcm_base.specs.{declared.answer.Answer.Answer, declared.answer.Reply.Reply, declared.command.Call.Call}
use Rattle.pcm_base.specs.{declared.command.Call.TheVariants.Line, declared.command.Command.TheVariants.Import}
use Rattle.pcm_base.specs.{declared.entry.SoundMove.SoundMove, declared.refusal.Refusal.Refusal}
use Rattle.pcm_base.specs.{declared.wav.WavFault.TheVariants.Truncated, Outside.Sounds, Run.Heard, Run.name_in}
use Rattle.disk_model.specs.{Frames.Changed, declared.store.Store.Ghosts}
use Rattle.editor_state.specs.Left.{CountsIds, Left, LeavesOthers, MayRemove, Stops, Untouched}
use Rattle.editor_state.specs.Took.{Exchange, Took, asks, exchange_of, number_behind, silent, with_sound}
use Rattle.editor_state.specs.{Core.Core, Exports.moved_from, Vaults.IsCutShort, Vaults.left_as, Packing.packed_by}
use Rattle.editor_state.specs.{Purges.Purges, Records.Records, Removals.Frees, Spent.NamesGiven, Studios.IsStudio}
use Rattle.pcm_base.specs.declared.answer.Reply.TheVariants as reply
use Rattle.pcm_base.specs.declared.refusal.Refusal.TheVariants as refusal

-- what becomes of the sound that a call names, where a vault has these sounds before it and after it
abbrev pub move_of : Option (List ℕ) → Sounds → Sounds → SoundMove
move_of None old new = silent
move_of (Some name) old new = moved_from (old name) (new name)

-- the vault tells its bytes, where the call names a sound
abbrev pub IsTold : Call → Bool → Type 0
IsTold call tells = IsSome (name_in call) → IsTrue tells

-- What holds of a call whatever disk and vault tell, and whatever becomes of a sound that it names: the studio is one
-- still, its commit number is that after the answer, one that had stopped does nothing but give a pin back, no other
-- file changes, no file goes but those that the call frees, a purge to a size answers as many points as have to go, and
-- a refusal leaves what was there.
pub record Lasts {D : Type 0} (disk : Ghosts D) (old : Core D) (exchange : Exchange) (new : Core D) : Type 0 where
  pub studio : IsStudio disk new
  pub number : new.commit_number ≡ number_behind exchange.told exchange.call old.commit_number
  pub rests : IsSome old.stopped → new ≡ record old { pins = new.pins; uses = new.uses; counts = new.counts }
  pub len : ℕ
  pub records : Records old exchange.told new len
  pub given : IfOk exchange.told (λ r. NamesGiven old new)
  pub changed : Changed disk (LeavesOthers old.next_block new.next_block (MayRemove exchange.call old.counts))
      (asks exchange (disk.reads old.store old.file) old.block_size (new.next_block - old.next_block) len
      (packed_by old exchange.call))
      old.store new.store
  pub frees : Frees disk old exchange.call exchange.told exchange.removed new
  pub ids : CountsIds old exchange.removed new
  pub purges : Purges old.history exchange.call exchange.told
  pub untouched : Untouched disk old exchange.call exchange.told new
  pub stops : Stops disk old exchange.told new
  pub left : IfErr exchange.told (Left disk old new)

-- The span of a call, or of many: the studio before it and after it, whether a vault tells its bytes, and the vault's
-- sounds before it and after it.
pub record Span (D : Type 0) : Type 0 where
  pub old : Core D
  pub new : Core D
  pub tells : Bool
  pub old_sounds : Sounds
  pub new_sounds : Sounds

-- a span by its parts
abbrev pub spanned : {D : Type 0} → Bool → Core D → Core D → Sounds → Sounds → Span D
spanned tells old new old_sounds new_sounds =
    record { old = old; new = new; tells = tells; old_sounds = old_sounds; new_sounds = new_sounds }

-- what becomes of the sound that a call names, in its span
abbrev pub sound_moved : {D : Type 0} → Span D → Option (List ℕ) → SoundMove
sound_moved span name = move_of name span.old_sounds span.new_sounds

-- a call in its span, and what comes of it
abbrev pub exchange_over : {D : Type 0} → Span D → Call → Result Reply Refusal → List ℕ → Exchange
exchange_over span call told removed = exchange_of call (sound_moved span (name_in call)) told removed

-- An import, whatever the vault reports: what is added are the tracks of some bytes, and a reason is that of some
-- sound, or of one that is cut short; of such a one fewer bytes came than it should have.
pub record Imported {D : Type 0} (disk : Ghosts D) (old : Core D) (name : List ℕ) (told : Result Reply Refusal)
    (new : Core D) : Type 0 where
  pub some : IfOk told (λ r. (bytes : List ℕ)
      × Took disk old (with_sound (Line (Import name)) (left_as (Some bytes)) told) new)
  pub reason : IfErr told (λ why. IsCutShort why ⊎ ((sound : Option (List ℕ))
      × Took disk old (with_sound (Line (Import name)) (left_as sound) told) new))
  pub short : (want have : ℕ) → IfErr told (λ why. why ≡ refusal.BadWav (Truncated want have) → have < want)

-- One call, over a vault: where the vault tells its bytes it is a step, of which the vault's move is a part.
pub record TookOver {D : Type 0} (disk : Ghosts D) (span : Span D) (call : Call) (told : Result Reply Refusal)
    : Type 0 where
  -- the ids of the blocks whose files went
  pub removed : List ℕ
  pub took : IsTold call span.tells → Took disk span.old (exchange_over span call told removed) span.new
  pub heard : IsTold call span.tells
      → Heard (name_in call) (sound_moved span (name_in call)) span.old_sounds span.new_sounds
  pub lasts : Lasts disk span.old (exchange_over span call told removed) span.new
  -- and of an import this, where the vault does not
  pub imported : (name : List ℕ) → call ≡ Line (Import name) → Imported disk span.old name told span.new

-- an answer as what a line gets: the commit number, and the reply or why there is none
abbrev pub reply_of : Result Reply Refusal → Reply
reply_of (Ok r) = r
reply_of (Err why) = reply.Refused why

-- both are answers, or both tell the same reason
abbrev pub EndsAlike : {A B : Type 0} → Result A Refusal → Result B Refusal → Type 0
EndsAlike (Ok a) (Ok b) = Unit {0}
EndsAlike (Ok a) (Err why) = ⊥
EndsAlike (Err why) (Ok b) = ⊥
EndsAlike (Err why) (Err other) = other ≡ why

-- A line carried out or refused: the answer has the commit number after it and its reply, and the result says whether
-- it was carried out.
pub record Applies {D R : Type 0} (disk : Ghosts D) (span : Span D) (call : Call) (result : Result R Refusal)
    (answer : Answer) : Type 0 where
  pub told : Result Reply Refusal
  pub over : TookOver disk span call told
  pub commit : answer.commit ≡ span.new.commit_number
  pub reply : answer.reply ≡ reply_of told
  pub ends : EndsAlike told result
