-- What one call does, by another premise than that the disk holds the studio: where blocks are made before the call's
-- record, that the disk held it before the first of them.
use Rattle.editor_state.proofs.Common.{rules, ◌≡◌, ℕ, ◌-◌, [], None, IsSome, Result, IfErr, IfOk, Reply, Call}
use Rattle.editor_state.proofs.Common.{SoundMove, Refusal, Needs, outside, Answers, Changed, Ghosts, EachNow, EachSince}
use Rattle.editor_state.proofs.Common.{Keeps, CountsIds, Left, Stops, Untouched, KeepsOneOf, Took, asks, number_behind}
use Rattle.editor_state.proofs.Common.{with_sound, Core, Records, NamesGiven, Needed, Purges, IsHeld, IsStudio, shown}
use Rattle.editor_state.proofs.Common.{studio_of}
use Rattle.std.proofs.Common.{OnErr}
use Rattle.disk_model.proofs.Frames.{changed_wider}
use Rattle.editor_state.specs.{Packing.packed_by}
use Rattle.editor_state.proofs.Calls.OtherFiles.{Leaving, others_more}
use Rattle.editor_state.proofs.Calls.FileRemovals.{PacksNone, RemovesNone, frees_none}

-- as `Took` of a call that removes no file, where `Has` stands for that the disk holds the studio; but for what is left
-- of it
pub record TookWhere {D : Type 0} (Has : Type 0) (disk : Ghosts D) (old : Core D) (call : Call) (sound : SoundMove)
    (told : Result Reply Refusal) (new : Core D) : Type 0 where
  pub studio : IsStudio disk new
  pub held : Has → IsHeld disk new
  pub step : Has → Answers (studio_of disk old) call sound told (studio_of disk new)
  pub any_moment : old.stopped ≡ None → Has
      → EachSince disk old.store new.store (KeepsOneOf (studio_of disk old) call sound)
  pub refused : old.stopped ≡ None → Has → new.stopped ≡ None
      → OnErr told (EachSince disk old.store new.store (λ c. Keeps c (shown (studio_of disk old))))
  pub now : new.stopped ≡ None → Has → EachNow disk new.store (λ c. Keeps c (shown (studio_of disk new)))
  pub number : new.commit_number ≡ number_behind told call old.commit_number
  pub rests : IsSome old.stopped → new ≡ record old { pins = new.pins; uses = new.uses; counts = new.counts }
  pub len : ℕ
  pub needs : Has → (blocks : ℕ) × Needs (outside (studio_of disk old) sound) (studio_of disk old) call blocks len
  pub records : Records old told new len
  pub purges : Purges old.history call told
  pub changed : Changed disk (Leaving old.next_block new.next_block)
      (asks (with_sound call sound told) (disk.reads old.store old.file) old.block_size
      (new.next_block - old.next_block) len (packed_by old call))
      old.store new.store

pub took_so : {D : Type 0} (disk : Ghosts D) (old : Core D) (call : Call) (sound : SoundMove)
    (told : Result Reply Refusal) (new : Core D) → TookWhere (IsHeld disk old) disk old call sound told new
    → RemovesNone call → PacksNone call → CountsIds old [] new → IfOk told (λ r. NamesGiven old new)
    → IfErr told (Needed disk old call sound) → Untouched disk old call told new
    → Stops disk old told new → IfErr told (Left disk old new)
    → Took disk old (with_sound call sound told) new
took_so disk old call sound told new took none plain ids given needed untouched stops left =
    search (rules, changed_wider, others_more, frees_none)
