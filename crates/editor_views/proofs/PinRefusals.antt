-- A call that only looks, refused as another one that asks as much.
use Rattle.std.proofs.Common.{rules}
use Rattle.editor_views.proofs.Common.{inl, inr, ℕ, Err, PinLen, ReadPin, Answers}
use Rattle.editor_views.proofs.Common.{BreaksOff, Call, Refusal, Files, Ghosts, Took, quietly}
use Rattle.editor_views.proofs.Common.{silent, Core, studio_of}
use Rattle.pcm_base.specs.Run.{Breaks}
use Rattle.editor_state.specs.Took.{KeepsOneOf}
use Rattle.model_laws.proofs.Answered.{answered_same}
use Rattle.editor_state.proofs.Refusals.CounterNumbers.{other_needed}
use Rattle.pcm_base.specs.declared.refusal.Refusal.TheVariants as refusal
use Rattle.pcm_base.specs.Studio as model

module _ {D : Type 0} (disk : Ghosts D) (s : Core D) (pin from count : ℕ) where
  abbrev t : model.Studio
  t = studio_of disk s

  abbrev read : Call
  read = ReadPin pin from count

  -- ---- of the call that asks how long a pin is

  module _ (why : Refusal) (new : Core D) (took : Took disk s (quietly (PinLen pin) (Err why)) new) where
    off : (u : model.Studio) → BreaksOff t (PinLen pin) silent u → BreaksOff t read silent u
    off u b = search rules

    breaks : (e : Refusal) (u : model.Studio) → Breaks t (PinLen pin) silent e u → Breaks t read silent e u
    breaks (refusal.Damaged file at want have) u b = search (rules, off)
    breaks refusal.DiskFault u b = record { breaks = off u b.breaks; cause = b.cause }
    breaks refusal.VaultFault u b = search (rules, off)
    breaks refusal.NoMemory u b = b
    breaks e u b = absurd b

    answers : (u : model.Studio) → Answers t (PinLen pin) silent (Err why) u → Answers t read silent (Err why) u
    answers u (inl r) = inl (search rules)
    answers u (inr (inl left)) = let no : ⊥ = cc left.line in absurd no
    answers u (inr (inr b)) = inr (inr (breaks why u b))

    still : (c : Files) → KeepsOneOf t (PinLen pin) silent c → KeepsOneOf t read silent c
    still c k = search (rules, inl, answered_same)

    pub len_refused : Took disk s (quietly read (Err why)) new
    len_refused = search (rules, answers, still, other_needed, took.step, took.any_moment)

  -- ---- of the same call for fewer frames

  module _ (n : ℕ) (why : Refusal) (new : Core D) (took : Took disk s (quietly (ReadPin pin from n) (Err why))
      new) where
    off_fewer : (u : model.Studio) → BreaksOff t (ReadPin pin from n) silent u → BreaksOff t read silent u
    off_fewer u b = search rules

    breaks_fewer : (e : Refusal) (u : model.Studio) → Breaks t (ReadPin pin from n) silent e u
        → Breaks t read silent e u
    breaks_fewer (refusal.Damaged file at want have) u b = search (rules, off_fewer)
    breaks_fewer refusal.DiskFault u b = record { breaks = off_fewer u b.breaks; cause = b.cause }
    breaks_fewer refusal.VaultFault u b = search (rules, off_fewer)
    breaks_fewer refusal.NoMemory u b = b
    breaks_fewer e u b = absurd b

    answers_fewer : (u : model.Studio) → Answers t (ReadPin pin from n) silent (Err why) u
        → Answers t read silent (Err why) u
    answers_fewer u (inl r) = inl (search rules)
    answers_fewer u (inr (inl left)) = let no : ⊥ = cc left.line in absurd no
    answers_fewer u (inr (inr b)) = inr (inr (breaks_fewer why u b))

    still_fewer : (c : Files) → KeepsOneOf t (ReadPin pin from n) silent c → KeepsOneOf t read silent c
    still_fewer c k = search (rules, inl, answered_same)

    pub read_refused : Took disk s (quietly read (Err why)) new
    read_refused = search (rules, answers_fewer, still_fewer, other_needed, took.step, took.any_moment)
