-- Reading as many frames of a pin as there are, up to a number, is reading that number.
use Rattle.std.proofs.Common.{rules}
use Rattle.editor_views.proofs.Common.{◌≡◌, inl, inr, ℕ, ◌-◌, min, length-drop, take, drop, Some}
use Rattle.editor_views.proofs.Common.{Ok, same_Some, PinLen, ReadPin, mix_of, mix_length, Project, CarriesOut}
use Rattle.editor_views.proofs.Common.{Files, Ghosts, length_mix, Core, IsHeld, studio_of, Took, quietly, silent}
use Rattle.pcm_base.specs.{declared.answer.Reply.Reply}
use Rattle.editor_state.specs.Took.{KeepsOneOf}
use Rattle.editor_views.proofs.MixViews.{take_few}
use Rattle.pcm_base.specs.declared.answer.Reply.TheVariants as reply
use Rattle.pcm_base.specs.Studio as model

abbrev frames_in : Reply → ℕ
frames_in (reply.Length n) = n
frames_in r = 0

module _ {D : Type 0} (disk : Ghosts D) (s : Core D) (pin from count len n : ℕ) (few : n ≡ min count (len - from))
    (measured : Took disk s (quietly (PinLen pin) (Ok (reply.Length len))) s) where
  abbrev t : model.Studio
  t = studio_of disk s

  long : IsHeld disk s → (p : Project) → t.state.pins pin ≡ Some p → len ≡ mix_length p
  long held p found = search (rules, same_Some, measured.step)

  same : IsHeld disk s → (p : Project) → t.state.pins pin ≡ Some p
      → take n (drop from (mix_of p)) ≡ take count (drop from (mix_of p))
  same held p found = search (rules, take_few, long, length-drop, length_mix)

  carries : IsHeld disk s → (r : Reply) (u : model.Studio) → CarriesOut t (ReadPin pin from n) silent r u
      → CarriesOut t (ReadPin pin from count) silent r u
  carries held r u c = search (rules, same)

  still : IsHeld disk s → (c : Files) → KeepsOneOf t (ReadPin pin from n) silent c
      → KeepsOneOf t (ReadPin pin from count) silent c
  still held c (inl old) = inl old
  still held c (inr flight) = inr (search (rules, carries))

  pub read_as_many : (r : Reply) (new : Core D) → Took disk s (quietly (ReadPin pin from n) (Ok r)) new
      → Took disk s (quietly (ReadPin pin from count) (Ok r)) new
  read_as_many r new took = search (rules, carries, still, took.step, took.any_moment)
