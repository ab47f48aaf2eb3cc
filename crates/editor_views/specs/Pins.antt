-- Pins that come and go.
use Rattle.std.specs.Prelude.{◌≡◌, ◌≢◌, ℕ, ◌+◌, Option, Some, None, List, [], ◌∷◌, ◌++◌, Result, MatchResult}
use Rattle.std.specs.List.{AllByRecursion}
use Rattle.pcm_base.specs.{declared.refusal.Refusal.Refusal, declared.refusal.Refusal.TheVariants.NoPin}
use Rattle.project_state.specs.declared.track.Track.{Track}
use Rattle.record_body.specs.Saved.{current_tracks}
use Rattle.block_cache.specs.Caches.{Entries}
use Rattle.mix_reader.specs.Heard.{HasHeard}
use Rattle.editor_state.specs.{Core.Core, declared.pin.Pin.Pin}

-- the pin with this number is taken out of the others
pub record TakesPin (old new : List Pin) (number : ℕ) (pin : Pin) : Type 0 where
  pub front : List Pin
  pub back : List Pin
  pub before : old ≡ front ++ pin ∷ back
  pub after : new ≡ front ++ back
  pub is : pin.number ≡ number

-- no pin has this number
abbrev pub LacksPin : ℕ → List Pin → Type 0
LacksPin number pins = AllByRecursion (λ (p : Pin). p.number ≢ number) pins

-- what was taken, if anything
abbrev pub MayTake : List Pin → List Pin → ℕ → Option Pin → Type 0
MayTake old new number (Some pin) = TakesPin old new number pin
MayTake old new number None = (new ≡ old) × LacksPin number old

-- the pin that was asked for, or none
abbrev pub MayFind : List Pin → ℕ → Option (List Track) → Type 0
MayFind pins number (Some point) = (front : List Pin) × (back : List Pin)
    × (pins ≡ front ++ record { number = number; point = point } ∷ back)
MayFind pins number None = LacksPin number pins

-- a pin has the number, and the cache has all pages of its tracks that are heard, from one place to another
pub record HasPin (c : Entries) (pins : List Pin) (number from to : ℕ) : Type 0 where
  pub there : LacksPin number pins → ⊥
  pub heard : (point : List Track) → MayFind pins number (Some point) → HasHeard c from to point

-- ---- what changes, whatever the disk tells

-- the current project after the pins by the next number, or nothing
abbrev pub AnswersPin : {D : Type 0} → Core D → Result ℕ Refusal → Core D → Type 0
AnswersPin old result new = MatchResult result
    (λ n. (n ≡ old.next_pin) × (new ≡ record old {
      pins = old.pins ++ record { number = old.next_pin; point = current_tracks old.history } ∷ [];
      next_pin = old.next_pin + 1;
      uses = new.uses;
      counts = new.counts;
    }))
    (λ why. new ≡ old)

-- the pin of this number taken away, or nothing where there is none
abbrev pub AnswersUnpin : {D : Type 0} → Core D → ℕ → Result (Unit {0}) Refusal → Core D → Type 0
AnswersUnpin old number result new = MatchResult result
    (λ _. ((pin : Pin) × TakesPin old.pins new.pins number pin)
    × (new ≡ record old { pins = new.pins; uses = new.uses; counts = new.counts }))
    (λ why. (why ≡ NoPin number) × LacksPin number old.pins × (new ≡ old))
