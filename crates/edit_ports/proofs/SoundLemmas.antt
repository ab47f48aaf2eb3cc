-- Sounds by their names, of which one is changed.
use Rattle.std.proofs.Common.{◌≡◌, ℕ, List, [], ◌∷◌, length, refl, sym, ap, ◌∙◌, true, false, Option, Some, None, inl}
use Rattle.std.proofs.Common.{inr, ◌≢◌, if◌then◌else◌}
use Rattle.std.proofs.{lemmas.Bool.cases_Bool, lemmas.Slice.Eq.bytes_eq-Decides}
use Rattle.std.specs.Str.{bytes_eq}
use Rattle.pcm_base.specs.Outside.{SameElsewhere}
use Rattle.edit_ports.specs.Shelves.{Sound, held, with_sound, IsPlace}

same_name : (name : List ℕ) → bytes_eq name name ≡ true
same_name name = (bytes_eq-Decides name name).1 refl

other_name : (a b : List ℕ) → a ≢ b → bytes_eq a b ≡ false
other_name a b apart = elim (cases_Bool (bytes_eq a b)) [
  | inl hit ↦ absurd (apart ((bytes_eq-Decides a b).0 hit))
  | inr miss ↦ miss
]

-- sounds of which one is changed
pub held-with : (name bytes : List ℕ) (sounds : List Sound) → held (with_sound name bytes sounds) name ≡ Some bytes
held-with name bytes [] = rw (same_name name) refl
held-with name bytes (s ∷ more) = elim (cases_Bool (bytes_eq s.name name)) [
  | inl hit ↦ rw (hit, hit) refl
  | inr miss ↦ rw (miss, miss) (held-with name bytes more)
]

pub others-with : (name bytes : List ℕ) (sounds : List Sound)
    → SameElsewhere name (held sounds) (held (with_sound name bytes sounds))
others-with name bytes [] other apart = rw (other_name name other (λ (e : name ≡ other). apart (sym e))) refl
others-with name bytes (s ∷ more) other apart = elim (cases_Bool (bytes_eq s.name name)) [
  | inl hit ↦
      let unlike : bytes_eq s.name other ≡ false =
      other_name s.name other (λ (e : s.name ≡ other). apart (sym e ∙ (bytes_eq-Decides s.name name).0 hit)) in
      rw (hit, unlike) refl
  | inr miss ↦ rw miss (ap (λ (rest : Option (List ℕ)). if bytes_eq s.name other then Some s.bytes else rest)
      (others-with name bytes more other apart))
]

pub with-with : (name bytes before : List ℕ) (sounds : List Sound)
    → with_sound name bytes (with_sound name before sounds) ≡ with_sound name bytes sounds
with-with name bytes before [] = rw (same_name name) refl
with-with name bytes before (s ∷ more) = elim (cases_Bool (bytes_eq s.name name)) [
  | inl hit ↦ rw (hit, hit) refl
  | inr miss ↦ rw (miss, miss) (ap (λ (rest : List Sound). s ∷ rest) (with-with name bytes before more))
]

-- a sound with the bytes that it has
pub with-held : (name bytes : List ℕ) (sounds : List Sound) → held sounds name ≡ Some bytes
    → with_sound name bytes sounds ≡ sounds
with-held name bytes [] is = absurd (cc)
with-held name bytes (s ∷ more) is = elim (cases_Bool (bytes_eq s.name name)) [
  | inl hit ↦ let same : Some s.bytes ≡ Some bytes = rw hit at is in let e : bytes ≡ s.bytes = cc in rw (hit, e) refl
  | inr miss ↦
      let same : held more name ≡ Some bytes = rw miss at is in
      rw miss (ap (λ (rest : List Sound). s ∷ rest) (with-held name bytes more same))
]

pub IsPlace-push : (name : List ℕ) (sounds : List Sound) → held sounds name ≡ None
    → IsPlace name (with_sound name [] sounds) (length sounds)
IsPlace-push name [] none = same_name name
IsPlace-push name (s ∷ more) none = elim (cases_Bool (bytes_eq s.name name)) [
  | inl hit ↦ let absent : Some s.bytes ≡ None = rw hit at none in absurd (cc)
  | inr miss ↦ let absent : held more name ≡ None = rw miss at none in rw miss (miss, IsPlace-push name more absent)
]
