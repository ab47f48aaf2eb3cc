-- The status 4 of a call of the word `run`, by the counts of faults of its devices.
use Rattle.session_run.proofs.Common.{◌≡◌, ◌⊎◌, inl, inr, refl, ℕ, ◌<◌, if◌then◌else◌, Bool, true, false, ◌||◌, nat_lt}
use Rattle.session_run.proofs.Common.{List, ◌∷◌, [], Option, Some, subst, lt-ltb, Rose, Ghosts, Words, Change, change}
use Rattle.session_run.proofs.Common.{HasCause, IsTry, OneRose, any_rose, FaultCounts, Met, ⊎_elim, ap}
use Rattle.session_run.specs.Promise.{AnyOf, fault_counts}
use Rattle.call_words.specs.declared.asked.Words.TheVariants as words

-- what the promise says of the status
pub record Counted {D : Type 0} (disk : Ghosts D) (m : Met D) : Type 0 where
  pub failed : AnyOf (λ c. c.before < c.now) (fault_counts disk m) → m.status ≡ 4
  pub status : m.status ≡ 4 → AnyOf (λ c. Rose c.before c.now) (fault_counts disk m)

-- a count is higher than before, or one of the rest is
higher : (old new : ℕ) {rest : Bool} {Rest : Type 0} → (Rest → rest ≡ true) → (old < new) ⊎ Rest
    → (nat_lt old new || rest) ≡ true
higher old new {rest} next (inl h) = ap (λ (b : Bool). b || rest) (lt-ltb old new h)
higher old new next (inr h) = by (nat_lt old new) (next h)
  where
    by : (b : Bool) {rest : Bool} → rest ≡ true → (b || rest) ≡ true
    by true is = refl
    by false is = is

module _ (old new : FaultCounts) where
  abbrev pub changes : List (Change ℕ)
  changes = change old.script new.script ∷ change old.out new.out ∷ change old.store new.store
      ∷ change old.vault new.vault ∷ change old.mic new.mic ∷ change old.speaker new.speaker ∷ []

  -- one is higher than before
  higher_rose : AnyOf (λ c. c.before < c.now) changes → any_rose old new ≡ true
  higher_rose = higher old.script new.script (higher old.out new.out (higher old.store new.store
      (higher old.vault new.vault (higher old.mic new.mic
      (λ h. ⊎_elim (λ x. lt-ltb old.speaker new.speaker x) (λ none. absurd none) h)))))

  rose_any : OneRose old new → AnyOf (λ c. Rose c.before c.now) changes
  rose_any (inl h) = inl h
  rose_any (inr (inl h)) = inr (inl h)
  rose_any (inr (inr (inl h))) = inr (inr (inl h))
  rose_any (inr (inr (inr (inl h)))) = inr (inr (inr (inl h)))
  rose_any (inr (inr (inr (inr (inl h))))) = inr (inr (inr (inr (inl h))))
  rose_any (inr (inr (inr (inr (inr h))))) = inr (inr (inr (inr (inr (inl h)))))

  -- the status of a call of `run`
  pub four_failed : (status other : ℕ) → status ≡ (if any_rose old new then 4 else other)
      → AnyOf (λ c. c.before < c.now) changes → status ≡ 4
  four_failed status other is rose =
      subst (λ (b : Bool). status ≡ (if b then 4 else other)) (higher_rose rose) is

  pub failed_four : (said : Option Words) (status : ℕ) → HasCause said old new status → (records plays : Bool)
      → said ≡ Some (words.Run records plays) → status ≡ 4 → AnyOf (λ c. Rose c.before c.now) changes
  failed_four said status cause records plays is four = by (cause four)
    where
      by : OneRose old new ⊎ IsTry said → AnyOf (λ c. Rose c.before c.now) changes
      by (inl h) = rose_any h
      by (inr h) = absurd (subst IsTry is h)
