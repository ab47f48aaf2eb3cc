-- Several parts more of those that stand one after another.
use Rattle.record_body.proofs.Common.{◌≡◌, ℕ, zero, suc, ◌+◌, ◌-◌, ◌*◌, ◌≤◌, List, [], ◌∷◌, ◌++◌, None, Err, Bool, refl}
use Rattle.record_body.proofs.Common.{sym, ap, ap₂, ◌∙◌, arith, append_assoc, first_failed, BadBody, Finds, Limits}
use Rattle.record_body.proofs.Common.{block_tests, blocks_tests, block_at, blocks_at, lens_at, field, some_first}
use Rattle.record_body.proofs.Common.{none_first}
use Rattle.record_body.proofs.Steps.{Row, SoFar}
use Rattle.record_body.specs.declared.limits.BadBody.TheVariants as bad

-- lists of n parts, of 12 bytes each, that also depend on a sum of lengths
module _ {X : Type 0} (all : ℕ → ℕ → ℕ → List X) (one : ℕ → ℕ → List X) (len : ℕ → ℕ) (lens : ℕ → ℕ → ℕ)
    (none : (b a : ℕ) → all 0 b a ≡ []) (more : (n b a : ℕ) → all (suc n) b a ≡ one b a ++ all n (b + len a) (a + 12))
    (no_lens : (a : ℕ) → lens 0 a ≡ 0) (more_lens : (n a : ℕ) → lens (suc n) a ≡ len a + lens n (a + 12)) where
  alike : (m n b c a e : ℕ) → m ≡ n → b ≡ c → a ≡ e → all m b a ≡ all n c e
  alike m n b c a e p q r = ap₂ (λ k d. all k d a) p q ∙ ap (λ d. all n c d) r

  parts_split : (k n b a : ℕ) → k ≤ n → all n b a ≡ all k b a ++ all (n - k) (b + lens k a) (a + 12 * k)
  parts_split zero n b a h =
      alike n (n - 0) b (b + lens 0 a) a (a + 12 * 0) (omega arith) (omega (arith, no_lens a)) (omega arith)
      ∙ ap (λ ts. ts ++ all (n - 0) (b + lens 0 a) (a + 12 * 0)) (sym (none b a))
  parts_split (suc k) zero b a h = absurd (omega (arith, h))
  parts_split (suc k) (suc n) b a h =
      let some = all k (b + len a) (a + 12) in
      let rest = all (suc n - suc k) (b + lens (suc k) a) (a + 12 * suc k) in
      let last = alike (n - k) (suc n - suc k) (b + len a + lens k (a + 12)) (b + lens (suc k) a)
      (a + 12 + 12 * k) (a + 12 * suc k) (omega arith) (omega (arith, more_lens k a)) (omega arith) in
      more n b a
      ∙ ap (λ ts. one b a ++ ts)
      (parts_split k n (b + len a) (a + 12) (omega (arith, h)) ∙ ap (λ ts. some ++ ts) last)
      ∙ sym (append_assoc (one b a) some rest)
      ∙ ap (λ ts. ts ++ rest) (sym (more k b a))

module _ {X : Type 0} (r : Row X) (count first at left from next : ℕ) (done : List X)
    (far : SoFar r count first at left from next done) (k from' next' : ℕ)
    (tests : r.tests left from next ≡ r.tests k from next ++ r.tests (left - k) from' next') where
  -- k parts more pass, and have their values
  pub some_next : r.values left next ≡ r.values k next ++ r.values (left - k) next' → (xs done' : List X)
      → first_failed (r.tests k from next) ≡ None → xs ≡ r.values k next → done' ≡ done ++ xs
      → SoFar r count first at (left - k) from' next' done'
  some_next values xs done' pass is added = record {
    values = ap (λ (ys : List X). ys ++ r.values (left - k) next') added
        ∙ append_assoc done xs (r.values (left - k) next')
        ∙ ap (λ (ys : List X). done ++ ys)
        (ap (λ (ys : List X). ys ++ r.values (left - k) next') is ∙ sym values)
        ∙ far.values;
    tests = sym (none_first (r.tests k from next) (r.tests (left - k) from' next') pass)
        ∙ ap first_failed (sym tests)
        ∙ far.tests;
  }

  -- one of the next k has none
  pub some_stop : {T U : Type 0} (P : T → Type 0) (Q : U → Type 0) (fault : BadBody)
      → Finds (r.tests k from next) P (Err fault) → Finds (r.tests count first at) Q (Err fault)
  some_stop P Q bad.NoMemory e = tt
  some_stop P Q (bad.Damaged d) e =
      sym far.tests ∙ ap first_failed tests ∙ some_first (r.tests k from next) (r.tests (left - k) from' next') d e

module _ (l : Limits) (several : Bool) (bytes : List ℕ) where
  pub tests_split : (k n before at : ℕ) → k ≤ n → blocks_tests l several n before at bytes
      ≡ blocks_tests l several k before at bytes
      ++ blocks_tests l several (n - k) (before + lens_at k at bytes) (at + 12 * k) bytes
  tests_split = parts_split (λ n b a. blocks_tests l several n b a bytes) (λ b a. block_tests l several b a bytes)
      (λ a. field (a + 8) 4 bytes) (λ n a. lens_at n a bytes) (λ b a. refl) (λ n b a. refl) (λ a. refl) (λ n a. refl)

pub blocks_split : (bytes : List ℕ) (k n at : ℕ) → k ≤ n
    → blocks_at n at bytes ≡ blocks_at k at bytes ++ blocks_at (n - k) (at + 12 * k) bytes
blocks_split bytes k n at = parts_split (λ m b a. blocks_at m a bytes) (λ b a. block_at a bytes ∷ [])
    (λ a. 0) (λ m a. 0) (λ b a. refl) (λ m b a. refl) (λ a. refl) (λ m a. refl) k n 0 at
