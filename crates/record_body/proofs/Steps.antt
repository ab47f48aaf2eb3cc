-- One part more of those that stand one after another.
use Rattle.record_body.proofs.Common.{◌≡◌, ℕ, zero, suc, ◌+◌, ◌-◌, ◌<◌, List, [], ◌∷◌, ◌++◌, None, Some, Ok, Err}
use Rattle.record_body.proofs.Common.{none-some, IfOk, Option, Result, Bool, refl, sym, ap, ap₂, ◌∙◌, arith}
use Rattle.record_body.proofs.Common.{append_assoc, first_failed, Damaged, BadBody, Finds, BlockRef, Clip, Track}
use Rattle.record_body.proofs.Common.{all_diff_at, diff_at, diff_size, all_diff_tests, diff_tests, block_tests}
use Rattle.record_body.proofs.Common.{blocks_tests, clip_tests, clips_tests, track_tests, tracks_tests, block_at}
use Rattle.record_body.proofs.Common.{blocks_at, clip_at, clip_end_at, clip_size, clips_at, track_at, tracks_at, Limits}
use Rattle.record_body.proofs.Common.{track_size, field, some_first, none_first}
use Rattle.std.proofs.Common.{MatchResult, append-nil}
use Rattle.record_body.specs.declared.limits.BadBody.TheVariants as bad

-- the tests of n parts are those of one, and of those after it
module _ (all rest : ℕ → List Damaged) (one : List Damaged) (law : (j : ℕ) → all (suc j) ≡ one ++ rest j) where
  pub step_passes : (n k : ℕ) → 0 < n → k ≡ n - 1 → first_failed one ≡ None
      → first_failed (rest k) ≡ first_failed (all n)
  step_passes zero k some e none = absurd (omega (arith, some))
  step_passes (suc n) k some e none = search (arith, none_first)

  pub step_fails : (n : ℕ) (d : Damaged) → 0 < n → first_failed one ≡ Some d → first_failed (all n) ≡ Some d
  step_fails zero d some e = absurd (omega (arith, some))
  step_fails (suc n) d some e = ap first_failed (law n) ∙ some_first one (rest n) d e

  -- a reading of the first that has no value
  pub step_finds : {T U : Type 0} (P : T → Type 0) (Q : U → Type 0) (n : ℕ) (fault : BadBody) → 0 < n
      → Finds one P (Err fault) → Finds (all n) Q (Err fault)
  step_finds P Q n bad.NoMemory some e = tt
  step_finds P Q n (bad.Damaged d) some e = step_fails n d some e

-- the same of other tests that decide alike
pub finds_alike : {T U : Type 0} (P : T → Type 0) (Q : U → Type 0) (xs ys : List Damaged) (fault : BadBody)
    → first_failed xs ≡ first_failed ys → Finds xs P (Err fault) → Finds ys Q (Err fault)
finds_alike P Q xs ys bad.NoMemory same e = tt
finds_alike P Q xs ys (bad.Damaged d) same e = sym same ∙ e

-- what was found, in other words
module _ {T : Type 0} (tests : List Damaged) (P Q : T → Type 0) where
  pub finds_weaker : (r : Result T BadBody) → ((x : T) → first_failed tests ≡ None → P x → Q x) → Finds tests P r
      → Finds tests Q r
  finds_weaker (Ok x) more e = (e.0, more x e.0 e.1)
  finds_weaker (Err bad.NoMemory) more e = tt
  finds_weaker (Err (bad.Damaged d)) more e = e

  pub finds_ok : (r : Result T BadBody) → ((x : T) → first_failed tests ≡ None → P x → Q x) → Finds tests P r
      → IfOk r Q
  finds_ok (Ok x) more e = more x e.0 e.1
  finds_ok (Err fault) more e = tt

  -- where no test fails, only memory can lack
  pub finds_matches : (r : Result T BadBody) → first_failed tests ≡ None → ((x : T) → P x → Q x) → Finds tests P r
      → MatchResult r Q (λ e. e ≡ bad.NoMemory)
  finds_matches (Ok x) none more e = more x e.1
  finds_matches (Err bad.NoMemory) none more e = refl
  finds_matches (Err (bad.Damaged d)) none more e = absurd (none-some d (sym none ∙ e))

-- the same of tests that stand after others, which pass
pub finds_after : {T U : Type 0} (P : T → Type 0) (Q : U → Type 0) (head xs ys : List Damaged) (fault : BadBody)
    → first_failed head ≡ None → xs ≡ ys → Finds xs P (Err fault) → Finds (head ++ ys) Q (Err fault)
finds_after P Q head xs ys fault none same = search (arith, finds_alike, none_first)

-- n parts are one, and those after it
module _ {X : Type 0} (all rest : ℕ → List X) (one : X) (law : (j : ℕ) → all (suc j) ≡ one ∷ rest j) where
  pub step_adds : (done : List X) (n k : ℕ) → 0 < n → k ≡ n - 1 → (done ++ one ∷ []) ++ rest k ≡ done ++ all n
  step_adds done zero k some e = absurd (omega (arith, some))
  step_adds done (suc n) k some e = search (arith, append_assoc)

-- ---- parts that are read in a row

-- Tests and values of n parts, of which each stands after the one before. A part is tested by a number that those
-- before it give.
pub record Row (X : Type 0) : Type 0 where
  pub tests : ℕ → ℕ → ℕ → List Damaged
  pub test : ℕ → ℕ → List Damaged
  pub after : ℕ → ℕ → ℕ
  pub values : ℕ → ℕ → List X
  pub value : ℕ → X
  pub size : ℕ → ℕ

-- those so far have their values, and pass; those that are left decide
pub record SoFar {X : Type 0} (r : Row X) (count first at left from next : ℕ) (done : List X) : Type 0 where
  pub values : done ++ r.values left next ≡ r.values count at
  pub tests : first_failed (r.tests left from next) ≡ first_failed (r.tests count first at)

module _ {X : Type 0} (r : Row X) (count first at left from next : ℕ) (done : List X)
    (far : SoFar r count first at left from next done)
    (more_tests : (n : ℕ) → r.tests (suc n) from next
    ≡ r.test from next ++ r.tests n (r.after from next) (next + r.size next)) where
  -- one part more passes, and has its value
  pub row_next : ((n : ℕ) → r.values (suc n) next ≡ r.value next ∷ r.values n (next + r.size next))
      → (k from' next' : ℕ) (x : X) (done' : List X) → 0 < left → k ≡ left - 1
      → first_failed (r.test from next) ≡ None → r.value next ≡ x → r.after from next ≡ from'
      → next + r.size next ≡ next' → done' ≡ done ++ x ∷ [] → SoFar r count first at k from' next' done'
  row_next more_values k from' next' x done' some less pass is goes ends added = record {
    values = ap (λ (xs : List X). xs ++ r.values k next') added
        ∙ step_adds (λ j. r.values j next) (λ j. r.values j next') x
        (λ j. more_values j ∙ ap₂ (λ y a. y ∷ r.values j a) is ends) done left k some less ∙ far.values;
    tests = step_passes (λ j. r.tests j from next) (λ j. r.tests j from' next') (r.test from next)
        (λ j. more_tests j ∙ ap₂ (λ b a. r.test from next ++ r.tests j b a) goes ends) left k some less pass
        ∙ far.tests;
  }

  -- the next part has none
  pub row_stops : {T U : Type 0} (P : T → Type 0) (Q : U → Type 0) (fault : BadBody) → 0 < left
      → Finds (r.test from next) P (Err fault) → Finds (r.tests count first at) Q (Err fault)
  row_stops P Q fault some e = finds_alike Q Q (r.tests left from next) (r.tests count first at) fault far.tests
      (step_finds (λ j. r.tests j from next) (λ j. r.tests j (r.after from next) (next + r.size next))
      (r.test from next) more_tests P Q left fault some e)

-- where none is left
pub row_passes : {X : Type 0} (r : Row X) (count first at left from next : ℕ) (done : List X) → left ≡ 0
    → r.tests 0 from next ≡ [] → SoFar r count first at left from next done
    → first_failed (r.tests count first at) ≡ None
row_passes r count first at left from next done none no_tests far = search arith

pub row_values : {X : Type 0} (r : Row X) (count first at left from next : ℕ) (done : List X) → left ≡ 0
    → r.values 0 next ≡ [] → SoFar r count first at left from next done → done ≡ r.values count at
row_values {X} r count first at left from next done none no_values far = search (arith, append-nil)

module _ (l : Limits) (bytes : List ℕ) where
  abbrev pub blocks_row : Bool → Row BlockRef
  blocks_row several = record {
    tests = λ n from at. blocks_tests l several n from at bytes;
    test = λ from at. block_tests l several from at bytes;
    after = λ from at. from + field (at + 8) 4 bytes;
    values = λ n at. blocks_at n at bytes;
    value = λ at. block_at at bytes;
    size = λ at. 12;
  }

  abbrev pub clips_row : Row Clip
  clips_row = record {
    tests = λ n from at. clips_tests l n from at bytes;
    test = λ from at. clip_tests l from at bytes;
    after = λ from at. clip_end_at at bytes + 1;
    values = λ n at. clips_at n at bytes;
    value = λ at. clip_at at bytes;
    size = λ at. clip_size at bytes;
  }

  abbrev pub tracks_row : Row Track
  tracks_row = record {
    tests = λ n from at. tracks_tests l n from at bytes;
    test = λ from at. track_tests l from at bytes;
    after = λ from at. field at 8 bytes + 1;
    values = λ n at. tracks_at n at bytes;
    value = λ at. track_at at bytes;
    size = λ at. track_size at bytes;
  }

  abbrev pub diff_row : List Track → Row (Option Track)
  diff_row current = record {
    tests = λ n from at. all_diff_tests l current n from at bytes;
    test = λ from at. diff_tests l current from at bytes;
    after = λ from at. field at 8 bytes + 1;
    values = λ n at. all_diff_at current n at bytes;
    value = λ at. diff_at current at bytes;
    size = λ at. diff_size at bytes;
  }
