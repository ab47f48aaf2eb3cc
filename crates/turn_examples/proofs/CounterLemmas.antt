-- One raise more.
use Rattle.std.proofs.Common.{◌≡◌, ℕ, ◌+◌, List, [], ◌∷◌, ◌++◌, length, length-append, arith, ◌∙◌}
use Rattle.turn_examples.specs.Counters.{FoundFrom, IsRaised}
use Rattle.turn_examples.specs.{declared.counter.Counter.Counter, declared.counter.Increment.Increment}

FoundFrom-push : (n : ℕ) (raises : List Increment) (r : Increment) → FoundFrom n raises → r.found ≡ n + length raises
    → FoundFrom n (raises ++ r ∷ [])
FoundFrom-push n [] r found is = (omega (arith, is), tt)
FoundFrom-push n (x ∷ xs) r found is = (found.0, FoundFrom-push (n + 1) xs r found.1 (omega (arith, is)))

pub IsRaised-more : (start old new : Counter) (raises : List Increment) (r : Increment) → IsRaised start old raises
    → r.found ≡ old.count → new.count ≡ old.count + 1 → IsRaised start new (raises ++ r ∷ [])
IsRaised-more start old new raises r was found raised = record {
  count = omega (arith, was.count, raised, length-append raises (r ∷ []));
  found = FoundFrom-push start.count raises r was.found (found ∙ was.count);
}
