-- The pages that tracks which are heard want are there still.
use Rattle.mix_reader.proofs.Common.{◌≡◌, ℕ, zero, suc, ◌≤◌, false, List, [], ◌∷◌, drop, subst, Track, Entries}
use Rattle.mix_reader.proofs.Common.{SameCache, HasHeard, seen_part}
use Rattle.cell_reader.specs.Kept.{HasSeen}
use Rattle.cell_reader.proofs.KeptLaws.{seen_on}

-- in a cache of the same entries
pub heard_on : (a b : Entries) (from to : ℕ) (ts : List Track) → SameCache a b → HasHeard a from to ts
    → HasHeard b from to ts
heard_on a b from to [] same has = tt
heard_on a b from to (t ∷ ts) same has =
    (λ loud. seen_on a b from to t.layout same (has.0 loud), heard_on a b from to ts same has.1)

-- of a part of the places
pub heard_part : (c : Entries) (from to later sooner : ℕ) (ts : List Track) → from ≤ later → sooner ≤ to
    → HasHeard c from to ts → HasHeard c later sooner ts
heard_part c from to later sooner [] low high has = tt
heard_part c from to later sooner (t ∷ ts) low high has = (
  λ loud. seen_part c from to later sooner t.layout low high (has.0 loud),
  heard_part c from to later sooner ts low high has.1,
)

-- of the tracks that are left, and of one of them
heard_drop : (c : Entries) (from to i : ℕ) (ts : List Track) → HasHeard c from to ts → HasHeard c from to (drop i ts)
heard_drop c from to zero ts has = has
heard_drop c from to (suc i) [] has = has
heard_drop c from to (suc i) (t ∷ ts) has = heard_drop c from to i ts has.1

pub heard_at : (a b : Entries) (from to k : ℕ) (ts us : List Track) (t : Track) → drop k ts ≡ t ∷ us → SameCache a b
    → HasHeard a from to ts → t.mute ≡ false → HasSeen b from to t.layout
heard_at a b from to k ts us t e same has loud =
    seen_on a b from to t.layout same
    ((subst (λ (vs : List Track). HasHeard a from to vs) e (heard_drop a from to k ts has)).0 loud)
