-- A sum more of a list is written.
use Rattle.mixdown.proofs.Common.{◌≡◌, ◌≤◌, ◌<◌, ◌+◌, ◌^◌, ℕ, ℤ, pos, List, length, ap, ◌∙◌, arith, ◌+ℤ◌, nat_abs}
use Rattle.mixdown.proofs.Common.{sum_in}
use Rattle.std.proofs.lemmas.List.{get_or-set_same, get_or-set_other}
use borrow.Author.Count.{below_more}
use lib.ListN.{set}

pub added_more : (f : ℕ → ℤ) (old now : List ℤ) (k : ℕ) (v : ℤ) → k < length now → v ≡ sum_in now k +ℤ f k
    → ((j : ℕ) → j < k → sum_in now j ≡ sum_in old j +ℤ f j) → ((j : ℕ) → k ≤ j → sum_in now j ≡ sum_in old j)
    → (j : ℕ) → j < k + 1 → sum_in (set now k v) j ≡ sum_in old j +ℤ f j
added_more f old now k v lt is below above =
    below_more (λ j. sum_in (set now k v) j ≡ sum_in old j +ℤ f j) k
    (λ j h. get_or-set_other now k j v (pos 0) (omega arith) ∙ below j h)
    (get_or-set_same now k v (pos 0) lt ∙ is ∙ ap (λ (s : ℤ). s +ℤ f k) (above k (omega arith)))

pub grown_more : (old now : List ℤ) (k : ℕ) (v : ℤ) → k < length now → nat_abs v ≤ nat_abs (sum_in now k) + 2 ^ 19
    → ((j : ℕ) → j < k → nat_abs (sum_in now j) ≤ nat_abs (sum_in old j) + 2 ^ 19)
    → ((j : ℕ) → k ≤ j → sum_in now j ≡ sum_in old j)
    → (j : ℕ) → j < k + 1 → nat_abs (sum_in (set now k v) j) ≤ nat_abs (sum_in old j) + 2 ^ 19
grown_more old now k v lt is below above =
    below_more (λ j. nat_abs (sum_in (set now k v) j) ≤ nat_abs (sum_in old j) + 2 ^ 19) k
    (λ j h. let same = get_or-set_other now k j v (pos 0) (omega arith) in rw same (below j h))
    (let same = get_or-set_same now k v (pos 0) lt in let here = above k (omega arith) in
    rw same (omega (arith, is, ap nat_abs here)))

pub kept_more : (old now : List ℤ) (k : ℕ) (v : ℤ) → ((j : ℕ) → k ≤ j → sum_in now j ≡ sum_in old j)
    → (j : ℕ) → k + 1 ≤ j → sum_in (set now k v) j ≡ sum_in old j
kept_more old now k v above j h = get_or-set_other now k j v (pos 0) (omega arith) ∙ above j (omega arith)
