-- What the nodes of a tree say of its leaves.
use Rattle.std.proofs.Common.{◌≡◌, ◌≢◌, ◌⊎◌, inl, inr, ⊎_elim, ℕ, zero, suc, ◌+◌, ◌-◌, ◌*◌, ◌/◌, ◌%◌, ◌≤◌, ◌<◌, min}
use Rattle.std.proofs.Common.{Option, Some, None, List, length, drop, replicate, set, sym, ◌∙◌, ap, subst, arith}
use Rattle.std.proofs.Common.{length-drop}
use Rattle.std.proofs.lemmas.Bool.{cases_eq, cases_lt}
use Rattle.std.proofs.lemmas.List.{get_or-set_same, get_or-set_other, get_or-drop, get_or_default}
use Rattle.std.specs.Prelude.{IfSome, IsSomeAnd, Contains}
use Rattle.block_ledger.specs.Tree.{lesser, node, IsParent, IsTree}

-- every node but one is a parent
abbrev pub AllBut : ℕ → ℕ → List (Option ℕ) → Type 0
AllBut leaves gap nodes = (k : ℕ) → 1 ≤ k → k < leaves → k ≢ gap → IsParent nodes k

parent_same : (nodes : List (Option ℕ)) (i k : ℕ) (v : Option ℕ) → k ≢ i → 2 * k ≢ i → 2 * k + 1 ≢ i → IsParent nodes k
    → IsParent (set nodes i v) k
parent_same nodes i k v here left right is =
    rw (
      get_or-set_other nodes i k v None here,
      get_or-set_other nodes i (2 * k) v None left,
      get_or-set_other nodes i (2 * k + 1) v None right,
    ) is

-- a node that was made a parent leaves the one above it
pub node_written : (leaves i : ℕ) (nodes : List (Option ℕ)) (v : Option ℕ)
    → 1 ≤ i → i < length nodes → AllBut leaves i nodes → v ≡ lesser (node nodes (2 * i)) (node nodes (2 * i + 1))
    → AllBut leaves (i / 2) (set nodes i v)
node_written leaves i nodes v least within all is = λ k from most other. ⊎_elim
    (λ same. subst (λ (j : ℕ). IsParent (set nodes i v) j) (sym same) here)
    (λ differs. parent_same nodes i k v differs (λ same. other (omega (arith, same)))
    (λ same. other (omega (arith, same))) (all k from most differs))
    (cases_eq k i)
  where
    here : IsParent (set nodes i v) i
    here = rw (
      get_or-set_same nodes i v None within,
      get_or-set_other nodes i (2 * i) v None (λ same. omega (arith, same, least)),
      get_or-set_other nodes i (2 * i + 1) v None (λ same. omega (arith, same)),
    ) is

-- the lesser of two is one of them, and no greater than either
pub one_of_two : (a b : Option ℕ) (x : ℕ) → lesser a b ≡ Some x → (a ≡ Some x) ⊎ (b ≡ Some x)
one_of_two None b x is = inr is
one_of_two (Some a) None x is = inl is
one_of_two (Some a) (Some b) x is = ⊎_elim
    (λ less. inl (ap (λ (n : ℕ). Some n) (let k : a ≡ min a b = omega (arith, less) in k) ∙ is))
    (λ more. inr (ap (λ (n : ℕ). Some n) (let k : b ≡ min a b = omega (arith, more) in k) ∙ is))
    (cases_lt a b)

upto_left : (a b : Option ℕ) (x : ℕ) → a ≡ Some x → IsSomeAnd (lesser a b) (λ y. y ≤ x)
upto_left None b x is = absurd cc
upto_left (Some a) None x is = let k : a ≡ x = cc in omega (arith, k)
upto_left (Some a) (Some b) x is = let k : a ≡ x = cc in omega (arith, k)

upto_right : (a b : Option ℕ) (x : ℕ) → b ≡ Some x → IsSomeAnd (lesser a b) (λ y. y ≤ x)
upto_right a None x is = absurd cc
upto_right None (Some b) x is = let k : b ≡ x = cc in omega (arith, k)
upto_right (Some a) (Some b) x is = let k : b ≡ x = cc in omega (arith, k)

-- what a node has is at a leaf below it
found_below : (leaves : ℕ) (nodes : List (Option ℕ)) → IsTree leaves nodes → (fuel k x : ℕ) → 1 ≤ k → k < 2 * leaves
    → 2 * leaves ≤ k + fuel → node nodes k ≡ Some x
    → (i : ℕ) × (i < leaves) × (node nodes (leaves + i) ≡ Some x)
found_below leaves nodes tree zero k x least most fuel is = absurd (omega (arith, most, fuel))
found_below leaves nodes tree (suc fuel) k x least most enough is = ⊎_elim
    (λ inner. ⊎_elim
    (λ left. found_below leaves nodes tree fuel (2 * k) x (omega (arith, least)) (omega (arith, inner))
    (omega (arith, least, enough)) left)
    (λ right. found_below leaves nodes tree fuel (2 * k + 1) x (omega (arith, least)) (omega (arith, inner))
    (omega (arith, least, enough)) right)
    (one_of_two (node nodes (2 * k)) (node nodes (2 * k + 1)) x (sym (tree.parents k least inner) ∙ is)))
    (λ leaf. (
      k - leaves,
      omega (arith, leaf, most),
      subst (λ (j : ℕ). node nodes j ≡ Some x) (let e : k ≡ leaves + (k - leaves) = omega (arith, leaf) in e) is,
    ))
    (cases_lt k leaves)

pub halves : (k : ℕ) → (k ≡ 2 * (k / 2)) ⊎ (k ≡ 2 * (k / 2) + 1)
halves k = ⊎_elim (λ even. inl (omega (arith, even))) (λ odd. inr (omega (arith, odd))) (cases_lt (k % 2) 1)

-- what a node has is no less than the root's
upto_root : (leaves : ℕ) (nodes : List (Option ℕ)) → IsTree leaves nodes → (fuel k x : ℕ) → 1 ≤ k → k < 2 * leaves
    → k ≤ fuel → node nodes k ≡ Some x → IsSomeAnd (node nodes 1) (λ y. y ≤ x)
upto_root leaves nodes tree zero k x least most fuel is = absurd (omega (arith, least, fuel))
upto_root leaves nodes tree (suc fuel) k x least most enough is = ⊎_elim
    (λ root. subst (λ (o : Option ℕ). IsSomeAnd o (λ y. y ≤ x)) (sym is ∙ ap (node nodes) root) (omega arith))
    (λ below. climb (λ p y from to few here. upto_root leaves nodes tree fuel p y from to few here) (k / 2)
    (omega (arith, least, below)) (omega (arith, most)) (omega (arith, least, enough)) (halves k))
    (cases_eq k 1)
  where
    wider : (y : ℕ) → y ≤ x → (o : Option ℕ) → IsSomeAnd o (λ z. z ≤ y) → IsSomeAnd o (λ z. z ≤ x)
    wider y le None is = absurd is
    wider y le (Some z) is = omega (arith, is, le)

    step : ((p y : ℕ) → 1 ≤ p → p < 2 * leaves → p ≤ fuel → node nodes p ≡ Some y
        → IsSomeAnd (node nodes 1) (λ z. z ≤ y)) → (o : Option ℕ) (p : ℕ) → 1 ≤ p → p < leaves → p ≤ fuel
        → node nodes p ≡ o → IsSomeAnd o (λ y. y ≤ x) → IsSomeAnd (node nodes 1) (λ y. y ≤ x)
    step rest None p from most fuel here upto = absurd upto
    step rest (Some y) p from most fuel here upto =
        wider y upto (node nodes 1) (rest p y from (omega (arith, most)) fuel here)

    climb : ((p y : ℕ) → 1 ≤ p → p < 2 * leaves → p ≤ fuel
        → node nodes p ≡ Some y → IsSomeAnd (node nodes 1) (λ z. z ≤ y)) → (p : ℕ) → 1 ≤ p → p < leaves → p ≤ fuel
        → (k ≡ 2 * p) ⊎ (k ≡ 2 * p + 1) → IsSomeAnd (node nodes 1) (λ y. y ≤ x)
    climb rest p from most fuel side =
        step rest (lesser (node nodes (2 * p)) (node nodes (2 * p + 1))) p from most fuel (tree.parents p from most)
        (⊎_elim
        (λ left. upto_left (node nodes (2 * p)) (node nodes (2 * p + 1)) x (ap (node nodes) (sym left) ∙ is))
        (λ right. upto_right (node nodes (2 * p)) (node nodes (2 * p + 1)) x (ap (node nodes) (sym right) ∙ is))
        side)

-- the root has one of the leaves' ids
pub root_found : (leaves : ℕ) (nodes : List (Option ℕ)) (x : ℕ) → IsTree leaves nodes → 1 ≤ leaves
    → node nodes 1 ≡ Some x → Contains (drop leaves nodes) (Some x)
root_found leaves nodes x tree some is =
    let there = found_below leaves nodes tree (2 * leaves) 1 x (omega arith) (omega (arith, some)) (omega arith) is in (
      there.0,
      omega (arith, there.1, tree.size, length-drop leaves nodes),
      get_or-drop leaves nodes there.0 (Some x)
          ∙ get_or_default nodes (leaves + there.0) (Some x) None (omega (arith, there.1, tree.size)) ∙ there.2,
    )

-- and the least
pub root_least : (leaves : ℕ) (nodes : List (Option ℕ)) (x : ℕ) → IsTree leaves nodes
    → Contains (drop leaves nodes) (Some x) → IsSomeAnd (node nodes 1) (λ y. y ≤ x)
root_least leaves nodes x tree there =
    let within : leaves + there.0 < 2 * leaves = omega (arith, there.1, tree.size, length-drop leaves nodes) in
    let here : node nodes (leaves + there.0) ≡ Some x = get_or_default nodes (leaves + there.0) None (Some x)
    (omega (arith, within, tree.size)) ∙ sym (get_or-drop leaves nodes there.0 (Some x)) ∙ there.2 in
    upto_root leaves nodes tree (leaves + there.0) (leaves + there.0) x (omega (arith, within)) within
    (omega arith) here

pub root_holds : (leaves : ℕ) (nodes : List (Option ℕ)) (r : Option ℕ) → IsTree leaves nodes → 1 ≤ leaves
    → r ≡ node nodes 1 → IfSome r (λ id. Contains (drop leaves nodes) (Some id))
root_holds leaves nodes None tree some is = tt
root_holds leaves nodes (Some x) tree some is = root_found leaves nodes x tree some (sym is)

pub drop_replicate : (m n : ℕ) (x : Option ℕ) → drop m (replicate (m + n) x) ≡ replicate n x
drop_replicate zero n x = ap (λ (k : ℕ). replicate k x) (let e : 0 + n ≡ n = omega arith in e)
drop_replicate (suc m) n x = ap (λ (k : ℕ). drop (suc m) (replicate k x))
    (let e : suc m + n ≡ suc (m + n) = omega arith in e) ∙ drop_replicate m n x
