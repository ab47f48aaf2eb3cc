-- What a stretch of nodes says of the leaves from one on.
use Rattle.std.proofs.Common.{◌≡◌, ◌≢◌, ◌⊎◌, inl, inr, ⊎_elim, ℕ, ◌+◌, ◌-◌, ◌*◌, ◌/◌, ◌≤◌, ◌<◌, min, Option, Some, None}
use Rattle.std.proofs.Common.{List, length, drop, sym, ◌∙◌, ap, subst, arith, length-drop}
use Rattle.std.proofs.{lemmas.Bool.cases_eq, lemmas.Bool.cases_lt, lemmas.List.get_or-drop, lemmas.List.get_or_default}
use Rattle.std.specs.Prelude.{IfSome, IsSomeAnd, Contains, slice_index_or}
use Rattle.block_ledger.specs.Tree.{lesser, node, IsTree}
use Rattle.block_ledger.proofs.Trees.{halves, one_of_two}

-- the id is at a leaf from this one on
pub record LeafFrom (leaves leaf : ℕ) (nodes : List (Option ℕ)) (id : ℕ) : Type 0 where
  pub at : ℕ
  pub past : leaf ≤ at
  pub within : at < leaves
  pub here : node nodes (leaves + at) ≡ Some id

-- Each id at a leaf from this one on is no less than one that was seen, or than one at these nodes, and no other leaf's
-- id was seen or is there.
pub record Covers (leaves leaf : ℕ) (nodes : List (Option ℕ)) (seen : Option ℕ) (from to : ℕ) : Type 0 where
  pub least : 1 ≤ leaves → 1 ≤ from
  pub most : to ≤ 2 * leaves
  pub found : IfSome seen (LeafFrom leaves leaf nodes)
  pub below : (k id : ℕ) → from ≤ k → k < to → node nodes k ≡ Some id → LeafFrom leaves leaf nodes id
  pub above : (id : ℕ) → LeafFrom leaves leaf nodes id → IsSomeAnd seen (λ y. y ≤ id)
      ⊎ ((k : ℕ) × (from ≤ k) × (k < to) × IsSomeAnd (node nodes k) (λ y. y ≤ id))

pub covers_leaves : (leaves leaf : ℕ) (nodes : List (Option ℕ)) → Covers leaves leaf nodes None (leaves + leaf) (2 * leaves)
covers_leaves leaves leaf nodes = record {
  least = λ some. omega (arith, some);
  most = omega arith;
  found = tt;
  below = λ k id from to is. record {
    at = k - leaves;
    past = omega (arith, from);
    within = omega (arith, from, to);
    here = subst (λ (j : ℕ). node nodes j ≡ Some id) (let e : k ≡ leaves + (k - leaves) = omega (arith, from) in e) is;
  };
  above = λ id there. inr (
    leaves + there.at,
    omega (arith, there.past),
    omega (arith, there.within),
    subst (λ (o : Option ℕ). IsSomeAnd o (λ y. y ≤ id)) (sym there.here) (omega arith),
  );
}

lesser_has : (P : ℕ → Type 0) (a b : Option ℕ) → IfSome a P → IfSome b P → IfSome (lesser a b) P
lesser_has P None b left right = right
lesser_has P (Some a) None left right = left
lesser_has P (Some a) (Some b) left right = ⊎_elim
    (λ less. subst P (let e : a ≡ min a b = omega (arith, less) in e) left)
    (λ more. subst P (let e : b ≡ min a b = omega (arith, more) in e) right)
    (cases_lt a b)

lesser_left : (a b : Option ℕ) (x : ℕ) → IsSomeAnd a (λ y. y ≤ x) → IsSomeAnd (lesser a b) (λ y. y ≤ x)
lesser_left None b x le = absurd le
lesser_left (Some a) None x le = le
lesser_left (Some a) (Some b) x le = omega (arith, le)

lesser_right : (a b : Option ℕ) (x : ℕ) → IsSomeAnd b (λ y. y ≤ x) → IsSomeAnd (lesser a b) (λ y. y ≤ x)
lesser_right None b x le = le
lesser_right (Some a) None x le = absurd le
lesser_right (Some a) (Some b) x le = omega (arith, le)

has_some : (P : ℕ → Type 0) (o : Option ℕ) → ((id : ℕ) → o ≡ Some id → P id) → IfSome o P
has_some P None each = tt
has_some P (Some id) each = each id (λ i. Some id)

-- the ends of the stretch are seen, and the nodes above the rest take its place
pub covers_above : (leaves leaf : ℕ) (nodes : List (Option ℕ)) (seen : Option ℕ) (from to : ℕ) → IsTree leaves nodes
    → Covers leaves leaf nodes seen from to → from < to
    → Covers leaves leaf nodes (lesser seen (lesser (node nodes from) (node nodes (to - 1)))) ((from + 1) / 2) (to / 2)
covers_above leaves leaf nodes seen from to tree was lt = record {
  least = λ some. omega (arith, was.least some);
  most = omega (arith, was.most);
  found = lesser_has (LeafFrom leaves leaf nodes) seen (lesser (node nodes from) (node nodes (to - 1))) was.found
      (lesser_has (LeafFrom leaves leaf nodes) (node nodes from) (node nodes (to - 1))
      (has_some (LeafFrom leaves leaf nodes) (node nodes from) (λ id is. was.below from id (omega arith) lt is))
      (has_some (LeafFrom leaves leaf nodes) (node nodes (to - 1))
      (λ id is. was.below (to - 1) id (omega (arith, lt)) (omega (arith, lt)) is)));
  below = λ k id low high is. ⊎_elim
      (λ left. was.below (2 * k) id (omega (arith, low)) (omega (arith, high)) left)
      (λ right. was.below (2 * k + 1) id (omega (arith, low)) (omega (arith, high)) right)
      (one_of_two (node nodes (2 * k)) (node nodes (2 * k + 1)) id
      (sym (tree.parents k (omega (arith, low, start)) (omega (arith, high, was.most))) ∙ is));
  above = λ id there. ⊎_elim
      (λ le. inl (lesser_left seen (lesser (node nodes from) (node nodes (to - 1))) id le))
      (λ one. by id one.0 one.1 one.2 one.3 (cases_eq one.0 from) (cases_eq one.0 (to - 1)))
      (was.above id there);
}
  where
    start : 1 ≤ from
    start = was.least (omega (arith, lt, was.most))

    Next : ℕ → Type 0
    Next id = IsSomeAnd (lesser seen (lesser (node nodes from) (node nodes (to - 1)))) (λ y. y ≤ id)
        ⊎ ((k : ℕ) × ((from + 1) / 2 ≤ k) × (k < to / 2) × IsSomeAnd (node nodes k) (λ y. y ≤ id))

    inner : (id k p : ℕ) → 1 ≤ p → p < leaves → (k ≡ 2 * p) ⊎ (k ≡ 2 * p + 1) → IsSomeAnd (node nodes k) (λ y. y ≤ id)
        → IsSomeAnd (node nodes p) (λ y. y ≤ id)
    inner id k p least most side le = subst (λ (o : Option ℕ). IsSomeAnd o (λ y. y ≤ id)) (sym (tree.parents p least most))
        (⊎_elim
        (λ left. lesser_left (node nodes (2 * p)) (node nodes (2 * p + 1)) id
        (subst (λ (j : ℕ). IsSomeAnd (node nodes j) (λ y. y ≤ id)) left le))
        (λ right. lesser_right (node nodes (2 * p)) (node nodes (2 * p + 1)) id
        (subst (λ (j : ℕ). IsSomeAnd (node nodes j) (λ y. y ≤ id)) right le))
        side)

    by : (id k : ℕ) → from ≤ k → k < to → IsSomeAnd (node nodes k) (λ y. y ≤ id) → (k ≡ from) ⊎ (k ≢ from)
        → (k ≡ to - 1) ⊎ (k ≢ to - 1) → Next id
    by id k low high le (inl first) last =
        inl (lesser_right seen (lesser (node nodes from) (node nodes (to - 1))) id
        (lesser_left (node nodes from) (node nodes (to - 1)) id
        (subst (λ (j : ℕ). IsSomeAnd (node nodes j) (λ y. y ≤ id)) first le)))
    by id k low high le (inr later) (inl last) =
        inl (lesser_right seen (lesser (node nodes from) (node nodes (to - 1))) id
        (lesser_right (node nodes from) (node nodes (to - 1)) id
        (subst (λ (j : ℕ). IsSomeAnd (node nodes j) (λ y. y ≤ id)) last le)))
    by id k low high le (inr later) (inr earlier) =
        inr (
          k / 2,
          omega (arith, low, later),
          omega (arith, high, earlier),
          inner id k (k / 2) (omega (arith, low, later, start)) (omega (arith, high, earlier, was.most)) (halves k) le,
        )

-- once no node is left, the least that was seen is the least of these leaves
module _ (leaves leaf : ℕ) (nodes : List (Option ℕ)) (seen : Option ℕ) (from to : ℕ) (size : length nodes ≡ 2 * leaves)
    (was : Covers leaves leaf nodes seen from to) where
  there_is : (id : ℕ) → LeafFrom leaves leaf nodes id → Contains (drop leaf (drop leaves nodes)) (Some id)
  there_is id one = (
    one.at - leaf,
    omega (arith, one.past, one.within, size, length-drop leaf (drop leaves nodes), length-drop leaves nodes),
    get_or-drop leaf (drop leaves nodes) (one.at - leaf) (Some id)
        ∙ get_or-drop leaves nodes (leaf + (one.at - leaf)) (Some id)
        ∙ ap (λ (n : ℕ). node_or n id) (let e : leaves + (leaf + (one.at - leaf)) ≡ leaves + one.at =
        omega (arith, one.past) in e)
        ∙ get_or_default nodes (leaves + one.at) (Some id) None (omega (arith, one.within, size)) ∙ one.here,
  )
    where
      node_or : ℕ → ℕ → Option ℕ
      node_or n id = slice_index_or nodes n (Some id)

  one_is : (id : ℕ) → Contains (drop leaf (drop leaves nodes)) (Some id) → LeafFrom leaves leaf nodes id
  one_is id there =
      let lt : leaves + (leaf + there.0) < 2 * leaves =
      omega (arith, there.1, size, length-drop leaf (drop leaves nodes), length-drop leaves nodes) in record {
        at = leaf + there.0;
        past = omega arith;
        within = omega (arith, lt);
        here = get_or_default nodes (leaves + (leaf + there.0)) None (Some id) (omega (arith, lt, size))
            ∙ sym (get_or-drop leaves nodes (leaf + there.0) (Some id))
            ∙ sym (get_or-drop leaf (drop leaves nodes) there.0 (Some id)) ∙ there.2;
      }

  pub seen_is_there : IfSome seen (λ id. Contains (drop leaf (drop leaves nodes)) (Some id))
  seen_is_there = each seen was.found
    where
      each : (o : Option ℕ) → IfSome o (LeafFrom leaves leaf nodes)
          → IfSome o (λ id. Contains (drop leaf (drop leaves nodes)) (Some id))
      each None found = tt
      each (Some id) found = there_is id found

  pub seen_is_least : to ≤ from → (id : ℕ) → Contains (drop leaf (drop leaves nodes)) (Some id)
      → IsSomeAnd seen (λ least. least ≤ id)
  seen_is_least none id there =
      ⊎_elim (λ le. le) (λ one. absurd (omega (arith, none, one.1, one.2))) (was.above id (one_is id there))
