-- The ids of rows, one row after another.
use Rattle.std.proofs.Common.{◌≡◌, ℕ, ◌+◌, ◌<◌, ◌≤◌, List, [], ◌∷◌, ◌++◌, length, get_or, take, drop, sym, ap, ◌∙◌}
use Rattle.std.proofs.Common.{arith, length-append}
use Rattle.std.proofs.lemmas.List.{append-nil, drop_more, drop_all, take_more, take_all, take-append-drop, take_at, drop_at}
use Rattle.row_ledger.specs.declared.row.Row.{Row}
use Rattle.row_ledger.specs.Rows.{flat, ids_at, IsEdge}
use Rattle.row_ledger.proofs.Turns.{flat_append}

pub flat_one : (rows : List Row) (k : ℕ) → flat rows (k ∷ []) ≡ ids_at rows k
flat_one rows k = append-nil (ids_at rows k)

pub flat_push : (rows : List Row) (ks : List ℕ) (k : ℕ) → flat rows (ks ++ k ∷ []) ≡ flat rows ks ++ ids_at rows k
flat_push rows ks k = flat_append rows ks (k ∷ []) ∙ ap (λ (xs : List ℕ). flat rows ks ++ xs) (flat_one rows k)

pub flat_next : (rows : List Row) (ks : List ℕ) (i d : ℕ) → i < length ks
    → flat rows (drop i ks) ≡ ids_at rows (get_or ks i d) ++ flat rows (drop (i + 1) ks)
flat_next rows ks i d h = ap (flat rows) (drop_more ks i d h)

pub flat_count : (rows : List Row) (ks : List ℕ) (i d : ℕ) → i < length ks
    → length (flat rows (drop i ks)) ≡ length (ids_at rows (get_or ks i d)) + length (flat rows (drop (i + 1) ks))
flat_count rows ks i d h =
    ap length (flat_next rows ks i d h)
    ∙ length-append (ids_at rows (get_or ks i d)) (flat rows (drop (i + 1) ks))

pub flat_end : (rows : List Row) (ks : List ℕ) (i : ℕ) → length ks ≤ i → flat rows (drop i ks) ≡ []
flat_end rows ks i h = ap (flat rows) (drop_all i ks h)

pub flat_more : (rows : List Row) (ks : List ℕ) (i d : ℕ) → i < length ks
    → length (flat rows (take (i + 1) ks)) ≡ length (flat rows (take i ks)) + length (ids_at rows (get_or ks i d))
flat_more rows ks i d h =
    ap length (ap (flat rows) (take_more ks i d h) ∙ flat_push rows (take i ks) (get_or ks i d))
    ∙ length-append (flat rows (take i ks)) (ids_at rows (get_or ks i d))

pub flat_split : (rows : List Row) (ks : List ℕ) (i : ℕ)
    → flat rows (take i ks) ++ flat rows (drop i ks) ≡ flat rows ks
flat_split rows ks i = sym (flat_append rows (take i ks) (drop i ks)) ∙ ap (flat rows) (take-append-drop i ks)

-- an edge is at most as far as all ids
pub flat_within : (rows : List Row) (ks : List ℕ) (i : ℕ) → length (flat rows (take i ks)) ≤ length (flat rows ks)
flat_within rows ks i =
    let e = ap length (flat_split rows ks i) in
    omega (arith, e, length-append (flat rows (take i ks)) (flat rows (drop i ks)))

pub flat_all : (rows : List Row) (ks : List ℕ) (i : ℕ) → length ks ≤ i
    → length (flat rows (take i ks)) ≡ length (flat rows ks)
flat_all rows ks i h = ap (λ (ms : List ℕ). length (flat rows ms)) (take_all i ks h)

pub edge_front : (rows : List Row) (ks : List ℕ) (row at : ℕ) → IsEdge rows ks row at
    → flat rows (take row ks) ≡ take at (flat rows ks)
edge_front rows ks row at e =
    sym (ap (take at) (sym (flat_split rows ks row))
    ∙ take_at (flat rows (take row ks)) (flat rows (drop row ks)) at e.same_at)

pub edge_back : (rows : List Row) (ks : List ℕ) (row at : ℕ) → IsEdge rows ks row at
    → flat rows (drop row ks) ≡ drop at (flat rows ks)
edge_back rows ks row at e =
    sym (ap (drop at) (sym (flat_split rows ks row))
    ∙ drop_at (flat rows (take row ks)) (flat rows (drop row ks)) at e.same_at)

pub edge_within : (rows : List Row) (ks : List ℕ) (row at : ℕ) → IsEdge rows ks row at → at ≤ length (flat rows ks)
edge_within rows ks row at e = omega (arith, flat_within rows ks row, e.same_at)
