-- The leaves of a tree and the entries that they are for.
use Rattle.std.proofs.Common.{◌≡◌, ⊎_elim, ℕ, zero, suc, ◌≤◌, ◌<◌, Option, Some, None, List, [], ◌∷◌, length, map, set}
use Rattle.std.proofs.Common.{get_or, refl, sym, ◌∙◌, ap, arith}
use Rattle.std.proofs.lemmas.List.{get_or-set_same, get_or-set_other, get_or_default, map-set, length-map, get_or-map}
use Rattle.std.proofs.{lemmas.Bool.cases_eq, lemmas.List.Edits.length-insert, lemmas.List.Edits.get_or-insert_below}
use Rattle.std.specs.{Prelude.Contains, Prelude.IsSomeAnd, Prelude.IfSome, Prelude.IfNone, List.insert}
use Rattle.block_ledger.specs.Entries.{count_in, free_of, IsRising, IsLeaves}
use Rattle.block_ledger.specs.{declared.entry.Entry.Entry, Counts.free_id, Counts.IsFirstFree}
use Rattle.block_ledger.proofs.Lookups.{absent_above, first_not, first_is}

-- an entry and its leaf are written
pub leaves_set : (es : List Entry) (leaves : List (Option ℕ)) (i : ℕ) (new : Entry) → i < length es
    → length es ≤ length leaves → IsLeaves es leaves → IsLeaves (set es i new) (set leaves i (free_of new))
leaves_set es leaves i new lt le match = λ k. ⊎_elim
    (λ same. rw same (get_or-set_same leaves i (free_of new) None (omega (arith, lt, le))
    ∙ sym (ap (λ (l : List (Option ℕ)). get_or l i None) (map-set free_of es i new)
    ∙ get_or-set_same (map free_of es) i (free_of new) None (omega (arith, lt, length-map es free_of)))))
    (λ ne. get_or-set_other leaves i k (free_of new) None ne ∙ match k
    ∙ sym (ap (λ (l : List (Option ℕ)). get_or l k None) (map-set free_of es i new)
    ∙ get_or-set_other (map free_of es) i k (free_of new) None ne))
    (cases_eq k i)

pub free_is : (c : Option ℕ) (x id : ℕ) → free_id x c ≡ Some id → (x ≡ id) × (c ≡ Some 0)
free_is None x id is = absurd cc
free_is (Some zero) x id is = (cc, refl)
free_is (Some (suc n)) x id is = absurd cc

-- an id at a leaf has count 0
free_at : (es : List Entry) (k id : ℕ) → IsRising es → get_or (map free_of es) k None ≡ Some id
    → count_in es id ≡ Some 0
free_at [] k id rising is = absurd cc
free_at (e ∷ es) zero id rising is = let both = free_is e.count e.id id is in first_is e es id both.0 ∙ both.1
free_at (e ∷ es) (suc k) id rising is =
    let more = free_at es k id rising.1 is in
    first_not e es id (λ same.
    let no : None ≡ Some 0 = sym (absent_above e.id es id rising.0 (omega (arith, same))) ∙ more in cc) ∙ more

-- and an id of count 0 is at a leaf
pub leaf_of : (es : List Entry) (id : ℕ) → count_in es id ≡ Some 0
    → (k : ℕ) × (k < length es) × (get_or (map free_of es) k None ≡ Some id)
leaf_of [] id is = absurd cc
leaf_of (e ∷ es) id is = ⊎_elim
    (λ same. (0, omega arith, ap (free_id e.id) (sym (first_is e es id same) ∙ is) ∙ ap (λ (n : ℕ). Some n) same))
    (λ ne. let more = leaf_of es id (sym (first_not e es id ne) ∙ is) in (suc more.0, omega (arith, more.1), more.2))
    (cases_eq e.id id)

pub free_found : (es : List Entry) (leaves : List (Option ℕ)) (id : ℕ) → IsRising es → IsLeaves es leaves
    → Contains leaves (Some id) → count_in es id ≡ Some 0
free_found es leaves id rising match there =
    free_at es there.0 id rising (sym (match there.0) ∙ get_or_default leaves there.0 None (Some id) there.1 ∙ there.2)

pub free_listed : (es : List Entry) (leaves : List (Option ℕ)) (id : ℕ) → length es ≤ length leaves → IsLeaves es leaves
    → count_in es id ≡ Some 0 → Contains leaves (Some id)
free_listed es leaves id le match is =
    let there = leaf_of es id is in
    let lt : there.0 < length leaves = omega (arith, there.1, le) in
    (there.0, lt, get_or_default leaves there.0 (Some id) None lt ∙ match there.0 ∙ there.2)

-- what the root of the tree says
pub first_found : (es : List Entry) (leaves : List (Option ℕ)) (r : Option ℕ) → IsRising es → length es ≤ length leaves
    → IsLeaves es leaves
    → IfSome r (λ id. Contains leaves (Some id))
    → ((id : ℕ) → Contains leaves (Some id) → IsSomeAnd r (λ least. least ≤ id))
    → IfSome r (IsFirstFree (count_in es))
first_found es leaves None rising le match found least = tt
first_found es leaves (Some id) rising le match found least = record {
  free = free_found es leaves id rising match found;
  least = λ other is. least other (free_listed es leaves other le match is);
}

pub none_found : (es : List Entry) (leaves : List (Option ℕ)) (r : Option ℕ) → length es ≤ length leaves
    → IsLeaves es leaves
    → ((id : ℕ) → Contains leaves (Some id) → IsSomeAnd r (λ least. least ≤ id))
    → IfNone r ((id : ℕ) → count_in es id ≡ Some 0 → ⊥)
none_found es leaves None le match least = λ id is. least id (free_listed es leaves id le match is)
none_found es leaves (Some x) le match least = tt

-- before the place of a new entry and after the last one the leaves are as they were
pub leaves_before : (es : List Entry) (leaves : List (Option ℕ)) (i : ℕ) (new : Entry) → i ≤ length es
    → IsLeaves es leaves → (k : ℕ) → k < i → get_or leaves k None ≡ get_or (map free_of (insert es i new)) k None
leaves_before es leaves i new le match k lt =
    let within : k < length es = omega (arith, lt, le) in
    match k ∙ get_or-map free_of es k new None within
    ∙ ap free_of (sym (get_or-insert_below es i new new k lt le))
    ∙ sym (get_or-map free_of (insert es i new) k new None (omega (arith, within, length-insert es i new le)))
