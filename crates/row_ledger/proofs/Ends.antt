-- Rows that stand at the front or at the end of some ids.
use Rattle.std.proofs.Common.{◌≡◌, ℕ, ◌+◌, ◌-◌, ◌<◌, ◌≤◌, List, ◌++◌, length, get_or, take, drop, sym, ap, ◌∙◌, arith}
use Rattle.std.proofs.Common.{Option, None, Some, append_assoc, length-append, refl, take-append-drop}
use Rattle.std.proofs.lemmas.List.{take_at, drop_at, take_more, length-drop, length-take}
use Rattle.std.specs.Prelude.{IfSome, MatchOption}
use Rattle.pcm_base.specs.declared.limits.TheConstants.{COUNTER_LIMIT}
use Rattle.row_ledger.specs.declared.row.Row.{Row}
use Rattle.block_ledger.specs.Counts.{Counts, times}
use Rattle.row_ledger.specs.Rows.{AreThere, IsChange, IsEdge, flat, ids_at}
use Rattle.row_ledger.proofs.Sums.{times_append}
use Rattle.row_ledger.proofs.FlatRows.{edge_front, flat_next, flat_push, flat_split}

pub if_some : {A : Type 0} (o : Option A) (P : Type 0) (Q : A → Type 0) → MatchOption o P Q → IfSome o Q
if_some None P Q m = tt
if_some (Some x) P Q m = m

-- one row more at the front
pub front_more : (rows : List Row) (ks ids rest more : List ℕ) (i d : ℕ) → i < length ks
    → ids ≡ flat rows (take i ks) ++ rest → rest ≡ ids_at rows (get_or ks i d) ++ more
    → ids ≡ flat rows (take (i + 1) ks) ++ more
front_more rows ks ids rest more i d h same next =
    same ∙ ap (λ (xs : List ℕ). flat rows (take i ks) ++ xs) next
    ∙ sym (append_assoc (flat rows (take i ks)) (ids_at rows (get_or ks i d)) more)
    ∙ ap (λ (xs : List ℕ). xs ++ more)
    (sym (ap (flat rows) (take_more ks i d h) ∙ flat_push rows (take i ks) (get_or ks i d)))

-- one row more at the end
pub end_more : (rows : List Row) (ks ids rest less : List ℕ) (i d : ℕ) → i < length ks
    → ids ≡ rest ++ flat rows (drop (i + 1) ks) → rest ≡ less ++ ids_at rows (get_or ks i d)
    → ids ≡ less ++ flat rows (drop i ks)
end_more rows ks ids rest less i d h same next =
    same ∙ ap (λ (xs : List ℕ). xs ++ flat rows (drop (i + 1) ks)) next
    ∙ append_assoc less (ids_at rows (get_or ks i d)) (flat rows (drop (i + 1) ks))
    ∙ ap (λ (xs : List ℕ). less ++ xs) (sym (flat_next rows ks i d h))

-- how many ids stand before the others
pub front_len : (ids xs rest : List ℕ) → ids ≡ xs ++ rest → length ids - length rest ≡ length xs
front_len ids xs rest e = omega (arith, ap length e, length-append xs rest)

pub front_ids : (ids xs rest : List ℕ) → ids ≡ xs ++ rest → xs ≡ take (length ids - length rest) ids
front_ids ids xs rest e =
    sym (ap (take (length ids - length rest)) e
    ∙ take_at xs rest (length ids - length rest) (sym (front_len ids xs rest e)))

pub end_ids : (ids rest xs : List ℕ) → ids ≡ rest ++ xs → xs ≡ drop (length rest) ids
end_ids ids rest xs e = sym (ap (drop (length rest)) e ∙ drop_at rest xs (length rest) refl)

-- rows at the front, and rows at the end of what is left, stay as they are
module _ (rows : List Row) (ks ids others rest : List ℕ) (count row at last end : ℕ)
    (has : length (flat rows ks) ≡ count) (edge : IsEdge rows ks row at) (front : flat rows (take row ks) ≡ take at ids)
    (others_is : others ≡ drop row ks) (rest_is : rest ≡ drop at ids) (within : end ≤ length rest)
    (back : flat rows (drop last others) ≡ drop end rest) where
  abbrev first : List ℕ
  first = flat rows (take row ks)

  abbrev between : List ℕ
  between = flat rows (take last others)

  abbrev after : List ℕ
  after = flat rows (drop last others)

  all_three : (first ++ between) ++ after ≡ flat rows ks
  all_three =
      append_assoc first between after
      ∙ ap (λ (xs : List ℕ). first ++ xs) (flat_split rows others last ∙ ap (flat rows) others_is)
      ∙ flat_split rows ks row

  lengths : length first + length between + length after ≡ count
  lengths = omega (
    arith,
    has,
    ap length all_three,
    length-append (first ++ between) after,
    length-append first between,
  )

  after_len : length after ≡ length rest - end
  after_len = ap length back ∙ length-drop end rest

  pub few_after : length rest - end ≤ count
  few_after = omega (arith, lengths, after_len)

  to_is : length (first ++ between) ≡ count - (length rest - end)
  to_is = omega (arith, lengths, after_len, length-append first between)

  pub is_change : count ≤ COUNTER_LIMIT → length ids ≤ COUNTER_LIMIT
      → IsChange (flat rows ks) ids at (count - (length rest - end)) (take end rest)
  is_change few few_ids = record {
    all = omega (arith, has, few);
    size = omega (arith, within, few_ids, ap length rest_is, length-drop at ids, length-take end rest);
    rising = omega (arith, edge.same_at, to_is, length-append first between);
    within = omega (arith, has);
    same =
        ap (λ (xs : List ℕ). xs ++ (take end rest ++ drop (count - (length rest - end)) (flat rows ks)))
        (sym (edge_front rows ks row at edge) ∙ front)
        ∙ ap (λ (xs : List ℕ). take at ids ++ (take end rest ++ xs))
        (sym (ap (drop (count - (length rest - end))) all_three)
        ∙ drop_at (first ++ between) after (count - (length rest - end)) to_is ∙ back)
        ∙ ap (λ (xs : List ℕ). take at ids ++ xs) (take-append-drop end rest ∙ rest_is)
        ∙ take-append-drop at ids;
  }

-- what stands between is there
pub middle_there : (cs : Counts) (xs ids : List ℕ) (from to : ℕ) (middle : List ℕ) → IsChange xs ids from to middle
    → AreThere cs ids → AreThere cs middle
middle_there cs xs ids from to middle is there = λ id some. there id (omega (
  arith,
  some,
  ap (times id) is.same,
  times_append id (take from xs) (middle ++ drop to xs),
  times_append id middle (drop to xs),
))
