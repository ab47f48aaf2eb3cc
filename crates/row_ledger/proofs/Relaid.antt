-- Rows with other ids in place of some.
use Rattle.std.proofs.Common.{◌≡◌, ℕ, ◌+◌, ◌^◌, ◌≤◌, ◌<◌, List, ◌++◌, take, drop, ap, ap₂, ◌∙◌, arith}
use Rattle.std.proofs.Common.{[], ◌∷◌, ◌-◌, ⊎_elim, refl, append_assoc, take-append-drop}
use Rattle.std.proofs.lemmas.Bool.{cases_lt}
use Rattle.block_ledger.specs.Counts.{occurrences, times}
use Rattle.row_ledger.specs.declared.row.Row.{Row}
use Rattle.row_ledger.specs.Rows.{TableState, AreRowsThere, AreThere, AreUsed, Laid, counts, flat, from_to, ids_at, spliced}
use Rattle.row_ledger.specs.Rows.{IsEdge}
use Rattle.row_ledger.proofs.FlatRows.{edge_front, edge_back}
use Rattle.row_ledger.proofs.FromTo.{joined_again}
use Rattle.row_ledger.proofs.{Sums.times_append, Turns.times_here}
use Rattle.row_ledger.proofs.Comings.{laid_more, laid_is}
use Rattle.row_ledger.proofs.Turns.{flat_kept}

-- the ids of the rows that become new
abbrev pub new_between : List ℕ → ℕ → ℕ → ℕ → ℕ → List ℕ → List ℕ
new_between xs at from to end middle = from_to at from xs ++ (middle ++ from_to to end xs)

module _ (rows : List Row) (ks : List ℕ) (row at last end from to : ℕ) (middle : List ℕ)
    (first : IsEdge rows ks row at) (second : IsEdge rows ks last end) (before : at ≤ from) (after : to ≤ end) where
  -- shared rows, the new ones, and shared rows
  pub relaid : (flat rows (take row ks) ++ new_between (flat rows ks) at from to end middle) ++ flat rows (drop last ks)
      ≡ spliced (flat rows ks) from to middle
  relaid =
      let new = new_between (flat rows ks) at from to end middle in
      append_assoc (flat rows (take row ks)) new (flat rows (drop last ks))
      ∙ ap₂ (λ (xs ys : List ℕ). xs ++ (new ++ ys)) (edge_front rows ks row at first) (edge_back rows ks last end second)
      ∙ joined_again at from to end (flat rows ks) middle before after

  -- how often an id comes in those before and in the new ones
  pub times_relaid : (id : ℕ) → times id (flat rows (take row ks))
      + times id (new_between (flat rows ks) at from to end middle) ≤ times id (spliced (flat rows ks) from to middle)
  times_relaid id =
      let new = new_between (flat rows ks) at from to end middle in
      let front = flat rows (take row ks) in
      omega (
        arith,
        ap (times id) relaid,
        times_append id (front ++ new) (flat rows (drop last ks)),
        times_append id front new,
      )

times_take : (id n : ℕ) (xs : List ℕ) → times id (take n xs) ≤ times id xs
times_take id n xs =
    omega (arith, ap (times id) (take-append-drop n xs), times_append id (take n xs) (drop n xs))

times_drop : (id n : ℕ) (xs : List ℕ) → times id (drop n xs) ≤ times id xs
times_drop id n xs =
    omega (arith, ap (times id) (take-append-drop n xs), times_append id (take n xs) (drop n xs))

times_from_to : (id from to : ℕ) (xs : List ℕ) → times id (from_to from to xs) ≤ times id xs
times_from_to id from to xs = omega (arith, times_take id (to - from) (drop from xs), times_drop id from xs)

-- a part of rows that lists have is had
pub used_take : (rows : List Row) (ks : List ℕ) (n : ℕ) → AreUsed rows ks → AreUsed rows (take n ks)
used_take rows ks n used = λ k some. used k (omega (arith, some, times_take k n ks))

pub used_drop : (rows : List Row) (ks : List ℕ) (n : ℕ) → AreUsed rows ks → AreUsed rows (drop n ks)
used_drop rows ks n used = λ k some. used k (omega (arith, some, times_drop k n ks))

-- the ids of rows that lists have are there
pub flat_there : (t : TableState) (ks : List ℕ) → AreRowsThere t → AreUsed t.rows ks
    → AreThere (counts t) (flat t.rows ks)
flat_there t [] there used = λ id some. absurd (omega (arith, some))
flat_there t (k ∷ ks) there used = λ id some. ⊎_elim
    (λ none. flat_there t ks there (λ j more. used j (omega (arith, more)))
    id (omega (arith, some, none, times_append id (ids_at t.rows k) (flat t.rows ks))))
    (λ here. there k (used k (omega (arith, times_here k k ks refl))) id (omega (arith, here)))
    (cases_lt (times id (ids_at t.rows k)) 1)

-- and so are the new ones between them
pub new_there : (t : TableState) (ks : List ℕ) (at from to end : ℕ) (middle : List ℕ) → AreRowsThere t
    → AreUsed t.rows ks → AreThere (counts t) middle
    → AreThere (counts t) (new_between (flat t.rows ks) at from to end middle)
new_there t ks at from to end middle there used new = λ id some.
    let xs = flat t.rows ks in
    ⊎_elim
    (λ none. new id (omega (
      arith,
      some,
      none,
      times_append id (from_to at from xs) (middle ++ from_to to end xs),
      times_append id middle (from_to to end xs),
      times_from_to id at from xs,
      times_from_to id to end xs,
    )))
    (λ here. flat_there t ks there used id (omega (arith, here)))
    (cases_lt (times id xs) 1)

-- shared rows, new ones and shared rows come, one after another
pub laid_spliced : (a b c d : TableState) (ks w x y z : List ℕ) (row at last end from to : ℕ) (middle new : List ℕ)
    → IsEdge a.rows ks row at → IsEdge a.rows ks last end → at ≤ from → to ≤ end → AreUsed a.rows ks
    → new ≡ new_between (flat a.rows ks) at from to end middle
    → Laid a b w x (flat a.rows (take row ks)) → Laid b c x y new → Laid c d y z (flat c.rows (drop last ks))
    → Laid a d w z (spliced (flat a.rows ks) from to middle)
laid_spliced a b c d ks w x y z row at last end from to middle new first second before after used is one two three =
    let front = flat a.rows (take row ks) in
    let both : Laid a c w y (front ++ new) = laid_more a b c w x y front new one two in
    let rest : flat c.rows (drop last ks) ≡ flat a.rows (drop last ks) =
    flat_kept a.rows c.rows (drop last ks) both.come.rows (used_drop a.rows ks last used) in
    laid_is a d w z ((front ++ new) ++ flat c.rows (drop last ks)) (spliced (flat a.rows ks) from to middle)
    (ap (λ (xs : List ℕ). (front ++ new) ++ xs) rest
    ∙ ap (λ (xs : List ℕ). (front ++ xs) ++ flat a.rows (drop last ks)) is
    ∙ relaid a.rows ks row at last end from to middle first second before after)
    (laid_more a c d w y z (front ++ new) (flat c.rows (drop last ks)) both three)

-- the new ones are still there after the first rows came, and few enough
pub still_there : (a b : TableState) (w x front new : List ℕ) → Laid a b w x front → AreThere (counts a) new
    → AreThere (counts b) new
still_there a b w x front new laid there = λ id some. (laid.come.held.there id).1 (there id some)

pub still_few : (a b : TableState) (ks w x : List ℕ) (row at last end from to : ℕ) (middle : List ℕ)
    → IsEdge a.rows ks row at → IsEdge a.rows ks last end → at ≤ from → to ≤ end
    → Laid a b w x (flat a.rows (take row ks))
    → ((id : ℕ) → occurrences (counts a id) + times id (spliced (flat a.rows ks) from to middle) < 2 ^ 128)
    → (id : ℕ) → occurrences (counts b id) + times id (new_between (flat a.rows ks) at from to end middle) < 2 ^ 128
still_few a b ks w x row at last end from to middle first second before after laid few = λ id. omega (
  arith,
  few id,
  laid.come.held.counts id,
  ap (times id) laid.same,
  times_relaid a.rows ks row at last end from to middle first second before after id,
)
