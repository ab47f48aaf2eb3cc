-- Rows that lists have, as a list comes to have them too.
use Rattle.std.proofs.Common.{refl, ℕ, ◌+◌, ◌≤◌, ◌<◌, List, [], ◌++◌, length, take, get_or, sym, ◌∙◌, ap, arith}
use Rattle.std.proofs.lemmas.List.{take_more, take_all}
use Rattle.row_ledger.specs.Rows.{TableState, AreUsed, Laid, Comes, flat, ids_at, uses_at}
use Rattle.row_ledger.proofs.{FlatRows.flat_push, Helds.times_at, Turns.times_here}
use Rattle.row_ledger.proofs.Comings.{laid_more, laid_is}

-- one of these rows
pub used_at : (t : TableState) (ks : List ℕ) (i : ℕ) → i < length ks → AreUsed t.rows ks
    → 0 < uses_at t.rows (get_or ks i 0)
used_at t ks i h used =
    let k = get_or ks i 0 in
    used k (omega (arith, times_at k ks i h, times_here k k [] refl))

pub used_more : (old new : TableState) (xs : List ℕ) (k : ℕ) → Comes old new xs → 0 < uses_at old.rows k
    → 0 < uses_at new.rows k
used_more old new xs k come used = omega (arith, come.uses k, used)

pub share_more : (old mid new : TableState) (before out after ks : List ℕ) (i : ℕ) → i < length ks
    → AreUsed old.rows ks → Laid old mid before out (flat old.rows (take i ks))
    → Laid mid new out after (ids_at mid.rows (get_or ks i 0))
    → Laid old new before after (flat old.rows (take (i + 1) ks))
share_more old mid new before out after ks i h used one two =
    let k = get_or ks i 0 in
    let front = flat old.rows (take i ks) in
    laid_is old new before after (front ++ ids_at mid.rows k) (flat old.rows (take (i + 1) ks))
    (ap (λ (xs : List ℕ). front ++ xs) (one.come.rows k (used_at old ks i h used))
    ∙ sym (flat_push old.rows (take i ks) k)
    ∙ ap (flat old.rows) (sym (take_more ks i 0 h)))
    (laid_more old mid new before out after front (ids_at mid.rows k) one two)

pub share_end : (old new : TableState) (before after ks : List ℕ) (i : ℕ) → length ks ≤ i
    → Laid old new before after (flat old.rows (take i ks)) → Laid old new before after (flat old.rows ks)
share_end old new before after ks i h one = laid_is old new before after (flat old.rows (take i ks)) (flat old.rows ks)
    (ap (flat old.rows) (take_all i ks h)) one
