-- Projects whose layouts have numbers, beside the same projects without them.
use Rattle.journal_replay.proofs.Common.{◌≡◌, ℕ, ◌+◌, ◌-◌, ◌*◌, ◌≤◌, List, [], ◌∷◌, length, map, None, Result, Ok, Err}
use Rattle.journal_replay.proofs.Common.{refl, sym, ap, subst, ◌∙◌, arith, length-map, ⊤, History, at_cursor, purged}
use Rattle.journal_replay.proofs.Common.{first_failed, Track, unnumbered, unnumbered_history, IsNumbered, Edit}
use Rattle.journal_replay.proofs.Common.{Undo, Redo, Purge, Body, BadBody, Finds, after_body, current_tracks}
use Rattle.journal_replay.proofs.Common.{unnumbered_body, Project, IsSaid, before_at, field_tests, history_tests}
use Rattle.journal_replay.proofs.Common.{HasLayoutNumbers, saved_of}
use Rattle.std.specs.Prelude.{OnOk}
use Rattle.layout_uses.proofs.InTurn.{purged_numbers}
use Rattle.record_body.specs.{FirstFault.least, Lengths.body_tracks}
use Rattle.record_body.proofs.NineBytes.{next_nine}
use Rattle.journal_replay.specs.{Folds.IsAfter}
use Rattle.journal_replay.proofs.{Said.said_next, Valid.may_follow}
use Rattle.record_body.specs.declared.limits.BadBody.TheVariants as bad

-- ---- points that stay

-- another point is current
pub moved_numbers : (h g : History (List Track)) (next n : ℕ) → g ≡ at_cursor h n → IsNumbered h next
    → IsNumbered g next
moved_numbers h g next n is numbers = subst (λ (x : History (List Track)). IsNumbered x next) (sym is)
    (record { numbered = numbers.numbered; drawn = numbers.drawn; least = numbers.least })

pub kept_moved : (p : Project) (g : History (List Track)) (n : ℕ) → g ≡ at_cursor p.numbered.history.history n
    → record (saved_of p) { history = unnumbered_history g; commit = p.commit + 1 }
    ≡ record (saved_of p) { history = at_cursor (saved_of p).history n; commit = p.commit + 1 }
kept_moved p g n is =
    λ i. record (saved_of p) { history = unnumbered_history (is i); commit = p.commit + 1 }

-- the oldest went
pub left_numbers : (h g : History (List Track)) (next n : ℕ) → g ≡ purged h n → IsNumbered h next → IsNumbered g next
left_numbers h g next n is numbers =
    subst (λ (x : History (List Track)). IsNumbered x next) (sym is) (purged_numbers h next n numbers)

-- ---- what the history asks of a record

-- the numbers bear on no test
tests_same : (h : History (List Track)) (at : ℕ) (body : Body)
    → history_tests (unnumbered_history h) at body ≡ history_tests h at body
tests_same h at (Edit tag next_block next_track point) = refl
tests_same h at Undo = refl
tests_same h at Redo = ap (λ (n : ℕ). least at 1 (n - 1 - h.cursor) ∷ [])
    (length-map h.points (λ (p : List Track × ℕ). (map unnumbered p.0, p.1)))
tests_same h at (Purge n) = refl

pub after_finds : (old new : Project) (at : ℕ) (body : Body) (r : Result ⊤ BadBody)
    → Finds (history_tests old.numbered.history.history at (unnumbered_body body)) (λ _. IsAfter old new body) r
    → Finds (history_tests (saved_of old).history at (unnumbered_body body))
    (λ _. saved_of new ≡ after_body (saved_of old) (unnumbered_body body)) r
after_finds old new at body (Ok x) found =
    (ap first_failed (tests_same old.numbered.history.history at (unnumbered_body body)) ∙ found.0, found.1.kept)
after_finds old new at body (Err bad.NoMemory) found = tt
after_finds old new at body (Err (bad.Damaged d)) found =
    ap first_failed (tests_same old.numbered.history.history at (unnumbered_body body)) ∙ found

-- ---- how many numbers a record draws

pub after_numbers : (old new : Project) (at : ℕ) (body : Body) (r : Result ⊤ BadBody)
    → Finds (history_tests old.numbered.history.history at (unnumbered_body body)) (λ _. IsAfter old new body) r
    → OnOk r (HasLayoutNumbers new)
after_numbers old new at body (Ok x) found = found.1.numbers
after_numbers old new at body (Err e) found = tt

as_many : (body : Body) → length (body_tracks (unnumbered_body body)) ≡ length (body_tracks body)
as_many (Edit tag next_block next_track point) = length-map point unnumbered
as_many Undo = refl
as_many Redo = refl
as_many (Purge n) = refl

pub after_few : (version m at : ℕ) (old new : Project) (bytes : List ℕ) (body : Body) (r : Result ⊤ BadBody)
    → first_failed (field_tests version m (before_at (saved_of old) at) (current_tracks (saved_of old).history) bytes)
    ≡ None
    → IsSaid version m (before_at (saved_of old) at) (current_tracks (saved_of old).history) bytes (unnumbered_body body)
    → Finds (history_tests old.numbered.history.history at (unnumbered_body body)) (λ _. IsAfter old new body) r
    → OnOk r (9 * new.numbered.next ≤ 9 * old.numbered.next + length bytes)
after_few version m at old new bytes body (Ok x) none said found =
    let k = saved_of old in
    let tests : first_failed (history_tests k.history at (unnumbered_body body)) ≡ None =
    ap first_failed (tests_same old.numbered.history.history at (unnumbered_body body)) ∙ found.0 in
    let next = said_next version m at k bytes (unnumbered_body body) none said
    (may_follow k.history at (unnumbered_body body) tests) in
    omega (
      arith,
      next_nine version m k bytes (unnumbered_body body) next,
      as_many body,
      found.1.most,
    )
after_few version m at old new bytes body (Err e) none said found = tt
