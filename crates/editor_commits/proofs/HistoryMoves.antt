-- The history after an undo, a redo or a purge that may be made.
use Rattle.editor_commits.proofs.Common.{rules, ◌≡◌, ◌⊎◌, sym, ap, ◌∙◌, ℕ, zero, suc, ◌+◌, ◌-◌, ◌≤◌, ◌<◌, ◌==◌, nat_lt}
use Rattle.editor_commits.proofs.Common.{nat_le, length, Option, None, Ok, Err, Result, OnOk, IfErr, arith}
use Rattle.editor_commits.proofs.Common.{eqb_tells, length-map, none-some, History, at_cursor, purged, bad_range}
use Rattle.editor_commits.proofs.Common.{call_tests, refused_if, Line, Refusal, outside, Ghosts, sources_of, meant}
use Rattle.editor_commits.proofs.Common.{Core, studio_of, silent}
use Rattle.std.proofs.lemmas.Bool.{leb-true, ltb-true}
use Rattle.pcm_base.specs.declared.refusal.Refusal.TheVariants.{NothingToUndo, NothingToRedo, BadRange}
use Rattle.pcm_base.specs.History.{IsHistory}
use Rattle.undo_history.specs.Stored.{Stored}
use Rattle.pcm_base.specs.declared.command.Command.TheVariants as command

-- the cursor is not at the first point
pub positive : (n : ℕ) (r : Refusal) → refused_if (n == 0) r ≡ None → 0 < n
positive zero r h = absurd (none-some r (sym h))
positive (suc n) r h = omega arith

pub undone : {P : Type 0} (h h' : Stored P) (result : Result (Unit {0}) Refusal) → 0 < h.history.cursor
    → OnOk result ((0 < h.history.cursor) × (h' ≡ record h { history = at_cursor h.history (h.history.cursor - 1) }))
    → IfErr result (λ e. (e ≡ NothingToUndo) × (h.history.cursor ≡ 0) × (h' ≡ h))
    → h'.history ≡ at_cursor h.history (h.history.cursor - 1)
undone h h' (Ok u) some ok err = ap (λ z. z.history) ok.1
undone h h' (Err e) some ok err = absurd (omega (arith, some, err.1))

-- the cursor is not at the last point
pub behind : {P : Type 0} (h : History P) (r : Refusal) → IsHistory h
    → refused_if (h.cursor + 1 == length h.points) r ≡ None → h.cursor + 1 < length h.points
behind h r is none = search (rules, none-some, eqb_tells)

pub redone : {P : Type 0} (h h' : Stored P) (result : Result (Unit {0}) Refusal)
    → h.history.cursor + 1 < length h.history.points
    → OnOk result ((h.history.cursor + 1 < length h.history.points)
    × (h' ≡ record h { history = at_cursor h.history (h.history.cursor + 1) }))
    → IfErr result (λ e. (e ≡ NothingToRedo) × (h.history.cursor + 1 ≡ length h.history.points) × (h' ≡ h))
    → h'.history ≡ at_cursor h.history (h.history.cursor + 1)
redone h h' (Ok u) some ok err = ap (λ z. z.history) ok.1
redone h h' (Err e) some ok err = absurd (omega (arith, some, err.1))

-- the model's history has as many points
pub own_is : {D : Type 0} (disk : Ghosts D) (s : Core D) (own : Option Refusal)
    → own ≡ refused_if (s.history.cursor + 1 == length s.history.points) NothingToRedo
    → own ≡ call_tests (outside (studio_of disk s) silent) (studio_of disk s).state (Line command.Redo)
own_is disk s own h =
    h ∙ ap (λ (n : ℕ). refused_if (s.history.cursor + 1 == n) NothingToRedo)
    (sym (length-map s.history.points (λ p. (meant (sources_of (disk.reads s.store)) p.0, p.1))))

-- a purge that may be made
pub in_range : (n cursor : ℕ) → bad_range 0 n cursor ≡ None → (1 ≤ n) × (n ≤ cursor)
in_range n cursor e = search (rules, nat_lt, nat_le, ltb-true, leb-true, none-some)

pub purged_by : {P : Type 0} (n : ℕ) (h h' : Stored P) (result : Result (Unit {0}) Refusal) → 1 ≤ n
    → n ≤ h.history.cursor
    → OnOk result ((1 ≤ n) × (n ≤ h.history.cursor) × (h' ≡ record h { history = purged h.history n }))
    → IfErr result (λ e. (e ≡ BadRange) × ((n ≡ 0) ⊎ (h.history.cursor < n)) × (h' ≡ h))
    → h'.history ≡ purged h.history n
purged_by n h h' (Ok u) some few ok err = ap (λ z. z.history) ok.2
purged_by n h h' (Err e) some few ok err = search rules
