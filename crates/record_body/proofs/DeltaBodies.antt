-- A body by its kind.
use Rattle.record_body.proofs.Common.{◌≡◌, ℕ, Bool, None, List, [], ◌∷◌, Result, sym, subst, if◌then◌else◌, eq-eqb}
use Rattle.record_body.proofs.Common.{first_failed, Edit, Undo, Redo, Purge, commit_test, delta_edit_tests}
use Rattle.record_body.proofs.Common.{delta_length_test, delta_kind_test, delta_tests, Body, BadBody, Before, Finds}
use Rattle.record_body.proofs.Common.{ReadsBody, ReadsEdit, Track}
use Rattle.std.specs.Prelude.{slice_index}
use Rattle.record_body.proofs.{DiffTracks.finds_on, Steps.finds_weaker}

reads : (current : List Track) (bytes : List ℕ) (b : Body) → slice_index bytes 0 ≡ 5 → ReadsEdit current bytes b
    → ReadsBody current bytes b
reads current bytes (Edit tag next_block next_track point) is e = ((is, e.0), e.1)
reads current bytes Undo is e = absurd e.0
reads current bytes Redo is e = absurd e.0
reads current bytes (Purge n) is e = absurd e.0

pub finds_edit : (m : ℕ) (b : Before) (current : List Track) (bytes : List ℕ) (r : Result Body BadBody)
    → slice_index bytes 0 ≡ 5 → first_failed (delta_length_test b bytes ∷ delta_kind_test b bytes ∷ commit_test b ∷ [])
    ≡ None
    → Finds (delta_edit_tests m b current bytes) (ReadsEdit current bytes) r
    → Finds (delta_tests m b current bytes) (ReadsBody current bytes) r
finds_edit m b current bytes r is outside e =
    let front = delta_length_test b bytes ∷ delta_kind_test b bytes ∷ commit_test b ∷ [] in
    let edit = delta_edit_tests m b current bytes in
    let all = finds_on front edit (ReadsBody current bytes) r outside (finds_weaker edit (ReadsEdit current bytes)
    (ReadsBody current bytes) r (λ x none. reads current bytes x is) e) in
    subst (λ (k : Bool). Finds (delta_length_test b bytes ∷ delta_kind_test b bytes ∷ commit_test b ∷ (if k then edit else []))
    (ReadsBody current bytes) r) (sym (eq-eqb (slice_index bytes 0) 5 is)) all
