-- The numbers of the current point's layouts bear on nothing that bytes say by it.
use Rattle.record_body.proofs.Common.{◌≡◌, refl, sym, ap, ap₂, ◌∙◌, ℕ, zero, suc, ◌+◌, ◌==◌, List, [], ◌∷◌, ◌++◌, map}
use Rattle.record_body.proofs.Common.{Option, Some, None, slice_index, if◌then◌else◌, option_map, field, Damaged, Track}
use Rattle.record_body.proofs.Common.{unnumbered, track_of, Edit, Undo, Redo, Purge, Change, Same, Whole, Tail, changed}
use Rattle.record_body.proofs.Common.{all_diff_at, change_at, diff_at, diff_size, all_diff_tests, change_tests}
use Rattle.record_body.proofs.Common.{commit_test, delta_edit_tests, delta_kind_test, delta_length_test, delta_tests}
use Rattle.record_body.proofs.Common.{id_tests, diff_tests, Body, Before, Limits, SaysBody, head_tests, limits_at}
use Rattle.record_body.proofs.Common.{unnumbered_body, track_count, IsValidBody, BodyShares}
use Rattle.project_state.proofs.Plain.{plain_new, tracks_plain}
use Rattle.record_body.proofs.Unnumbered.{found_alike}

-- ---- what is said

changed_alike : (old : Option Track) (change : Change) → changed (option_map unnumbered old) change ≡ changed old change
changed_alike None Same = refl
changed_alike None (Whole t) = refl
changed_alike None (Tail gone ys) = refl
changed_alike (Some o) Same = refl
changed_alike (Some o) (Whole t) = refl
changed_alike (Some o) (Tail gone ys) = refl

track_said : (current : List Track) (at : ℕ) (bytes : List ℕ)
    → diff_at (map unnumbered current) at bytes ≡ diff_at current at bytes
track_said current at bytes =
    ap (λ (old : Option Track). changed old (change_at at bytes)) (found_alike (field at 8 bytes) current)
    ∙ changed_alike (track_of (field at 8 bytes) current) (change_at at bytes)

tracks_said : (current : List Track) (count at : ℕ) (bytes : List ℕ)
    → all_diff_at (map unnumbered current) count at bytes ≡ all_diff_at current count at bytes
tracks_said current zero at bytes = refl
tracks_said current (suc count) at bytes =
    ap₂ (λ (t : Option Track) (ts : List (Option Track)). t ∷ ts) (track_said current at bytes)
    (tracks_said current count (at + diff_size at bytes) bytes)

pub says_alike : (current : List Track) (bytes : List ℕ) (body : Body) → SaysBody current bytes body
    → SaysBody (map unnumbered current) bytes body
says_alike current bytes (Edit tag next_block next_track point) says =
    (says.0, (says.1.0, says.1.1, says.1.2, says.1.3 ∙ sym (tracks_said current (track_count bytes) 29 bytes)))
says_alike current bytes Undo says = says
says_alike current bytes Redo says = says
says_alike current bytes (Purge n) says = says

-- ---- the tests

change_tested : (l : Limits) (old : Option Track) (at : ℕ) (bytes : List ℕ)
    → change_tests l (option_map unnumbered old) at bytes ≡ change_tests l old at bytes
change_tested l None at bytes = refl
change_tested l (Some o) at bytes = refl

track_tested : (l : Limits) (current : List Track) (from at : ℕ) (bytes : List ℕ)
    → diff_tests l (map unnumbered current) from at bytes ≡ diff_tests l current from at bytes
track_tested l current from at bytes =
    ap (λ (old : Option Track). id_tests l from at bytes ++ change_tests l old at bytes)
    (found_alike (field at 8 bytes) current)
    ∙ ap (λ (ts : List Damaged). id_tests l from at bytes ++ ts)
    (change_tested l (track_of (field at 8 bytes) current) at bytes)

tracks_tested : (l : Limits) (current : List Track) (count from at : ℕ) (bytes : List ℕ)
    → all_diff_tests l (map unnumbered current) count from at bytes ≡ all_diff_tests l current count from at bytes
tracks_tested l current zero from at bytes = refl
tracks_tested l current (suc count) from at bytes =
    ap₂ (λ (xs ys : List Damaged). xs ++ ys) (track_tested l current from at bytes)
    (tracks_tested l current count (field at 8 bytes + 1) (at + diff_size at bytes) bytes)

edit_tested : (m : ℕ) (b : Before) (current : List Track) (bytes : List ℕ)
    → delta_edit_tests m b (map unnumbered current) bytes ≡ delta_edit_tests m b current bytes
edit_tested m b current bytes = ap (λ (ts : List Damaged). head_tests b bytes ++ ts)
    (tracks_tested (limits_at m b bytes) current (track_count bytes) 0 29 bytes)

pub tests_alike : (m : ℕ) (b : Before) (current : List Track) (bytes : List ℕ)
    → delta_tests m b (map unnumbered current) bytes ≡ delta_tests m b current bytes
tests_alike m b current bytes =
    ap (λ (ts : List Damaged). delta_length_test b bytes ∷ delta_kind_test b bytes ∷ commit_test b
    ∷ (if slice_index bytes 0 == 5 then ts else [])) (edit_tested m b current bytes)

-- ---- bodies that say no numbers

pub body_plain : (m : ℕ) (b : Before) (body : Body) → IsValidBody m b body → unnumbered_body body ≡ body
body_plain m b (Edit tag next_block next_track tracks) valid =
    ap (Edit tag next_block next_track) (tracks_plain tracks valid.unnumbered)
body_plain m b Undo valid = refl
body_plain m b Redo valid = refl
body_plain m b (Purge n) valid = refl

pub body_new : (m : ℕ) (b : Before) (current : List Track) (body : Body) → IsValidBody m b body
    → BodyShares current body
body_new m b current (Edit tag next_block next_track tracks) valid = plain_new current tracks valid.unnumbered
body_new m b current Undo valid = tt
body_new m b current Redo valid = tt
body_new m b current (Purge n) valid = tt
