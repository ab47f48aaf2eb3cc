-- The bytes of a valid body, written by the current point, pass their tests and say that body.
use Rattle.record_body.proofs.Common.{◌≡◌, ℕ, ◌^◌, ◌≤◌, ◌<◌, List, [], ◌∷◌, length, map, Some, None, refl}
use Rattle.record_body.proofs.Common.{slice_index, sym, arith, flat_map, little_number-reads_back}
use Rattle.record_body.proofs.Common.{first_failed, Damaged, Edit, Undo, Redo, Purge, all_diff_at}
use Rattle.record_body.proofs.Common.{asked_delta, delta_widths, commit_test, delta_edit_tests}
use Rattle.record_body.proofs.Common.{delta_tests, delta_length_test, delta_kind_test, EditBody, IsValidEdit}
use Rattle.record_body.proofs.Common.{IsValidBody, Body, Before, diff_bytes, delta_spelling, SaysBody}
use Rattle.record_body.proofs.Common.{head_tests, track_count, reach, Track, track_of}
use Rattle.record_body.proofs.FieldsBack.{NoneFails, both_pass, no_test, passes}
use Rattle.record_body.proofs.DiffBack.{IsShort, are_diff}
use Rattle.record_body.proofs.ReadBack.{HasEdit, has_edit, head_passes, limits_of}
use Rattle.record_body.proofs.{Reaching.reach_whole, ValidBounds.tracks_good}

edit_of : EditBody → Body
edit_of edit = Edit edit.tag edit.next_block edit.next_track edit.tracks

record DeltaBack (m : ℕ) (b : Before) (current : List Track) (edit : EditBody) (bytes : List ℕ) : Type 0 where
  tests : NoneFails (delta_edit_tests m b current bytes)
  says : map Some edit.tracks ≡ all_diff_at current (track_count bytes) 29 bytes
  long : reach (length bytes) 0 (delta_widths bytes) ≡ length bytes
  has : HasEdit (flat_map (diff_bytes current) edit.tracks) edit bytes

delta_back : (m : ℕ) (b : Before) (current : List Track) (edit : EditBody) (bytes : List ℕ) → 4 ≤ m → m < 2 ^ 32
    → ((id : ℕ) → IsShort (track_of id current)) → IsValidEdit m b edit
    → bytes ≡ delta_spelling current (edit_of edit) → DeltaBack m b current edit bytes
unfolding edit_of
delta_back m b current edit bytes large small short valid e =
    let ts = edit.tracks in
    let l = limits_of m b edit.next_block edit.next_track in
    let spelled = flat_map (diff_bytes current) ts in
    let has = has_edit m b 5 spelled edit bytes valid e in
    search (
      arith,
      tracks_good l 0 1 ts large,
      are_diff l current 0 ts 29 bytes [],
      both_pass (head_tests b bytes),
      head_passes m b spelled edit bytes valid has,
      reach_whole (length bytes) 0 (delta_widths bytes),
    )

pub record IsReadBack (m : ℕ) (b : Before) (current : List Track) (body : Body) : Type 0 where
  pub tests : first_failed (delta_tests m b current (delta_spelling current body)) ≡ None
  pub says : SaysBody current (delta_spelling current body) body

-- the tests before those of an edit
front_passes : (b : Before) (bytes : List ℕ) (rest : List Damaged) → asked_delta bytes ≡ length bytes
    → (delta_kind_test b bytes).want ≡ slice_index bytes 0 → b.commits < 2 ^ 62 → NoneFails rest
    → NoneFails (delta_length_test b bytes ∷ delta_kind_test b bytes ∷ commit_test b ∷ rest)
front_passes b bytes rest long kind room none =
    search (arith, passes (delta_length_test b bytes), passes (delta_kind_test b bytes), passes (commit_test b) rest)

pub delta_read_back : (m : ℕ) (b : Before) (current : List Track) (body : Body) → 4 ≤ m → m < 2 ^ 32
    → b.commits < 2 ^ 62 → ((id : ℕ) → IsShort (track_of id current)) → IsValidBody m b body
    → IsReadBack m b current body
unfolding edit_of
delta_read_back m b current (Edit tag next_block next_track ts) large small room short valid =
    let edit : EditBody = record { tag = tag; next_block = next_block; next_track = next_track; tracks = ts } in
    let bytes = delta_spelling current (edit_of edit) in
    let back = delta_back m b current edit bytes large small short valid refl in
    record {
      tests = (front_passes b bytes _ back.long refl room back.tests).none;
      says = (refl, (sym back.has.tagged, sym back.has.block, sym back.has.track, back.says));
    }
delta_read_back m b current Undo large small room short valid = search (arith, front_passes, no_test)
delta_read_back m b current Redo large small room short valid = search (arith, front_passes, no_test)
delta_read_back m b current (Purge n) large small room short valid =
    search (arith, front_passes, no_test, little_number-reads_back)
