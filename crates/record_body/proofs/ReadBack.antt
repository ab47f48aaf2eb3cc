-- The bytes of a valid body pass their tests, and say that body.
use Rattle.record_body.proofs.Common.{◌≡◌, ℕ, ◌+◌, ◌^◌, ◌≤◌, ◌<◌, List, [], ◌∷◌, ◌++◌, length, drop, None, refl, sym}
use Rattle.record_body.proofs.Common.{ap, ap₂, subst, ◌∙◌, arith, append-nil, flat_map, little_bytes}
use Rattle.record_body.proofs.Common.{little_number-reads_back, field, first_failed, Track, Edit, Undo, Redo, Purge}
use Rattle.record_body.proofs.Common.{tracks_at, tracks_size, track_count, edit_at, body_at, tracks_tests, head_tests}
use Rattle.record_body.proofs.Common.{limits_at, edit_tests, length_test, kind_test, body_tests, Body, Limits, Before}
use Rattle.record_body.proofs.Common.{track_bytes, spelling, edit_widths, total_width, reach, EditBody, IsValidEdit}
use Rattle.record_body.proofs.Common.{IsValidBody}
use Rattle.record_body.proofs.FieldsBack.{NoneFails, both_pass, least_passes, most_passes, no_test, number_there}
use Rattle.record_body.proofs.FieldsBack.{passes, past}
use Rattle.record_body.proofs.{Reaching.reach_whole, Reaching.sum_edit, ClipsBack.AreNarrow, TracksBack.has_tracks}
use Rattle.record_body.proofs.ValidBounds.{tracks_good}

-- the body that says it
abbrev body_of : EditBody → Body
body_of edit = Edit edit.tag edit.next_block edit.next_track edit.tracks

-- An edit in bytes, before the bytes of its tracks. In the one spelling the tracks are written out, and in the other
-- they are written by the current point.
pub record HasEdit (rest : List ℕ) (edit : EditBody) (bytes : List ℕ) : Type 0 where
  pub tagged : field 1 8 bytes ≡ edit.tag
  pub block : field 9 8 bytes ≡ edit.next_block
  pub track : field 17 8 bytes ≡ edit.next_track
  pub count : track_count bytes ≡ length edit.tracks
  pub tracks : drop 29 bytes ≡ rest ++ []

-- its bytes
abbrev pub edit_bytes : ℕ → List ℕ → EditBody → List ℕ
edit_bytes kind tracks edit = kind ∷ (little_bytes 8 edit.tag ++ (little_bytes 8 edit.next_block
    ++ (little_bytes 8 edit.next_track ++ (little_bytes 4 (length edit.tracks) ++ tracks))))

pub has_edit : (m : ℕ) (b : Before) (kind : ℕ) (tracks : List ℕ) (edit : EditBody) (bytes : List ℕ)
    → IsValidEdit m b edit → bytes ≡ edit_bytes kind tracks edit → HasEdit tracks edit bytes
has_edit m b kind tracks edit bytes valid e =
    let n = length edit.tracks in
    let counted = little_bytes 4 n ++ tracks in
    let of_track = little_bytes 8 edit.next_track ++ counted in
    search (
      arith,
      past 1 9 bytes (little_bytes 8 edit.tag),
      past 9 17 bytes (little_bytes 8 edit.next_block) of_track,
      past 17 25 bytes (little_bytes 8 edit.next_track) counted,
      past 25 29 bytes (little_bytes 4 n) tracks,
      number_there 8 edit.tag 1 bytes,
      number_there 8 edit.next_block 9 bytes of_track,
      number_there 8 edit.next_track 17 bytes counted,
      number_there 4 n 25 bytes tracks,
      append-nil tracks,
    )

pub head_passes : (m : ℕ) (b : Before) (tracks : List ℕ) (edit : EditBody) (bytes : List ℕ)
    → IsValidEdit m b edit → HasEdit tracks edit bytes → NoneFails (head_tests b bytes)
head_passes m b tracks edit bytes valid has = search (arith, most_passes, least_passes, no_test)

abbrev pub limits_of : ℕ → Before → ℕ → ℕ → Limits
limits_of m b next_block next_track =
    record { base = b.at; block_size = m; next_block = next_block; next_track = next_track }

record ReadsBack (m : ℕ) (b : Before) (body : Body) (bytes : List ℕ) : Type 0 where
  tests : NoneFails (edit_tests m b bytes)
  says : edit_at bytes ≡ body
  long : reach (length bytes) 0 (edit_widths bytes) ≡ length bytes

edit_back : (m : ℕ) (b : Before) (edit : EditBody) (bytes : List ℕ) → 4 ≤ m → m < 2 ^ 32 → IsValidEdit m b edit
    → bytes ≡ spelling (body_of edit) → ReadsBack m b (body_of edit) bytes
edit_back m b edit bytes large small valid e =
    let ts = edit.tracks in
    let l = limits_of m b edit.next_block edit.next_track in
    let narrow : AreNarrow l = record { ids = valid.block_most; tracks = valid.track_most; lens = small } in
    let good = tracks_good l 0 1 ts large (omega arith) (omega arith) valid.rising valid.valid valid.unnumbered in
    let spelled = flat_map track_bytes ts in
    let has = has_edit m b 1 spelled edit bytes valid e in
    let tracks = has_tracks l 0 ts 29 bytes [] narrow good has.tracks in
    let counted = subst (λ (n : ℕ). NoneFails (tracks_tests l n 0 29 bytes)) (sym has.count) tracks.passes in
    let same : limits_at m b bytes ≡ l = ap₂ (limits_of m b) has.block has.track in
    let size = ap (λ (n : ℕ). tracks_size n 29 bytes) has.count ∙ tracks.size in
    let long : length bytes ≡ 29 + length (flat_map track_bytes ts) = ap length e ∙ omega arith in
    let ends : 0 + total_width (edit_widths bytes) ≡ length bytes = omega (arith, sum_edit bytes, size, long) in
    record {
      tests = both_pass (head_tests b bytes) _ (head_passes m b spelled edit bytes valid has)
          (subst (λ (k : Limits). NoneFails (tracks_tests k (track_count bytes) 0 29 bytes)) (sym same) counted);
      says = same_edit has.tagged has.block has.track (ap (λ (n : ℕ). tracks_at n 29 bytes) has.count ∙ tracks.tracks);
      long = reach_whole (length bytes) 0 (edit_widths bytes) (omega (arith, ends)) ∙ ends;
    }
  where
    same_edit : {t i k : ℕ} {us : List Track} → t ≡ edit.tag → i ≡ edit.next_block → k ≡ edit.next_track
        → us ≡ edit.tracks → Edit t i k us ≡ body_of edit
    same_edit p q r u = cc

-- The tests of a valid body's bytes all pass, and its bytes say that body.
pub read_back : (m : ℕ) (b : Before) (body : Body) → 4 ≤ m → m < 2 ^ 32 → IsValidBody m b body
    → (first_failed (body_tests m b (spelling body)) ≡ None) × (body_at (spelling body) ≡ body)
read_back m b (Edit tag next_block next_track ts) large small valid =
    let edit : EditBody = record { tag = tag; next_block = next_block; next_track = next_track; tracks = ts } in
    let bytes = spelling (body_of edit) in
    let back = edit_back m b edit bytes large small valid refl in
    ((passes (length_test b bytes) _ back.long (passes (kind_test b bytes) _ refl back.tests)).none, back.says)
read_back m b Undo large small valid = (refl, refl)
read_back m b Redo large small valid = (refl, refl)
read_back m b (Purge n) large small valid = (refl, ap Purge (little_number-reads_back 8 n [] valid))
