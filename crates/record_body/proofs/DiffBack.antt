-- Tracks that are told by the current point pass their tests and are read back.
use Rattle.record_body.proofs.Common.{◌≡◌, ℕ, ◌+◌, ◌^◌, ◌<◌, ◌&&◌, inl, inr, List, [], ◌∷◌, ◌++◌, length, map, drop}
use Rattle.record_body.proofs.Common.{Option, Some, None, refl, sym, ap, ap₂, subst, ◌∙◌, arith, append_assoc}
use Rattle.record_body.proofs.Common.{length-append, cases_Bool, flat_map, little_bytes, field, Change, change_of}
use Rattle.record_body.proofs.Common.{changed, change_bytes, diff_bytes, last_blocks, same_settings, same_clips}
use Rattle.record_body.proofs.Common.{same_but_last, diff_size, diff_at, all_diff_at, diff_widths, all_diff_widths}
use Rattle.record_body.proofs.Common.{id_tests, change_tests, diff_tests, all_diff_tests, Limits, EndsShort}
use Rattle.record_body.proofs.Common.{HasShortEnds, total_width, Track, unnumbered, track_of, all_pass}
use Rattle.record_body.proofs.FieldsBack.{NoneFails, both_pass, least_passes, most_passes, no_test, number_there, past}
use Rattle.record_body.proofs.ChangeLaws.{choice_says, HasId, both}
use Rattle.record_body.proofs.ChangesBack.{IsBack, back_same, back_whole, back_tail}
use Rattle.record_body.proofs.{ClipsBack.AreNarrow, TracksBack.IsGoodTrack, TracksBack.AreGoodTracks}
use Rattle.record_body.proofs.{Measured.rest_known, Measured.sum_diff, Reaching.total_width-append, DiffTracks.found_id}
use Rattle.record_body.proofs.{DiffTracks.known_mark, GoodTails.good_tail}

-- ---- whichever the writer takes

-- the last clip of the track of before has fewer than 2^32 blocks
abbrev pub IsShort : Option Track → Type 0
IsShort None = Unit {0}
IsShort (Some o) = length (last_blocks o.layout) < 2 ^ 32

is_short : (old : Option Track) → EndsShort old → IsShort old
is_short None short = tt
is_short (Some o) short = short

pub are_short : (current : List Track) → HasShortEnds current → (id : ℕ) → IsShort (track_of id current)
are_short current short = λ id. is_short (track_of id current) (short id)

back_choice : (l : Limits) (from : ℕ) (old : Option Track) (t : Track) (at : ℕ) (bytes rest : List ℕ) → AreNarrow l
    → IsShort old → IsGoodTrack l from t → field at 8 bytes ≡ t.id
    → drop (at + 8) bytes ≡ change_bytes (change_of old t) ++ rest → IsBack l old (change_of old t) at bytes rest
back_choice l from None t at bytes rest narrow small good id e = search (arith, back_whole)
back_choice l from (Some o) t at bytes rest narrow small good id e =
    elim (cases_Bool (same_settings o t && same_clips o.layout t.layout)) [
      | inl whole ↦ rw whole (back_same l o at bytes rest (rw whole at e))
      | inr differ ↦ elim (cases_Bool (same_settings o t && same_but_last o.layout t.layout)) [
        | inl ends ↦
            let is = both (same_settings o t) (same_but_last o.layout t.layout) ends in
            rw (differ, ends) (back_tail l o _ _ at bytes rest narrow (good_tail l from o t small good is.second)
            (rw (differ, ends) at e))
        | inr other ↦ rw (differ, other)
            (back_whole l from (Some o) t at bytes rest narrow good id (rw (differ, other) at e))
      ]
    ]

-- one track
pub record IsDiff (l : Limits) (current : List Track) (from : ℕ) (t : Track) (at : ℕ) (bytes rest : List ℕ) : Type 0 where
  pub id : field at 8 bytes ≡ t.id
  pub told : diff_at current at bytes ≡ Some t
  pub size : diff_size at bytes ≡ length (diff_bytes current t)
  pub left : drop (at + diff_size at bytes) bytes ≡ rest
  pub tests : NoneFails (diff_tests l current from at bytes)

is_diff : (l : Limits) (current : List Track) (from : ℕ) (t : Track) (at : ℕ) (bytes rest : List ℕ) → AreNarrow l
    → ((id : ℕ) → IsShort (track_of id current)) → IsGoodTrack l from t
    → drop at bytes ≡ diff_bytes current t ++ rest → IsDiff l current from t at bytes rest
is_diff l current from t at bytes rest narrow short good e =
    let old = track_of t.id current in
    let change = change_of old t in
    let first : drop at bytes ≡ little_bytes 8 t.id ++ (change_bytes change ++ rest) =
    e ∙ append_assoc (little_bytes 8 t.id) (change_bytes change) rest in
    let id = number_there 8 t.id at bytes (change_bytes change ++ rest) first (omega (arith, narrow.tracks, good.given)) in
    let behind = past at (at + 8) bytes (little_bytes 8 t.id) (change_bytes change ++ rest) first refl in
    let back = back_choice l from old t at bytes rest narrow (short t.id) good id behind in
    let size : diff_size at bytes ≡ length (diff_bytes current t) = omega (arith, back.size) in
    let ids : NoneFails (id_tests l from at bytes) =
    least_passes _ _ _ _ _ id good.some
    (least_passes _ _ _ _ _ id good.above (most_passes _ _ _ _ _ id (omega (arith, good.given)) no_test)) in
    record {
      id = id;
      told = ap₂ (λ (n : ℕ) (c : Change). changed (track_of n current) c) id back.change
          ∙ choice_says old t (has_id old (λ o is. found_id t.id current o is))
          ∙ ap (λ (k : Track). Some k) (unnumbered_is t good.number);
      size = size;
      left = past at (at + diff_size at bytes) bytes (diff_bytes current t) rest e (omega (arith, size));
      tests = both_pass (id_tests l from at bytes) _ ids
          (subst (λ (n : ℕ). NoneFails (change_tests l (track_of n current) at bytes)) (sym id) back.tests);
    }
  where
    unnumbered_is : (k : Track) → k.number ≡ 0 → unnumbered k ≡ k
    unnumbered_is k e = λ i. record k { number = sym e i }

    has_id : (old : Option Track) → ((o : Track) → old ≡ Some o → o.id ≡ t.id) → HasId t.id old
    has_id None is = tt
    has_id (Some o) is = is o refl

pub record AreDiff (l : Limits) (current : List Track) (from : ℕ) (ts : List Track) (at : ℕ) (bytes : List ℕ) : Type 0 where
  pub told : all_diff_at current (length ts) at bytes ≡ map Some ts
  pub width : total_width (all_diff_widths (length ts) at bytes) ≡ length (flat_map (diff_bytes current) ts)
  pub tests : NoneFails (all_diff_tests l current (length ts) from at bytes)

pub are_diff : (l : Limits) (current : List Track) (from : ℕ) (ts : List Track) (at : ℕ) (bytes rest : List ℕ)
    → AreNarrow l → ((id : ℕ) → IsShort (track_of id current)) → AreGoodTracks l from ts
    → drop at bytes ≡ flat_map (diff_bytes current) ts ++ rest → AreDiff l current from ts at bytes
are_diff l current from [] at bytes rest narrow short good e = record { told = refl; width = refl; tests = no_test }
are_diff l current from (t ∷ ts) at bytes rest narrow short good e =
    let told = diff_bytes current in
    search (
      arith,
      are_diff l current (t.id + 1) ts (at + diff_size at bytes) bytes rest narrow short good.1,
      is_diff l current from t at bytes (flat_map told ts ++ rest) narrow short good.0,
      append_assoc (told t) (flat_map told ts) rest,
      known_mark l current from at bytes,
      all_pass (diff_tests l current from at bytes),
      rest_known (length ts) at bytes,
      total_width-append (diff_widths at bytes) (all_diff_widths (length ts) (at + diff_size at bytes) bytes),
      sum_diff at bytes,
      length-append (told t) (flat_map told ts),
      both_pass (diff_tests l current from at bytes),
    )
