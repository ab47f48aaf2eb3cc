-- What a journal says that was read: a format that it may have, and records that lie in its file.
use Rattle.project_journal.proofs.Common.{◌≡◌, ℕ, zero, suc, ◌+◌, ◌*◌, ◌<◌, ◌≤◌, ◌^◌, List, [], ◌∷◌, length, map}
use Rattle.project_journal.proofs.Common.{get_or, sym, ap, subst, ◌∙◌, arith, length-append, ◌++◌, length-map, flat_map}
use Rattle.project_journal.proofs.Common.{AllByRecursion, slice_index, Form, IsForm, Entry, entry, body_of, body_at}
use Rattle.project_journal.proofs.Common.{placed, IsEntry, Contents, IsJournal, log_of, header_end}
use Rattle.std.specs.List.{All}
use Rattle.std.specs.{List.Sorted.IsStrictlyIncreasing}
use Rattle.project_journal.specs.Readable.{IsReadable, LiesBelow, place_of}
use Rattle.project_journal.proofs.{AnyFormats.header_format, Bases.length-head, Parses.form_least, Splits.length-entry}

-- where records with these bodies end, the first one's gate being at this place
abbrev past : ℕ → List (List ℕ) → ℕ
past p [] = p
past p (body ∷ bodies) = past (p + 5 + length body) bodies

entries_past : (p : ℕ) (es : List Entry) → AllByRecursion IsEntry es
    → p + length (flat_map entry es) ≡ past p (map body_of es)
entries_past p [] all = omega arith
entries_past p (e ∷ es) all =
    let here : p + length (entry e ++ flat_map entry es) ≡ p + 5 + length e.body + length (flat_map entry es) =
    omega (arith, length-append (entry e) (flat_map entry es), length-entry e all.0) in
    here ∙ entries_past (p + 5 + length e.body) es all.1

past_count : (p : ℕ) (bodies : List (List ℕ)) → p + 5 * length bodies ≤ past p bodies
past_count p [] = omega arith
past_count p (body ∷ bodies) = omega (arith, past_count (p + 5 + length body) bodies)

places_rise : (p : ℕ) (bodies : List (List ℕ)) → IsStrictlyIncreasing (map place_of (placed p bodies))
places_rise p [] = λ k lt. absurd (omega (arith, lt))
places_rise p (body ∷ []) = λ k lt. absurd (omega (arith, lt))
places_rise p (body ∷ next ∷ bodies) = λ k lt. rise k lt (places_rise (p + 5 + length body) (next ∷ bodies))
  where
    rise : (k : ℕ) → k + 1 < length (map place_of (placed p (body ∷ next ∷ bodies)))
        → IsStrictlyIncreasing (map place_of (placed (p + 5 + length body) (next ∷ bodies)))
        → slice_index (map place_of (placed p (body ∷ next ∷ bodies))) k
        < slice_index (map place_of (placed p (body ∷ next ∷ bodies))) (k + 1)
    rise zero lt rest = omega arith
    rise (suc k) lt rest =
        let next_place : suc k + 1 ≡ suc (k + 1) = omega arith in
        let all = map place_of (placed p (body ∷ next ∷ bodies)) in
        subst (λ (n : ℕ). slice_index all (suc k) < slice_index all n) (sym next_place) (rest k (omega (arith, lt)))

places_within : (p end : ℕ) (bodies : List (List ℕ)) → 32 ≤ p → past p bodies ≤ end
    → All (LiesBelow end) (placed p bodies)
places_within p end [] least le = λ k d lt. absurd (omega (arith, lt))
places_within p end (body ∷ bodies) least le =
    λ k d lt. below k d lt (places_within (p + 5 + length body) end bodies (omega (arith, least)) le)
  where
    below : (k : ℕ) (d : ℕ × List ℕ) → k < length (placed p (body ∷ bodies)) → All (LiesBelow end)
        (placed (p + 5 + length body) bodies) → LiesBelow end (get_or (placed p (body ∷ bodies)) k d)
    below zero d lt rest = (omega (arith, least), omega (arith, le, past_count (p + 5 + length body) bodies))
    below (suc k) d lt rest = rest k d (omega (arith, lt))

pub readable : (form : Form) (bytes : List ℕ) (j : Contents) → IsForm form → length bytes ≤ 2 ^ 62
    → IsJournal form bytes j → IsReadable j
readable form bytes j known few is =
    let log = is.spelled in
    let bodies = map body_at j.records in
    let from = header_end form j.points in
    let least : 32 ≤ from = omega (arith, form_least form known) in
    let front : length is.front ≡ from + length (flat_map entry log.entries) = omega (
      arith,
      ap length log.parts,
      length-append log.head (flat_map entry log.entries),
      length-head form log.head (log_of j) log.header,
    ) in
    let end : j.end ≡ past from bodies =
    is.place ∙ front ∙ entries_past from log.entries log.each ∙ ap (past from) log.bodies in
    record {
      format = header_format form log.head (log_of j) known log.header;
      rising = subst (λ (rs : List (ℕ × List ℕ)). IsStrictlyIncreasing (map place_of rs)) (sym is.records)
          (places_rise from bodies);
      within = subst (λ (rs : List (ℕ × List ℕ)). All (LiesBelow j.end) rs) (sym is.records)
          (places_within from j.end bodies least (omega (arith, end)));
      records = omega (arith, end, least, past_count from bodies, length-map j.records body_at);
      end = omega (arith, is.place, ap length is.parts, length-append is.front is.rest, few);
    }
