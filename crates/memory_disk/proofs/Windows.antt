-- A write as it is seen at each index.
use Rattle.memory_disk.proofs.Common.{◌≡◌, ⊎_elim, ℕ, ◌+◌, ◌-◌, ◌≤◌, ◌<◌, List, ◌∷◌, ◌++◌, length, take, drop, get_or}
use Rattle.memory_disk.proofs.Common.{replicate, refl, sym, ◌∙◌, ap, arith, length-append, length-drop, Option, None}
use Rattle.memory_disk.proofs.Common.{Some, get_or_append_left, get_or-take, get_or-drop, length-replicate}
use Rattle.memory_disk.proofs.Common.{length-take-le, take_all, cases_lt, same_number_lists, option_map, unwrap_or}
use Rattle.memory_disk.proofs.Common.{written, bytes_of, Step, Wrote, reads_of, IsWindow, step_of, step_by, Kind, Write}
use Rattle.memory_disk.proofs.Common.{Call, reads_written}
use Rattle.std.proofs.lemmas.List.{get_or-append_right, get_or-replicate, get_or_past}
use Rattle.memory_disk.specs.{Histories.length-padded}

-- what is read past the end of a file is 0, and so are the bytes that fill a gap
zeros : (n i : ℕ) → get_or {A = ℕ} (replicate n 0) i 0 ≡ 0
zeros n i = ⊎_elim (λ lt. get_or-replicate {A = ℕ} n i 0 0 lt)
    (λ le. get_or_past {X = ℕ} (replicate n 0) i 0 (omega (arith, length-replicate {A = ℕ} n 0))) (cases_lt i n)

pub get_or-zeros : (old : List ℕ) (n i : ℕ) → get_or (old ++ replicate n 0) i 0 ≡ get_or old i 0
get_or-zeros old n i = ⊎_elim
    (λ lt. get_or_append_left old (replicate n 0) 0 i lt)
    (λ le. get_or-append_right old (replicate n 0) (length old) i 0 refl le ∙ zeros n (i - length old)
    ∙ sym (get_or_past old i 0 le))
    (cases_lt i (length old))

module _ (old : List ℕ) (at : ℕ) (bytes : List ℕ) (i : ℕ) where
  pub written_before : i < at → get_or (written old at bytes) i 0 ≡ get_or old i 0
  written_before lt =
      let zeros = replicate (at - length old) 0 in
      let front = take at (old ++ zeros) in
      let size = length-padded old at in
      get_or_append_left (front ++ bytes) (drop (at + length bytes) old) 0 i
      (omega (arith, length-append front bytes, size))
      ∙ get_or_append_left front bytes 0 i (omega (arith, size))
      ∙ get_or-take at (old ++ zeros) i 0 lt
      ∙ get_or-zeros old (at - length old) i

  pub written_inside : at ≤ i → i < at + length bytes → get_or (written old at bytes) i 0 ≡ get_or bytes (i - at) 0
  written_inside le lt =
      let front = take at (old ++ replicate (at - length old) 0) in
      let size = length-padded old at in
      get_or_append_left (front ++ bytes) (drop (at + length bytes) old) 0 i
      (omega (arith, length-append front bytes, size))
      ∙ get_or-append_right front bytes at i 0 size le

  pub written_after : at + length bytes ≤ i → get_or (written old at bytes) i 0 ≡ get_or old i 0
  written_after le =
      let front = take at (old ++ replicate (at - length old) 0) in
      let size = length-padded old at in
      get_or-append_right (front ++ bytes) (drop (at + length bytes) old) (at + length bytes) i 0
      (omega (arith, length-append front bytes, size)) le
      ∙ get_or-drop (at + length bytes) old (i - (at + length bytes)) 0
      ∙ ap (λ (k : ℕ). get_or old k 0) (omega arith)

-- a window after a write
pub window_written : (old bytes buf new : List ℕ) (at start : ℕ) → length new ≡ length buf → IsWindow old at buf
    → ((j : ℕ) → j < length buf → start ≤ at + j → at + j < start + length bytes
    → get_or new j 0 ≡ get_or bytes (at + j - start) 0)
    → ((j : ℕ) → j < length buf → at + j < start → get_or new j 0 ≡ get_or buf j 0)
    → ((j : ℕ) → j < length buf → start + length bytes ≤ at + j → get_or new j 0 ≡ get_or buf j 0)
    → IsWindow (written old start bytes) at new
window_written old bytes buf new at start same was inside before after = λ j lt.
    let here : j < length buf = omega arith in
    ⊎_elim
    (λ less. before j here less ∙ was j here ∙ sym (written_before old start bytes (at + j) less))
    (λ from. ⊎_elim
    (λ within. inside j here from within ∙ sym (written_inside old start bytes (at + j) from within))
    (λ past. after j here past ∙ was j here ∙ sym (written_after old start bytes (at + j) past))
    (cases_lt (at + j) (start + length bytes)))
    (cases_lt (at + j) start)

-- what is read of the file that a call wrote
pub reads_call : (row : List ℕ) (call : Call) (h : List Step) (file : ℕ) → call.kind ≡ Write → call.file ≡ file
    → reads_of (step_of row call ∷ h) file
    ≡ Some (written (bytes_of (reads_of h file)) call.at (take call.len (drop call.from row)))
reads_call row call h file is same =
    ap (λ (k : Kind). reads_of (step_by k call.file call.at (take call.len (drop call.from row)) ∷ h) file) is
    ∙ ap (λ (f : ℕ). reads_of (Wrote f call.at (take call.len (drop call.from row)) ∷ h) file) same
    ∙ reads_written file call.at (take call.len (drop call.from row)) h

-- a window within the file is a part of it
pub window_part : (content part : List ℕ) (at n : ℕ) → length part ≡ n → n ≤ length content - at
    → IsWindow content at part → part ≡ take n (drop at content)
window_part content part at n size le shows =
    let left : n ≤ length (drop at content) = omega (arith, length-drop at content) in
    same_number_lists part (take n (drop at content)) (size ∙ sym (length-take-le n (drop at content) left)) (λ k lt.
    shows k lt ∙ sym (get_or-take n (drop at content) k 0 (omega arith) ∙ get_or-drop at content k 0))

pub size_of_absent : (o : Option (List ℕ)) → unwrap_or (option_map length o) 0 ≡ length (bytes_of o)
size_of_absent None = refl
size_of_absent (Some bytes) = refl

-- a window on all of a file is the file
pub window_whole : (file : Option (List ℕ)) (all : List ℕ) (size : ℕ) → Some size ≡ option_map length file
    → length all ≡ size → IsWindow (bytes_of file) 0 all → Some all ≡ file
window_whole None all size is long shows = cc
window_whole (Some content) all size is long shows =
    let same : size ≡ length content = cc in
    ap (λ (l : List ℕ). Some l) (window_part content all 0 (length content) (long ∙ same) (omega arith) shows
    ∙ take_all (length content) content (omega arith))
