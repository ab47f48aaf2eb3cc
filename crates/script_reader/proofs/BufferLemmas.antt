-- A buffer of the script, up to the LF of each of its lines.
use Rattle.std.proofs.Common.{◌≡◌, ℕ, ◌+◌, ◌<◌, ◌≤◌, ◌==◌, true, List, [], ◌∷◌, ◌++◌, length, take, drop, slice_index}
use Rattle.std.proofs.Common.{append_assoc, sym, ap, ◌∙◌, arith}
use Rattle.std.proofs.lemmas.List.{get_or-take, get_or-drop, take-append-drop, take_more, length-drop, length-take-le}
use Rattle.std.proofs.{lemmas.Bool.Decides.nat_tests, Math.Seq.take-add}
use Rattle.memchr.specs.Find.{NoneBefore, Nowhere, Passes, is_byte}
use Rattle.script_reader.specs.Progress.{HasNoLf}
use Rattle.script_reader.proofs.CutLemmas.{HasNoLf-nowhere}

is_lf : (b : ℕ) → (b == 10) ≡ true → b ≡ 10
is_lf b h = grind (arith, nat_tests)

lf_is : (b : ℕ) → b ≡ 10 → (b == 10) ≡ true
lf_is b h = grind (arith, nat_tests)

-- before the first LF there is none
pub line_front : (rest : List ℕ) (len : ℕ) → NoneBefore (Passes (is_byte 10) rest) 0 (length rest) len
    → HasNoLf (take len rest)
line_front rest len first = HasNoLf-nowhere (take len rest) (λ k below is.
    let here : k < len = omega (arith, below, length-take-le len rest (omega (arith, first.high))) in
    first.before k (omega arith) here (lf_is (slice_index rest k) (sym (get_or-take len rest k 0 here) ∙ is)))

-- where no LF is found, there is none
pub no_line : (rest : List ℕ) → Nowhere (Passes (is_byte 10) rest) 0 (length rest) → HasNoLf rest
no_line rest none = HasNoLf-nowhere rest (λ k below is. none k (omega arith) below (lf_is (slice_index rest k) is))

-- the LF of a line in a buffer
pub line_end : (buffer : List ℕ) (at len : ℕ) → at ≤ length buffer → NoneBefore (Passes (is_byte 10) (drop at buffer)) 0
    (length (drop at buffer)) len → Passes (is_byte 10) (drop at buffer) len →
    (at + len < length buffer) × (slice_index buffer (at + len) ≡ 10)
line_end buffer at len within first is = (
  omega (arith, first.high, length-drop at buffer),
  sym (get_or-drop at buffer len 0) ∙ is_lf (slice_index (drop at buffer) len) is,
)

-- a buffer up to the LF of a line, and with it
pub buffer_line : (read buffer : List ℕ) (at len : ℕ) → at ≤ length buffer
    → NoneBefore (Passes (is_byte 10) (drop at buffer)) 0 (length (drop at buffer)) len
    → Passes (is_byte 10) (drop at buffer) len →
    ((read ++ take at buffer) ++ take len (drop at buffer)) ++ 10 ∷ [] ≡ read ++ take (at + (len + 1)) buffer
buffer_line read buffer at len within first is =
    let ends = line_end buffer at len within first is in
    let k : at + (len + 1) ≡ at + len + 1 = omega arith in
    let more = take_more buffer (at + len) 0 ends.0 ∙ ap (λ b. take (at + len) buffer ++ b ∷ []) ends.1 in
    rw (
      append_assoc read (take at buffer) (take len (drop at buffer)),
      append_assoc read (take at buffer ++ take len (drop at buffer)) (10 ∷ []),
      ← take-add at len buffer,
      k,
      more,
    )

-- a buffer in two
pub buffer_whole : (read buffer : List ℕ) (n : ℕ) → (read ++ take n buffer) ++ drop n buffer ≡ read ++ buffer
buffer_whole read buffer n =
    append_assoc read (take n buffer) (drop n buffer) ∙ ap (λ l. read ++ l) (take-append-drop n buffer)
