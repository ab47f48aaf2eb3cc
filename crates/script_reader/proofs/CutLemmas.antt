-- The lines of the bytes so far, and of more.
use Rattle.std.proofs.Common.{◌≡◌, ◌==◌, ℕ, suc, ◌<◌, slice_index, List, [], ◌∷◌, ◌++◌, length, false, refl, sym, ap}
use Rattle.std.proofs.Common.{◌∙◌, arith, append_assoc}
use Rattle.std.proofs.{lemmas.Bool.Decides.nat_tests, lemmas.List.append-nil}
use Rattle.script_text.specs.Lines.{lines_of, ended_lines}
use Rattle.script_reader.specs.Progress.{Cut, HasNoLf}

no_lf : (b : ℕ) → (b ≡ 10 → ⊥) → (b == 10) ≡ false
no_lf b h = grind (arith, nat_tests)

HasNoLf-append : (part more : List ℕ) → HasNoLf part → HasNoLf more → HasNoLf (part ++ more)
HasNoLf-append [] more h n = n
HasNoLf-append (c ∷ part) more h n = (h.0, HasNoLf-append part more h.1 n)

-- bytes none of which is an LF
pub HasNoLf-nowhere : (bs : List ℕ) → ((k : ℕ) → k < length bs → slice_index bs k ≡ 10 → ⊥) → HasNoLf bs
HasNoLf-nowhere [] none = tt
HasNoLf-nowhere (b ∷ bs) none = (none 0 (omega arith), HasNoLf-nowhere bs (λ k below. none (suc k) (omega arith)))

lines_of-part : (part more : List ℕ) → HasNoLf part → lines_of (part ++ 10 ∷ more) ≡ part ∷ lines_of more
lines_of-part [] more h = refl
lines_of-part (b ∷ part) more h = rw (no_lf b h.0, lines_of-part part more h.1)

ended_lines-part : (part more : List ℕ) → HasNoLf part → ended_lines (part ++ 10 ∷ more) ≡ part ∷ ended_lines more
ended_lines-part [] more h = refl
ended_lines-part (b ∷ part) more h = rw (no_lf b h.0, ended_lines-part part more h.1)

ended_lines-open : (part : List ℕ) → HasNoLf part → ended_lines part ≡ []
ended_lines-open [] h = refl
ended_lines-open (b ∷ part) h = rw (no_lf b h.0, ended_lines-open part h.1)

lines_of-open : (part : List ℕ) → HasNoLf part → 0 < length part → lines_of part ≡ part ∷ []
lines_of-open [] h l = absurd (omega arith)
lines_of-open (b ∷ []) h l = rw (no_lf b h.0)
lines_of-open (b ∷ c ∷ part) h l = rw (no_lf b h.0, lines_of-open (c ∷ part) h.1 (omega arith))

pub Cut-start : Cut [] [] []
Cut-start = record { unended = tt; whole = λ more. refl; ended = λ more. refl }

pub Cut-more : (read : List ℕ) (lines : List (List ℕ)) (part bytes : List ℕ) → HasNoLf bytes → Cut read lines part
    → Cut (read ++ bytes) lines (part ++ bytes)
Cut-more read lines part bytes n c = record {
  unended = HasNoLf-append part bytes c.unended n;
  whole = λ more. rw (append_assoc read bytes more, append_assoc part bytes more) (c.whole (bytes ++ more));
  ended = λ more. rw (append_assoc read bytes more, append_assoc part bytes more) (c.ended (bytes ++ more));
}

pub Cut-lf : (read : List ℕ) (lines : List (List ℕ)) (part : List ℕ) → Cut read lines part
    → Cut (read ++ 10 ∷ []) (lines ++ part ∷ []) []
Cut-lf read lines part c = record {
  unended = tt;
  whole = λ more. rw (append_assoc read (10 ∷ []) more, append_assoc lines (part ∷ []) (lines_of more))
      (c.whole (10 ∷ more) ∙ ap (λ l. lines ++ l) (lines_of-part part more c.unended));
  ended = λ more. rw (append_assoc read (10 ∷ []) more, append_assoc lines (part ∷ []) (ended_lines more))
      (c.ended (10 ∷ more) ∙ ap (λ l. lines ++ l) (ended_lines-part part more c.unended));
}

-- where the bytes break off, the lines are those that ended
pub Cut-ended : (read : List ℕ) (lines : List (List ℕ)) (part : List ℕ) → Cut read lines part → lines ≡ ended_lines read
Cut-ended read lines part c =
    let e = rw (append-nil read, append-nil part, ended_lines-open part c.unended, append-nil lines) at (c.ended []) in
    sym e

-- where they end, what has come of a last line is one more
pub Cut-end : (read : List ℕ) (lines : List (List ℕ)) → Cut read lines [] → lines ≡ lines_of read
Cut-end read lines c = let e = rw (append-nil read, append-nil lines) at (c.whole []) in sym e

pub Cut-last : (read : List ℕ) (lines : List (List ℕ)) (part : List ℕ) → 0 < length part → Cut read lines part
    → lines ++ part ∷ [] ≡ lines_of read
Cut-last read lines part some c =
    let e = rw (append-nil read, append-nil part, lines_of-open part c.unended some) at (c.whole []) in
    sym e
