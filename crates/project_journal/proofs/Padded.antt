-- The first 64 bytes, with zeros where there are fewer.
use Rattle.project_journal.proofs.Common.{◌≡◌, ℕ, zero, suc, ◌+◌, ◌-◌, ◌*◌, ◌<◌, min, List, [], ◌∷◌, ◌++◌, length}
use Rattle.project_journal.proofs.Common.{take, drop, replicate, get_or, refl, sym, ◌∙◌, ap, arith, take_min}
use Rattle.project_journal.proofs.Common.{slice_index, Damaged}
use Rattle.std.proofs.lemmas.List.{drop-replicate, get_or-drop}
use Rattle.byteorder.specs.Endian.{little_from}
use Rattle.project_journal.proofs.Parses.{Alike}

zeros_get : (n j : ℕ) → ◌≡◌ {A = ℕ} (get_or (replicate n 0) j 0) 0
zeros_get zero j = refl
zeros_get (suc n) zero = refl
zeros_get (suc n) (suc j) = zeros_get n j

padded_get : (m : ℕ) (xs : List ℕ) (j : ℕ) → j < m
    → get_or (take m xs ++ replicate (m - length xs) 0) j 0 ≡ get_or xs j 0
padded_get zero xs j lt = absurd (omega (arith, lt))
padded_get (suc m) [] j lt =
    ap (λ (n : ℕ). get_or (replicate n 0) j 0) (let n : suc m - 0 ≡ suc m = omega arith in n) ∙ zeros_get (suc m) j
padded_get (suc m) (x ∷ xs) zero lt = refl
padded_get (suc m) (x ∷ xs) (suc j) lt =
    ap (λ (n : ℕ). get_or (take m xs ++ replicate n 0) j 0)
    (let n : suc m - suc (length xs) ≡ m - length xs = omega arith in n)
    ∙ padded_get m xs j (omega (arith, lt))

from_same : (n i : ℕ) (xs ys : List ℕ) → ((j : ℕ) → j < i + n → get_or xs j 0 ≡ get_or ys j 0)
    → little_from i n xs ≡ little_from i n ys
from_same zero i xs ys same = refl
from_same (suc n) i xs ys same =
    let here : slice_index xs i ≡ slice_index ys i = same i (omega arith) in
    let rest = from_same n (suc i) xs ys (λ j lt. same j (omega (arith, lt))) in
    λ k. here k + 256 * rest k

abbrev pub padded : List ℕ → List ℕ
padded bytes = take 64 bytes ++ replicate (64 - length bytes) 0

-- they are what was copied of the bytes over zeros
pub padded_is : (bytes part zeros : List ℕ) (n : ℕ) → n ≡ min 64 (length bytes) → part ≡ take n bytes
    → zeros ≡ replicate 64 0 → part ++ drop n zeros ≡ padded bytes
padded_is bytes part zeros n size front none =
    let first : part ≡ take 64 bytes = front ∙ ap (λ (k : ℕ). take k bytes) size ∙ take_min 64 bytes in
    let behind : drop n zeros ≡ replicate (64 - length bytes) 0 = ap (drop n) none ∙ drop-replicate n 64 0
    ∙ ap (λ (k : ℕ). replicate k 0) (let k : 64 - n ≡ 64 - length bytes = omega (arith, size) in k) in
    λ i. first i ++ behind i

-- they read as all bytes do
pub padded_alike : (len : ℕ) (bytes : List ℕ) {head : List ℕ} → head ≡ padded bytes → len ≡ length bytes
    → Alike len head (length bytes) bytes
padded_alike len bytes same size = rw (same, size) (record {
  ends = refl;
  fields = λ at n fits.
      from_same n 0 (drop at (padded bytes)) (drop at bytes) (λ j lt. get_or-drop at (padded bytes) j 0
      ∙ padded_get 64 bytes (at + j) (omega (arith, fits, lt)) ∙ sym (get_or-drop at bytes j 0));
  bytes = padded_get 64 bytes;
})

pub told_as : (at want have : ℕ) {w h : ℕ} (d : Damaged) → d ≡ record { at = at; want = w; have = h } → w ≡ want → h ≡ have
    → d ≡ record { at = at; want = want; have = have }
told_as at want have d is wants has = is ∙ (λ i. record { at = at; want = wants i; have = has i })
