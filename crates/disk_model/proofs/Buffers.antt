-- Buffers that parts of files are read into.
use Rattle.std.proofs.Common.{◌≡◌, ℕ, zero, suc, ◌+◌, ◌*◌, ◌-◌, ◌<◌, ◌≤◌, ℤ, List, [], ◌∷◌, ◌++◌, length, get_or, take}
use Rattle.std.proofs.Common.{drop, length-append, length-drop, refl, sym, ap, ◌∙◌, arith}
use Rattle.std.proofs.lemmas.List.{drop-drop, drop-take, drop_at, length-take, same_lists, take-append-le}
use Rattle.std.proofs.lemmas.List.{take-take, take_at}
use Rattle.std.specs.Int.{w16, cast_signed}
use Rattle.byteorder.specs.Endian.{little_number, IsReadBy}
use Rattle.byteorder.specs.Numbers.{little_from-take}
use Rattle.pcm_base.specs.declared.limits.TheConstants.{COUNTER_LIMIT}
use Rattle.disk_model.specs.{Disk.Files, Disk.bytes_of, declared.parts.Part.Part}
use Rattle.disk_model.specs.Parts.{AreParts, samples_from, part_samples, put_at, filled}
use borrow.Rule.Slice.PartMut.{put_mid}

-- ---- samples in bytes

pub length_from : (bytes : List ℕ) (at n : ℕ) → length (samples_from bytes at n) ≡ n
length_from bytes at zero = refl
length_from bytes at (suc n) = omega (arith, length_from bytes (at + 2) n)

get_from : (bytes : List ℕ) (at n k : ℕ) (d : ℤ) → k < n
    → get_or (samples_from bytes at n) k d ≡ cast_signed w16 (little_number 2 (drop (at + 2 * k) bytes))
get_from bytes at zero k d lt = absurd (omega arith)
get_from bytes at (suc n) zero d lt = ap (λ (m : ℕ). cast_signed w16 (little_number 2 (drop m bytes))) (omega arith)
get_from bytes at (suc n) (suc k) d lt =
    get_from bytes (at + 2) n k d (omega arith)
    ∙ ap (λ (m : ℕ). cast_signed w16 (little_number 2 (drop m bytes))) (omega arith)

-- some, and those after them
pub from_more : (bytes : List ℕ) (at n m : ℕ)
    → samples_from bytes at (n + m) ≡ samples_from bytes at n ++ samples_from bytes (at + 2 * n) m
from_more bytes at zero m =
    let e : 0 + m ≡ m = omega arith in
    let f : at ≡ at + 2 * 0 = omega arith in
    ap (samples_from bytes at) e ∙ ap (λ (k : ℕ). samples_from bytes k m) f
from_more bytes at (suc n) m =
    let e : suc n + m ≡ suc (n + m) = omega arith in
    let f : at + 2 + 2 * n ≡ at + 2 * suc n = omega arith in
    let s : ℤ = cast_signed w16 (little_number 2 (drop at bytes)) in
    ap (samples_from bytes at) e ∙ ap (λ (xs : List ℤ). s ∷ xs) (from_more bytes (at + 2) n m
    ∙ ap (λ (k : ℕ). samples_from bytes (at + 2) n ++ samples_from bytes k m) f)

-- what a reading of their bytes gave
pub from_read : (bytes : List ℕ) (out : List ℤ) (at n : ℕ) → length out ≡ n
    → IsReadBy (λ ys. cast_signed w16 (little_number 2 ys)) 2 (take (2 * n) (drop at bytes)) out
    → out ≡ samples_from bytes at n
from_read bytes out at n len got =
    same_lists out (samples_from bytes at n) (len ∙ sym (length_from bytes at n)) (λ k d lt.
    let cut : drop (2 * k) (take (2 * n) (drop at bytes)) ≡ take (2 * n - 2 * k) (drop (at + 2 * k) bytes) =
    ap (λ (m : ℕ). drop (2 * k) (take m (drop at bytes))) (omega arith)
    ∙ drop-take (2 * k) (2 * n - 2 * k) (drop at bytes) ∙ ap (take (2 * n - 2 * k)) (drop-drop (2 * k) at bytes) in
    let number : little_number 2 (drop (2 * k) (take (2 * n) (drop at bytes)))
    ≡ little_number 2 (drop (at + 2 * k) bytes) =
    ap (little_number 2) cut ∙ little_from-take 0 2 (2 * n - 2 * k) (drop (at + 2 * k) bytes) (omega arith) in
    got d k lt ∙ ap (cast_signed w16) number ∙ sym (get_from bytes at n k d (omega arith)))

pub length_part : (files : Files) (p : Part) → length (part_samples files p) ≡ p.len
length_part files p = length_from (bytes_of (files p.file)) p.at p.len

-- ---- places

pub parts_end : (ps : List Part) (from to : ℕ) → AreParts from to ps → from ≤ to
parts_end [] from to are = are
parts_end (p ∷ ps) from to are = omega (arith, are.0, parts_end ps (p.to + p.len) to are.2)

-- each of them
pub parts_at : (ps : List Part) (from to k : ℕ) (d : Part) → AreParts from to ps → k < length ps
    → (from ≤ (get_or ps k d).to) × ((get_or ps k d).at + 2 * (get_or ps k d).len ≤ COUNTER_LIMIT)
    × ((get_or ps k d).to + (get_or ps k d).len ≤ to)
parts_at [] from to k d are lt = absurd (omega arith)
parts_at (p ∷ ps) from to zero d are lt = (are.0, are.1, parts_end ps (p.to + p.len) to are.2)
parts_at (p ∷ ps) from to (suc k) d are lt =
    let h = parts_at ps (p.to + p.len) to k d are.2 (omega arith) in
    (omega (arith, h.0, are.0), h.1, h.2)

-- from an earlier place on
pub parts_sooner : (ps : List Part) (sooner from to : ℕ) → sooner ≤ from → AreParts from to ps → AreParts sooner to ps
parts_sooner [] sooner from to le are = omega (arith, are)
parts_sooner (p ∷ ps) sooner from to le are = (omega (arith, are.0), are.1, are.2)

-- ---- buffers

-- a part of a slice that was written
pub put_mid_at : (at k : ℕ) (out xs : List ℤ) → length xs ≡ k → put_mid at k out xs ≡ put_at at xs out
put_mid_at at k out xs len =
    let e : at + k ≡ at + length xs = omega arith in
    ap (λ (ys : List ℤ). take at out ++ (xs ++ ys)) (drop-drop k at out)
    ∙ ap (λ (n : ℕ). take at out ++ (xs ++ drop n out)) e

length_put : (at : ℕ) (xs out : List ℤ) → at + length xs ≤ length out → length (put_at at xs out) ≡ length out
length_put at xs out le =
    omega (
      arith,
      length-append (take at out) (xs ++ drop (at + length xs) out),
      length-append xs (drop (at + length xs) out),
      length-take at out,
      length-drop (at + length xs) out,
    )

put_before : (n at : ℕ) (xs out : List ℤ) → n ≤ at → at ≤ length out → take n (put_at at xs out) ≡ take n out
put_before n at xs out le within =
    take-append-le n (take at out) (xs ++ drop (at + length xs) out) (omega (arith, length-take at out))
    ∙ take-take n at out le

put_there : (at n : ℕ) (xs out : List ℤ) → length xs ≡ n → at ≤ length out
    → take n (drop at (put_at at xs out)) ≡ xs
put_there at n xs out len within =
    ap (take n) (drop_at (take at out) (xs ++ drop (at + length xs) out) at (omega (arith, length-take at out)))
    ∙ take_at xs (drop (at + length xs) out) n len

-- it keeps its length
pub length_filled : (files : Files) (ps : List Part) (from to : ℕ) (out : List ℤ) → AreParts from to ps
    → to ≤ length out → length (filled files ps out) ≡ length out
length_filled files [] from to out are within = refl
length_filled files (p ∷ ps) from to out are within =
    let xs : List ℤ = part_samples files p in
    let end = parts_end ps (p.to + p.len) to are.2 in
    let size = length_put p.to xs out
    (omega (arith, end, length_part files p)) in
    length_filled files ps (p.to + p.len) to (put_at p.to xs out) are.2 (omega (arith, size)) ∙ size

-- and what stands before the first of them
pub filled_before : (files : Files) (ps : List Part) (from to : ℕ) (out : List ℤ) → AreParts from to ps
    → to ≤ length out → take from (filled files ps out) ≡ take from out
filled_before files [] from to out are within = refl
filled_before files (p ∷ ps) from to out are within =
    let xs : List ℤ = part_samples files p in
    let next : List ℤ = put_at p.to xs out in
    let end = parts_end ps (p.to + p.len) to are.2 in
    let size : length next ≡ length out = length_put p.to xs out (omega (arith, end, length_part files p)) in
    let le : from ≤ p.to + p.len = omega (arith, are.0) in
    sym (take-take from (p.to + p.len) (filled files ps next) le)
    ∙ ap (take from) (filled_before files ps (p.to + p.len) to next are.2 (omega (arith, size)))
    ∙ take-take from (p.to + p.len) next le ∙ put_before from p.to xs out are.0 (omega (arith, end))

-- one part more
pub filled_more : (files : Files) (ps : List Part) (k n : ℕ) (d : Part) (out : List ℤ) → k < length ps → n ≡ suc k
    → filled files (take n ps) out
    ≡ put_at (get_or ps k d).to (part_samples files (get_or ps k d)) (filled files (take k ps) out)
filled_more files [] k n d out lt is = absurd (omega arith)
filled_more files (p ∷ ps) zero n d out lt is = ap (λ (m : ℕ). filled files (take m (p ∷ ps)) out) is
filled_more files (p ∷ ps) (suc k) n d out lt is =
    ap (λ (m : ℕ). filled files (take m (p ∷ ps)) out) is
    ∙ filled_more files ps k (suc k) d (put_at p.to (part_samples files p) out) (omega arith) refl

-- each part stands at its place
pub filled_at : (files : Files) (ps : List Part) (from to k : ℕ) (d : Part) (out : List ℤ) → AreParts from to ps
    → to ≤ length out → k < length ps
    → take (get_or ps k d).len (drop (get_or ps k d).to (filled files ps out)) ≡ part_samples files (get_or ps k d)
filled_at files [] from to k d out are within lt = absurd (omega arith)
filled_at files (p ∷ ps) from to zero d out are within lt =
    let xs : List ℤ = part_samples files p in
    let next : List ℤ = put_at p.to xs out in
    let end = parts_end ps (p.to + p.len) to are.2 in
    let long : length xs ≡ p.len = length_part files p in
    let size : length next ≡ length out = length_put p.to xs out (omega (arith, end, long)) in
    sym (drop-take p.to p.len (filled files ps next))
    ∙ ap (drop p.to) (filled_before files ps (p.to + p.len) to next are.2 (omega (arith, size)))
    ∙ drop-take p.to p.len next ∙ put_there p.to p.len xs out long (omega (arith, end))
filled_at files (p ∷ ps) from to (suc k) d out are within lt =
    let xs : List ℤ = part_samples files p in
    let end = parts_end ps (p.to + p.len) to are.2 in
    let size = length_put p.to xs out (omega (arith, end, length_part files p)) in
    filled_at files ps (p.to + p.len) to k d (put_at p.to xs out) are.2 (omega (arith, size)) (omega arith)
