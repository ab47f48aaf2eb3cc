-- Parts of files that are read in turn.
use Rattle.memory_disk.proofs.Common.{◌≡◌, ℕ, zero, suc, ◌+◌, ◌-◌, ◌<◌, ◌≤◌, List, [], ◌∷◌, ◌++◌, length, get_or, take, drop}
use Rattle.memory_disk.proofs.Common.{arith, ap, ◌∙◌, sym, refl, subst, Files}
use Rattle.std.proofs.Common.{◌*◌, ℤ, length-drop, append-nil}
use Rattle.std.proofs.lemmas.Slice.{take-put_mid}
use Rattle.std.proofs.lemmas.List.{drop_all, length-take, take_at}
use Rattle.std.specs.Int.{w16, cast_signed}
use Rattle.byteorder.specs.Endian.{little_number, IsReadBy}
use Rattle.disk_model.specs.declared.parts.Part.{Part}
use Rattle.disk_model.specs.Parts.{AllThere, IsThere, samples_from}
use Rattle.disk_model.proofs.Buffers.{from_more, from_read, length_from}
use borrow.Rule.Slice.PartMut.{put_mid}

-- a buffer that was filled has the samples
pub buffer_from : (bytes was new rest : List ℕ) (out : List ℤ) (at n size count : ℕ) → length out ≡ n → size ≡ 2 * n
    → length was ≡ size → count ≡ size → size ≤ length bytes - at
    → new ≡ take count (drop at bytes) ++ drop count was
    → IsReadBy (λ ys. cast_signed w16 (little_number 2 ys)) 2 (take size (new ++ rest)) out
    → out ≡ samples_from bytes at n
buffer_from bytes was new rest out at n size count len e long exact within is got =
    let front : List ℕ = take count (drop at bytes) in
    let none : drop count was ≡ [] = drop_all count was (omega (arith, long, exact)) in
    let here : new ≡ front = is ∙ ap (λ (ys : List ℕ). front ++ ys) none ∙ append-nil front in
    let cut : take size (new ++ rest) ≡ take (2 * n) (drop at bytes) =
    take_at new rest size (omega (arith, ap length here, length-take count (drop at bytes), length-drop at bytes, exact, within))
    ∙ here ∙ ap (λ (m : ℕ). take m (drop at bytes)) (exact ∙ e) in
    from_read bytes out at n len
    (subst (λ (ys : List ℕ). IsReadBy (λ zs. cast_signed w16 (little_number 2 zs)) 2 ys out) cut got)

-- a buffer more is read
pub from_on : (bytes : List ℕ) (at done n k : ℕ) (out part : List ℤ) → done ≤ length out
    → take done out ≡ samples_from bytes at done → part ≡ samples_from bytes (at + 2 * done) n
    → take (done + n) (put_mid done k out part) ≡ samples_from bytes at (done + n)
from_on bytes at done n k out part le before got =
    let long : length part ≡ n = ap length got ∙ length_from bytes (at + 2 * done) n in
    take-put_mid done k out part (done + n) (omega (arith, long)) le
    ∙ ap (λ (xs : List ℤ). xs ++ part) before ∙ ap (λ (xs : List ℤ). samples_from bytes at done ++ xs) got
    ∙ sym (from_more bytes at done n)

-- the files have their parts so far, and one more
pub there_more : (files : Files) (ps : List Part) (k n : ℕ) (d : Part) → k < length ps → n ≡ k + 1
    → AllThere files (take k ps) → IsThere files (get_or ps k d) → AllThere files (take n ps)
there_more files [] k n d lt is all one = absurd (omega arith)
there_more files (p ∷ ps) zero n d lt is all one =
    subst (λ (m : ℕ). AllThere files (take m (p ∷ ps))) (sym is) (one, tt)
there_more files (p ∷ ps) (suc k) n d lt is all one =
    let next : suc (k + 1) ≡ n = omega arith in
    subst (λ (m : ℕ). AllThere files (take m (p ∷ ps))) next
    (all.0, there_more files ps k (k + 1) d (omega arith) refl all.1 one)

-- each of them is there
pub there_at : (files : Files) (ps : List Part) (k : ℕ) (d : Part) → AllThere files ps → k < length ps
    → IsThere files (get_or ps k d)
there_at files [] k d all lt = absurd (omega arith)
there_at files (p ∷ ps) zero d all lt = all.0
there_at files (p ∷ ps) (suc k) d all lt = there_at files ps k d all.1 (omega arith)
