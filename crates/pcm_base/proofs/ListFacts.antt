-- Parts of a list, numbers in a row, and numbers that differ.
use Rattle.std.proofs.Common.{◌≡◌, ℕ, zero, suc, ◌+◌, ◌-◌, ◌*◌, ◌≤◌, List, [], ◌∷◌, ◌++◌, length, take, drop, ap, arith}
use Rattle.std.proofs.Common.{add-zero, refl, ◌≢◌, Bool, true, false, eqb, ◌<◌, get_or, subst, ◌∙◌}
use Rattle.std.proofs.lemmas.List.{length-drop, take-append-le, drop-append-le}
use Rattle.std.proofs.{lemmas.Bool.eqb-true, lemmas.List.Concat.flat_map-cons}
use Rattle.pcm_base.specs.Recordings.{parts_of, bytes_of_frame, frame_bytes}
use Rattle.pcm_base.specs.{Arithmetic.counted_from, declared.sound.Frame.Frame}
use Rattle.std.specs.List.{AllByRecursion}

pub parts_append : {A : Type 0} (size k m n : ℕ) (xs ys : List A) → n ≡ k + m → length xs ≡ k * size
    → parts_of size n (xs ++ ys) ≡ parts_of size k xs ++ parts_of size m ys
parts_append size zero m n [] ys e h = let same : n ≡ m = omega arith in ap (λ c. parts_of size c ys) same
parts_append size zero m n (x ∷ xs) ys e h = absurd (omega arith)
parts_append size (suc k) m zero xs ys e h = absurd (omega arith)
parts_append size (suc k) m (suc n) xs ys e h =
    let long : size ≤ length xs = grind arith in
    let rest : length (drop size xs) ≡ k * size = grind (arith, length-drop) in
    rw (take-append-le size xs ys long, drop-append-le size xs ys long)
    (ap (λ t. take size xs ∷ t) (parts_append size k m n (drop size xs) ys (omega arith) rest))

-- one number more
pub counted_more : (n k : ℕ) → counted_from n (k + 1) ≡ counted_from n k ++ (n + k) ∷ []
counted_more n zero = rw (add-zero n)
counted_more n (suc k) =
    let e : n + 1 + k ≡ n + suc k = omega arith in
    let s : suc k + 1 ≡ suc (k + 1) = omega arith in
    rw (s, counted_more (n + 1) k, e)

pub length-counted_from : (n k : ℕ) → length (counted_from n k) ≡ k
length-counted_from n zero = refl
length-counted_from n (suc k) = ap suc (length-counted_from (n + 1) k)

pub differ : (a b : ℕ) → a ≢ b → eqb a b ≡ false
differ a b ne = by_case (eqb a b) (eqb-true a b)
  where
    by_case : (t : Bool) → (t ≡ true → a ≡ b) → t ≡ false
    by_case true same = absurd (ne (same refl))
    by_case false same = refl

pub each_at : {X : Type 0} (P : X → Type 0) (xs : List X) → AllByRecursion P xs → (k : ℕ) (x : X) → k < length xs
    → get_or xs k x ≡ x → P x
each_at P [] all k x lt e = absurd (omega (arith, lt))
each_at P (y ∷ ys) all zero x lt e = subst P e all.0
each_at P (y ∷ ys) all (suc k) x lt e = each_at P ys all.1 k x (omega (arith, lt)) e

pub length_frames : (frames : List Frame) → length (frame_bytes frames) ≡ 4 * length frames
length_frames [] = refl
length_frames (f ∷ fs) = ap length (flat_map-cons bytes_of_frame f fs) ∙ omega (arith, length_frames fs)
