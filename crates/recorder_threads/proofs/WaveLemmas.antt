-- Samples of bytes, and chunks of samples.
use Rattle.std.proofs.Common.{◌≡◌, ℕ, ◌+◌, ◌*◌, ◌/◌, ◌<◌, ◌≤◌, zero, suc, ℤ, List, [], ◌∷◌, ◌++◌, length, take, drop}
use Rattle.std.proofs.Common.{get_or, refl, sym, ap, ◌∙◌, arith, append_assoc, set, to_z, of_z, w16}
use Rattle.std.proofs.lemmas.List.{length-append, length-take-le, take_all, take_more, take_more_set}
use Rattle.std.proofs.lemmas.Int.{of_z-to_z}
use Rattle.pcm_base.specs.Recordings.{sample_of, samples_of_bytes, parts_of, chunks_of, numbered_part, numbered}
use Rattle.pcm_base.proofs.ListFacts.{parts_append}

pub samples-append : (k : ℕ) (xs ys : List ℕ) → length xs ≡ 2 * k
    → samples_of_bytes (xs ++ ys) ≡ samples_of_bytes xs ++ samples_of_bytes ys
samples-append zero [] ys h = refl
samples-append zero (a ∷ xs) ys h = absurd (omega arith)
samples-append (suc k) [] ys h = absurd (omega arith)
samples-append (suc k) (a ∷ []) ys h = absurd (omega arith)
samples-append (suc k) (a ∷ b ∷ xs) ys h = ap (λ t. sample_of a b ∷ t) (samples-append k xs ys (omega arith))

pub length-samples : (bs : List ℕ) → length (samples_of_bytes bs) ≡ length bs / 2
length-samples [] = refl
length-samples (a ∷ []) = refl
length-samples (a ∷ b ∷ bs) = let r = length-samples bs in omega (arith, r)

pub length-parts : {A : Type 0} (size n : ℕ) (xs : List A) → length (parts_of size n xs) ≡ n
length-parts size zero xs = refl
length-parts size (suc n) xs = ap suc (length-parts size n (drop size xs))

-- the chunk of a last block
abbrev pub chunks_if : List ℤ → List (List ℤ)
chunks_if [] = []
chunks_if (s ∷ ss) = (s ∷ ss) ∷ []

parts_last : (ys : List ℤ) → length ys ≤ 256 → parts_of 256 ((length ys + 255) / 256) ys ≡ chunks_if ys
parts_last [] h = refl
parts_last (y ∷ ys) h =
    let one : (length (y ∷ ys) + 255) / 256 ≡ 1 = omega arith in
    rw one (ap (λ t. t ∷ []) (take_all 256 (y ∷ ys) h))

-- whole blocks were read, and then one more
pub chunks-more : (k : ℕ) (done block : List ℕ) → length done ≡ 512 * k → length block ≤ 512
    → chunks_of (done ++ block) ≡ chunks_of done ++ chunks_if (samples_of_bytes block)
chunks-more k done block whole bound =
    let a : samples_of_bytes (done ++ block) ≡ samples_of_bytes done ++ samples_of_bytes block =
    samples-append (256 * k) done block (omega arith) in
    let d : length (samples_of_bytes done) ≡ k * 256 = omega (arith, length-samples done) in
    let s : length (samples_of_bytes block) ≤ 256 = omega (arith, length-samples block) in
    let n : (length (samples_of_bytes done ++ samples_of_bytes block) + 255) / 256
    ≡ k + (length (samples_of_bytes block) + 255) / 256 =
    omega (arith, length-append (samples_of_bytes done) (samples_of_bytes block)) in
    let c : (length (samples_of_bytes done) + 255) / 256 ≡ k = omega arith in
    ap (λ t. parts_of 256 ((length t + 255) / 256) t) a
    ∙ parts_append 256 k ((length (samples_of_bytes block) + 255) / 256) _ (samples_of_bytes done)
    (samples_of_bytes block) n d
    ∙ ap (λ m. parts_of 256 m (samples_of_bytes done) ++ parts_of 256 ((length (samples_of_bytes block) + 255) / 256)
    (samples_of_bytes block)) (sym c)
    ∙ ap (λ t. chunks_of done ++ t) (parts_last (samples_of_bytes block) s)

pub length-chunks : (k : ℕ) (done : List ℕ) → length done ≡ 512 * k → length (chunks_of done) ≡ k
length-chunks k done whole = omega (
  arith,
  length-parts 256 ((length (samples_of_bytes done) + 255) / 256) (samples_of_bytes done),
  length-samples done,
)

pub length-numbered : (from : ℕ) (xs : List (List ℤ)) → length (numbered from xs) ≡ length xs
length-numbered from [] = refl
length-numbered from (x ∷ xs) = ap suc (length-numbered (from + 1) xs)

pub numbered-push : (from : ℕ) (xs : List (List ℤ)) (x : List ℤ) (n : ℕ) → n ≡ from + length xs
    → numbered from (xs ++ x ∷ []) ≡ numbered from xs ++ numbered_part n x ∷ []
numbered-push from [] x n e = let same : from ≡ n = omega arith in ap (λ c. numbered_part c x ∷ []) same
numbered-push from (y ∷ ys) x n e = ap (λ t. numbered_part from y ∷ t) (numbered-push (from + 1) ys x n (omega arith))

-- one sample more
pub samples-take_more : (bs : List ℕ) (i : ℕ) → 2 * i + 1 < length bs → samples_of_bytes (take (2 * (i + 1)) bs)
    ≡ samples_of_bytes (take (2 * i) bs) ++ sample_of (get_or bs (2 * i) 0) (get_or bs (2 * i + 1) 0) ∷ []
samples-take_more bs i h =
    let one = take_more bs (2 * i) 0 (omega arith) in
    let two = take_more bs (2 * i + 1) 0 h in
    let len : length (take (2 * i) bs) ≡ 2 * i = length-take-le (2 * i) bs (omega arith) in
    let n : 2 * (i + 1) ≡ 2 * i + 1 + 1 = omega arith in
    rw (n, two, one, append_assoc)
    (samples-append i (take (2 * i) bs) (get_or bs (2 * i) 0 ∷ get_or bs (2 * i + 1) 0 ∷ []) len)

pub samples-take_all : (bs : List ℕ) (n : ℕ) → n ≡ length bs / 2
    → samples_of_bytes (take (2 * n) bs) ≡ samples_of_bytes bs
samples-take_all bs n e = all bs n e
  where
    all : (bs : List ℕ) (n : ℕ) → n ≡ length bs / 2 → samples_of_bytes (take (2 * n) bs) ≡ samples_of_bytes bs
    all [] n e = ap samples_of_bytes (take_all (2 * n) [] (omega arith))
    all (a ∷ []) n e = let z : 2 * n ≡ 0 = omega arith in rw z refl
    all (a ∷ b ∷ bs) zero e = absurd (omega arith)
    all (a ∷ b ∷ bs) (suc n) e =
        let two : 2 * suc n ≡ suc (suc (2 * n)) = omega arith in
        rw two (ap (λ t. sample_of a b ∷ t) (all bs n (omega arith)))

-- a sample that is stored and read again
pub sample-again : (low high : ℕ) (r : ℤ) → low < 256 → high < 256 → r ≡ sample_of low high
    → to_z w16 (of_z w16 r) ≡ sample_of low high
sample-again low high r a b e =
    ap (λ z. to_z w16 (of_z w16 z)) e ∙ ap (to_z w16) (of_z-to_z w16 (low + high * 256) (omega arith))

-- and stands after the samples before it
pub store-sample : (samples : List ℤ) (bs : List ℕ) (i : ℕ) (r : ℤ) → i < length samples → 2 * i + 1 < length bs
    → ((k : ℕ) → get_or bs k 0 < 256) → r ≡ sample_of (get_or bs (2 * i) 0) (get_or bs (2 * i + 1) 0)
    → take i samples ≡ samples_of_bytes (take (2 * i) bs)
    → take (i + 1) (set samples i (to_z w16 (of_z w16 r))) ≡ samples_of_bytes (take (2 * (i + 1)) bs)
store-sample samples bs i r room h bytes e done =
    take_more_set samples i (to_z w16 (of_z w16 r)) room
    ∙ ap (λ t. t ++ to_z w16 (of_z w16 r) ∷ []) done
    ∙ ap (λ z. samples_of_bytes (take (2 * i) bs) ++ z ∷ []) (sample-again _ _ r (bytes (2 * i)) (bytes (2 * i + 1)) e)
    ∙ sym (samples-take_more bs i h)
