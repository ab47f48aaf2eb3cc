-- Lemmas on pieces and their samples, for the crates that cut and join them.
use Rattle.std.proofs.Common.{◌≡◌, ℕ, zero, suc, ◌+◌, ◌-◌, ◌≤◌, List, [], ◌∷◌, ◌++◌, length, get_or, map, take, drop}
use Rattle.std.proofs.Common.{refl, sym, ap, ap₂, ◌∙◌, pos, append_assoc, length-append, length-drop, arith, ℤ}
use Rattle.std.proofs.lemmas.List.{take-append-le, drop-append-le, length-replicate, length-map, take-append-drop}
use Rattle.std.proofs.lemmas.List.{drop-drop, drop-map, take-map, drop-replicate, take-replicate, drop_all, drop_more}
use Rattle.std.proofs.Math.Seq.{drop-append-add}
use Rattle.pcm_base.specs.declared.piece.Piece.TheVariants.{Old, Scaled, Zero, Given}
use Rattle.pcm_base.specs.Pieces.{Sources, stretch, piece_len, samples_of, total, all_samples, part_of, IsValid}
use Rattle.pcm_base.specs.Pieces.{AllValid, Fits, AllFit}
use Rattle.pcm_base.specs.{declared.piece.Piece.Piece, Arithmetic.scaled, Arithmetic.clamped}

pub length-stretch : (f : ℕ → ℤ) (from n : ℕ) → length (stretch f from n) ≡ n
length-stretch f from zero = refl
length-stretch f from (suc n) = ap suc (length-stretch f (suc from) n)

pub length-samples : (src : Sources) (p : Piece) → length (samples_of src p) ≡ piece_len p
length-samples src (Old b from to) = length-stretch (src.block b.id) from (to - from)
length-samples src (Scaled b from to gain) = length-map _ _ ∙ length-stretch (src.block b.id) from (to - from)
length-samples src (Zero len) = length-replicate len (pos 0)
length-samples src (Given from to) = length-stretch src.given from (to - from)

pub length-all_samples : (src : Sources) (ps : List Piece) → length (all_samples src ps) ≡ total ps
length-all_samples src [] = refl
length-all_samples src (p ∷ ps) =
    length-append (samples_of src p) (all_samples src ps) ∙ ap₂ ◌+◌ (length-samples src p) (length-all_samples src ps)

pub all_samples-append : (src : Sources) (ps qs : List Piece)
    → all_samples src (ps ++ qs) ≡ all_samples src ps ++ all_samples src qs
all_samples-append src [] qs = refl
all_samples-append src (p ∷ ps) qs =
    ap (λ xs. samples_of src p ++ xs) (all_samples-append src ps qs)
    ∙ sym (append_assoc (samples_of src p) (all_samples src ps) (all_samples src qs))

pub total-append : (ps qs : List Piece) → total (ps ++ qs) ≡ total ps + total qs
total-append [] qs = omega arith
total-append (p ∷ ps) qs = omega (arith, total-append ps qs)

-- a part of a stretch is a stretch
pub take-stretch : (f : ℕ → ℤ) (from k n : ℕ) → k ≤ n → take k (stretch f from n) ≡ stretch f from k
take-stretch f from zero n h = refl
take-stretch f from (suc k) zero h = absurd (omega arith)
take-stretch f from (suc k) (suc n) h = ap (λ xs. f from ∷ xs) (take-stretch f (suc from) k n (omega arith))

pub drop-stretch : (f : ℕ → ℤ) (from k n : ℕ) → k ≤ n → drop k (stretch f from n) ≡ stretch f (from + k) (n - k)
drop-stretch f from zero n h = ap₂ (λ a b. stretch f a b) (omega arith) (omega arith)
drop-stretch f from (suc k) zero h = absurd (omega arith)
drop-stretch f from (suc k) (suc n) h =
    drop-stretch f (suc from) k n (omega arith) ∙ ap₂ (λ a b. stretch f a b) (omega arith) (omega arith)

pub part-stretch : (f : ℕ → ℤ) (from skip k n : ℕ) → skip + k ≤ n
    → take k (drop skip (stretch f from n)) ≡ stretch f (from + skip) k
part-stretch f from skip k n h =
    ap (take k) (drop-stretch f from skip n (omega arith)) ∙ take-stretch f (from + skip) k (n - skip) (omega arith)

-- past the first of two lists
pub drop-past : {A : Type 0} (xs ys : List A) (n : ℕ) → length xs ≤ n → drop n (xs ++ ys) ≡ drop (n - length xs) ys
drop-past xs ys n h =
    let e : n ≡ length xs + (n - length xs) = omega arith in
    ap (λ k. drop k (xs ++ ys)) e ∙ drop-append-add xs ys (n - length xs)

-- a part is cut off in front
pub cut-off : {A : Type 0} (xs ys : List A) (skip k : ℕ) → skip + k ≤ length xs
    → take k (drop skip xs) ++ drop (skip + k) (xs ++ ys) ≡ drop skip (xs ++ ys)
cut-off xs ys skip k h =
    let d = drop-append-le skip xs ys (omega arith) in
    let e : k ≤ length (drop skip xs) = omega (arith, length-drop skip xs) in
    ap (λ zs. take k (drop skip xs) ++ zs) (sym (drop-drop k skip (xs ++ ys)) ∙ ap (drop k) d)
    ∙ ap (λ zs. zs ++ drop k (drop skip xs ++ ys)) (sym (take-append-le k (drop skip xs) ys e))
    ∙ take-append-drop k (drop skip xs ++ ys)
    ∙ sym d

pub piece_len-part : (skip n : ℕ) (p : Piece) → piece_len (part_of skip n p) ≡ n
piece_len-part skip n (Old b from to) = omega arith
piece_len-part skip n (Scaled b from to gain) = omega arith
piece_len-part skip n (Zero len) = refl
piece_len-part skip n (Given from to) = omega arith

-- a part of a piece has that part of its samples
pub samples-part : (src : Sources) (skip n : ℕ) (p : Piece) → skip + n ≤ piece_len p
    → samples_of src (part_of skip n p) ≡ take n (drop skip (samples_of src p))
samples-part src skip n (Old b from to) h =
    ap (stretch (src.block b.id) (from + skip)) (omega arith)
    ∙ sym (part-stretch (src.block b.id) from skip n (to - from) h)
samples-part src skip n (Scaled b from to gain) h =
    let f = src.block b.id in
    let g : ℤ → ℤ = λ s. clamped (scaled gain s) in
    ap (λ k. map g (stretch f (from + skip) k)) (omega arith)
    ∙ ap (map g) (sym (part-stretch f from skip n (to - from) h))
    ∙ sym (ap (take n) (drop-map g skip (stretch f from (to - from)))
    ∙ take-map g n (drop skip (stretch f from (to - from))))
samples-part src skip n (Zero len) h =
    sym (ap (take n) (drop-replicate skip len (pos 0)) ∙ take-replicate n (len - skip) (pos 0) (omega arith))
samples-part src skip n (Given from to) h =
    ap (stretch src.given (from + skip)) (omega arith) ∙ sym (part-stretch src.given from skip n (to - from) h)

pub IsValid-part : (skip n : ℕ) (p : Piece) → skip + n ≤ piece_len p → IsValid p → IsValid (part_of skip n p)
IsValid-part skip n (Old b from to) h v = (omega arith, omega arith, v.2)
IsValid-part skip n (Scaled b from to gain) h v = (omega arith, omega arith, v.2)
IsValid-part skip n (Zero len) h v = tt
IsValid-part skip n (Given from to) h v = omega arith

pub Fits-part : (m skip n : ℕ) (p : Piece) → Fits m p → Fits m (part_of skip n p)
Fits-part m skip n (Old b from to) v = v
Fits-part m skip n (Scaled b from to gain) v = v
Fits-part m skip n (Zero len) v = tt
Fits-part m skip n (Given from to) v = tt

pub AllValid-append : (ps qs : List Piece) → AllValid ps → AllValid qs → AllValid (ps ++ qs)
AllValid-append [] qs a b = b
AllValid-append (p ∷ ps) qs a b = (a.0, AllValid-append ps qs a.1 b)

pub AllFit-append : (m : ℕ) (ps qs : List Piece) → AllFit m ps → AllFit m qs → AllFit m (ps ++ qs)
AllFit-append m [] qs a b = b
AllFit-append m (p ∷ ps) qs a b = (a.0, AllFit-append m ps qs a.1 b)

-- a list is the stretch of its items: how a block's samples give a source
pub stretch_list : (xs : List ℤ) (d : ℤ) → stretch (λ i. get_or xs i d) 0 (length xs) ≡ xs
stretch_list xs d = from_place xs 0 d (length xs) (omega arith)
  where
    from_place : (xs : List ℤ) (i : ℕ) (d : ℤ) (n : ℕ) → i + n ≡ length xs
        → stretch (λ j. get_or xs j d) i n ≡ drop i xs
    from_place xs i d zero h = sym (drop_all i xs (omega arith))
    from_place xs i d (suc n) h =
        let e : suc i ≡ i + 1 = omega arith in
        ap (λ ys. get_or xs i d ∷ ys) (from_place xs (suc i) d n (omega arith) ∙ ap (λ j. drop j xs) e)
        ∙ sym (drop_more xs i d (omega arith))
