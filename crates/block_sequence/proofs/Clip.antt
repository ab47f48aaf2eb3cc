-- One piece more of a clip.
use Rattle.std.proofs.Common.{◌≡◌, ℕ, zero, suc, ◌+◌, ◌-◌, ◌≤◌, inl, inr, Bool, true, false, not, ◌&&◌, if◌then◌else◌}
use Rattle.std.proofs.Common.{List, [], ◌∷◌, ◌++◌, take, drop, refl, subst, sym, ap, ◌∙◌, ℤ, append_assoc, arith}
use Rattle.std.proofs.lemmas.Bool.{cases_Bool, and_parts, true≢false, false≢true}
use Rattle.std.proofs.{lemmas.List.drop-drop, lemmas.List.take-append-drop, Math.Nat.sub-zero}
use Rattle.pcm_base.specs.Pieces.{Sources, stretch, whole, piece_len, total, all_samples, IsValid, AllValid, Fits}
use Rattle.pcm_base.specs.Pieces.{AllFit}
use Rattle.pcm_base.specs.{declared.piece.Piece.Piece, declared.block.BlockRef.BlockRef}
use Rattle.pcm_base.proofs.Pieces.{all_samples-append, total-append}
use Rattle.block_sequence.specs.Fuse.{Part, Kept, is_whole, is_full, is_short, front}
use Rattle.block_sequence.specs.Laying.{kept_of, run_parts, laid, laid_first}
use Rattle.block_sequence.specs.Laid.{parts, all_laid_samples, IsMade}
use Rattle.block_sequence.specs.{declared.types.Laid.Laid, declared.types.Laid.TheVariants.Keep}
use Rattle.block_sequence.proofs.{HalfFull.is_full-true, Out.parts_push, Out.samples_push_laid}

-- before or after the first full piece of a clip that begins with a short run
abbrev pub laid_from : Bool → ℕ → ℕ → List Piece → List Part
laid_from first m t ps = if first then laid_first m t ps else laid m t ps

pub ends : (first : Bool) (m t : ℕ) → laid_from first m t [] ≡ run_parts m t
ends true m t = refl
ends false m t = refl

pub goes_on : (first : Bool) (m t : ℕ) (p : Piece) (ps : List Piece)
    → (is_full m p && not first && not (is_short m (front m ps))) ≡ false
    → laid_from first m t (p ∷ ps) ≡ laid_from (first && not (is_full m p)) m (t + piece_len p) ps
goes_on true m t p ps h = elim (cases_Bool (is_full m p)) [ inl s ↦ rw s refl | inr s ↦ rw s refl ]
goes_on false m t p ps h = elim (cases_Bool (is_full m p)) [
  | inl s ↦ elim (cases_Bool (is_short m (front m ps))) [
    | inl k ↦ rw (s, k) refl
    | inr k ↦ absurd (true≢false (rw (s, k) at h))
  ]
  | inr s ↦ rw s refl
]

pub stops : (first : Bool) (m t : ℕ) (p : Piece) (ps : List Piece)
    → (is_full m p && not first && not (is_short m (front m ps))) ≡ true
    → laid_from first m t (p ∷ ps) ≡ run_parts m t ++ kept_of p ++ laid_from first m 0 ps
stops true m t p ps h = elim (cases_Bool (is_full m p))
    [ inl s ↦ absurd (false≢true (rw s at h)) | inr s ↦ absurd (false≢true (rw s at h)) ]
stops false m t p ps h = elim (cases_Bool (is_full m p)) [
  | inl s ↦ elim (cases_Bool (is_short m (front m ps))) [
    | inl k ↦ absurd (false≢true (rw (s, k) at h))
    | inr k ↦ rw (s, k) refl
  ]
  | inr s ↦ absurd (false≢true (rw s at h))
]

-- the pieces from one place to another, and those after
pub between : (ps : List Piece) (a b : ℕ) → a ≤ b → take (b - a) (drop a ps) ++ drop b ps ≡ drop a ps
between ps a b h =
    ap (λ qs. take (b - a) (drop a ps) ++ qs) (ap (λ k. drop k ps) (back a b h) ∙ sym (drop-drop (b - a) a ps))
    ∙ take-append-drop (b - a) (drop a ps)
  where
    back : (a b : ℕ) → a ≤ b → b ≡ a + (b - a)
    back a b h = omega arith

pub AllValid-take : (n : ℕ) (ps : List Piece) → AllValid ps → AllValid (take n ps)
AllValid-take zero ps v = tt
AllValid-take (suc n) [] v = tt
AllValid-take (suc n) (p ∷ ps) v = (v.0, AllValid-take n ps v.1)

pub AllValid-drop : (n : ℕ) (ps : List Piece) → AllValid ps → AllValid (drop n ps)
AllValid-drop zero ps v = v
AllValid-drop (suc n) [] v = tt
AllValid-drop (suc n) (p ∷ ps) v = AllValid-drop n ps v.1

pub AllFit-take : (m n : ℕ) (ps : List Piece) → AllFit m ps → AllFit m (take n ps)
AllFit-take m zero ps v = tt
AllFit-take m (suc n) [] v = tt
AllFit-take m (suc n) (p ∷ ps) v = (v.0, AllFit-take m n ps v.1)

pub AllFit-drop : (m n : ℕ) (ps : List Piece) → AllFit m ps → AllFit m (drop n ps)
AllFit-drop m zero ps v = v
AllFit-drop m (suc n) [] v = tt
AllFit-drop m (suc n) (p ∷ ps) v = AllFit-drop m n ps v.1

pub total_between : (ps : List Piece) (a b run : ℕ) → a ≤ b → total (drop a ps) ≡ run + total (drop b ps)
    → total (take (b - a) (drop a ps)) ≡ run
total_between ps a b run h e =
    let f = total-append (take (b - a) (drop a ps)) (drop b ps) in
    let g = ap total (between ps a b h) in
    omega arith

pub samples_between : (src : Sources) (ps : List Piece) (a b : ℕ) (old xs : List ℤ) → a ≤ b
    → xs ≡ old ++ all_samples src (take (b - a) (drop a ps))
    → xs ++ all_samples src (drop b ps) ≡ old ++ all_samples src (drop a ps)
samples_between src ps a b old xs h e =
    ap (λ ys. ys ++ all_samples src (drop b ps)) e
    ∙ append_assoc old (all_samples src (take (b - a) (drop a ps))) (all_samples src (drop b ps))
    ∙ ap (λ ys. old ++ ys)
    (sym (all_samples-append src (take (b - a) (drop a ps)) (drop b ps)) ∙ ap (all_samples src) (between ps a b h))

pub full_is_whole : (m : ℕ) (p : Piece) (b c : Bool) → (is_full m p && b && c) ≡ true → is_whole p ≡ true
full_is_whole m p b c h = (is_full-true m p (and_parts _ _ (and_parts _ _ h).0).0).0

-- a run and a kept block, and the rest
pub kept_parts : (old : List Part) (ls : List Laid) (b : BlockRef) (run rest all : List Part)
    → parts ls ≡ old ++ run → old ++ (run ++ (Kept b ∷ []) ++ rest) ≡ all → parts (ls ++ Keep b ∷ []) ++ rest ≡ all
kept_parts old ls b run rest all e f =
    parts_push ls (Keep b) rest
    ∙ ap (λ ps. ps ++ (Kept b ∷ rest)) e
    ∙ append_assoc old run (Kept b ∷ rest)
    ∙ ap (λ ps. old ++ ps) (sym (append_assoc run (Kept b ∷ []) rest))
    ∙ f

pub kept_samples : (src : Sources) (ls : List Laid) (b : BlockRef) (ps : List Piece) (all : List ℤ)
    → all_laid_samples src ls ++ all_samples src (whole b ∷ ps) ≡ all
    → all_laid_samples src (ls ++ Keep b ∷ []) ++ all_samples src ps ≡ all
kept_samples src ls b ps all e =
    samples_push_laid src ls (Keep b) (all_samples src ps)
    ∙ ap (λ n. all_laid_samples src ls ++ (stretch (src.block b.id) 0 n ++ all_samples src ps)) (sym (sub-zero b.len))
    ∙ e

pub kept_is_made : (m : ℕ) (p : Piece) (b : BlockRef) → p ≡ whole b → IsValid p → Fits m p → IsMade m (Keep b)
kept_is_made m p b e v f =
    let v' = subst IsValid e v in
    let f' = subst (Fits m) e f in
    (v'.2, f')
