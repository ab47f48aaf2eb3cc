-- Lists that keep elements at both ends.
use Rattle.clip_track.proofs.Common.{◌≡◌, ℕ, ◌+◌, ◌-◌, ◌≤◌, List, [], ◌∷◌, ◌++◌, length, take, drop, sym, ap, ap₂}
use Rattle.clip_track.proofs.Common.{◌∙◌, append_assoc, arith}
use Rattle.std.proofs.Common.{length-append}
use Rattle.std.proofs.Math.Seq.{drop-append_seam, take-append_seam}
use Rattle.std.proofs.lemmas.List.{drop-drop, drop_all, take-take}
use Rattle.clip_track.specs.{Kept.Keeps, declared.kept.Kept.Kept}

-- nothing is said to stay
pub keeps_none : {A : Type 0} (k : Kept) (old new : List A) → k.front ≡ 0 → k.back ≡ 0 → Keeps k old new
keeps_none k old new f b = record {
  in_old = omega (arith, f, b);
  in_new = omega (arith, f, b);
  front = ap (λ n. take n new) f ∙ sym (ap (λ n. take n old) f);
  back =
      drop_all (length new - k.back) new (omega (arith, b))
      ∙ sym (drop_all (length old - k.back) old (omega (arith, b)));
}

-- a list between the same two lists
abbrev pub around : {A : Type 0} → List A → List A → List A → List A
around xs zs ys = xs ++ (ys ++ zs)

pub around_room : {A : Type 0} (xs ys zs : List A)
    → length (around xs zs ys) ≡ length xs + length ys + length zs
around_room xs ys zs = omega (arith, length-append xs (ys ++ zs), length-append ys zs)

around_back : {A : Type 0} (xs ys zs : List A) → drop (length (around xs zs ys) - length zs) (around xs zs ys) ≡ zs
around_back xs ys zs =
    let n : length (around xs zs ys) - length zs ≡ length (xs ++ ys) =
    omega (arith, around_room xs ys zs, length-append xs ys) in
    ap₂ drop n (sym (append_assoc xs ys zs)) ∙ drop-append_seam (xs ++ ys) zs

pub keeps_around : {A : Type 0} (k : Kept) (xs zs ys us : List A) → k.front ≡ length xs → k.back ≡ length zs
    → Keeps k (around xs zs ys) (around xs zs us)
keeps_around k xs zs ys us f b =
    let front : (vs : List _) → take k.front (around xs zs vs) ≡ xs =
    λ vs. ap (λ n. take n (around xs zs vs)) f ∙ take-append_seam xs (vs ++ zs) in
    let back : (vs : List _) → drop (length (around xs zs vs) - k.back) (around xs zs vs) ≡ zs =
    λ vs. ap (λ n. drop (length (around xs zs vs) - n) (around xs zs vs)) b ∙ around_back xs vs zs in
    record {
      in_old = omega (arith, around_room xs ys zs, f, b);
      in_new = omega (arith, around_room xs us zs, f, b);
      front = front us ∙ sym (front ys);
      back = back us ∙ sym (back ys);
    }

-- so many keep less too
last_less : {A : Type 0} (i k : ℕ) (xs : List A) → i ≤ k → k ≤ length xs
    → drop (length xs - i) xs ≡ drop (k - i) (drop (length xs - k) xs)
last_less i k xs less few =
    let n : length xs - k + (k - i) ≡ length xs - i = omega (arith, few, less) in
    sym (drop-drop (k - i) (length xs - k) xs ∙ ap (λ (at : ℕ). drop at xs) n)

pub keeps_less : {A : Type 0} (j k : Kept) (old new : List A) → j.front ≤ k.front → j.back ≤ k.back → Keeps k old new
    → Keeps j old new
keeps_less j k old new f b h = record {
  in_old = omega (arith, h.in_old, f, b);
  in_new = omega (arith, h.in_new, f, b);
  front = sym (take-take j.front k.front new f) ∙ ap (take j.front) h.front ∙ take-take j.front k.front old f;
  back =
      last_less j.back k.back new b (omega (arith, h.in_new))
      ∙ ap (drop (k.back - j.back)) h.back
      ∙ sym (last_less j.back k.back old b (omega (arith, h.in_old)));
}
