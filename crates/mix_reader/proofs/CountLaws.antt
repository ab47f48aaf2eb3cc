-- Numbers counted from one on, and what is made of each.
use Rattle.mix_reader.proofs.Common.{◌≡◌, ℕ, zero, suc, ◌+◌, ◌-◌, ◌≤◌, min, List, ◌∷◌, ◌++◌, length, map, take, drop}
use Rattle.mix_reader.proofs.Common.{sym, ap, ◌∙◌, arith, map-append, counted_from}
use Rattle.std.proofs.{lemmas.List.take-map, lemmas.List.drop-map, lemmas.Slice.take-put_mid}
use borrow.Rule.Slice.PartMut.{put_mid}

counted_append : (from n m : ℕ) → counted_from from (n + m) ≡ counted_from from n ++ counted_from (from + n) m
counted_append from zero m =
    let e : 0 + m ≡ m = omega arith in
    let f : from ≡ from + 0 = omega arith in
    ap (counted_from from) e ∙ ap (λ k. counted_from k m) f
counted_append from (suc n) m =
    let e : suc n + m ≡ suc (n + m) = omega arith in
    let f : from + 1 + n ≡ from + suc n = omega arith in
    ap (counted_from from) e ∙ ap (λ xs. from ∷ xs)
    (counted_append (from + 1) n m ∙ ap (λ k. counted_from (from + 1) n ++ counted_from k m) f)

-- a piece more is made
pub made_more : {A : Type 0} (f : ℕ → A) (from done n k next : ℕ) (out part : List A) → done ≤ length out
    → take done out ≡ map f (counted_from from done)
    → part ≡ map f (counted_from (from + done) n) → length part ≡ n → next ≡ done + n
    → take next (put_mid done k out part) ≡ map f (counted_from from next)
made_more f from done n k next out part le before got size is =
    take-put_mid done k out part next (omega (arith, size, is)) le ∙ ap (λ xs. xs ++ part) before
    ∙ ap (λ xs. map f (counted_from from done) ++ xs) got
    ∙ sym
    (ap (map f) (counted_append from done n) ∙ map-append f (counted_from from done) (counted_from (from + done) n))
    ∙ ap (λ m. map f (counted_from from m)) (sym is)

drop_counted : (n from k : ℕ) → drop n (counted_from from k) ≡ counted_from (from + n) (k - n)
drop_counted zero from k =
    let e : from ≡ from + 0 = omega arith in
    let f : k ≡ k - 0 = omega arith in
    ap (λ a. counted_from a k) e ∙ ap (counted_from (from + 0)) f
drop_counted (suc n) from zero = let f : 0 ≡ 0 - suc n = omega arith in ap (counted_from (from + suc n)) f
drop_counted (suc n) from (suc k) =
    let e : from + 1 + n ≡ from + suc n = omega arith in
    let f : k - n ≡ suc k - suc n = omega arith in
    drop_counted n (from + 1) k ∙ ap (λ a. counted_from a (k - n)) e ∙ ap (counted_from (from + suc n)) f

take_counted : (n from k : ℕ) → take n (counted_from from k) ≡ counted_from from (min n k)
take_counted zero from k = let f : 0 ≡ min 0 k = omega arith in ap (counted_from from) f
take_counted (suc n) from zero = let f : 0 ≡ min (suc n) 0 = omega arith in ap (counted_from from) f
take_counted (suc n) from (suc k) =
    let f : suc (min n k) ≡ min (suc n) (suc k) = omega arith in
    ap (λ xs. from ∷ xs) (take_counted n (from + 1) k) ∙ ap (counted_from from) f

-- some from a place on
pub made_from : {A : Type 0} (f : ℕ → A) (n from len count : ℕ) → count ≡ min n (len - from)
    → map f (counted_from from count) ≡ take n (drop from (map f (counted_from 0 len)))
made_from f n from len count is =
    let start : 0 + from ≡ from = omega arith in
    sym (ap (take n) (drop-map f from (counted_from 0 len)) ∙ take-map f n (drop from (counted_from 0 len))
    ∙ ap (map f) (ap (take n) (drop_counted from 0 len ∙ ap (λ a. counted_from a (len - from)) start)
    ∙ take_counted n from (len - from) ∙ ap (counted_from from) (sym is)))
