-- Bytes say one body by the current point.
use Rattle.record_body.proofs.Common.{◌≡◌, ℕ, List, [], ◌∷◌, map, Some, refl, sym, ap, ◌∙◌, arith, Edit, Undo}
use Rattle.record_body.proofs.Common.{Redo, Purge, Body, SaysBody, Track}

first_is : (x y : Track) (xs ys : List Track) → map Some (x ∷ xs) ≡ map Some (y ∷ ys) → x ≡ y
first_is x y xs ys e = cc

others_are : (x y : Track) (xs ys : List Track) → map Some (x ∷ xs) ≡ map Some (y ∷ ys) → map Some xs ≡ map Some ys
others_are x y xs ys e = cc

pub tracks_once : (xs ys : List Track) → map Some xs ≡ map Some ys → xs ≡ ys
tracks_once [] [] e = refl
tracks_once [] (y ∷ ys) e = absurd cc
tracks_once (x ∷ xs) [] e = absurd cc
tracks_once (x ∷ xs) (y ∷ ys) e = search (arith, tracks_once xs ys (others_are x y xs ys e), first_is, others_are)

pub same_edit : {t t' i i' k k' : ℕ} {us us' : List Track} → t ≡ t' → i ≡ i' → k ≡ k' → us ≡ us'
    → Edit t i k us ≡ Edit t' i' k' us'
same_edit p q r u = cc

pub says_once : (current : List Track) (bytes : List ℕ) (a b : Body) → SaysBody current bytes a
    → SaysBody current bytes b → a ≡ b
says_once current bytes (Edit t i k us) (Edit t' i' k' us') p q =
    same_edit (p.1.0 ∙ sym q.1.0) (p.1.1 ∙ sym q.1.1) (p.1.2 ∙ sym q.1.2) (tracks_once us us' (p.1.3 ∙ sym q.1.3))
says_once current bytes Undo Undo p q = refl
says_once current bytes Redo Redo p q = refl
says_once current bytes (Purge n) (Purge k) p q = ap Purge (p.1 ∙ sym q.1)
says_once current bytes _ _ p q = search (arith, p, q)
