-- Lemmas on edits of several tracks.
use Rattle.edit_ops.proofs.Common.{◌≡◌, ℕ, zero, suc, ◌+◌, ◌<◌, ◌^◌, List, [], ◌∷◌, ◌++◌, length, get_or, take, drop}
use Rattle.edit_ops.proofs.Common.{refl, sym, ap, ◌∙◌, arith, inl, inr, ◌≤◌, None, cases_lt, take_more, drop_more}
use Rattle.edit_ops.proofs.Common.{too_narrow, length_limit, placed_length, Cell, Placing, end_of, AllHalfFull, Item}
use Rattle.edit_ops.proofs.Common.{Clip, strip_len, AllTracksHalfFull, AreCopies, IsCut, AreCuts, IsPaste, layouts}
use Rattle.edit_ops.proofs.Common.{lengths_of, Plan, IsClip}
use Rattle.std.proofs.Common.{Option, Some, nat_lt}
use Rattle.std.proofs.{lemmas.Bool.lt-ltb}
use Rattle.pcm_base.specs.Refusals.{◌otherwise◌, refused_if}
use Rattle.pcm_base.specs.{declared.refusal.Refusal.Refusal, declared.refusal.Refusal.TheVariants.LengthLimit}
use Rattle.edit_ops.specs.Runs.{AreClips, IsCopy, ArePastes, start_behind, next_of}
use Rattle.edit_ops.specs.{Placing.SumsFit, Placing.LengthsFit, Plans.Start}
use denote.Ref.{Bor}

-- the layouts after references
layout_at : (refs : List (Bor (List Clip))) (i : ℕ) (r : Bor (List Clip)) → r ≡ get_or refs i r
    → r.now ≡ get_or (layouts refs) i r.now
layout_at [] i r e = refl
layout_at (x ∷ refs) zero r e = ap (λ (y : Bor (List Clip)). y.now) e
layout_at (x ∷ refs) (suc i) r e = layout_at refs i r e

pub length-layouts : (refs : List (Bor (List Clip))) → length (layouts refs) ≡ length refs
length-layouts [] = refl
length-layouts (x ∷ refs) = ap suc (length-layouts refs)

pub layouts_take : (n : ℕ) (refs : List (Bor (List Clip))) → layouts (take n refs) ≡ take n (layouts refs)
layouts_take zero refs = refl
layouts_take (suc n) [] = refl
layouts_take (suc n) (x ∷ refs) = ap (λ (ts : List (List Clip)). x.now ∷ ts) (layouts_take n refs)

module _ (refs : List (Bor (List Clip))) (i : ℕ) (r : Bor (List Clip)) (lt : i < length refs)
    (is : r ≡ get_or refs i r) where
  pub layouts_at : r.now ≡ get_or (layouts refs) i r.now
  layouts_at = layout_at refs i r is

  pub layouts_more : take (i + 1) (layouts refs) ≡ take i (layouts refs) ++ r.now ∷ []
  layouts_more =
      take_more (layouts refs) i r.now (omega (arith, length-layouts refs, lt))
      ∙ ap (λ (t : List Clip). take i (layouts refs) ++ t ∷ []) (sym (layout_at refs i r is))

  pub layouts_left : drop i (layouts refs) ≡ r.now ∷ drop (i + 1) (layouts refs)
  layouts_left =
      drop_more (layouts refs) i r.now (omega (arith, length-layouts refs, lt))
      ∙ ap (λ (t : List Clip). t ∷ drop (i + 1) (layouts refs)) (sym (layout_at refs i r is))

pub half_full_at : (m : ℕ) (ts : List (List Clip)) (i : ℕ) (d : List Clip) → i < length ts → AllTracksHalfFull m ts
    → AllHalfFull m (get_or ts i d)
half_full_at m [] i d h a = absurd (omega arith)
half_full_at m (t ∷ ts) zero d h a = a.0
half_full_at m (t ∷ ts) (suc i) d h a = half_full_at m ts i d (omega arith) a.1

pub half_full_take : (m n : ℕ) (ts : List (List Clip)) → AllTracksHalfFull m ts → AllTracksHalfFull m (take n ts)
half_full_take m zero ts a = tt
half_full_take m (suc n) [] a = tt
half_full_take m (suc n) (t ∷ ts) a = (a.0, half_full_take m n ts a.1)

pub clip_at : (m : ℕ) (cs : List (List Item)) (i : ℕ) (d : List Item) → i < length cs → AreClips m cs
    → IsClip m (get_or cs i d)
clip_at m [] i d h a = absurd (omega arith)
clip_at m (c ∷ cs) zero d h a = a.0
clip_at m (c ∷ cs) (suc i) d h a = clip_at m cs i d (omega arith) a.1

pub sum_at : (at : ℕ) (cs : List (List Item)) (ts : List (List Clip)) (i : ℕ) (d : List Item) (e : List Clip) → i
    < length cs → i < length ts → SumsFit at cs ts → at + strip_len (get_or cs i d) + end_of 0 (get_or ts i e) < 2 ^ 64
sum_at at [] ts i d e h k a = absurd (omega arith)
sum_at at (c ∷ cs) [] i d e h k a = absurd (omega arith)
sum_at at (c ∷ cs) (t ∷ ts) zero d e h k a = a.0
sum_at at (c ∷ cs) (t ∷ ts) (suc i) d e h k a = sum_at at cs ts i d e (omega arith) (omega arith) a.1

pub length_at : (placing : Placing) (at : ℕ) (cs : List (List Item)) (ts : List (List Clip)) (i : ℕ) (d : List Item)
    (e : List Clip) → i < length cs → i < length ts → LengthsFit placing at cs ts
    → placed_length placing at (strip_len (get_or cs i d)) (end_of 0 (get_or ts i e)) < 4294967297
length_at placing at [] ts i d e h k a = absurd (omega arith)
length_at placing at (c ∷ cs) [] i d e h k a = absurd (omega arith)
length_at placing at (c ∷ cs) (t ∷ ts) zero d e h k a = omega (arith, a.0)
length_at placing at (c ∷ cs) (t ∷ ts) (suc i) d e h k a =
    length_at placing at cs ts i d e (omega arith) (omega arith) a.1

-- one more
pub AreCopies-push : (from to : ℕ) (ts : List (List Clip)) (ss : List (List Item)) (t : List Clip) (s : List Item)
    → AreCopies from to ts ss → IsCopy from to t s → AreCopies from to (ts ++ t ∷ []) (ss ++ s ∷ [])
AreCopies-push from to [] [] t s a b = (b, tt)
AreCopies-push from to [] (x ∷ ss) t s a b = absurd a
AreCopies-push from to (x ∷ ts) [] t s a b = absurd a
AreCopies-push from to (x ∷ ts) (y ∷ ss) t s a b = (a.0, AreCopies-push from to ts ss t s a.1 b)

pub AreCuts-push : (edit : List Cell → List Cell) (start : Start) (ts : List (List Clip)) (ps : List Plan)
    (t : List Clip) (p : Plan) → AreCuts edit start ts ps
    → IsCut edit (record start { next = next_of start.next ps }) t p
    → AreCuts edit start (ts ++ t ∷ []) (ps ++ p ∷ [])
AreCuts-push edit start [] [] t p a b = (b, tt)
AreCuts-push edit start [] (x ∷ ps) t p a b = absurd a
AreCuts-push edit start (x ∷ ts) [] t p a b = absurd a
AreCuts-push edit start (x ∷ ts) (y ∷ ps) t p a b = (a.0, AreCuts-push edit (start_behind start y) ts ps t p a.1 b)

pub ArePastes-push : (edit : List Cell → List Cell → List Cell) (start : Start) (cs : List (List Item))
    (ts : List (List Clip)) (ps : List Plan) (c : List Item) (t : List Clip) (p : Plan)
    → ArePastes edit start cs ts ps → IsPaste edit (record start { next = next_of start.next ps }) c t p
    → ArePastes edit start (cs ++ c ∷ []) (ts ++ t ∷ []) (ps ++ p ∷ [])
ArePastes-push edit start [] [] [] c t p a b = (b, tt)
ArePastes-push edit start (x ∷ cs) (y ∷ ts) (z ∷ ps) c t p a b =
    (a.0, ArePastes-push edit (start_behind start z) cs ts ps c t p a.1 b)
ArePastes-push edit start _ _ _ c t p a b = absurd a

pub next_of-push : (next : ℕ) (ps : List Plan) (p : Plan) → next_of next (ps ++ p ∷ []) ≡ p.next
next_of-push next [] p = refl
next_of-push next (x ∷ ps) p = next_of-push x.next ps p

-- tests that pass
first_none : (a b : Option Refusal) → a otherwise b ≡ None → (a ≡ None) × (b ≡ None)
first_none None b h = (refl, h)
first_none (Some r) b h = cc

pub wide_enough : (have need : ℕ) (r : Option Refusal) → (too_narrow have need) otherwise r ≡ None → need ≤ have
wide_enough have need r h = elim (cases_lt have need) [
  | inl a ↦ absurd (some_reason (rw (lt-ltb have need a) at (first_none (too_narrow have need) r h).0))
  | inr a ↦ a
]
  where
    some_reason : {x : Refusal} → Some x ≡ None → ⊥
    some_reason e = cc

pub lengths_pass : (have need : ℕ) (r : Option Refusal) → (too_narrow have need) otherwise r ≡ None → r ≡ None
lengths_pass have need r h = (first_none (too_narrow have need) r h).1

pub lengths_fit : (placing : Placing) (at : ℕ) (cs : List (List Item)) (ts : List (List Clip))
    → length_limit (lengths_of (placed_length placing at) cs ts) ≡ None → LengthsFit placing at cs ts
lengths_fit placing at [] ts h = tt
lengths_fit placing at (c ∷ cs) [] h = tt
lengths_fit placing at (c ∷ cs) (t ∷ ts) h =
    let n = placed_length placing at (strip_len c) (end_of 0 t) in
    let both = first_none (refused_if (nat_lt (2 ^ 32) n) (LengthLimit n))
    (length_limit (lengths_of (placed_length placing at) cs ts)) h in
    elim (cases_lt 4294967296 n) [
      | inl a ↦ absurd (some_reason (rw (lt-ltb 4294967296 n a) at both.0))
      | inr a ↦ (a, lengths_fit placing at cs ts both.1)
    ]
  where
    some_reason : {x : Refusal} → Some x ≡ None → ⊥
    some_reason e = cc

-- the first length of some, and the rest
behind : (a b : Option Refusal) → a otherwise None ≡ None → a otherwise b ≡ b
behind None b h = refl
behind (Some r) b h = absurd cc

in_front : (a b : Option Refusal) (r : Refusal) → a otherwise None ≡ Some r → a otherwise b ≡ Some r
in_front None b r h = absurd cc
in_front (Some s) b r h = h

pub limit_next : (n : ℕ) (ns : List ℕ) → length_limit (n ∷ []) ≡ None → length_limit (n ∷ ns) ≡ length_limit ns
limit_next n ns h = behind (refused_if (nat_lt (2 ^ 32) n) (LengthLimit n)) (length_limit ns) h

pub limit_first : (n : ℕ) (ns : List ℕ) (r : Refusal) → length_limit (n ∷ []) ≡ Some r → length_limit (n ∷ ns) ≡ Some r
limit_first n ns r h = in_front (refused_if (nat_lt (2 ^ 32) n) (LengthLimit n)) (length_limit ns) r h
