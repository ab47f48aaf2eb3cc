-- Tracks that are told by those of the current point.
use Rattle.record_body.proofs.Common.{◌≡◌, ℕ, zero, suc, ◌+◌, ◌-◌, ◌==◌, ◌<◌, ◌≤◌, inl, inr, List, [], ◌∷◌, ◌++◌}
use Rattle.record_body.proofs.Common.{Option, Some, None, Result, Ok, Err, refl, sym, ◌∙◌, ap, arith, cases_Bool}
use Rattle.record_body.proofs.Common.{eqb-true, BlockRef, AllHalfFull, field, first_failed, Damaged, Change, Same}
use Rattle.record_body.proofs.Common.{Whole, Tail, changed, tailed, mark_at, change_at, diff_at, diff_size, whole_at}
use Rattle.record_body.proofs.Common.{HaveDiff, diff_tests}
use Rattle.record_body.proofs.Common.{Finds, BadBody, Limits, AreHalfFull, Track, unnumbered, track_of, Pass}
use Rattle.record_body.proofs.Common.{none_first}
use Rattle.record_body.specs.ChangePlaces.{HasDiff}
use Rattle.record_body.proofs.Passing.{pass_parts}
use Rattle.record_body.specs.declared.limits.BadBody.TheVariants as bad

pub some_is : {A : Type 0} (x y : A) → Some x ≡ Some y → x ≡ y
some_is x y e = cc

none_some : {A : Type 0} (x : A) → None ≡ Some x → ⊥
none_some x e = cc

pub record IsIn (id m : ℕ) (t : Track) : Type 0 where
  pub same : t.id ≡ id
  pub half_full : AllHalfFull m t.layout

-- a track that was found
pub found_in : (id m : ℕ) (ts : List Track) (t : Track) → AreHalfFull m ts → track_of id ts ≡ Some t → IsIn id m t
found_in id m [] t half e = absurd (none_some t e)
found_in id m (x ∷ ts) t half e = search (arith, found_in id m ts t half.1, some_is, eqb-true)

pub found_id : (id : ℕ) (ts : List Track) (t : Track) → track_of id ts ≡ Some t → t.id ≡ id
found_id id [] t e = absurd (none_some t e)
found_id id (x ∷ ts) t e = search (arith, found_id id ts t, some_is, eqb-true)

changed_id : (id : ℕ) (old : Option Track) (change : Change) (t : Track) → ((o : Track) → old ≡ Some o → o.id ≡ id)
    → ((w : Track) → change ≡ Whole w → w.id ≡ id) → changed old change ≡ Some t → t.id ≡ id
changed_id id None Same t known whole e = absurd (none_some t e)
changed_id id (Some o) Same t known whole e = search (arith, some_is)
changed_id id old (Whole w) t known whole e = sym (ap (λ (k : Track). k.id) (some_is (unnumbered w) t e)) ∙ whole w refl
changed_id id None (Tail gone bs) t known whole e = absurd (none_some t e)
changed_id id (Some o) (Tail gone bs) t known whole e = search (arith, some_is)

whole_same : (v w : Track) → Whole v ≡ Whole w → v ≡ w
whole_same v w e = cc

change_whole : (at : ℕ) (bytes : List ℕ) (w : Track) → change_at at bytes ≡ Whole w → w ≡ whole_at at bytes
change_whole at bytes w e = elim (cases_Bool (mark_at at bytes == 0)) [
  | inl none ↦ let no : Same ≡ Whole w = rw none at e in absurd cc
  | inr some ↦ elim (cases_Bool (mark_at at bytes == 1)) [
    | inl one ↦ sym (whole_same (whole_at at bytes) w (rw (some, one) at e))
    | inr more ↦ absurd (tail_not _ _ w (rw (some, more) at e))
  ]
]
  where
    tail_not : (gone : ℕ) (bs : List BlockRef) (w : Track) → Tail gone bs ≡ Whole w → ⊥
    tail_not gone bs w e = cc

-- the track that is told has the id that is told
pub diff_id : (current : List Track) (at : ℕ) (bytes : List ℕ) (t : Track) → diff_at current at bytes ≡ Some t
    → t.id ≡ field at 8 bytes
diff_id current at bytes t = search (arith, changed_id, found_id, change_whole)

-- its layout has no number
changed_unnumbered : (old : Option Track) (change : Change) (t : Track) → changed old change ≡ Some t → t.number ≡ 0
changed_unnumbered None Same t e = absurd (none_some t e)
changed_unnumbered (Some o) Same t e = sym (ap (λ (k : Track). k.number) (some_is (unnumbered o) t e))
changed_unnumbered old (Whole w) t e = sym (ap (λ (k : Track). k.number) (some_is (unnumbered w) t e))
changed_unnumbered None (Tail gone bs) t e = absurd (none_some t e)
changed_unnumbered (Some o) (Tail gone bs) t e = sym (ap (λ (k : Track). k.number) (some_is (tailed gone bs o) t e))

pub diff_unnumbered : (current : List Track) (at : ℕ) (bytes : List ℕ) (t : Track) → diff_at current at bytes ≡ Some t
    → t.number ≡ 0
diff_unnumbered current at bytes t = search (arith, changed_unnumbered)

-- and where it is written out it is that
pub diff_whole : (current : List Track) (at : ℕ) (bytes : List ℕ) (t : Track) → diff_at current at bytes ≡ Some t
    → mark_at at bytes ≡ 1 → t ≡ whole_at at bytes
diff_whole current at bytes t e one = sym (some_is (whole_at at bytes) t (rw one at e))

pub known_mark : (l : Limits) (current : List Track) (from at : ℕ) (bytes : List ℕ)
    → Pass (diff_tests l current from at bytes) → mark_at at bytes ≤ 2
known_mark l current from at bytes pass = search (arith, pass_parts)

pub id_bounds : (l : Limits) (current : List Track) (from at : ℕ) (bytes : List ℕ)
    → Pass (diff_tests l current from at bytes)
    → (1 ≤ field at 8 bytes) × (from ≤ field at 8 bytes) × (field at 8 bytes < l.next_track)
id_bounds l current from at bytes pass = search (arith, pass_parts)

-- tests that pass, and others after them
pub finds_on : {T : Type 0} (xs ys : List Damaged) (P : T → Type 0) (r : Result T BadBody) → first_failed xs ≡ None
    → Finds ys P r → Finds (xs ++ ys) P r
finds_on xs ys P (Ok x) none e = (none_first xs ys none ∙ e.0, e.1)
finds_on xs ys P (Err bad.NoMemory) none e = tt
finds_on xs ys P (Err (bad.Damaged d)) none e = none_first xs ys none ∙ e

-- the first of some, and those after it
pub have_first : (n at : ℕ) (bytes : List ℕ) → 0 < n → HaveDiff n at bytes → HasDiff at bytes
have_first zero at bytes some have = absurd (omega (arith, some))
have_first (suc n) at bytes some have = have.0

pub have_rest : (n k at next : ℕ) (bytes : List ℕ) → 0 < n → k ≡ n - 1 → next ≡ at + diff_size at bytes
    → mark_at at bytes ≤ 2 → HaveDiff n at bytes → HaveDiff k next bytes
have_rest zero k at next bytes some less behind known have = absurd (omega (arith, some))
have_rest (suc n) k at next bytes some less behind known have = search arith
