-- One track more that is told by the current point.
use Rattle.record_body.proofs.Common.{◌≡◌, ℕ, ◌+◌, ◌-◌, ◌<◌, ◌≤◌, List, [], ◌∷◌, ◌++◌, length}
use Rattle.record_body.proofs.Common.{map, Option, Some, None, Result, Ok, Err, sym, subst, arith}
use Rattle.record_body.proofs.Common.{slice_get, length-append, field, first_failed, Damaged, last_blocks, last_start}
use Rattle.record_body.proofs.Common.{tailed, fresh_at, gone_at, mark_at, whole_at, change_tests, mark_tests, mark_want}
use Rattle.record_body.proofs.Common.{tail_tests, whole_tests, BadBody, Limits, Finds, place, blocks_at}
use Rattle.record_body.proofs.Common.{track_at, AddsTold, Track, unnumbered, AllBelow, track_of, all_pass, some_first}
use Rattle.std.proofs.{lemmas.Bool.ne_eqb, lemmas.List.map-append}
use Rattle.std.specs.Prelude.{⊤, IfOk}
use Rattle.record_body.proofs.{Passing.pass_parts, Steps.finds_ok}
use Rattle.record_body.specs.declared.limits.BadBody.TheVariants as bad

-- ---- the mark

-- a mark that fails its tests
pub mark_fails : (l : Limits) (at : ℕ) (bytes : List ℕ) (old : Track) (p want mark : ℕ) (d : Damaged)
    → p ≡ place l.base (at + 8) → want ≡ mark_want (Some old) mark → mark ≡ mark_at at bytes
    → first_failed (mark_tests p want mark) ≡ Some d → first_failed (change_tests l (Some old) at bytes) ≡ Some d
mark_fails l at bytes old p want mark d is_place is_want is_mark e = search (arith, some_first)

-- and one that passes them
pub marks_pass : (old : Track) (p want mark : ℕ) → first_failed (mark_tests p want mark) ≡ None
    → want ≡ mark_want (Some old) mark → (mark ≤ 2) × (mark_want (Some old) mark ≡ mark)
marks_pass old p want mark none is = search (arith, all_pass)

-- ---- the track, by its mark

module _ (l : Limits) (current : List Track) (at : ℕ) (bytes : List ℕ) (before after : List Track) where
  -- what adding it answers, by a track of the current point or by none
  abbrev Adds : Option Track → Result ⊤ BadBody → Type 0
  Adds old r = Finds (change_tests l old at bytes) (λ _. AddsTold current old at bytes before after) r

  pub adds_same : (old : Track) → track_of (field at 8 bytes) current ≡ Some old → old.id ≡ field at 8 bytes
      → mark_at at bytes ≡ 0 → after ≡ before ++ old ∷ [] → Adds (Some old) (Ok tt)
  adds_same old found same none added = search arith

  pub adds_whole : (old : Track) (r : Result ⊤ BadBody) → old.id ≡ field at 8 bytes → mark_at at bytes ≡ 1
      → Finds (whole_tests l (at + 1) bytes)
      (λ _. after ≡ before ++ (record (track_at (at + 1) bytes) { id = old.id }) ∷ []) r → Adds (Some old) r
  adds_whole old (Ok x) same one e = search arith
  adds_whole old (Err bad.NoMemory) same one e = tt
  adds_whole old (Err (bad.Damaged d)) same one e = rw one e

  pub adds_tail : (old : Track) (r : Result ⊤ BadBody) → mark_at at bytes ≡ 2 → 0 < length old.layout
      → Finds (tail_tests l (last_start old.layout) (last_blocks old.layout) at bytes)
      (λ _. after ≡ before ++ tailed (gone_at at bytes) (blocks_at (fresh_at at bytes) (at + 17) bytes) old ∷ []) r
      → Adds (Some old) r
  adds_tail old (Ok x) two some e = search (arith, ne_eqb)
  adds_tail old (Err bad.NoMemory) two some e = tt
  adds_tail old (Err (bad.Damaged d)) two some e = search (arith, ne_eqb)

  -- one that the current point lacks
  pub adds_new : (r : Result ⊤ BadBody)
      → Finds (change_tests l None at bytes) (λ _. after ≡ before ++ whole_at at bytes ∷ []) r → Adds None r
  adds_new (Ok x) e = search (arith, pass_parts, all_pass)
  adds_new (Err bad.NoMemory) e = tt
  adds_new (Err (bad.Damaged d)) e = e

  -- by the track that was found, or by none
  pub adds_found : (old : Option Track) (r : Result ⊤ BadBody) → track_of (field at 8 bytes) current ≡ old → Adds old r
      → Adds (track_of (field at 8 bytes) current) r
  adds_found old r found adds = subst (λ (o : Option Track). Adds o r) (sym found) adds

-- what was read has an id that no track before has
pub below_read : (tests : List Damaged) (t : Track) (id : ℕ) (ts : List Track) (r : Result Track BadBody)
    → Finds tests (λ x. x ≡ t) r → t.id ≡ id → AllBelow id ts → IfOk r (λ x. AllBelow x.id ts)
below_read tests t id ts r h same low = search (arith, finds_ok)

-- ---- all tracks

last_there : (xs : List Track) (t x : Track) → slice_get (xs ++ t ∷ []) (length xs) ≡ Some x → x ≡ t
last_there [] t x e = let same : t ≡ x = cc in sym same
last_there (y ∷ xs) t x e = last_there xs t x e

-- the track that was added last
pub last_is : (xs ys : List Track) (t x : Track) (n : ℕ) → ys ≡ xs ++ t ∷ [] → n ≡ length ys
    → slice_get ys (n - 1) ≡ Some x → x ≡ t
last_is xs ys t x n is len here = search (arith, length-append xs (t ∷ []), last_there xs t x)

-- what was said so far, and one track more
pub said_more : (xs ys : List Track) (t : Track) → ys ≡ xs ++ t ∷ []
    → map Some (map unnumbered ys) ≡ map Some (map unnumbered xs) ++ Some (unnumbered t) ∷ []
said_more xs ys t is = search (arith, map-append)
