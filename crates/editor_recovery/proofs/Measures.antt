-- Sizes that were measured, file by file.
use Rattle.editor_recovery.proofs.Common.{◌≡◌, ◌==◌, ℕ, ◌<◌, ◌≤◌, Bool, true, false, inl, inr, ⊎_elim, ◌⊎◌, List}
use Rattle.editor_recovery.proofs.Common.{length, get_or, Option, Some, None, Result, Ok, Err, refl, sym, ap}
use Rattle.editor_recovery.proofs.Common.{◌∙◌, arith, cases_Bool, eqb-true, eqb-false, ltb-true, ltb-false}
use Rattle.editor_recovery.proofs.Common.{slice_get-get_or, All-from_recursion, All-contains, OnOk, Contains}
use Rattle.editor_recovery.proofs.Common.{if◌then◌else◌, nat_lt, All, BlockRef, Files, bytes_of, IsBlock, size_of}
use Rattle.editor_recovery.proofs.Common.{Track, point_blocks, IsBlockRef, OpenFault, AreFiles, TestsMeasured}
use Rattle.editor_recovery.proofs.Common.{file_size, HaveOneLength}
use Rattle.std.proofs.lemmas.Bool.{eq-eqb}
use Rattle.editor_recovery.proofs.Points.{all_blocks, all_flat, all_points, both_all}
use Rattle.editor_recovery.proofs.{Highest.contains_get, Highest.at_default, Wrong.right_there, Wrong.IsRight}

-- one file more is measured
module _ (old new real : ℕ → ℕ) (file : ℕ)
    (is : (other : ℕ) → new other ≡ (if other == file then real file else old other)) where
  measured_case : (P : ℕ → Type 0) (other : ℕ) → (other ≡ file → P (real file)) → P (old other) → P (new other)
  measured_case P other here there = rw (is other) (step (other == file) (eqb-true other file))
    where
      step : (t : Bool) → (t ≡ true → other ≡ file) → P (if t then real file else old other)
      step true same = here (same refl)
      step false same = there

  pub measured_right : (other : ℕ) → old other ≡ real other → new other ≡ real other
  measured_right other right = measured_case (λ n. n ≡ real other) other (λ same. ap real (sym same)) right

  pub measured_here : new file ≡ real file
  measured_here = rw (is file, eq-eqb file file refl)

  pub measured_still : (other : ℕ) → (old other ≡ 0) ⊎ (old other ≡ real other)
      → (new other ≡ 0) ⊎ (new other ≡ real other)
  measured_still other old_is = ⊎_elim
      (λ none. measured_case (λ n. (n ≡ 0) ⊎ (n ≡ real other)) other (λ same. inr (ap real (sym same))) (inl none))
      (λ right. inr (measured_right other right)) old_is

pub listed_still : (files : List ℕ) (old new : ℕ → ℕ) (i : ℕ)
    → i < length files → ((other : ℕ) → (other ≡ get_or files i 0 → ⊥) → new other ≡ old other)
    → ((file : ℕ) → (old file ≡ 0) ⊎ Contains files file) → (file : ℕ) → (new file ≡ 0) ⊎ Contains files file
listed_still files old new i lt same listed file = elim (cases_Bool (file == get_or files i 0)) [
  | inl t ↦
      inr (rw (eqb-true file (get_or files i 0) t)
      (contains_get files i (get_or files i 0) (slice_get-get_or files i 0 lt)))
  | inr f ↦ ⊎_elim (λ none. inl (same file (eqb-false file (get_or files i 0) f) ∙ none)) (λ has. inr has) (listed file)
]

-- all files that are there were measured
pub all_measured : (files : Files) (xs : List ℕ) (sizes : ℕ → ℕ)
    → AreFiles files xs → ((k : ℕ) → k < length xs → sizes (get_or xs k 0) ≡ file_size files (get_or xs k 0))
    → ((file : ℕ) → (sizes file ≡ 0) ⊎ (sizes file ≡ file_size files file)) → (file : ℕ)
    → sizes file ≡ file_size files file
all_measured files xs sizes are there right file = by_file (files file) refl
  where
    by_file : (f : Option (List ℕ)) → files file ≡ f → sizes file ≡ file_size files file
    by_file None none =
        ⊎_elim (λ z. z ∙ sym (ap (λ (o : Option (List ℕ)). length (bytes_of o)) none)) (λ r. r) (right file)
    by_file (Some bytes) some =
        let has : Contains xs file = (are file).1 (rw some refl) in
        rw (at_default xs has.0 has.1 file has.2) at (there has.0 has.1)

-- the files of blocks that have their size are there
pub named_listed : {T : Type 0} (files : List ℕ) (sizes : ℕ → ℕ) (ps : List (List Track × ℕ)) (r : Result T OpenFault)
    → All (λ p. All (λ b. IsBlock b.id b.len) (point_blocks p.0)) ps
    → ((file : ℕ) → (sizes file ≡ 0) ⊎ Contains files file)
    → TestsMeasured sizes (all_blocks ps) r
    → OnOk r (All (λ p. All (λ b. (2 ≤ b.id) × Contains files b.id) (point_blocks p.0)) ps)
named_listed files sizes ps (Err e) blocks listed tests = tt
named_listed files sizes ps (Ok x) blocks listed tests =
    let P : BlockRef → Type 0 = λ b. (2 ≤ b.id) × Contains files b.id in
    all_points P ps (both_all IsBlockRef (IsRight sizes) P (all_blocks ps)
    (λ b block right. (
      omega (arith, block.id_low),
      ⊎_elim (λ none. absurd (omega (arith, none, right))) (λ has. has) (listed b.id),
    ))
    (all_flat IsBlockRef ps blocks) (right_there sizes (all_blocks ps) tests))

size_rises : (a b : ℕ) → a < b → size_of a < size_of b
size_rises a b lt = omega (arith, lt)

size_once : (a b : ℕ) → size_of a ≡ size_of b → a ≡ b
size_once a b same = elim (cases_Bool (nat_lt a b)) [
  | inl t ↦ let up = size_rises a b (ltb-true a b t) in absurd (omega (arith, up, same))
  | inr f ↦ elim (cases_Bool (nat_lt b a)) [
    | inl t ↦ let down = size_rises b a (ltb-true b a t) in absurd (omega (arith, down, same))
    | inr h ↦ let le = ltb-false a b f in let ge = ltb-false b a h in omega (arith, le, ge)
  ]
]

-- blocks whose files have their size have one length for each id
pub one_length : {T : Type 0} (sizes : ℕ → ℕ) (bs : List BlockRef) (r : Result T OpenFault) → TestsMeasured sizes bs r
    → OnOk r (HaveOneLength bs)
one_length sizes bs (Err e) tests = tt
one_length sizes bs (Ok x) tests =
    let right = All-from_recursion (IsRight sizes) bs (right_there sizes bs tests) in
    λ a b p q same. size_once a.len b.len
    (sym (All-contains (IsRight sizes) bs a right p) ∙ ap sizes same ∙ All-contains (IsRight sizes) bs b right q)
