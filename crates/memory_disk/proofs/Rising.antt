-- The generator's state when its turn comes to a file, where the files with draws are gone through rising.
use Rattle.memory_disk.proofs.Common.{◌≡◌, ⊎_elim, ℕ, zero, suc, ◌+◌, ◌-◌, ◌≤◌, ◌<◌, Option, List, length, get_or, refl}
use Rattle.memory_disk.proofs.Common.{sym, ◌∙◌, ap, arith, cases_lt, get_or_default, Contains, IsStrictlyIncreasing}
use Rattle.memory_disk.proofs.Common.{Step, Left, IsUnnamed, IsLeft, left_of, image_of}
use Rattle.memory_disk.specs.Images.{state_at}
use Rattle.memory_disk.proofs.LeftFiles.{left_content, left_state}

pub state_first : (choice : ℕ) (h : List Step) → state_at choice h 0 ≡ choice
unfolding state_at
state_first choice h = refl

pub state_next : (choice : ℕ) (h : List Step) (f : ℕ)
    → state_at choice h (f + 1) ≡ (left_of choice f h (state_at choice h f)).state
unfolding state_at
state_next choice h f =
    let step : state_at choice h (suc f) ≡ (left_of choice f h (state_at choice h f)).state = refl in
    let more : f + 1 ≡ suc f = omega arith in
    ap (λ (m : ℕ). state_at choice h m) more ∙ step

-- files with no draw leave it
state_stays : (choice : ℕ) (h : List Step) (a n : ℕ) → ((g : ℕ) → a ≤ g → g < a + n → IsUnnamed h g)
    → state_at choice h (a + n) ≡ state_at choice h a
state_stays choice h a zero none = ap (λ (m : ℕ). state_at choice h m) (omega arith)
state_stays choice h a (suc n) none =
    let f = a + n in
    ap (λ (m : ℕ). state_at choice h m) (omega arith)
    ∙ state_next choice h f
    ∙ ap (λ (left : Left). left.state) (none f (omega arith) (omega arith) choice (state_at choice h f))
    ∙ state_stays choice h a n (λ g le lt. none g le (omega arith))

-- a number between two that stand side by side in a rising list is not in it
rises : (numbers : List ℕ) → IsStrictlyIncreasing numbers → (i n : ℕ) → i + n < length numbers
    → get_or numbers i 0 + n ≤ get_or numbers (i + n) 0
rises numbers rising i zero lt =
    let same : i + 0 ≡ i = omega arith in
    omega (arith, ap (λ (k : ℕ). get_or numbers k 0) same)
rises numbers rising i (suc n) lt =
    let below = rises numbers rising i n (omega arith) in
    let next : get_or numbers (i + n) 0 < get_or numbers (i + n + 1) 0 = rising (i + n) (omega arith) in
    let same : get_or numbers (i + suc n) 0 ≡ get_or numbers (i + n + 1) 0 =
    ap (λ (k : ℕ). get_or numbers k 0) (omega arith) in
    omega (arith, below, next, same)

pub up_to : (numbers : List ℕ) → IsStrictlyIncreasing numbers → (i k : ℕ) → i ≤ k → k < length numbers
    → get_or numbers i 0 + (k - i) ≤ get_or numbers k 0
up_to numbers rising i k le lt =
    let rise = rises numbers rising i (k - i) (omega arith) in
    let same : get_or numbers (i + (k - i)) 0 ≡ get_or numbers k 0 = ap (λ (j : ℕ). get_or numbers j 0) (omega arith) in
    omega (arith, rise, same)

apart : (numbers : List ℕ) (i g : ℕ) → IsStrictlyIncreasing numbers → ((k : ℕ) → k < i → get_or numbers k 0 < g)
    → (i < length numbers → g < get_or numbers i 0) → Contains numbers g → ⊥
apart numbers i g rising below above there =
    let k = there.0 in
    let number : get_or numbers k 0 ≡ g = get_or_default numbers k 0 g there.1 ∙ there.2 in
    ⊎_elim
    (λ lt. let less = below k lt in absurd (omega (arith, less, number)))
    (λ le. let more = up_to numbers rising i k le there.1 in let less = above (omega (arith, there.1)) in
    absurd (omega (arith, less, more, number)))
    (cases_lt k i)

module _ (choice : ℕ) (h : List Step) (numbers : List ℕ) (rising : IsStrictlyIncreasing numbers)
    (others : (f : ℕ) → (Contains numbers f → ⊥) → IsUnnamed h f) where
  -- before the first of them
  pub starts : (f : ℕ) → (0 < length numbers → f ≤ get_or numbers 0 0) → state_at choice h f ≡ choice
  starts f le =
      ap (λ (m : ℕ). state_at choice h m) (omega arith)
      ∙ state_stays choice h 0 f (λ g from lt. others g (apart numbers 0 g rising (λ k none. absurd (omega arith))
      (λ some. let bound = le some in omega (arith, bound))))
      ∙ state_first choice h

  -- after one more of them
  pub goes_on : (i state now : ℕ) (content : Option (List ℕ)) → i < length numbers
      → ((f : ℕ) → ((k : ℕ) → k < i → get_or numbers k 0 < f) → (i < length numbers → f ≤ get_or numbers i 0)
      → state_at choice h f ≡ state)
      → IsLeft choice (get_or numbers i 0) h state content now
      → (f : ℕ) → ((k : ℕ) → k < i + 1 → get_or numbers k 0 < f)
      → (i + 1 < length numbers → f ≤ get_or numbers (i + 1) 0) → state_at choice h f ≡ now
  goes_on i state now content lt was left f below above =
      let file = get_or numbers i 0 in
      let passed : file < f = below i (omega arith) in
      ap (λ (m : ℕ). state_at choice h m) (omega (arith, passed))
      ∙ state_stays choice h (file + 1) (f - (file + 1)) (λ g from less. others g (apart numbers (i + 1) g rising
      (λ k at. let rise = up_to numbers rising k i (omega arith) lt in omega (arith, rise, from))
      (λ some. let bound = above some in omega (arith, bound, less, passed))))
      ∙ state_next choice h file
      ∙ ap (λ (s : ℕ). (left_of choice file h s).state) (was file
      (λ k at. let rise = up_to numbers rising k i (omega arith) lt in omega (arith, rise)) (λ _. omega arith))
      ∙ sym (left_state left)

  -- and what is left of it is the image
  pub is_image : (i state now : ℕ) (content : Option (List ℕ)) → i < length numbers
      → ((f : ℕ) → ((k : ℕ) → k < i → get_or numbers k 0 < f) → (i < length numbers → f ≤ get_or numbers i 0)
      → state_at choice h f ≡ state)
      → IsLeft choice (get_or numbers i 0) h state content now → content ≡ image_of choice h (get_or numbers i 0)
  is_image i state now content lt was left =
      let file = get_or numbers i 0 in
      left_content left
      ∙ ap (λ (s : ℕ). (left_of choice file h s).content) (sym (was file
      (λ k at. let rise = up_to numbers rising k i (omega arith) lt in omega (arith, rise)) (λ _. omega arith)))
