-- Heads that rise by file: what is found, put in another's place, and put among them.
use Rattle.memory_disk.proofs.Common.{nat_tests}
use Rattle.memory_disk.proofs.Common.{◌≡◌, ◌≢◌, ⊎_elim, ℕ, zero, suc, ◌+◌, ◌-◌, ◌≤◌, ◌<◌, eqb, cond, Option, Some, None}
use Rattle.memory_disk.proofs.Common.{List, [], ◌∷◌, length, get_or, set, refl, sym, ◌∙◌, ap, subst, arith, cases_eq}
use Rattle.memory_disk.proofs.Common.{cases_lt, cond-true, cond-false, eq-eqb, ne_eqb, get_or-set_same}
use Rattle.memory_disk.proofs.Common.{get_or-set_other, length-set, head_of, AreRising, Head}
use Rattle.std.proofs.lemmas.List.Edits.{length-insert, get_or-insert_below, get_or-insert_at, get_or-insert_above}
use Rattle.std.specs.{List.insert, List.Sorted.IsNonDecreasingBy}

-- the first head of a list is the file's or not
pub head_here : (h : Head) (hs : List Head) (f : ℕ) → h.file ≡ f → head_of (h ∷ hs) f ≡ Some h
head_here h hs f same = cond-true (eqb h.file f) (Some h) (head_of hs f) (eq-eqb h.file f same)

pub head_later : (h : Head) (hs : List Head) (f : ℕ) → h.file ≢ f → head_of (h ∷ hs) f ≡ head_of hs f
head_later h hs f other = cond-false (eqb h.file f) (Some h) (head_of hs f) (ne_eqb h.file f other)

pub head_found : (hs : List Head) (p f : ℕ) (d : Head) → p < length hs → (get_or hs p d).file ≡ f
    → ((k : ℕ) → k < p → (get_or hs k d).file ≢ f) → head_of hs f ≡ Some (get_or hs p d)
head_found [] p f d lt same before = absurd (omega arith)
head_found (h ∷ hs) zero f d lt same before = head_here h hs f same
head_found (h ∷ hs) (suc p) f d lt same before = head_later h hs f (before 0 (omega arith))
    ∙ head_found hs p f d (omega arith) same (λ k less. before (suc k) (omega arith))

pub head_missing : (hs : List Head) (f : ℕ) (d : Head) → ((k : ℕ) → k < length hs → (get_or hs k d).file ≢ f)
    → head_of hs f ≡ None
head_missing [] f d none = refl
head_missing (h ∷ hs) f d none =
    head_later h hs f (none 0 (omega arith)) ∙ head_missing hs f d (λ k less. none (suc k) (omega arith))

-- what is put first
head_put : (new : Head) (rest was : Option Head) (f : ℕ) → (new.file ≢ f → rest ≡ was)
    → cond (eqb new.file f) (Some new) rest ≡ cond (eqb new.file f) (Some new) was
head_put new rest was f same = grind (arith, nat_tests, same)

-- a head of another file before it
head_past : (h new : Head) (was rest : Option Head) (f : ℕ) → h.file ≢ new.file
    → rest ≡ cond (eqb new.file f) (Some new) was
    → cond (eqb h.file f) (Some h) rest ≡ cond (eqb new.file f) (Some new) (cond (eqb h.file f) (Some h) was)
head_past h new was rest f apart is = grind (arith, nat_tests, apart, is)

pub head_replaced : (hs : List Head) (p : ℕ) (new d : Head) (f : ℕ) → p < length hs → (get_or hs p d).file ≡ new.file
    → ((k : ℕ) → k < p → (get_or hs k d).file ≢ new.file)
    → head_of (set hs p new) f ≡ cond (eqb new.file f) (Some new) (head_of hs f)
head_replaced [] p new d f lt same before = absurd (omega arith)
head_replaced (h ∷ hs) zero new d f lt same before =
    head_put new (head_of hs f) (head_of (h ∷ hs) f) f (λ ne. sym (head_later h hs f (λ e. ne (sym same ∙ e))))
head_replaced (h ∷ hs) (suc p) new d f lt same before = head_past h new (head_of hs f) (head_of (set hs p new) f) f
    (before 0 (omega arith)) (head_replaced hs p new d f (omega arith) same (λ k less. before (suc k) (omega arith)))

pub head_inserted : (hs : List Head) (p : ℕ) (new d : Head) (f : ℕ) → p ≤ length hs
    → ((k : ℕ) → k < p → (get_or hs k d).file ≢ new.file)
    → head_of (insert hs p new) f ≡ cond (eqb new.file f) (Some new) (head_of hs f)
head_inserted hs zero new d f le before = refl
head_inserted [] (suc p) new d f le before = absurd (omega arith)
head_inserted (h ∷ hs) (suc p) new d f le before = head_past h new (head_of hs f) (head_of (insert hs p new) f) f
    (before 0 (omega arith)) (head_inserted hs p new d f (omega arith) (λ k less. before (suc k) (omega arith)))

-- the order stays
set_file : (hs : List Head) (p k : ℕ) (new d : Head) → p < length hs → new.file ≡ (get_or hs p d).file
    → (get_or (set hs p new) k d).file ≡ (get_or hs k d).file
set_file hs p k new d lt same = ⊎_elim
    (λ e. ap (λ (j : ℕ). (get_or (set hs p new) j d).file) e ∙ ap (λ (h : Head). h.file) (get_or-set_same hs p new d lt)
    ∙ same ∙ ap (λ (j : ℕ). (get_or hs j d).file) (sym e))
    (λ ne. ap (λ (h : Head). h.file) (get_or-set_other hs p k new d ne))
    (cases_eq k p)

pub rising_replaced : (hs : List Head) (p : ℕ) (new : Head) → p < length hs
    → ((d : Head) → (get_or hs p d).file ≡ new.file) → AreRising hs → AreRising (set hs p new)
rising_replaced hs p new lt same rising = λ i j d less bound.
    let long = length-set hs p new in
    let one = set_file hs p i new d lt (sym (same d)) in
    let two = set_file hs p j new d lt (sym (same d)) in
    let was = rising i j d less (omega (arith, long)) in
    omega (arith, one, two, was)

pub rising_inserted : (hs : List Head) (p : ℕ) (new : Head)
    → p ≤ length hs → ((k : ℕ) (d : Head) → k < p → (get_or hs k d).file < new.file)
    → ((k : ℕ) (d : Head) → p ≤ k → k < length hs → new.file < (get_or hs k d).file)
    → AreRising hs → AreRising (insert hs p new)
rising_inserted hs p new le below above rising = λ i j d less bound.
    let long = length-insert hs p new le in
    ⊎_elim
    (λ low. subst (λ (h : Head). (get_or (insert hs p new) i d).file < h.file)
    (sym (get_or-insert_below hs p new d j low le))
    (subst (λ (h : Head). h.file < (get_or hs j d).file) (sym (get_or-insert_below hs p new d i (omega arith) le))
    (rising i j d less (omega arith))))
    (λ high. ⊎_elim (λ (at : j ≡ p). let b = below i d (omega arith) in
    let there = ap (λ (k : ℕ). (get_or (insert hs p new) k d).file) at
    ∙ ap (λ (h : Head). h.file) (get_or-insert_at hs p new d le) in
    let here = ap (λ (h : Head). h.file) (get_or-insert_below hs p new d i (omega arith) le) in
    omega (arith, b, there, here))
    (λ ne. behind i j d less (omega (arith, long)) (omega arith))
    (cases_eq j p))
    (cases_lt j p)
  where
    moved : (k : ℕ) (d : Head) → p < k → (get_or (insert hs p new) k d).file ≡ (get_or hs (k - 1) d).file
    moved k d lt = ap (λ (m : ℕ). (get_or (insert hs p new) m d).file) (omega arith)
        ∙ ap (λ (h : Head). h.file) (get_or-insert_above hs p new d (k - 1) (omega arith) le)

    behind : (i j : ℕ) (d : Head) → i < j → j < length hs + 1 → p < j
        → (get_or (insert hs p new) i d).file < (get_or (insert hs p new) j d).file
    behind i j d less bound far =
        let there = moved j d far in
        ⊎_elim
        (λ low. let here = ap (λ (h : Head). h.file) (get_or-insert_below hs p new d i low le) in
        let was = rising i (j - 1) d (omega arith) (omega arith) in omega (arith, there, here, was))
        (λ high. ⊎_elim
        (λ (at : i ≡ p). let here = ap (λ (k : ℕ). (get_or (insert hs p new) k d).file) at
        ∙ ap (λ (h : Head). h.file) (get_or-insert_at hs p new d le) in
        let was = above (j - 1) d (omega arith) (omega arith) in omega (arith, there, here, was))
        (λ ne. let here = moved i d (omega arith) in let was = rising (i - 1) (j - 1) d (omega arith) (omega arith) in
        omega (arith, there, here, was))
        (cases_eq i p))
        (cases_lt i p)

pub not_falling : (hs : List Head) → AreRising hs → IsNonDecreasingBy (λ (h : Head). h.file) hs
not_falling hs rising i j d le lt = ⊎_elim
    (λ less. omega (arith, rising i j d less lt))
    (λ back. omega (arith, ap (λ (k : ℕ). (get_or hs k d).file) (same i j le back)))
    (cases_lt i j)
  where
    same : (i j : ℕ) → i ≤ j → j ≤ i → i ≡ j
    same i j le back = omega arith

-- a head that is not at its place is nowhere
pub head_nowhere : (hs : List Head) (p f : ℕ) (d : Head) → AreRising hs → ((k : ℕ) → k < p → (get_or hs k d).file < f)
    → (p < length hs → f ≤ (get_or hs p d).file) → (p < length hs → (get_or hs p d).file ≢ f) → head_of hs f ≡ None
head_nowhere hs p f d rising before behind other = head_missing hs f d (λ k lt e. ⊎_elim
    (λ low. omega (arith, before k low, e))
    (λ high. let le = not_falling hs rising p k d high lt in let up = behind (omega arith) in
    other (omega arith) (omega (arith, le, up, e)))
    (cases_lt k p))
