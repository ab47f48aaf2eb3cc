-- The files of the heads that have a size.
use Rattle.memory_disk.proofs.Common.{◌≡◌, ⊎_elim, ℕ, suc, ◌+◌, ◌<◌, Bool, true, Some, List, [], ◌∷◌, length, map}
use Rattle.memory_disk.proofs.Common.{get_or, refl, sym, ◌∙◌, ap, subst, arith, cases_eq, cond-true, is_some, IsSome}
use Rattle.memory_disk.proofs.Common.{Contains, filter, All, IsStrictlyIncreasing, AreRising, head_of, size_from}
use Rattle.memory_disk.proofs.Common.{no_head, Head}
use Rattle.std.proofs.lemmas.Bool.{cond_both}
use Rattle.std.proofs.{lemmas.List.get_or-map, lemmas.List.length-map, lemmas.List.Elements.All-filter}
use Rattle.std.proofs.{lemmas.List.Elements.filter_passes, lemmas.List.Kept.AllPairs-filter}
use Rattle.std.specs.Prelude.{◌↔◌}
use Rattle.memory_disk.specs.Index.{IsBefore}
use Rattle.memory_disk.proofs.HeadLists.{head_here, head_later, head_found}

abbrev file_in : Head → ℕ
file_in h = h.file

abbrev has_size : Head → Bool
has_size h = is_some h.size

-- each head is the one of its file
own_head : (hs : List Head) → AreRising hs → All (λ (h : Head). head_of hs h.file ≡ Some h) hs
own_head hs rising = λ k d lt.
    head_found hs k (get_or hs k d).file d lt refl (λ j less e. let up = rising j k d less lt in omega (arith, up, e))

listed_there : (hs : List Head) (n : ℕ) → AreRising hs → Contains (map file_in (filter has_size hs)) n
    → IsSome (size_from (head_of hs n))
listed_there hs n rising there =
    let some = filter has_size hs in
    let k = there.0 in
    let lt : k < length some = omega (arith, there.1, length-map some file_in) in
    let head = get_or some k no_head in
    let is : head.file ≡ n = sym (get_or-map file_in some k no_head n lt) ∙ there.2 in
    let found : head_of hs head.file ≡ Some head =
    All-filter has_size (λ (h : Head). head_of hs h.file ≡ Some h) hs (own_head hs rising) k no_head lt in
    ap is_some (ap size_from (ap (head_of hs) (sym is) ∙ found)) ∙ filter_passes has_size hs k no_head lt

contains_later : (y x : ℕ) (xs : List ℕ) → Contains xs x → Contains (y ∷ xs) x
contains_later y x xs there = (suc there.0, omega (arith, there.1), there.2)

there_listed : (hs : List Head) (n : ℕ) → IsSome (size_from (head_of hs n))
    → Contains (map file_in (filter has_size hs)) n
there_listed [] n some = cc some
there_listed (h ∷ hs) n some = ⊎_elim
    (λ (e : h.file ≡ n).
    let sized : has_size h ≡ true = sym (ap is_some (ap size_from (head_here h hs n e))) ∙ some in
    subst (λ (l : List Head). Contains (map file_in l) n)
    (sym (cond-true (has_size h) (h ∷ filter has_size hs) (filter has_size hs) sized)) (0, omega arith, e))
    (λ ne.
    let rest = there_listed hs n (sym (ap is_some (ap size_from (head_later h hs n ne))) ∙ some) in
    cond_both (has_size h) (h ∷ filter has_size hs) (filter has_size hs) (λ (l : List Head). Contains (map file_in l) n)
    (λ _. contains_later h.file n (map file_in (filter has_size hs)) rest) (λ _. rest))
    (cases_eq h.file n)

pub files_listed : (hs : List Head) (out : List ℕ) → AreRising hs → out ≡ map file_in (filter has_size hs) → (n : ℕ)
    → Contains out n ↔ IsSome (size_from (head_of hs n))
files_listed hs out rising is = λ n. (
  (λ there. listed_there hs n rising (subst (λ (l : List ℕ). Contains l n) is there)),
  (λ some. subst (λ (l : List ℕ). Contains l n) (sym is) (there_listed hs n some)),
)

pub files_rise : (hs : List Head) (out : List ℕ) → AreRising hs → out ≡ map file_in (filter has_size hs)
    → IsStrictlyIncreasing out
files_rise hs out rising is = subst IsStrictlyIncreasing (sym is) (λ k lt.
    let some = filter has_size hs in
    let long = length-map some file_in in
    let here = get_or-map file_in some k no_head 0 (omega (arith, lt, long)) in
    let next = get_or-map file_in some (k + 1) no_head 0 (omega (arith, lt, long)) in
    let up = AllPairs-filter IsBefore has_size hs rising k (k + 1) no_head (omega arith) (omega (arith, lt, long)) in
    omega (arith, here, next, up))
