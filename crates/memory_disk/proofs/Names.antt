-- Files that no call wrote or removed.
use Rattle.memory_disk.proofs.Common.{◌≡◌, ◌≢◌, ℕ, ◌+◌, ◌<◌, None, List, ◌∷◌, length, get_or, refl, sym, ◌∙◌, subst}
use Rattle.memory_disk.proofs.Common.{arith, true, false, nat_tests, common_steps, get_or_default, Contains}
use Rattle.memory_disk.proofs.Common.{IsStrictlyIncreasing, nat_cmp, contains, Files, Step}
use Rattle.memory_disk.proofs.Common.{reads_of, IsUnnamed, step_by, IsBuilt, Kind}
use Rattle.std.proofs.{lemmas.Map.Keys.below_from_sorted, lemmas.Map.Views.btree_set_contains_iff}
use Rattle.std.proofs.{lemmas.Map.Lookups.exact_unsigned, lemmas.Cmp.nat_cmp_total}
use Rattle.std.specs.{List.Sorted.IsStrictlySortedBy, BTreeSet.BTreeSet, BTreeSet.Updates}
use Rattle.memory_disk.proofs.{LeftFiles.left_other, Noted.step_other}

pub still_absent : (k f : ℕ) (s n : BTreeSet ℕ) → Updates nat_cmp s n k true → contains nat_cmp n f ≡ false
    → (k ≢ f) × (contains nat_cmp s f ≡ false)
still_absent k f s n u absent = (
  (λ e. let h : contains nat_cmp n k ≡ true = grind (arith, common_steps, nat_tests, u.0 k) in cc (h, absent, e)),
  (let h = u.0 f in grind (arith, common_steps, nat_tests, h, absent)),
)

-- a call on another file leaves this one
pub other_next : (k : Kind) (file at : ℕ) (bytes : List ℕ) (h : List Step) (f : ℕ) → file ≢ f
    → IsUnnamed h f × (reads_of h f ≡ None)
    → IsUnnamed (step_by k file at bytes ∷ h) f × (reads_of (step_by k file at bytes ∷ h) f ≡ None)
other_next k file at bytes h f ne was = (
  (λ choice start. left_other k choice file at bytes h f start (λ e. ne (sym e)) ∙ was.0 choice start),
  step_other k file at bytes h f (λ e. ne (sym e)) ∙ was.1,
)

-- the keys of a set are what it contains
pub not_listed : (s : BTreeSet ℕ) (numbers : List ℕ) (f : ℕ) → numbers ≡ s.keys → (Contains numbers f → ⊥)
    → contains nat_cmp s f ≡ false
not_listed s numbers f is out =
    let both = btree_set_contains_iff nat_cmp_total exact_unsigned s f in
    elim (contains nat_cmp s f) as (λ b. contains nat_cmp s f ≡ b → contains nat_cmp s f ≡ false) [
      | true ↦ λ is_there. absurd (out (subst (λ (l : List ℕ). Contains l f) (sym is) (both.0 is_there)))
      | false ↦ λ absent. absent
    ] refl

-- what is built is the disk, where that has no other files
pub built_all : (s : BTreeSet ℕ) (numbers : List ℕ) (disk : Files) (new : List Step) → numbers ≡ s.keys
    → ((f : ℕ) → contains nat_cmp s f ≡ false → disk f ≡ None)
    → IsBuilt numbers (length numbers) disk new → reads_of new ≡ disk
built_all s numbers disk new is none built = λ i f. each f i
  where
    found : (f : ℕ) → Contains numbers f → reads_of new f ≡ disk f
    found f there =
        let number : get_or numbers there.0 0 ≡ f = get_or_default numbers there.0 0 f there.1 ∙ there.2 in
        subst (λ (g : ℕ). reads_of new g ≡ disk g) number (built.there there.0 there.1)

    missing : (f : ℕ) → contains nat_cmp s f ≡ false → (k : ℕ) → k < length numbers → get_or numbers k 0 ≢ f
    missing f absent k lt e =
        let both = btree_set_contains_iff nat_cmp_total exact_unsigned s f in
        let here : Contains numbers f = (k, lt, get_or_default numbers k f 0 lt ∙ e) in
        let is_there : contains nat_cmp s f ≡ true = both.1 (subst (λ (l : List ℕ). Contains l f) is here) in
        cc (is_there, absent)

    each : (f : ℕ) → reads_of new f ≡ disk f
    each f =
        let both = btree_set_contains_iff nat_cmp_total exact_unsigned s f in
        elim (contains nat_cmp s f) as (λ b. contains nat_cmp s f ≡ b → reads_of new f ≡ disk f) [
          | true ↦ λ is_there. found f (subst (λ (l : List ℕ). Contains l f) (sym is) (both.0 is_there))
          | false ↦ λ absent. built.absent f (missing f absent) ∙ sym (none f absent)
        ] refl

-- the keys of a set rise
pub keys_rise : (out keys : List ℕ) → out ≡ keys → IsStrictlySortedBy nat_cmp keys → IsStrictlyIncreasing out
keys_rise out keys is ordered =
    subst IsStrictlyIncreasing (sym is) (λ k lt. below_from_sorted keys k (k + 1) 0 ordered (omega arith) lt)
