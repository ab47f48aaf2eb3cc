-- One call more of a list, in its index.
use Rattle.memory_disk.proofs.Common.{◌≡◌, ◌≢◌, ℕ, ◌+◌, ◌^◌, ◌≤◌, ◌<◌, eqb, cond, Option, Some, None, IfSome, List, []}
use Rattle.memory_disk.proofs.Common.{◌∷◌, ◌++◌, length, take, get_or, set, refl, sym, ◌∙◌, ap, arith, IsSome}
use Rattle.memory_disk.proofs.Common.{option_map, step_by, step_of, history_of, AreRising, IsIndexed, MakesFile}
use Rattle.memory_disk.proofs.Common.{reads_at, file_at, no_call, head_of, size_from, Write, Sync, Remove, Step}
use Rattle.memory_disk.proofs.Common.{reads_of, reads_elsewhere, elsewhere_removed, Kind, Call, Head}
use Rattle.memory_disk.proofs.CallsLemmas.{history_next}
use Rattle.memory_disk.proofs.Chains.{size_is, absent_is, indexed_follow, indexed_made, indexed_absent}

-- a call leaves each other file as it reads
pub step_other : (k : Kind) (file at : ℕ) (bytes : List ℕ) (h : List Step) (g : ℕ) → g ≢ file
    → reads_of (step_by k file at bytes ∷ h) g ≡ reads_of h g
step_other Write file at bytes h g ne = reads_elsewhere file at bytes h g ne
step_other Sync file at bytes h g ne = refl
step_other Remove file at bytes h g ne = elsewhere_removed file h g ne

some_mapped : (o : Option (List ℕ)) (s : ℕ) → Some s ≡ option_map length o → IsSome o
some_mapped None s e = cc e
some_mapped (Some l) s e = refl

module _ (row : List ℕ) (calls : List Call) where
  pub others_stay : (n : ℕ) → n < length calls → (g : ℕ) → g ≢ file_at calls n
      → reads_at row calls (n + 1) g ≡ reads_at row calls n g
  others_stay n lt g ne =
      let call = get_or calls n no_call in
      ap (λ (h : List Step). reads_of h g) (history_next row calls n no_call lt)
      ∙ step_other call.kind call.file call.at _ (history_of row (take n calls)) g ne

  -- (the count as the code takes it, and as the clauses say it)
  module _ (n count : ℕ) (same : n ≡ count) (lt : n < length calls) (heads : List Head) (links : List ℕ)
      (counted : IsIndexed (reads_at row calls) (file_at calls) count heads links) where
    was : IsIndexed (reads_at row calls) (file_at calls) n heads links
    was = rw same counted

    -- the size after the call
    sized : (before after : Option ℕ) → ((h : List Step) → before ≡ option_map length (reads_of h (file_at calls n))
        → after ≡ option_map length (reads_of (step_of row (get_or calls n no_call) ∷ h) (file_at calls n)))
        → before ≡ option_map length (reads_at row calls n (file_at calls n))
        → after ≡ option_map length (reads_at row calls (n + 1) (file_at calls n))
    sized before after goes is = goes (history_of row (take n calls)) is ∙ ap (λ (h : List Step).
        option_map length (reads_of h (file_at calls n))) (sym (history_next row calls n no_call lt))

    pub within_links : (head : Head) → head_of heads (file_at calls n) ≡ Some head → IsSome head.size → head.last < n
    within_links head found some = ((was.known (file_at calls n) head found).1.chain some).bound

    pub noted_follow : (new : List Head) (x : ℕ) (more : List ℕ) (head : Head) (size : Option ℕ)
        → head_of heads (file_at calls n) ≡ Some head → IsSome head.size
        → ((h : List Step) → head.size ≡ option_map length (reads_of h (file_at calls n))
        → size ≡ option_map length (reads_of (step_of row (get_or calls n no_call) ∷ h) (file_at calls n)))
        → (IfSome head.size (λ s. s ≤ 2 ^ 62) → IfSome size (λ s. s ≤ 2 ^ 62)) → AreRising new
        → ((g : ℕ) → head_of new g ≡ cond (eqb head.file g) (Some (record head {
          last = n;
          size = size;
        })) (head_of heads g)) → more ≡ set (links ++ x ∷ []) head.last n
        → IsIndexed (reads_at row calls) (file_at calls) (count + 1) new more
    noted_follow new x more head size found some goes bound rising put is =
        let old = was.known (file_at calls n) head found in
        rw (← same, is) (indexed_follow (reads_at row calls) (file_at calls) n heads links was
        (others_stay n lt) new x head size found some
        (sized head.size size goes (old.1.size ∙ ap (λ (g : ℕ). option_map length (reads_at row calls n g)) old.0))
        (bound old.1.bound) rising put)

    pub is_none : size_from (head_of heads (file_at calls n)) ≡ None
        → None ≡ option_map length (reads_at row calls n (file_at calls n))
    is_none none = sym none ∙ size_is (reads_at row calls) (file_at calls) n heads links was (file_at calls n)

    pub noted_made : (new : List Head) (x : ℕ) (more : List ℕ) (size : ℕ)
        → size_from (head_of heads (file_at calls n)) ≡ None
        → ((h : List Step) → None ≡ option_map length (reads_of h (file_at calls n)) → Some size
        ≡ option_map length (reads_of (step_of row (get_or calls n no_call) ∷ h) (file_at calls n))) → size ≤ 2 ^ 62
        → AreRising new
        → ((g : ℕ) → head_of new g ≡ cond (eqb (file_at calls n) g) (Some (record {
          file = file_at calls n;
          first = n;
          last = n;
          size = Some size;
        })) (head_of heads g)) → more ≡ links ++ x ∷ []
        → IsIndexed (reads_at row calls) (file_at calls) (count + 1) new more
    noted_made new x more size none goes bound rising put is =
        rw (← same, is) (indexed_made (reads_at row calls) (file_at calls) n heads links was (others_stay n lt) new x
        (file_at calls n) size refl none (sized None (Some size) goes (is_none none)) bound rising put)

    pub makes : (size : ℕ) → size_from (head_of heads (file_at calls n)) ≡ None
        → ((h : List Step) → None ≡ option_map length (reads_of h (file_at calls n))
        → Some size ≡ option_map length (reads_of (step_of row (get_or calls n no_call) ∷ h) (file_at calls n)))
        → MakesFile (reads_at row calls) (file_at calls) count
    makes size none goes = rw (← same) (record {
      absent = absent_is (reads_at row calls) (file_at calls) n heads links was (file_at calls n) none;
      there =
          some_mapped (reads_at row calls (n + 1) (file_at calls n)) size (sized None (Some size) goes (is_none none));
    })

    pub noted_absent : (x : ℕ) (more : List ℕ) → size_from (head_of heads (file_at calls n)) ≡ None
        → ((h : List Step) → None ≡ option_map length (reads_of h (file_at calls n)) → None ≡ option_map length
        (reads_of (step_of row (get_or calls n no_call) ∷ h) (file_at calls n))) → more ≡ links ++ x ∷ []
        → IsIndexed (reads_at row calls) (file_at calls) (count + 1) heads more
    noted_absent x more none goes is =
        rw (← same, is) (indexed_absent (reads_at row calls) (file_at calls) n heads links was (others_stay n lt) x
        (file_at calls n) refl none (sized None None goes (is_none none)))

-- the index of no call
pub indexed_none : (row : List ℕ) (calls : List Call) (n : ℕ) (heads : List Head) (links : List ℕ) → n ≡ 0 → heads ≡ []
    → links ≡ [] → IsIndexed (reads_at row calls) (file_at calls) n heads links
indexed_none row calls n heads links zero no_heads no_links = rw (zero, no_heads, no_links) (record {
  rising = λ i j d less bound. absurd (omega (arith, bound));
  long = refl;
  known = λ file head found. cc found;
  unknown = λ file _. refl;
})
