-- An index while its list of calls grows.
use Rattle.memory_disk.proofs.Common.{◌≡◌, ◌≢◌, ℕ, ◌+◌, ◌≤◌, ◌<◌, Option, None, List, [], ◌∷◌, ◌++◌, length}
use Rattle.memory_disk.proofs.Common.{take, drop, get_or, refl, sym, ◌∙◌, ap, subst, arith, false≢true}
use Rattle.memory_disk.proofs.Common.{take-append-drop, get_or-take, IsSome, option_map, Files, AllHeld, step_by}
use Rattle.memory_disk.proofs.Common.{history_of, IsChain, IsIndexed, MakesFile, reads_at, file_at, no_call, Write}
use Rattle.memory_disk.proofs.Common.{Sync, Remove, Step, reads_of, reads_removed, Kind, Call, Head}
use Rattle.std.proofs.Common.{Result, Ok, Err}
use Rattle.std.specs.{Prelude.IsOk, Prelude.OnOk}
use Rattle.memory_disk.proofs.{CallsLemmas.history_row, CallsLemmas.held_take, ReadChain.reads_all}
use Rattle.std.proofs.lemmas.List.{take-take}

pub on_ok : {T E P : Type 0} (r : Result T E) → IsOk r → OnOk r P → P
on_ok (Ok x) ok p = p
on_ok (Err e) ok p = absurd (false≢true ok)

-- what an index says depends on the first n calls alone
module _ (reads now : ℕ → Files) (file_of file_now : ℕ → ℕ) (n : ℕ) (same : (k : ℕ) → k ≤ n → now k ≡ reads k)
    (same_file : (k : ℕ) → k < n → file_now k ≡ file_of k) where
  reads_same : (k f : ℕ) → k ≤ n → now k f ≡ reads k f
  reads_same k f le = ap (λ (files : Files). files f) (same k le)

  chain_same : (links : List ℕ) (head : Head) → IsChain reads file_of n links head → IsChain now file_now n links head
  chain_same links head was = record {
    order = was.order;
    bound = was.bound;
    begins = same_file head.first (omega (arith, was.order, was.bound)) ∙ was.begins;
    ends = same_file head.last was.bound ∙ was.ends;
    absent = reads_same head.first head.file (omega (arith, was.order, was.bound)) ∙ was.absent;
    leads = λ i from lt own.
        let old = was.leads i from lt (sym (same_file i (omega (arith, was.bound))) ∙ own) in
        let next = get_or links i 0 in
        record {
          later = old.later;
          within = old.within;
          of_file = same_file next (omega (arith, old.within, was.bound)) ∙ old.of_file;
          between = reads_same next head.file (omega (arith, old.within, was.bound)) ∙ old.between
              ∙ sym (reads_same (i + 1) head.file (omega (arith, was.bound)));
        };
    behind = λ i after lt own. was.behind i after lt (sym (same_file i lt) ∙ own);
    rest = reads_same n head.file (omega arith) ∙ was.rest
        ∙ sym (reads_same (head.last + 1) head.file (omega (arith, was.bound)));
  }

  indexed_same : (heads : List Head) (links : List ℕ) → IsIndexed reads file_of n heads links
      → IsIndexed now file_now n heads links
  indexed_same heads links was = record {
    rising = was.rising;
    long = was.long;
    known = λ file head found.
        let old = was.known file head found in (
          old.0,
          record {
            size = old.1.size
                ∙ ap (λ (o : Option (List ℕ)). option_map length o) (sym (reads_same n head.file (omega arith)));
            bound = old.1.bound;
            chain = λ some. chain_same links head (old.1.chain some);
          },
        );
    unknown = λ file none. reads_same n file (omega arith) ∙ was.unknown file none;
  }

-- more bytes and calls after those that are there
module _ (row longer : List ℕ) (calls more : List Call) (held : AllHeld (length row) calls)
    (kept : take (length row) longer ≡ row) (earlier : take (length calls) more ≡ calls) where
  pub reads_before : (k : ℕ) → k ≤ length calls → reads_at longer more k ≡ reads_at row calls k
  reads_before k le =
      let rest = drop (length row) longer in
      let whole : longer ≡ row ++ rest =
      sym (take-append-drop (length row) longer) ∙ ap (λ (l : List ℕ). l ++ rest) kept in
      let first : take k more ≡ take k calls =
      sym (take-take k (length calls) more le) ∙ ap (λ (l : List Call). take k l) earlier in
      ap (λ (l : List Call). reads_of (history_of longer l)) first
      ∙ ap (λ (l : List ℕ). reads_of (history_of l (take k calls))) whole
      ∙ ap reads_of (history_row [] row rest (take k calls) (held_take (length row) calls k held))

  file_before : (k : ℕ) → k < length calls → file_at more k ≡ file_at calls k
  file_before k lt =
      ap (λ (c : Call). c.file) (sym (get_or-take (length calls) more k no_call lt))
      ∙ ap (λ (l : List Call). file_at l k) earlier

  pub indexed_grown : (heads : List Head) (links : List ℕ) → IsIndexed (reads_at row calls) (file_at calls)
      (length calls) heads links → IsIndexed (reads_at longer more) (file_at more) (length calls) heads links
  indexed_grown heads links was = indexed_same (reads_at row calls) (reads_at longer more) (file_at calls)
      (file_at more) (length calls) reads_before file_before heads links was

  -- a call makes a file only where it was absent
  pub made_absent : (file : ℕ) → file_at more (length calls) ≡ file
      → MakesFile (reads_at longer more) (file_at more) (length calls) → reads_of (history_of row calls) file ≡ None
  made_absent file is makes =
      ap (λ (files : Files). files file) (sym (reads_before (length calls) (omega arith) ∙ reads_all row calls))
      ∙ ap (λ (g : ℕ). reads_at longer more (length calls) g) (sym is)
      ∙ makes.absent

  -- and a call without bytes makes none
  pub mark_makes_none : (kind : Kind) (file : ℕ) → kind ≢ Write → file_at more (length calls) ≡ file
      → length more ≡ length calls + 1 → history_of longer more ≡ step_by kind file 0 [] ∷ history_of row calls
      → MakesFile (reads_at longer more) (file_at more) (length calls) → ⊥
  mark_makes_none kind file no_write is long history makes =
      let now : reads_at longer more (length calls + 1) ≡ reads_of (step_by kind file 0 [] ∷ history_of row calls) =
      ap (λ (k : ℕ). reads_at longer more k) (sym long) ∙ reads_all longer more ∙ ap reads_of history in
      none kind no_write (history_of row calls) (made_absent file is makes)
      (subst (λ (g : ℕ). IsSome (reads_of (step_by kind file 0 [] ∷ history_of row calls) g)) is
      (subst (λ (files : Files). IsSome (files (file_at more (length calls)))) now makes.there))
    where
      some_not_none : {o : Option (List ℕ)} → o ≡ None → IsSome o → ⊥
      some_not_none e some = let s = subst IsSome e some in cc s

      none : (kind : Kind) → kind ≢ Write → (h : List Step) → reads_of h file ≡ None
          → IsSome (reads_of (step_by kind file 0 [] ∷ h) file) → ⊥
      none Write ne h was some = ne refl
      none Sync ne h was some = some_not_none was some
      none Remove ne h was some = some_not_none (reads_removed file h) some
