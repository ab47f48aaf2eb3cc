-- One call more in the index.
use Rattle.memory_disk.proofs.Common.{◌≡◌, ◌≢◌, ⊎_elim, ℕ, ◌+◌, ◌^◌, ◌≤◌, ◌<◌, eqb, cond, Option, Some, None, IfSome}
use Rattle.memory_disk.proofs.Common.{List, [], ◌∷◌, ◌++◌, length, get_or, set, refl, sym, ◌∙◌, ap, subst, arith}
use Rattle.memory_disk.proofs.Common.{length-append, cases_eq, cases_lt, cond-true, cond-false, eq-eqb, ne_eqb}
use Rattle.memory_disk.proofs.Common.{get_or-set_same, get_or-set_other, get_or_append_left, length-set, IsSome}
use Rattle.memory_disk.proofs.Common.{option_map, Files, AreRising, IsChain, IsHead, IsIndexed, head_of, size_from}
use Rattle.memory_disk.proofs.Common.{Head}
use Rattle.memory_disk.specs.Index.{LeadsTo}

module _ (reads : ℕ → Files) (file_of : ℕ → ℕ) (n : ℕ) where
  -- a call of another file leaves a chain as it is
  chain_other : (links more : List ℕ) (head : Head) → head.file ≢ file_of n → reads (n + 1) head.file
      ≡ reads n head.file → ((i : ℕ) → i < n → file_of i ≢ file_of n → get_or more i 0 ≡ get_or links i 0)
      → IsChain reads file_of n links head → IsChain reads file_of (n + 1) more head
  chain_other links more head apart stays same was = record {
    order = was.order;
    bound = omega (arith, was.bound);
    begins = was.begins;
    ends = was.ends;
    absent = was.absent;
    leads = λ i from lt is. rw (same i (omega (arith, was.bound)) (λ e. apart (sym is ∙ e))) (was.leads i from lt is);
    behind = λ i after lt is. ⊎_elim (λ (e : i ≡ n). apart (sym is ∙ ap file_of e))
        (λ ne. was.behind i after (omega arith) is) (cases_eq i n);
    rest = stays ∙ was.rest;
  }

  head_other : (links more : List ℕ) (head : Head) → head.file ≢ file_of n → reads (n + 1) head.file ≡ reads n head.file
      → ((i : ℕ) → i < n → file_of i ≢ file_of n → get_or more i 0 ≡ get_or links i 0)
      → IsHead reads file_of n links head → IsHead reads file_of (n + 1) more head
  head_other links more head apart stays same was = record {
    size = was.size ∙ ap (λ (o : Option (List ℕ)). option_map length o) (sym stays);
    bound = was.bound;
    chain = λ some. chain_other links more head apart stays same (was.chain some);
  }

  -- a call of the file comes after its last
  chain_next : (links more : List ℕ) (head : Head) (size : Option ℕ) → file_of n ≡ head.file
      → ((i : ℕ) → i < head.last → get_or more i 0 ≡ get_or links i 0) → get_or more head.last 0 ≡ n
      → IsChain reads file_of n links head → IsChain reads file_of (n + 1) more (record head { last = n; size = size })
  chain_next links more head size is same now was = record {
    order = omega (arith, was.order, was.bound);
    bound = omega arith;
    begins = was.begins;
    ends = is;
    absent = was.absent;
    leads = λ i from lt own. ⊎_elim
        (λ low. let old = was.leads i from low own in
        subst (λ (k : ℕ). LeadsTo reads file_of head.file i k n) (sym (same i low)) (record {
          later = old.later;
          within = omega (arith, old.within, was.bound);
          of_file = old.of_file;
          between = old.between;
        }))
        (λ high. ⊎_elim
        (λ (e : i ≡ head.last).
        subst (λ (k : ℕ). LeadsTo reads file_of head.file i k n) (sym (ap (λ (k : ℕ). get_or more k 0) e ∙ now))
        (record {
          later = lt;
          within = omega arith;
          of_file = is;
          between = was.rest ∙ ap (λ (k : ℕ). reads (k + 1) head.file) (sym e);
        }))
        (λ ne. absurd (was.behind i (omega arith) lt own))
        (cases_eq i head.last))
        (cases_lt i head.last);
    behind = λ i after lt _. omega (arith, after, lt);
    rest = refl;
  }

  -- a call makes the file
  chain_made : (more : List ℕ) (file : ℕ) (size : Option ℕ) → file_of n ≡ file → reads n file ≡ None
      → IsChain reads file_of (n + 1) more (record { file = file; first = n; last = n; size = size })
  chain_made more file size is none = record {
    order = omega arith;
    bound = omega arith;
    begins = is;
    ends = is;
    absent = none;
    leads = λ i from lt _. absurd (omega (arith, from, lt));
    behind = λ i after lt _. omega (arith, after, lt);
    rest = refl;
  }

  -- the file's size as its head has it
  pub size_is : (heads : List Head) (links : List ℕ) → IsIndexed reads file_of n heads links → (file : ℕ)
      → size_from (head_of heads file) ≡ option_map length (reads n file)
  size_is heads links was file =
      elim (head_of heads file) as (λ o. head_of heads file ≡ o → size_from o ≡ option_map length (reads n file)) [
        | None ↦ λ none. ap (λ (o : Option (List ℕ)). option_map length o) (sym (was.unknown file none))
        | Some head ↦ λ found.
            let k = was.known file head found in
            k.1.size ∙ ap (λ (g : ℕ). option_map length (reads n g)) k.0
      ] refl

  pub size_bound : (heads : List Head) (links : List ℕ) → IsIndexed reads file_of n heads links → (file : ℕ)
      → IfSome (size_from (head_of heads file)) (λ size. size ≤ 2 ^ 62)
  size_bound heads links was file =
      elim (head_of heads file) as (λ o. head_of heads file ≡ o → IfSome (size_from o) (λ size. size ≤ 2 ^ 62)) [
        | None ↦ λ none. tt
        | Some head ↦ λ found. (was.known file head found).1.bound
      ] refl

  -- no file without a size is there
  pub absent_is : (heads : List Head) (links : List ℕ) → IsIndexed reads file_of n heads links → (file : ℕ)
      → size_from (head_of heads file) ≡ None → reads n file ≡ None
  absent_is heads links was file none = unmapped (reads n file) (sym (size_is heads links was file) ∙ none)
    where
      unmapped : (o : Option (List ℕ)) → option_map length o ≡ None → o ≡ None
      unmapped None e = refl
      unmapped (Some l) e = cc e

  module _ (heads : List Head) (links : List ℕ) (was : IsIndexed reads file_of n heads links)
      (others : (g : ℕ) → g ≢ file_of n → reads (n + 1) g ≡ reads n g) where
    indexed_next : (new : List Head) (more : List ℕ) → AreRising new → length more ≡ n + 1
        → ((i : ℕ) → i < n → file_of i ≢ file_of n → get_or more i 0 ≡ get_or links i 0)
        → ((g : ℕ) → g ≢ file_of n → head_of new g ≡ head_of heads g)
        → ((head : Head) → head_of new (file_of n) ≡ Some head → (head.file ≡ file_of n) × IsHead reads file_of
        (n + 1) more head) → (head_of new (file_of n) ≡ None → reads (n + 1) (file_of n) ≡ None)
        → IsIndexed reads file_of (n + 1) new more
    indexed_next new more rising long same kept here none = record {
      rising = rising;
      long = long;
      known = λ g head is. ⊎_elim
          (λ (e : g ≡ file_of n). let own = here head (sym (ap (head_of new) e) ∙ is) in (own.0 ∙ sym e, own.1))
          (λ ne. let old = was.known g head (sym (kept g ne) ∙ is) in (
            old.0,
            head_other links more head (λ e. ne (sym old.0 ∙ e))
                (others head.file (λ e. ne (sym old.0 ∙ e))) same old.1,
          ))
          (cases_eq g (file_of n));
      unknown = λ g is. ⊎_elim
          (λ (e : g ≡ file_of n). ap (reads (n + 1)) e ∙ none (sym (ap (head_of new) e) ∙ is))
          (λ ne. others g ne ∙ was.unknown g (sym (kept g ne) ∙ is))
          (cases_eq g (file_of n));
    }

    -- what is pushed leaves the links before it
    pushed : (x i : ℕ) → i < n → get_or (links ++ x ∷ []) i 0 ≡ get_or links i 0
    pushed x i lt = get_or_append_left links (x ∷ []) 0 i (omega (arith, was.long))

    long_pushed : (x : ℕ) → length (links ++ x ∷ []) ≡ n + 1
    long_pushed x = omega (arith, length-append links (x ∷ []), was.long)

    -- a new head is the file's alone
    put_other : (new : List Head) (head : Head) → head.file ≡ file_of n
        → ((g : ℕ) → head_of new g ≡ cond (eqb head.file g) (Some head) (head_of heads g)) → (g : ℕ) → g ≢ file_of n
        → head_of new g ≡ head_of heads g
    put_other new head is put g ne =
        put g ∙ cond-false (eqb head.file g) (Some head) (head_of heads g) (ne_eqb head.file g (λ e. ne (sym e ∙ is)))

    put_here : (new : List Head) (head : Head)
        → head.file ≡ file_of n → ((g : ℕ) → head_of new g ≡ cond (eqb head.file g) (Some head) (head_of heads g))
        → head_of new (file_of n) ≡ Some head
    put_here new head is put = put (file_of n) ∙ cond-true (eqb head.file (file_of n)) (Some head)
        (head_of heads (file_of n)) (eq-eqb head.file (file_of n) is)

    -- the head that is put is right
    indexed_put : (new : List Head) (more : List ℕ) (head : Head) → head.file ≡ file_of n
        → IsHead reads file_of (n + 1) more head → AreRising new → length more ≡ n + 1
        → ((i : ℕ) → i < n → file_of i ≢ file_of n → get_or more i 0 ≡ get_or links i 0)
        → ((g : ℕ) → head_of new g ≡ cond (eqb head.file g) (Some head) (head_of heads g))
        → IsIndexed reads file_of (n + 1) new more
    indexed_put new more head is right rising long same put =
        let here = put_here new head is put in
        indexed_next new more rising long same (put_other new head is put)
        (λ other found. let e : head ≡ other = cc (here, found) in
        (ap (λ (h : Head). h.file) (sym e) ∙ is, subst (λ (h : Head). IsHead reads file_of (n + 1) more h) e right))
        (λ none. let e : Some head ≡ None = sym here ∙ none in cc e)

    pub indexed_follow : (new : List Head) (x : ℕ) (head : Head) (size : Option ℕ)
        → head_of heads (file_of n) ≡ Some head → IsSome head.size
        → size ≡ option_map length (reads (n + 1) (file_of n)) → IfSome size (λ s. s ≤ 2 ^ 62)
        → AreRising new → ((g : ℕ) → head_of new g ≡ cond (eqb head.file g) (Some (record head {
          last = n;
          size = size;
        })) (head_of heads g))
        → IsIndexed reads file_of (n + 1) new (set (links ++ x ∷ []) head.last n)
    indexed_follow new x head size found some sized bound rising put =
        let old = was.known (file_of n) head found in
        let chain = old.1.chain some in
        let more = links ++ x ∷ [] in
        let after = set more head.last n in
        let here : head.last < length more = omega (arith, chain.bound, long_pushed x) in
        let apart : (i : ℕ) → i < n → i ≢ head.last → get_or after i 0 ≡ get_or links i 0 =
        λ i lt ne. get_or-set_other more head.last i n 0 ne ∙ pushed x i lt in
        indexed_put new after (record head { last = n; size = size }) old.0
        (record {
          size = sized ∙ ap (λ (g : ℕ). option_map length (reads (n + 1) g)) (sym old.0);
          bound = bound;
          chain = λ _. chain_next links after head size (sym old.0) (λ i lt.
              apart i (omega (arith, chain.bound)) (omega arith)) (get_or-set_same more head.last n 0 here) chain;
        })
        rising (length-set more head.last n ∙ long_pushed x)
        (λ i lt ne. apart i lt (λ e. ne (ap file_of e ∙ chain.ends ∙ old.0)))
        put

    pub indexed_made : (new : List Head) (x file size : ℕ) → file_of n ≡ file → size_from (head_of heads file) ≡ None
        → Some size ≡ option_map length (reads (n + 1) file) → size ≤ 2 ^ 62
        → AreRising new → ((g : ℕ) → head_of new g ≡ cond (eqb file g) (Some (record {
          file = file;
          first = n;
          last = n;
          size = Some size;
        })) (head_of heads g))
        → IsIndexed reads file_of (n + 1) new (links ++ x ∷ [])
    indexed_made new x file size is none sized bound rising put =
        indexed_put new (links ++ x ∷ []) (record { file = file; first = n; last = n; size = Some size }) (sym is)
        (record {
          size = sized;
          bound = bound;
          chain = λ _. chain_made (links ++ x ∷ []) file (Some size) is (absent_is heads links was file none);
        })
        rising (long_pushed x) (λ i lt _. pushed x i lt) put

    pub indexed_absent : (x file : ℕ) → file_of n ≡ file → size_from (head_of heads file) ≡ None
        → None ≡ option_map length (reads (n + 1) file) → IsIndexed reads file_of (n + 1) heads (links ++ x ∷ [])
    indexed_absent x file is none stays =
        indexed_next heads (links ++ x ∷ []) was.rising (long_pushed x) (λ i lt _. pushed x i lt) (λ g ne. refl)
        (λ head found.
        let old = was.known (file_of n) head found in
        let no_size : head.size ≡ None =
        ap size_from (sym found) ∙ ap (λ (g : ℕ). size_from (head_of heads g)) is ∙ none in (
          old.0,
          record {
            size = no_size ∙ stays ∙ ap (λ (g : ℕ). option_map length (reads (n + 1) g)) (sym is ∙ sym old.0);
            bound = old.1.bound;
            chain = λ some. absurd (no_some no_size some);
          },
        ))
        (λ _. ap (reads (n + 1)) is ∙ still (reads (n + 1) file) (sym stays))
      where
        no_some : {o : Option ℕ} → o ≡ None → IsSome o → ⊥
        no_some e some = let s = subst IsSome e some in cc s

        still : (o : Option (List ℕ)) → option_map length o ≡ None → o ≡ None
        still None e = refl
        still (Some l) e = cc e
