-- What holds of a file holds by its own calls.
use Rattle.memory_disk.proofs.Common.{◌≡◌, ◌≢◌, ⊎_elim, ℕ, zero, suc, ◌+◌, ◌≤◌, ◌<◌, eqb, Option}
use Rattle.memory_disk.proofs.Common.{Some, List, [], ◌∷◌, length, take, drop, get_or, refl, sym, ◌∙◌, ap, subst}
use Rattle.memory_disk.proofs.Common.{arith, cases_eq, cases_lt, cond-true, cond-false, eq-eqb, ne_eqb}
use Rattle.memory_disk.proofs.Common.{nat_tests, All, nat_cmp, bytes_of}
use Rattle.memory_disk.proofs.Common.{written, Left, IsLeft, left_of, image_of, after_write, after_removal, AllHeld}
use Rattle.memory_disk.proofs.Common.{Held, step_by, step_of, history_on, history_of, Write, Sync, Remove, Step}
use Rattle.memory_disk.proofs.Common.{reads_of, reads_written, reads_removed, calls_of, no_call, Kind, Call}
use Rattle.std.proofs.Common.{not, ◌&&◌}
use Rattle.std.proofs.lemmas.List.Elements.{filter_agree}
use Rattle.std.specs.{List.Sorted.ties, List.Sorted.IsStableByKey, Ordering.is_lt}
use Rattle.memory_disk.specs.Images.{state_at}
use Rattle.memory_disk.specs.{ByFile.is_of}
use Rattle.memory_disk.proofs.LeftFiles.{wrote_here, synced_here, removed_here, left_other}
use Rattle.memory_disk.proofs.{CallsLemmas.held_at, Noted.step_other, Rising.state_first, Rising.state_next}

-- two histories that a file cannot tell apart
record AreAlike (f : ℕ) (h k : List Step) : Type 0 where
  reads : reads_of h f ≡ reads_of k f
  left : (choice start : ℕ) → left_of choice f h start ≡ left_of choice f k start

-- a call of another file, and one of this file in both
alike_other : (k : Kind) (file at : ℕ) (bytes : List ℕ) (h g : List Step) (f : ℕ) → f ≢ file → AreAlike f h g
    → AreAlike f (step_by k file at bytes ∷ h) g
alike_other k file at bytes h g f ne was = record {
  reads = step_other k file at bytes h f ne ∙ was.reads;
  left = λ choice start. left_other k choice file at bytes h f start ne ∙ was.left choice start;
}

alike_here : (k : Kind) (at : ℕ) (bytes : List ℕ) (h g : List Step) (f : ℕ) → AreAlike f h g
    → AreAlike f (step_by k f at bytes ∷ h) (step_by k f at bytes ∷ g)
alike_here Write at bytes h g f was = record {
  reads = reads_written f at bytes h ∙ ap (λ (o : Option (List ℕ)). Some (written (bytes_of o) at bytes)) was.reads
      ∙ sym (reads_written f at bytes g);
  left = λ choice start. wrote_here choice at bytes h f start ∙ ap (λ (l : Left). after_write choice at bytes l)
      (was.left choice start) ∙ sym (wrote_here choice at bytes g f start);
}
alike_here Sync at bytes h g f was = record {
  reads = was.reads;
  left = λ choice start. synced_here choice h f start ∙ ap (λ (o : Option (List ℕ)). record {
    content = o;
    state = start;
  }) was.reads ∙ sym (synced_here choice g f start);
}
alike_here Remove at bytes h g f was = record {
  reads = reads_removed f h ∙ sym (reads_removed f g);
  left = λ choice start. removed_here choice h f start
      ∙ ap (λ (l : Left). after_removal choice l) (was.left choice start) ∙ sym (removed_here choice g f start);
}

-- the first call of a list is the file's or not
own_first : (call : Call) (calls : List Call) (f : ℕ) → call.file ≡ f
    → calls_of f (call ∷ calls) ≡ call ∷ calls_of f calls
own_first call calls f same = cond-true (is_of f call) _ _ (eq-eqb call.file f same)

not_first : (call : Call) (calls : List Call) (f : ℕ) → call.file ≢ f → calls_of f (call ∷ calls) ≡ calls_of f calls
not_first call calls f ne = cond-false (is_of f call) _ _ (ne_eqb call.file f ne)

own_on : (row : List ℕ) (f : ℕ) (calls : List Call) (h g : List Step) → AreAlike f h g
    → AreAlike f (history_on h row calls) (history_on g row (calls_of f calls))
own_on row f [] h g was = was
own_on row f (call ∷ calls) h g was =
    let bytes = take call.len (drop call.from row) in
    ⊎_elim
    (λ (same : call.file ≡ f).
    let step = subst (λ (file : ℕ). AreAlike f (step_by call.kind file call.at bytes ∷ h)
    (step_by call.kind file call.at bytes ∷ g)) (sym same) (alike_here call.kind call.at bytes h g f was) in
    subst (λ (l : List Call). AreAlike f (history_on (step_of row call ∷ h) row calls) (history_on g row l))
    (sym (own_first call calls f same)) (own_on row f calls (step_of row call ∷ h) (step_of row call ∷ g) step))
    (λ ne.
    subst (λ (l : List Call). AreAlike f (history_on (step_of row call ∷ h) row calls) (history_on g row l))
    (sym (not_first call calls f ne)) (own_on row f calls (step_of row call ∷ h) g
    (alike_other call.kind call.file call.at bytes h g f (λ e. ne (sym e)) was)))
    (cases_eq call.file f)

-- the file's own calls leave the same of it
pub left_own : (row : List ℕ) (calls : List Call) (choice f start : ℕ)
    → left_of choice f (history_of row calls) start ≡ left_of choice f (history_of row (calls_of f calls)) start
left_own row calls choice f start =
    (own_on row f calls [] [] (record { reads = refl; left = λ _ _. refl })).left choice start

pub is_left_own : (row : List ℕ) (calls : List Call) (choice f start : ℕ) (content : Option (List ℕ)) (state : ℕ)
    → IsLeft choice f (history_of row (calls_of f calls)) start content state
    → IsLeft choice f (history_of row calls) start content state
is_left_own row calls choice f start content state left = record { is = left_own row calls choice f start ∙ left.is }

-- and lists with the same calls of each file the same disk
module _ (row : List ℕ) (xs ys : List Call) (same : (f : ℕ) → calls_of f xs ≡ calls_of f ys) where
  pub left_alike : (choice f start : ℕ)
      → left_of choice f (history_of row xs) start ≡ left_of choice f (history_of row ys) start
  left_alike choice f start = left_own row xs choice f start ∙ ap
      (λ (l : List Call). left_of choice f (history_of row l) start) (same f) ∙ sym (left_own row ys choice f start)

  state_alike : (choice f : ℕ) → state_at choice (history_of row xs) f ≡ state_at choice (history_of row ys) f
  state_alike choice zero = state_first choice (history_of row xs) ∙ sym (state_first choice (history_of row ys))
  state_alike choice (suc f) =
      let more : suc f ≡ f + 1 = omega arith in
      ap (λ (m : ℕ). state_at choice (history_of row xs) m) more
      ∙ state_next choice (history_of row xs) f
      ∙ ap (λ (s : ℕ). (left_of choice f (history_of row xs) s).state) (state_alike choice f)
      ∙ ap (λ (l : Left). l.state) (left_alike choice f (state_at choice (history_of row ys) f))
      ∙ sym (state_next choice (history_of row ys) f)
      ∙ ap (λ (m : ℕ). state_at choice (history_of row ys) m) (sym more)

  pub image_alike : (choice : ℕ) → image_of choice (history_of row xs) ≡ image_of choice (history_of row ys)
  image_alike choice = λ i f. each f i
    where
      each : (f : ℕ) → image_of choice (history_of row xs) f ≡ image_of choice (history_of row ys) f
      each f =
          ap (λ (s : ℕ). (left_of choice f (history_of row xs) s).content) (state_alike choice f)
          ∙ ap (λ (l : Left). l.content) (left_alike choice f (state_at choice (history_of row ys) f))

pub held_own : (n f : ℕ) (calls : List Call) → AllHeld n calls → AllHeld n (calls_of f calls)
held_own n f [] held = tt
held_own n f (call ∷ calls) held = ⊎_elim
    (λ (same : call.file ≡ f).
    subst (AllHeld n) (sym (own_first call calls f same)) (held.0, held_own n f calls held.1))
    (λ ne. subst (AllHeld n) (sym (not_first call calls f ne)) (held_own n f calls held.1))
    (cases_eq call.file f)

-- each call is held
pub each_held : (n : ℕ) (calls : List Call) → AllHeld n calls → All (Held n) calls
each_held n calls held = λ k d lt. held_at n calls k d lt held

pub all_held : (n : ℕ) (calls : List Call) → All (Held n) calls → AllHeld n calls
all_held n [] each = tt
all_held n (call ∷ calls) each =
    (each 0 call (omega arith), all_held n calls (λ k d lt. each (suc k) d (omega (arith, lt))))

filter_none : (f : ℕ) (calls : List Call) → ((k : ℕ) → k < length calls → f < (get_or calls k no_call).file)
    → calls_of f calls ≡ []
filter_none f [] above = refl
filter_none f (call ∷ calls) above = not_first call calls f (λ e. omega (arith, above 0 (omega arith), e))
    ∙ filter_none f calls (λ k lt. above (suc k) (omega (arith, lt)))

-- the part of a list that is the file's
pub own_part : (calls : List Call) (from n f : ℕ) → from + n ≤ length calls
    → ((k : ℕ) → k < from → (get_or calls k no_call).file < f)
    → ((k : ℕ) → from ≤ k → k < from + n → (get_or calls k no_call).file ≡ f)
    → ((k : ℕ) → from + n ≤ k → k < length calls → f < (get_or calls k no_call).file)
    → take n (drop from calls) ≡ calls_of f calls
own_part calls zero zero f bound below within above = sym (filter_none f calls (λ k lt. above k (omega arith) lt))
own_part [] zero (suc n) f bound below within above = absurd (omega (arith, bound))
own_part (call ∷ calls) zero (suc n) f bound below within above =
    ap (λ (l : List Call). call ∷ l) (own_part calls zero n f (omega (arith, bound))
    (λ k lt. absurd (omega (arith, lt))) (λ k le lt. within (suc k) (omega arith) (omega (arith, lt)))
    (λ k le lt. above (suc k) (omega (arith, le)) (omega (arith, lt))))
    ∙ sym (own_first call calls f (within 0 (omega arith) (omega arith)))
own_part [] (suc from) n f bound below within above = absurd (omega (arith, bound))
own_part (call ∷ calls) (suc from) n f bound below within above =
    own_part calls from n f (omega (arith, bound)) (λ k lt. below (suc k) (omega (arith, lt)))
    (λ k le lt. within (suc k) (omega (arith, le)) (omega (arith, lt)))
    (λ k le lt. above (suc k) (omega (arith, le)) (omega (arith, lt)))
    ∙ sym (not_first call calls f (λ e. omega (arith, below 0 (omega arith), e)))

-- a stable sort by file keeps the calls of each file in order
file_ties : (f g : ℕ) → eqb g f ≡ not (is_lt (nat_cmp f g)) && not (is_lt (nat_cmp g f))
file_ties f g = grind (arith, nat_tests)

pub stable_calls : (xs ys : List Call) → IsStableByKey (λ (c : Call). c.file) nat_cmp xs ys → (f : ℕ)
    → calls_of f ys ≡ calls_of f xs
stable_calls xs ys stable f =
    let x = record no_call { file = f } in
    let tests = λ (y : Call). ties (λ (a : Call) (b : Call). is_lt (nat_cmp a.file b.file)) x y in
    let same : (y : Call) → is_of f y ≡ tests y = λ y. file_ties f y.file in
    filter_agree (is_of f) tests same ys ∙ stable x ∙ sym (filter_agree (is_of f) tests same xs)

-- where the file's calls begin is not after where they end
pub in_order : (calls : List Call) (from to f : ℕ)
    → from ≤ length calls → ((k : ℕ) → k < from → (get_or calls k no_call).file < f)
    → ((k : ℕ) → to ≤ k → k < length calls → f < (get_or calls k no_call).file) → from ≤ to
in_order calls from to f bound below above = ⊎_elim
    (λ lt. let low = below to lt in let high = above to (omega arith) (omega (arith, lt, bound)) in
    absurd (omega (arith, low, high)))
    (λ le. le)
    (cases_lt to from)
