-- What the one pass keeps and makes is what the rule says.
use Rattle.std.proofs.Common.{◌≡◌, ℕ, ◌+◌, ◌-◌, ◌<◌, inl, inr, Bool, true, false, not, ◌&&◌, List, [], ◌∷◌, ◌++◌, map}
use Rattle.std.proofs.Common.{refl, sym, ap, ap₂, subst, ◌∙◌, append_assoc, arith}
use Rattle.std.proofs.lemmas.Bool.{cases_Bool, and_parts, false≢true, eqb-true}
use Rattle.std.proofs.lemmas.List.{append-nil}
use Rattle.pcm_base.specs.declared.piece.Piece.TheVariants.{Old, Scaled, Zero, Given}
use Rattle.pcm_base.specs.{declared.piece.Piece.Piece, Pieces.piece_len, Pieces.total}
use Rattle.pcm_base.proofs.Pieces.{total-append}
use Rattle.block_sequence.specs.Fuse.{Part, Made, is_whole, is_full, is_short, none_full, front, taken_by_first}
use Rattle.block_sequence.specs.Fuse.{is_kept, kept_from, kept_parts, block_sizes, added, AreRuns, IsLaidOut}
use Rattle.block_sequence.specs.Laying.{kept_of, run_parts, laid_clip, laid_apart}
use Rattle.block_sequence.proofs.{HalfFull.is_full-true, HalfFull.laid_none, HalfFull.no_sizes, HalfFull.not_full}
use Rattle.block_sequence.proofs.{Sizes.added_sizes, Clip.laid_from, Clip.ends, Clip.goes_on, Clip.stops}

-- where the kept blocks begin after some new ones
kept_made : (at : ℕ) (ns : List ℕ) (rest : List Part)
    → kept_parts at (map Made ns ++ rest) ≡ kept_parts (at + added ns) rest
kept_made at [] rest = ap (λ n. kept_parts n rest) (omega arith)
kept_made at (n ∷ ns) rest = kept_made (at + n) ns rest ∙ ap (λ k. kept_parts k rest) (omega arith)

kept_run : (m t at : ℕ) (rest : List Part) → 0 < m → kept_parts at (run_parts m t ++ rest) ≡ kept_parts (at + t) rest
unfolding run_parts
kept_run m t at rest a = kept_made at (block_sizes m t) rest ∙ ap (λ n. kept_parts (at + n) rest) (added_sizes m t a)

kept_block : (p : Piece) (at : ℕ) (rest : List Part) → is_whole p ≡ true
    → kept_parts at (kept_of p ++ rest) ≡ (at, p) ∷ kept_parts (at + piece_len p) rest
kept_block (Old b from to) at rest h =
    let a = and_parts _ _ h in
    let x : from ≡ 0 = eqb-true _ _ a.0 in
    let y : to ≡ b.len = eqb-true _ _ a.1 in
    let n : b.len ≡ to - from = omega arith in
    ap₂ (λ (q : Piece) (k : ℕ). (at, q) ∷ kept_parts (at + k) rest) (ap₂ (Old b) (sym x) (sym y)) n
kept_block (Scaled b from to gain) at rest h = absurd (false≢true h)
kept_block (Zero len) at rest h = absurd (false≢true h)
kept_block (Given from to) at rest h = absurd (false≢true h)

-- the run that begins a clip, where a full piece ends it
first_front : (m : ℕ) (before : List Piece) (p : Piece) (ps : List Piece) → none_full m before ≡ true
    → is_full m p ≡ true → front m (before ++ p ∷ ps) ≡ total before
first_front m [] p ps h s = rw s refl
first_front m (b ∷ bs) p ps h s = elim (cases_Bool (is_full m b)) [
  | inl e ↦ absurd (false≢true (rw e at h))
  | inr e ↦ rw e (ap (λ n. piece_len b + n) (first_front m bs p ps (rw e at h) s))
]

none_full-push : (m : ℕ) (before : List Piece) (p : Piece)
    → none_full m (before ++ p ∷ []) ≡ (none_full m before && not (is_full m p))
none_full-push m [] p = elim (cases_Bool (is_full m p)) [ inl e ↦ rw e refl | inr e ↦ rw e refl ]
none_full-push m (b ∷ bs) p =
    elim (cases_Bool (is_full m b)) [ inl e ↦ rw e refl | inr e ↦ rw e (none_full-push m bs p) ]

-- whether a run that begins the clip, and takes in the piece after it, stands open
abbrev is_first : ℕ → List Piece → List Piece → Bool
is_first m before ps = none_full m before && is_short m (front m (before ++ ps))

taken : (m : ℕ) (before : List Piece) (p : Piece) (ps : List Piece) → is_full m p ≡ true
    → taken_by_first m before ≡ is_first m before (p ∷ ps)
taken m before p ps s = elim (cases_Bool (none_full m before)) [
  | inl e ↦ rw e (ap (is_short m) (sym (first_front m before p ps e s)))
  | inr e ↦ rw e refl
]

same_test : (m : ℕ) (first : Bool) (before : List Piece) (p : Piece) (ps : List Piece)
    → first ≡ is_first m before (p ∷ ps)
    → is_kept m before p ps ≡ (is_full m p && not first && not (is_short m (front m ps)))
same_test m first before p ps f = elim (cases_Bool (is_full m p)) [
  | inl s ↦ rw s (ap (λ b. not b && not (is_short m (front m ps))) (taken m before p ps s ∙ sym f))
  | inr s ↦ rw s refl
]

swapped : (a x s : Bool) → ((a && x) && s) ≡ ((a && s) && x)
swapped true true true = refl
swapped true true false = refl
swapped true false true = refl
swapped true false false = refl
swapped false x s = refl

first_on : (m : ℕ) (first : Bool) (before : List Piece) (p : Piece) (ps : List Piece)
    → first ≡ is_first m before (p ∷ ps)
    → (first && not (is_full m p)) ≡ is_first m (before ++ p ∷ []) ps
first_on m first before p ps f =
    ap (λ b. b && not (is_full m p)) f
    ∙ swapped (none_full m before) (is_short m (front m (before ++ p ∷ ps))) (not (is_full m p))
    ∙ ap₂ ◌&&◌ (sym (none_full-push m before p))
    (ap (λ qs. is_short m (front m qs)) (sym (append_assoc before (p ∷ []) ps)))

stop_parts : (s first k : Bool) → (s && not first && k) ≡ true → (s ≡ true) × (first ≡ false)
stop_parts true false k h = (refl, refl)
stop_parts true true k h = absurd (false≢true h)
stop_parts false first k h = absurd (false≢true h)

first_stays : (m : ℕ) (first : Bool) (before : List Piece) (p : Piece) (ps : List Piece) → is_full m p ≡ true
    → first ≡ false → first ≡ is_first m (before ++ p ∷ []) ps
first_stays m first before p ps s f = f ∙ sym (rw (none_full-push m before p, s)
    (ap (λ b. b && is_short m (front m ((before ++ p ∷ []) ++ ps))) (none (none_full m before))))
  where
    none : (b : Bool) → (b && false) ≡ false
    none true = refl
    none false = refl

pub kept_laid : (m at t : ℕ) (first : Bool) (before ps : List Piece) → 0 < m → first ≡ is_first m before ps
    → at + t ≡ total before
    → kept_parts at (laid_from first m t ps) ≡ kept_from m before ps
kept_laid m at t first before [] a f e =
    ap (kept_parts at) (ends first m t ∙ sym (append-nil (run_parts m t))) ∙ kept_run m t at [] a
kept_laid m at t first before (p ∷ ps) a f e =
    let stop : Bool = is_full m p && not first && not (is_short m (front m ps)) in
    let same = same_test m first before p ps f in
    let more : total (before ++ p ∷ []) ≡ total before + piece_len p = omega (arith, total-append before (p ∷ [])) in
    elim (cases_Bool stop) [
      | inl h ↦
          let k = stop_parts (is_full m p) first _ h in
          rw (same ∙ h) (
          ap (kept_parts at)
          (stops first m t p ps h ∙ append_assoc (run_parts m t) (kept_of p) (laid_from first m 0 ps))
          ∙ kept_run m t at (kept_of p ++ laid_from first m 0 ps) a
          ∙ kept_block p (at + t) (laid_from first m 0 ps) (is_full-true m p k.0).0
          ∙ ap₂ (λ (n : ℕ) (rest : List (ℕ × Piece)). (n, p) ∷ rest) e
          (kept_laid m (at + t + piece_len p) 0 first (before ++ p ∷ []) ps a (first_stays m first before p ps k.0 k.1)
          (omega arith)))
      | inr h ↦
          rw (same ∙ h) (
          ap (kept_parts at) (goes_on first m t p ps h)
          ∙ kept_laid m at (t + piece_len p) (first && not (is_full m p)) (before ++ p ∷ []) ps a
          (first_on m first before p ps f) (omega arith))
    ]

-- the sizes of the new blocks
runs_made : (m : ℕ) (held ns : List ℕ) (rest : List Part) → AreRuns m (held ++ ns) rest
    → AreRuns m held (map Made ns ++ rest)
runs_made m held [] rest h = let P : List ℕ → Type 0 = λ ks. AreRuns m ks rest in subst P (append-nil held) h
runs_made m held (n ∷ ns) rest h =
    let P : List ℕ → Type 0 = λ ks. AreRuns m ks rest in
    runs_made m (held ++ n ∷ []) ns rest (subst P (sym (append_assoc held (n ∷ []) ns)) h)

runs_kept : (m : ℕ) (held : List ℕ) (p : Piece) (rest : List Part) → is_whole p ≡ true
    → held ≡ block_sizes m (added held) → AreRuns m [] rest → AreRuns m held (kept_of p ++ rest)
runs_kept m held (Old b from to) rest w e h = (e, h)
runs_kept m held (Scaled b from to gain) rest w e h = absurd (false≢true w)
runs_kept m held (Zero len) rest w e h = absurd (false≢true w)
runs_kept m held (Given from to) rest w e h = absurd (false≢true w)

own_sizes : (m t : ℕ) → 0 < m → block_sizes m t ≡ block_sizes m (added (block_sizes m t))
own_sizes m t a = ap (block_sizes m) (sym (added_sizes m t a))

runs_run : (m t : ℕ) (rest : List Part) → AreRuns m (block_sizes m t) rest → AreRuns m [] (run_parts m t ++ rest)
unfolding run_parts
runs_run m t rest h = runs_made m [] (block_sizes m t) rest h

pub runs_laid : (m t : ℕ) (first : Bool) (ps : List Piece) → 0 < m → AreRuns m [] (laid_from first m t ps)
runs_laid m t first [] a =
    let P : List Part → Type 0 = AreRuns m [] in
    subst P (append-nil (run_parts m t) ∙ sym (ends first m t)) (runs_run m t [] (own_sizes m t a))
runs_laid m t first (p ∷ ps) a =
    let P : List Part → Type 0 = AreRuns m [] in
    let stop : Bool = is_full m p && not first && not (is_short m (front m ps)) in
    elim (cases_Bool stop) [
      | inl h ↦
          let k = stop_parts (is_full m p) first _ h in
          let rest = laid_from first m 0 ps in
          subst P (sym (stops first m t p ps h ∙ append_assoc (run_parts m t) (kept_of p) rest))
          (runs_run m t (kept_of p ++ rest) (runs_kept m (block_sizes m t) p rest (is_full-true m p k.0).0
          (own_sizes m t a) (runs_laid m 0 first ps a)))
      | inr h ↦ subst P (sym (goes_on first m t p ps h))
          (runs_laid m (t + piece_len p) (first && not (is_full m p)) ps a)
    ]

no_new : (m : ℕ) → [] ≡ block_sizes m (added [])
no_new m = sym (no_sizes m)

kept_clip : (m : ℕ) (ps : List Piece) → 0 < m → kept_parts 0 (laid_clip m ps) ≡ kept_from m [] ps
kept_clip m ps a = kept_laid m 0 0 (is_short m (front m ps)) [] ps a refl (omega arith)

pub laid_out : (m : ℕ) (ps : List Piece) → 0 < m → IsLaidOut m ps (laid_apart m ps)
laid_out m [] a = rw laid_none (record { kept_blocks = refl; new_blocks = no_new m })
laid_out m (p ∷ []) a = elim (cases_Bool (is_whole p)) [
  | inl w ↦
      let P : List Part → Type 0 = IsLaidOut m (p ∷ []) in
      let both : IsLaidOut m (p ∷ []) (kept_of p ++ []) = record {
        kept_blocks = kept_block p 0 [] w ∙ sym (rw w refl);
        new_blocks = runs_kept m [] p [] w (no_new m) (no_new m);
      } in
      rw w (subst P (append-nil (kept_of p)) both)
  | inr w ↦
      let s = not_full m p w in
      let none : kept_from m [] (p ∷ []) ≡ [] = rw s refl in
      let not_alone : laid_apart m (p ∷ []) ≡ laid_clip m (p ∷ []) = rw w refl in
      let P : List Part → Type 0 = IsLaidOut m (p ∷ []) in
      subst P (sym not_alone) (record {
        kept_blocks = kept_clip m (p ∷ []) a ∙ none ∙ sym (rw w refl);
        new_blocks = runs_laid m 0 (is_short m (front m (p ∷ []))) (p ∷ []) a;
      })
]
laid_out m (p ∷ q ∷ ps) a = record {
  kept_blocks = kept_clip m (p ∷ q ∷ ps) a;
  new_blocks = runs_laid m 0 (is_short m (front m (p ∷ q ∷ ps))) (p ∷ q ∷ ps) a;
}
