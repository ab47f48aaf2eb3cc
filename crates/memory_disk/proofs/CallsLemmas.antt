-- One call more at the end of a list of calls.
use Rattle.memory_disk.proofs.Common.{◌≡◌, ℕ, zero, suc, ◌+◌, ◌≤◌, ◌<◌, List, [], ◌∷◌, ◌++◌, length, take, drop, get_or}
use Rattle.memory_disk.proofs.Common.{refl, sym, ◌∙◌, ap, subst, arith, length-drop, take_all, take-append-drop}
use Rattle.memory_disk.proofs.Common.{step_by, step_of, history_on, history_of, Held, AllHeld, Step, Call}
use Rattle.std.proofs.lemmas.List.{take-append-le, drop-append-le, drop_at, take_more}

pub history_push : (done : List Step) (row : List ℕ) (calls : List Call) (call : Call)
    → history_on done row (calls ++ call ∷ []) ≡ step_of row call ∷ history_on done row calls
history_push done row [] call = refl
history_push done row (c ∷ calls) call = history_push (step_of row c ∷ done) row calls call

-- the bytes of a call that is held stay where more bytes come after
same_bytes : (row more : List ℕ) (from len : ℕ) → from + len ≤ length row
    → take len (drop from (row ++ more)) ≡ take len (drop from row)
same_bytes row more from len le = ap (λ (l : List ℕ). take len l) (drop-append-le from row more (omega arith))
    ∙ take-append-le len (drop from row) more (omega (arith, length-drop from row))

pub history_row : (done : List Step) (row more : List ℕ) (calls : List Call) → AllHeld (length row) calls
    → history_on done (row ++ more) calls ≡ history_on done row calls
history_row done row more [] held = refl
history_row done row more (call ∷ calls) held =
    ap (λ (b : List ℕ). history_on (step_by call.kind call.file call.at b ∷ done) (row ++ more) calls)
    (same_bytes row more call.from call.len held.0.within)
    ∙ history_row (step_of row call ∷ done) row more calls held.1

pub held_push : (n : ℕ) (calls : List Call) (call : Call) → AllHeld n calls → Held n call
    → AllHeld n (calls ++ call ∷ [])
held_push n [] call held one = (one, tt)
held_push n (c ∷ calls) call held one = (held.0, held_push n calls call held.1 one)

pub held_more : (n m : ℕ) (calls : List Call) → n ≤ m → AllHeld n calls → AllHeld m calls
held_more n m [] le held = tt
held_more n m (c ∷ calls) le held =
    (record { within = omega (arith, held.0.within); fits = held.0.fits }, held_more n m calls le held.1)

-- the newest bytes are at the end
pub new_bytes : (row more : List ℕ) → take (length more) (drop (length row) (row ++ more)) ≡ more
new_bytes row more = ap (λ (l : List ℕ). take (length more) l) (drop_at row more (length row) refl)
    ∙ take_all (length more) more (omega arith)

-- a call with no bytes at the end
pub history_mark : (row : List ℕ) (calls new : List Call) (call : Call) → new ≡ calls ++ call ∷ []
    → history_of row new ≡ step_of row call ∷ history_of row calls
history_mark row calls new call is = ap (λ (l : List Call). history_of row l) is ∙ history_push [] row calls call

pub held_mark : (n m : ℕ) (calls new : List Call) (call : Call) → new ≡ calls ++ call ∷ [] → n ≤ m → AllHeld n calls
    → Held m call → AllHeld m new
held_mark n m calls new call is le held one =
    subst (λ (l : List Call). AllHeld m l) (sym is) (held_push m calls call (held_more n m calls le held) one)

-- a write at the end, whose bytes are the newest
pub history_write : (row more longer : List ℕ) (calls new : List Call) (call : Call) → longer ≡ row ++ more
    → new ≡ calls ++ call ∷ [] → call.from ≡ length row → call.len ≡ length more → AllHeld (length row) calls
    → history_of longer new ≡ step_by call.kind call.file call.at more ∷ history_of row calls
history_write row more longer calls new call row_is is at_end size held =
    ap (λ (r : List ℕ). history_of r new) row_is
    ∙ history_mark (row ++ more) calls new call is
    ∙ ap (λ (h : List Step). step_of (row ++ more) call ∷ h) (history_row [] row more calls held)
    ∙ ap (λ (b : List ℕ). step_by call.kind call.file call.at b ∷ history_of row calls)
    (ap (λ (k : ℕ). take k (drop call.from (row ++ more))) size
    ∙ ap (λ (k : ℕ). take (length more) (drop k (row ++ more))) at_end ∙ new_bytes row more)

pub held_at : (n : ℕ) (calls : List Call) (i : ℕ) (d : Call) → i < length calls → AllHeld n calls
    → Held n (get_or calls i d)
held_at n [] i d lt held = absurd (omega arith)
held_at n (c ∷ calls) zero d lt held = held.0
held_at n (c ∷ calls) (suc i) d lt held = held_at n calls i d (omega arith) held.1

-- one call more of a list that is gone through
pub history_on_next : (done : List Step) (row : List ℕ) (calls : List Call) (i : ℕ) (d : Call) → i < length calls
    → history_on done row (take (i + 1) calls) ≡ step_of row (get_or calls i d) ∷ history_on done row (take i calls)
history_on_next done row calls i d lt = ap (λ (l : List Call). history_on done row l) (take_more calls i d lt)
    ∙ history_push done row (take i calls) (get_or calls i d)

pub history_next : (row : List ℕ) (calls : List Call) (i : ℕ) (d : Call) → i < length calls
    → history_of row (take (i + 1) calls) ≡ step_of row (get_or calls i d) ∷ history_of row (take i calls)
history_next row calls i d lt = history_on_next [] row calls i d lt

pub held_take : (n : ℕ) (calls : List Call) (i : ℕ) → AllHeld n calls → AllHeld n (take i calls)
held_take n calls zero held = tt
held_take n [] (suc i) held = tt
held_take n (c ∷ calls) (suc i) held = (held.0, held_take n calls i held.1)

pub history_append : (done : List Step) (row : List ℕ) (first more : List Call)
    → history_on done row (first ++ more) ≡ history_on (history_on done row first) row more
history_append done row [] more = refl
history_append done row (call ∷ first) more = history_append (step_of row call ∷ done) row first more

-- a list that is gone through in two parts
pub history_parts : (row : List ℕ) (calls : List Call) (n : ℕ)
    → history_of row calls ≡ history_on (history_of row (take n calls)) row (drop n calls)
history_parts row calls n = ap (λ (l : List Call). history_of row l) (sym (take-append-drop n calls))
    ∙ history_append [] row (take n calls) (drop n calls)

pub held_drop : (n : ℕ) (calls : List Call) (i : ℕ) → AllHeld n calls → AllHeld n (drop i calls)
held_drop n calls zero held = held
held_drop n [] (suc i) held = tt
held_drop n (c ∷ calls) (suc i) held = held_drop n calls i held.1
