-- What is left of a file after a list of calls that is gone through from its last sync on.
use Rattle.memory_disk.proofs.Common.{◌≡◌, ℕ, ◌+◌, ◌-◌, ◌≤◌, ◌<◌, Option, List, ◌∷◌, length, take, drop, get_or, sym}
use Rattle.memory_disk.proofs.Common.{◌∙◌, ap, subst, arith, length-drop, take_all, AllHeld, step_by, step_of}
use Rattle.memory_disk.proofs.Common.{history_on, history_of, Step, Synced, reads_of, IsLeft, Kind, Sync, Call}
use Rattle.memory_disk.specs.{Images.IsAtSync}
use Rattle.memory_disk.proofs.CallsLemmas.{history_next, history_on_next, history_parts, held_drop}
use Rattle.memory_disk.proofs.LeftFiles.{settled_synced}

-- a call that is a sync of the file
sync_is : (row : List ℕ) (call : Call) (f : ℕ) (h : List Step) → call.kind ≡ Sync → call.file ≡ f
    → step_of row call ∷ h ≡ Synced f ∷ h
sync_is row call f h is same =
    ap (λ (k : Kind). step_by k call.file call.at (take call.len (drop call.from row)) ∷ h) is
    ∙ ap (λ (g : ℕ). Synced g ∷ h) same

-- right after a sync of the file
pub after_sync : (row : List ℕ) (calls : List Call) (from f : ℕ) (d : Call) → 0 < from → from ≤ length calls
    → (get_or calls (from - 1) d).kind ≡ Sync → (get_or calls (from - 1) d).file ≡ f
    → IsAtSync f (history_of row (take from calls))
after_sync row calls from f d some bound is same = λ choice start.
    let earlier = history_of row (take (from - 1) calls) in
    let whole : history_of row (take from calls) ≡ Synced f ∷ earlier =
    ap (λ (n : ℕ). history_of row (take n calls)) (omega arith)
    ∙ history_next row calls (from - 1) d (omega arith)
    ∙ sync_is row (get_or calls (from - 1) d) f earlier is same in
    subst (λ (h : List Step). IsLeft choice f h start (reads_of h f) start) (sym whole)
    (settled_synced choice f start earlier)

-- one call more of a list that is gone through
pub left_next : (row : List ℕ) (calls : List Call) (i choice old f start state : ℕ) (d : Call) (h : List Step)
    (content : Option (List ℕ)) → i < length calls → old ≡ choice
    → IsLeft old f (step_of row (get_or calls i d) ∷ history_on h row (take i calls)) start content state
    → IsLeft choice f (history_on h row (take (i + 1) calls)) start content state
left_next row calls i choice old f start state d h content lt same left =
    rw (history_on_next h row calls i d lt, ← same) left

-- a list from an index on, as a slice of it is
pub rest_is : (calls : List Call) (n : ℕ) → take (length calls - n) (drop n calls) ≡ drop n calls
rest_is calls n = take_all (length calls - n) (drop n calls) (omega (arith, length-drop n calls))

pub held_rest : (m : ℕ) (calls : List Call) (n : ℕ) → AllHeld m calls
    → AllHeld m (take (length calls - n) (drop n calls))
held_rest m calls n held = subst (λ (l : List Call). AllHeld m l) (sym (rest_is calls n)) (held_drop m calls n held)

-- the rest of the calls after the first of them
pub left_parts : (row : List ℕ) (calls : List Call) (n choice f start state : ℕ) (content : Option (List ℕ))
    → IsLeft choice f (history_on (history_of row (take n calls)) row (take (length calls - n) (drop n calls))) start
    content state → IsLeft choice f (history_of row calls) start content state
left_parts row calls n choice f start state content left =
    rw (history_parts row calls n) (rw (rest_is calls n) at left)
