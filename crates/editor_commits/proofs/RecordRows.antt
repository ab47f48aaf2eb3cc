-- Records that wait together.
use Rattle.editor_commits.proofs.Common.{◌≡◌, ◌∙◌, refl, ap, subst, ℕ, zero, suc, ◌+◌, ◌*◌, ◌^◌, ◌≤◌, ◌<◌, List}
use Rattle.editor_commits.proofs.Common.{[], ◌∷◌, ◌++◌, length, add-mul, arith, LONGEST_BODY, rows_length, Body}
use Rattle.editor_commits.proofs.Common.{with_point, spelling, Track, bodies_by, bytes_by, whole_by, rules}
use Rattle.std.proofs.Common.{replicate}
use Rattle.project_journal.specs.Journal.{AreWaiting, opened}
use Rattle.project_journal.proofs.Together.{waiting_more}
use Rattle.editor_commits.proofs.BodyBytes.{rows_step}

pub times_more : {A : Type 0} (n : ℕ) (x : A) → replicate n x ++ x ∷ [] ≡ replicate (n + 1) x
times_more zero x = refl
times_more (suc n) x = search (rules, times_more n x)

-- those of a batch
pub rows_are : (version : ℕ) (current : List Track) (body : Body) (more : ℕ)
    → replicate more (bytes_by version current (with_point current body)) ++ bytes_by version current body ∷ []
    ≡ bodies_by version current more body
rows_are version current body zero = refl
rows_are version current body (suc more) = search (rules, rows_are version current body more)

next_times : (more n : ℕ) → suc more * n ≡ n + more * n
next_times more n = ap (λ (k : ℕ). k * n) {x = suc more} {y = more + 1} (omega arith) ∙ add-mul more 1 n ∙ omega arith

pub rows_closed : (version : ℕ) (current : List Track) (body : Body) (more : ℕ)
    → rows_length (bodies_by version current more body)
    ≡ more * (length (bytes_by version current (with_point current body)) + 5) + length (bytes_by version current body)
rows_closed version current body zero = omega arith
rows_closed version current body (suc more) =
    search (rules, rows_step, next_times, rows_closed version current body more)

pub whole_closed : (current : List Track) (body : Body) (more : ℕ) → whole_by current more body
    ≡ more * (length (spelling (with_point current body)) + 5) + length (spelling body)
whole_closed current body zero = omega arith
whole_closed current body (suc more) = search (rules, next_times, whole_closed current body more)

pub last_short : (version : ℕ) (current : List Track) (body : Body) (more : ℕ)
    → rows_length (bodies_by version current more body) ≤ LONGEST_BODY
    → length (bytes_by version current body) ≤ LONGEST_BODY
last_short version current body more few = omega (arith, few, rows_closed version current body more)

-- ---- what the code computes and writes

-- the length of all, by those of one that says the current point and of the last
pub rows_total : (version : ℕ) (current : List Track) (body again : Body) (more one last len : ℕ)
    → again ≡ with_point current body → one ≡ length (bytes_by version current again)
    → last ≡ length (bytes_by version current body) → len ≡ more * (one + 5) + last
    → len ≡ rows_length (bodies_by version current more body)
rows_total version current body again more one last len is one_is last_is len_is = search (rules, rows_closed)

pub whole_total : (current : List Track) (body again : Body) (more one last len : ℕ)
    → again ≡ with_point current body → one ≡ length (spelling again) → last ≡ length (spelling body)
    → len ≡ more * (one + 5) + last → len ≡ whole_by current more body
whole_total current body again more one last len is one_is last_is len_is = search (rules, whole_closed)

-- those that say the current point wait in an empty row
pub again_waits : (version : ℕ) (current : List Track) (body : Body) (more : ℕ) (before rows written : List ℕ)
    → before ≡ [] → written ≡ bytes_by version current (with_point current body)
    → ((bodies : List (List ℕ)) → AreWaiting before bodies → AreWaiting rows (bodies ++ replicate more written))
    → AreWaiting rows (replicate more (bytes_by version current (with_point current body)))
again_waits version current body more before rows written empty is added =
    subst (λ (b : List ℕ). AreWaiting rows (replicate more b)) is (added [] (record { spelled = empty; short = tt }))

-- and with the last all wait
pub all_wait : (version : ℕ) (current : List Track) (body : Body) (more : ℕ) (before rows written : List ℕ)
    → AreWaiting before (replicate more (bytes_by version current (with_point current body)))
    → written ≡ bytes_by version current body → rows_length (bodies_by version current more body) ≤ LONGEST_BODY
    → rows ≡ before ++ opened (written ∷ []) → AreWaiting rows (bodies_by version current more body)
all_wait version current body more before rows written are is few added =
    let last = bytes_by version current body in
    let short : length last < 2 ^ 32 = omega (arith, last_short version current body more few) in
    subst (AreWaiting rows) (rows_are version current body more)
    (waiting_more before rows (replicate more (bytes_by version current (with_point current body))) last are short
    (added ∙ ap (λ (b : List ℕ). before ++ opened (b ∷ [])) is))
