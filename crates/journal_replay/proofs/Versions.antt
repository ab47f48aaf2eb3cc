-- The version of a journal, 1 or else 2, and its current point.
use Rattle.journal_replay.proofs.Common.{◌≡◌, ℕ, zero, suc, ◌≤◌, ◌<◌, List, [], ◌∷◌, map, Some, slice_get, sym, arith}
use Rattle.journal_replay.proofs.Common.{Result, Ok, Err, ap, subst, ◌∙◌, Body, BadBody, Before, Finds, body_tests}
use Rattle.journal_replay.proofs.Common.{delta_tests, SaysBody, unnumbered_body, IsValidBody, spelling, BodyShares}
use Rattle.journal_replay.proofs.Common.{first_failed, unnumbered, Track, IfOk, field_tests, IsSaid}
use Rattle.std.proofs.Common.{drop}
use Rattle.std.proofs.lemmas.Option.{none-some, same_Some}
use Rattle.pcm_base.specs.History.{point_of}
use Rattle.record_body.specs.{Saved.first_tracks}
use Rattle.record_body.proofs.ToldAlike.{body_new, body_plain, says_alike, tests_alike}
use Rattle.record_body.specs.declared.limits.BadBody.TheVariants as bad

pub at_cursor : (i : ℕ) (ps : List (List Track × ℕ)) (x : List Track) → slice_get (map point_of ps) i ≡ Some x
    → x ≡ first_tracks (drop i ps)
at_cursor zero [] x h = absurd (none-some x h)
at_cursor (suc i) [] x h = absurd (none-some x h)
at_cursor zero (p ∷ ps) x h = sym (same_Some p.0 x h)
at_cursor (suc i) (p ∷ ps) x h = at_cursor i ps x h

-- what reading a record answers: without numbers it is what the bytes say
abbrev pub Reads : ℕ → ℕ → Before → List Track → List ℕ → Result Body BadBody → Type 0
Reads version m b current bytes r =
    Finds (field_tests version m b current bytes) (λ x. IsSaid version m b current bytes (unnumbered_body x)) r

-- a body that is written out says no numbers
plain_said : (m : ℕ) (b : Before) (bytes : List ℕ) (x : Body) → (spelling x ≡ bytes) × IsValidBody m b x
    → (spelling (unnumbered_body x) ≡ bytes) × IsValidBody m b (unnumbered_body x)
plain_said m b bytes x is =
    subst (λ (y : Body). (spelling y ≡ bytes) × IsValidBody m b y) (sym (body_plain m b x is.1)) is

pub reads_old : (version m : ℕ) (b : Before) (current : List Track) (bytes : List ℕ) (r : Result Body BadBody)
    → version < 2 → Finds (body_tests m b bytes) (λ x. (spelling x ≡ bytes) × IsValidBody m b x) r
    → Reads version m b current bytes r
reads_old zero m b current bytes (Ok x) low found = (found.0, plain_said m b bytes x found.1)
reads_old zero m b current bytes (Err bad.NoMemory) low found = tt
reads_old zero m b current bytes (Err (bad.Damaged d)) low found = found
reads_old (suc zero) m b current bytes (Ok x) low found = (found.0, plain_said m b bytes x found.1)
reads_old (suc zero) m b current bytes (Err bad.NoMemory) low found = tt
reads_old (suc zero) m b current bytes (Err (bad.Damaged d)) low found = found
reads_old (suc (suc version)) m b current bytes r low found = absurd (omega (arith, low))

pub shares_old : (m : ℕ) (b : Before) (current : List Track) (bytes : List ℕ) (r : Result Body BadBody)
    → Finds (body_tests m b bytes) (λ x. (spelling x ≡ bytes) × IsValidBody m b x) r → IfOk r (BodyShares current)
shares_old m b current bytes (Ok x) found = body_new m b current x found.1.1
shares_old m b current bytes (Err e) found = tt

pub reads_diff : (version m : ℕ) (b : Before) (current : List Track) (bytes : List ℕ) (r : Result Body BadBody)
    → 2 ≤ version → Finds (delta_tests m b current bytes) (λ x. SaysBody current bytes (unnumbered_body x)) r
    → IfOk r (λ x. IsValidBody m b (unnumbered_body x)) → Reads version m b (map unnumbered current) bytes r
reads_diff zero m b current bytes r high found valid = absurd (omega (arith, high))
reads_diff (suc zero) m b current bytes r high found valid = absurd (omega (arith, high))
reads_diff (suc (suc version)) m b current bytes (Ok x) high found valid = (
  ap first_failed (tests_alike m b current bytes) ∙ found.0,
  (says_alike current bytes (unnumbered_body x) found.1, valid),
)
reads_diff (suc (suc version)) m b current bytes (Err bad.NoMemory) high found valid = tt
reads_diff (suc (suc version)) m b current bytes (Err (bad.Damaged d)) high found valid =
    ap first_failed (tests_alike m b current bytes) ∙ found
