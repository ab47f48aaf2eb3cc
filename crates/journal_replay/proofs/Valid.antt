-- What the tests of a record mean.
use Rattle.journal_replay.proofs.Common.{◌≡◌, ℕ, ◌≤◌, ◌<◌, ◌^◌, inl, inr, ⊎_elim, List, [], ◌∷◌, map, Some, None}
use Rattle.journal_replay.proofs.Common.{Result, Ok, Err, refl, sym, ap, subst, ◌∙◌, arith, eq-eqb, ⊤, History, Damaged}
use Rattle.journal_replay.proofs.Common.{first_failed, Track, Edit, Undo, Redo, Purge, Finds, Saved, after_body}
use Rattle.journal_replay.proofs.Common.{current_tracks, MayFollow, IsNextIn, LeadIn, Body, BadBody, all_pass}
use Rattle.journal_replay.proofs.Common.{history_tests, first_fault_in, before_at, out_of_range, field_tests, IsSaid}
use Rattle.std.proofs.Common.{◌==◌, min, max, ◌⊎◌}
use Rattle.std.proofs.lemmas.Bool.{cases_Bool, eqb-true, eqb-false, ne_eqb}
use Rattle.record_body.specs.FirstFault.{place}
use Rattle.project_journal.proofs.{Headers.some_first, Headers.none_first}
use Rattle.journal_replay.specs.Faults.{record_tests, says}
use Rattle.record_body.proofs.Moved.{pass_none}
use Rattle.journal_replay.proofs.{Said.says_is, Said.said_next, Said.next_read, Stepping.fault_behind}
use Rattle.project_journal.specs.Journal as journal
use Rattle.record_body.specs.declared.limits.BadBody.TheVariants as bad

pub may_follow : (h : History (List Track)) (at : ℕ) (body : Body) → first_failed (history_tests h at body) ≡ None
    → MayFollow h body
may_follow h at (Edit tag next_block next_track ts) e = tt
may_follow h at Undo e = let p = all_pass (history_tests h at Undo) e in omega (arith, p.0)
may_follow h at Redo e = let p = all_pass (history_tests h at Redo) e in omega (arith, p.0)
may_follow h at (Purge n) e = let p = all_pass (history_tests h at (Purge n)) e in
    (omega (arith, p.1.0), omega (arith, p.0, p.1.0))

pub following_pass : (h : History (List Track)) (at : ℕ) (body : Body) → MayFollow h body
    → first_failed (history_tests h at body) ≡ None
following_pass h at (Edit tag next_block next_track ts) e = refl
following_pass h at Undo e = pass_none (history_tests h at Undo) (omega (arith, e), tt)
following_pass h at Redo e = pass_none (history_tests h at Redo) (omega (arith, e), tt)
following_pass h at (Purge n) e =
    pass_none (history_tests h at (Purge n)) (omega (arith, e.0, e.1), (omega (arith, e.0, e.1), tt))

-- a body that was read, and what the history says of it
pub taken : (version m : ℕ) (k new : Saved) (at : ℕ) (bytes : List ℕ) (body : Body) (r : Result ⊤ BadBody) → 4 ≤ m
    → m < 2 ^ 32 → first_failed (field_tests version m (before_at k at) (current_tracks k.history) bytes) ≡ None
    → IsSaid version m (before_at k at) (current_tracks k.history) bytes body
    → Finds (history_tests k.history at body) (λ _. new ≡ after_body k body) r
    → Finds (record_tests version m k (at, bytes))
    (λ _. IsNextIn version m k bytes (says version k bytes) × (new ≡ after_body k (says version k bytes))) r
unfolding record_tests
taken version m k new at bytes body (Ok x) least most none said found =
    let is = says_is version m at k bytes body least most said in
    let next = said_next version m at k bytes body none said (may_follow k.history at body found.0) in (
      none_first (field_tests version m (before_at k at) (current_tracks k.history) bytes)
          (history_tests k.history at (says version k bytes)) none
          ∙ ap (λ b. first_failed (history_tests k.history at b)) is ∙ found.0,
      (subst (IsNextIn version m k bytes) (sym is) next, found.1 ∙ ap (after_body k) (sym is)),
    )
taken version m k new at bytes body (Err bad.NoMemory) least most none said found = tt
taken version m k new at bytes body (Err (bad.Damaged d)) least most none said found =
    let is = says_is version m at k bytes body least most said in
    none_first (field_tests version m (before_at k at) (current_tracks k.history) bytes)
    (history_tests k.history at (says version k bytes)) none
    ∙ ap (λ b. first_failed (history_tests k.history at b)) is ∙ found

-- a body that was not read
pub untaken : {T U : Type 0} (P : T → Type 0) (Q : U → Type 0) (version m : ℕ) (k : Saved) (at : ℕ) (bytes : List ℕ)
    (e : BadBody) → Finds (field_tests version m (before_at k at) (current_tracks k.history) bytes) P (Err e)
    → Finds (record_tests version m k (at, bytes)) Q (Err e)
unfolding record_tests
untaken P Q version m k at bytes bad.NoMemory found = tt
untaken P Q version m k at bytes (bad.Damaged d) found =
    some_first (field_tests version m (before_at k at) (current_tracks k.history) bytes)
    (history_tests k.history at (says version k bytes)) d found

-- a record that may come next has no fault
pub next_valid : (version m : ℕ) (k : Saved) (at : ℕ) (bytes : List ℕ) (body : Body) → 4 ≤ m → m < 2 ^ 32
    → IsNextIn version m k bytes body
    → (first_failed (record_tests version m k (at, bytes)) ≡ None) × (says version k bytes ≡ body)
unfolding record_tests
next_valid version m k at bytes body least most next =
    let read = next_read version m at k bytes body least most next in
    let is = says_is version m at k bytes body least most read.said in (
      none_first (field_tests version m (before_at k at) (current_tracks k.history) bytes)
          (history_tests k.history at (says version k bytes)) read.none
          ∙ ap (λ b. first_failed (history_tests k.history at b)) is ∙ following_pass k.history at body read.follows,
      is,
    )

-- records that lead somewhere have no fault
pub leading_valid_in : (version m : ℕ) (k end : Saved) (rs : List (ℕ × List ℕ)) → 4 ≤ m → m < 2 ^ 32
    → LeadIn version m k (map journal.body_at rs) end → first_fault_in version m k rs ≡ None
leading_valid_in version m k end [] least most lead = refl
leading_valid_in version m k end (r ∷ rs) least most lead =
    let one = next_valid version m k r.0 r.1 lead.0 least most lead.1 in
    fault_behind version m k r rs one.0
    ∙ ap (λ b. first_fault_in version m (after_body k b) rs) one.1
    ∙ leading_valid_in version m (after_body k lead.0) end rs least most lead.2

fails_here : (t : Damaged) (ts : List Damaged) → (t.want ≡ t.have → ⊥) → first_failed (t ∷ ts) ≡ Some t
fails_here t ts ne = rw (ne_eqb t.want t.have ne) refl

-- a purge out of its range
purge_fails : (h : History (List Track)) (at n : ℕ) → (n ≡ 0) ⊎ (h.cursor < n)
    → first_failed (history_tests h at (Purge n)) ≡ Some (out_of_range at n h.cursor)
purge_fails h at n out = elim (cases_Bool (h.cursor == 0)) [
  | inl t ↦
      let none : h.cursor ≡ 0 = eqb-true h.cursor 0 t in
      rw (t, none) refl
  | inr f ↦
      let some : h.cursor ≡ 0 → ⊥ = eqb-false h.cursor 0 f in
      let first : max 1 h.cursor ≡ h.cursor = omega (arith, some) in
      let ne : max 1 (min n h.cursor) ≡ n → ⊥ =
      λ e. ⊎_elim (λ z. omega (arith, z, e)) (λ lt. omega (arith, lt, e)) out in
      rw (f, eq-eqb (max 1 h.cursor) h.cursor first)
      (fails_here (record { at = place at 1; want = max 1 (min n h.cursor); have = n }) [] ne)
]

pub purge_finds : {T : Type 0} (P : T → Type 0) (h : History (List Track)) (at n : ℕ) (e : BadBody)
    → (n ≡ 0) ⊎ (h.cursor < n) → e ≡ bad.Damaged (out_of_range at n h.cursor)
    → Finds (history_tests h at (Purge n)) P (Err e)
purge_finds P h at n e out is =
    subst (λ (x : BadBody). Finds (history_tests h at (Purge n)) P (Err x)) (sym is) (purge_fails h at n out)
