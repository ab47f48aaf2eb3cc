-- How many commits records lead to.
use Rattle.journal_replay.proofs.Common.{◌≡◌, ℕ, zero, suc, ◌+◌, ◌≤◌, ◌^◌, List, [], ◌∷◌, length, ap, arith}
use Rattle.journal_replay.proofs.Common.{delta_tests, Saved, LeadIn, after_body, before_of, current_tracks, all_pass}
use Rattle.journal_replay.proofs.Stepping.{after_commit}

pub lead_commits : (version m : ℕ) (k end : Saved) (bodies : List (List ℕ)) → LeadIn version m k bodies end
    → end.commit ≡ k.commit + length bodies
lead_commits version m k end [] lead = omega (arith, ap (λ (x : Saved). x.commit) lead)
lead_commits version m k end (bytes ∷ more) lead = omega (
  arith,
  lead_commits version m (after_body k lead.0) end more lead.2,
  after_commit k lead.0,
)

-- in version 2 a record that would make too many is refused
pub told_few : (version m : ℕ) (k end : Saved) (bodies : List (List ℕ)) → 2 ≤ version → k.commit ≤ 2 ^ 62
    → LeadIn version m k bodies end → end.commit ≤ 2 ^ 62
told_few zero m k end bodies high few lead = absurd (omega (arith, high))
told_few (suc zero) m k end bodies high few lead = absurd (omega (arith, high))
told_few (suc (suc version)) m k end [] high few lead = omega (arith, few, ap (λ (x : Saved). x.commit) lead)
told_few (suc (suc version)) m k end (bytes ∷ more) high few lead =
    let pass = all_pass (delta_tests m (before_of k) (current_tracks k.history) bytes) lead.1.tests in
    told_few (suc (suc version)) m (after_body k lead.0) end more high (omega (
      arith,
      after_commit k lead.0,
      pass.1.1.0,
    )) lead.2
