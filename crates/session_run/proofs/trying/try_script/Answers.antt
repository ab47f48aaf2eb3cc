-- A script on a fresh project.
use Rattle.session_run.proofs.Common.{refl, subst, ap, ◌∙◌, ◌≡◌, ℕ, nat_lt, if◌then◌else◌, fault_sum, RamStore, core_of}
use Rattle.session_run.proofs.Common.{kinds, change}
use Rattle.session_run.specs.Ports.{ports_of}
use Rattle.session_run.proofs.TryLemmas.{tried, tried_at}
use Rattle.session_run.proofs.trying.try_script.Goals as goal

pub returns-clause-tries : goal.returns-clause-tries
returns-clause-tries g c =
    let ran = c.run_opened-done in
    let done = ran.result.0 in (
      refl,
      tried (kinds _ g.V.Vault g.M.Source g.P.Sink) (core_of c.in-Ok.studio)
          (ports_of g.A.Source g.O.Sink (change c.args.devices ran.result.1)) done
          c.args.store
          c.status_with.result
          (tried_at _ c.tried_project.result (core_of c.in-Ok.studio) c.tried_project.ensures c.in-Ok.ensures)
          c.deeds_ask.ensures
          ran.ensures.runs
          (subst (λ (n : ℕ). c.status_with.result ≡ (if nat_lt 0 n then 4 else done.status))
          (c.faults.ensures
          ∙ ap (λ (z : RamStore). fault_sum z.tally.read_faults z.tally.change_faults) ran.ensures.runs.1)
          c.status_with.ensures),
    )
