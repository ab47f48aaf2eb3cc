-- The events so far are a run.
use Rattle.editor_core.proofs.Common.{◌≡◌, ◌+◌, ◌-◌, ◌≤◌, ◌++◌, List, length, take, vec_capacity, Answer, core_of}
use Rattle.editor_core.proofs.Common.{RanOver}
use Rattle.editor_core.proofs.studio.Studio.run_events.Given as goal

abbrev pub invariant-events : goal.invariant-events
invariant-events g l = record {
  ran : (told : List Answer) × (l.answers.items ≡ l.fn.answers.items ++ told)
      × RanOver g.S.Store (record {
        old = core_of l.fn.self;
        new = core_of l.self;
        tells = g.V.Vault.tells l.fn.vault;
        old_sounds = g.V.Vault.holds l.fn.vault;
        new_sounds = g.V.Vault.holds l.vault;
      }) (take l.event-index l.events) told;
  tells : g.V.Vault.tells l.vault ≡ g.V.Vault.tells l.fn.vault;
  room : length l.answers.items + (length l.events - l.event-index) ≤ vec_capacity l.answers;
}
