-- What a stop may leave of a script that ran.
use Rattle.session_run.proofs.Common.{◌≡◌, ◌⊎◌, inl, inr, ⊎_elim, List, None, sym, subst, Files, Ghosts, Core}
use Rattle.session_run.proofs.Common.{KeepsPrefix, IsHeld, studio_of, IsHonest, Deed, entries_of, DeedsAsk, Leads}
use Rattle.session_run.proofs.Common.{StopsInFlight, AllTell, AreTold, StandsFor, origin, all_told, leads, Change}
use Rattle.session_run.proofs.Common.{change, OpensTo}
use Rattle.std.specs.Prelude.{IsSome}
use Rattle.project_journal.specs.Gate.{EachNow, EachSince}
use Rattle.record_body.specs.Saved.{Keeps}
use Rattle.editor_state.specs.{Studios.shown}
use Rattle.editor_recovery.proofs.Assembled.{shows_found}
use Rattle.edit_ports.specs.declared.vault.Vault as vault
use Rattle.record_body.specs.Saved as saved

-- the disk keeps the project that was opened
pub opened_keeps : {D : Type 0} (disk : Ghosts D) (store : D) (start : Core D) → OpensTo disk store start
    → IsHonest disk store → Keeps (disk.reads store) (shown (studio_of disk start))
opened_keeps disk store start opens honest =
    let finds = opens.looks.honest honest in
    subst (λ (z : saved.Opened). Keeps (disk.reads store) z)
    (shows_found disk start
    (disk.reads store) finds.form finds.log finds.kept finds.found opens.looks.reads) finds.keeps

-- At any moment each image, but one that the store could leave before, has the project after some of the first deeds,
-- the one in flight counted last. At the end it has the project after all of them. Where one of them stopped the studio,
-- that one may be in flight.
pub record Survives {D : Type 0} (disk : Ghosts D) (store : D) (core : Change (Core D)) (deeds : List Deed)
    : Type 0 where
  pub any_moment : EachSince disk store core.now.store (λ c. disk.may_leave store (disk.clock store) c
      ⊎ KeepsPrefix (studio_of disk core.before) (entries_of deeds) c)
  pub going : core.now.stopped ≡ None
      → EachNow disk core.now.store (λ c. Keeps c (shown (studio_of disk core.now)))
  pub stopped : IsSome core.now.stopped → EachNow disk core.now.store (λ c.
      Keeps c (shown (studio_of disk core.now)) ⊎ StopsInFlight (studio_of disk core.before) (entries_of deeds) c)

module _ {D V : Type 0} (disk : Ghosts D) (vaults : vault.Ghosts V) (ask : DeedsAsk disk vaults)
    (store : D) (start final : Core D) (deeds : List Deed)
    (opens : OpensTo disk store start) (stands : StandsFor (origin disk vaults start) final deeds)
    (honest : IsHonest disk store) (told : AllTell vaults) where
  held : IsHeld disk start
  held = opens.held honest

  tell : AreTold vaults deeds
  tell = all_told vaults deeds told

  led : Leads (origin disk vaults start) final deeds
  led = leads (origin disk vaults start) final deeds stands

  -- an image of the opening is one that the store could already leave
  opening : (c : Files) → disk.may_leave start.store (disk.clock store) c → disk.may_leave store (disk.clock store) c
  opening c h =
      let from = opens.looks.changed.images.from c h in
      subst (λ (z : Files). disk.may_leave store (disk.clock store) z) (sym from.2) from.1

  any_moment : (c : Files) → disk.may_leave final.store (disk.clock store) c
      → disk.may_leave store (disk.clock store) c ⊎ KeepsPrefix (studio_of disk start) (entries_of deeds) c
  any_moment c h = ⊎_elim
      (λ (x : disk.may_leave start.store (disk.clock store) c). inl (opening c x))
      (λ (y : disk.may_leave final.store (disk.clock start.store) c).
      inr (led.any_moment tell opens.fresh.stopped held c y))
      ((ask start final deeds stands).images.added (disk.clock store) c opens.looks.changed.images.later h)

  pub survives : Survives disk store (change start final) deeds
  survives = record {
    any_moment = any_moment;
    going = λ going. led.going tell going held;
    stopped = λ stopped. led.stopped tell opens.fresh.stopped stopped held;
  }
