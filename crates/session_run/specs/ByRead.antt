-- What a session is over a vault that does not report its bytes: a run of the model in which each import read some
-- sound.
use Rattle.std.specs.Prelude.{◌≡◌, ◌⊎◌, None, IsSome, IfErr, List}
use Rattle.pcm_base.specs.Run.{Run}
use Rattle.disk_model.specs.declared.store.Store.{Ghosts}
use Rattle.pin_turn.specs.Counts.{Each}
use Rattle.project_journal.specs.Gate.{EachNow, EachSince}
use Rattle.record_body.specs.Saved.{Keeps}
use Rattle.editor_state.specs.{Core.Core, Events.KeepsPrefix, Studios.IsHeld, Studios.shown, Studios.studio_of}
use Rattle.editor_recovery.specs.Honest.{IsHonest}
use Rattle.studio_seats.specs.{declared.deed.Deed.Deed, Deeds.entries_of, Imports.AreReadAs, Imports.IsReadable}
use Rattle.studio_seats.specs.{Leads.IsUnharmed, Leads.StopsInFlight}
use Rattle.script_reader.specs.Change.{Change, change}
use Rattle.desk_session.specs.Lent.{Kinds}
use Rattle.session_run.specs.{Entries.pieces_apart, Opening.OpensTo, Ports.Job, Runs.RunsOn}

-- With the sounds that their imports read, the deeds are ONE RUN of the plain array editor, piece by piece too. And
-- WHEREVER THE DISK STOPS, each image that it could not leave before has the project after some of the first of them,
-- as `Promise` says of a vault that reports its bytes.
pub record ByRead {D : Type 0} (disk : Ghosts D) (store : D) (core : Change (Core D)) (deeds : List Deed) : Type 0 where
  pub read : List Deed
  pub are : AreReadAs deeds read
  pub holds : IsHeld disk core.now
  pub run : Run (studio_of disk core.before) (entries_of read) (studio_of disk core.now)
  pub piece_by_piece : Run (studio_of disk core.before) (pieces_apart (entries_of read)) (studio_of disk core.now)
  pub whole : Each (λ d. IfErr d.what IsUnharmed) read
  pub any_moment : EachSince disk store core.now.store (λ c. disk.may_leave store (disk.clock store) c
      ⊎ KeepsPrefix (studio_of disk core.before) (entries_of read) c)
  pub going : core.now.stopped ≡ None → EachNow disk core.now.store (λ c. Keeps c (shown (studio_of disk core.now)))
  pub broken : IsSome core.now.stopped → EachNow disk core.now.store (λ c.
      Keeps c (shown (studio_of disk core.now)) ⊎ StopsInFlight (studio_of disk core.before) (entries_of read) c)

-- It is so of a session on a project of an honest disk, where no deed is an export and none is an import that was told
-- that its sound is cut short.
abbrev pub RunsByRead : {D V M P : Type 0} → Kinds D V M P → Type 0
RunsByRead {D} {V} {M} {P} k = (store : D) (start final : Core D) (j : Job V M P) → OpensTo k.disk store start
    → IsHonest k.disk store → (ran : RunsOn k (change start final) j) → Each (IsReadable k.vaults) ran.session.deeds
    → ByRead k.disk store (change start final) ran.session.deeds
