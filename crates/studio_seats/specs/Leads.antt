-- Where the deeds of a desk lead.
use Rattle.std.specs.Prelude.{◌≡◌, ◌⊎◌, ◌-◌, IsSome, None, List, [], ◌∷◌, ◌++◌, IfErr}
use Rattle.pcm_base.specs.{declared.answer.Reply.TheVariants.Refused, declared.entry.Entry.Entry}
use Rattle.pcm_base.specs.{declared.refusal.Refusal.Refusal, Run.Run, Run.Step}
use Rattle.disk_model.specs.Room.{Room, together}
use Rattle.disk_model.specs.{Disk.Files, Frames.Changed, Moment.IsUpTo, declared.store.Store.Ghosts}
use Rattle.pin_turn.specs.Counts.{Each}
use Rattle.project_journal.specs.Gate.{EachNow, EachSince}
use Rattle.record_body.specs.Saved.{Keeps}
use Rattle.editor_state.specs.Studios.{IsHeld, IsStudio, shown, studio_of}
use Rattle.editor_state.specs.Took.{InFlight, asks, exchange_of}
use Rattle.editor_state.specs.{Applied.reply_of, Core.Core, Events.KeepsPrefix, Left.LeavesForeign, Packing.packed_by}
use Rattle.studio_seats.specs.Stands.{AreTold, Chain, Origin, StandsFor, origin}
use Rattle.studio_seats.specs.{declared.deed.Deed.Deed, Deeds.entries_of, Deeds.number_after, Desks.spent}
use Rattle.pcm_base.specs.declared.refusal.Refusal.TheVariants as refusal
use Rattle.pcm_base.specs.Studio as model
use Rattle.edit_ports.specs.declared.vault.Vault as vault

-- no damaged file is reported
abbrev pub IsUnharmed : Refusal → Type 0
IsUnharmed (refusal.Damaged file at want have) = ⊥
IsUnharmed why = Unit {0}

-- the deed was not refused because no turn was left
abbrev pub HadTurn : Deed → Type 0
HadTurn d = reply_of d.what ≡ Refused spent → ⊥

-- An entry stopped the studio, as the disk failed, and the files keep what the entry leads to where nothing refuses it.
pub record StopsInFlight (t : model.Studio) (entries : List Entry) (files : Files) : Type 0 where
  pub front : List Entry
  pub last : Entry
  pub back : List Entry
  pub cut : entries ≡ front ++ last ∷ back
  pub reached : model.Studio
  pub run : Run t front reached
  pub going : reached.stopped ≡ None
  pub next : model.Studio
  pub step : Step reached last.call last.sound last.reply next
  pub stops : IsSome next.stopped
  pub fault : last.reply ≡ Refused refusal.DiskFault
  pub flight : InFlight reached last.call last.sound files

-- What follows of the deeds for which a studio stands. Whatever disk and vaults report, it is a studio, and its commit
-- number is that to which they lead.
pub record Leads {D V : Type 0} (o : Origin D V) (now : Core D) (deeds : List Deed) : Type 0 where
  pub studio : IsStudio o.disk now
  pub number : now.commit_number ≡ number_after o.start.commit_number deeds
  pub later : IsUpTo (o.disk.clock o.start.store) (o.disk.clock now.store)
  -- the disk that held it at the start holds it, with all blocks that a point, a pin or the clipboard names, and the
  -- deeds are a run
  pub held : AreTold o.vaults deeds → IsHeld o.disk o.start → IsHeld o.disk now
  pub run : AreTold o.vaults deeds → IsHeld o.disk o.start
      → Run (studio_of o.disk o.start) (entries_of deeds) (studio_of o.disk now)
  -- and no deed reports a damaged file, or was refused because no turn was left
  pub whole : AreTold o.vaults deeds → IsHeld o.disk o.start → Each (λ d. IfErr d.what IsUnharmed) deeds
  pub turns : AreTold o.vaults deeds → IsHeld o.disk o.start → Each HadTurn deeds
  -- at any moment since the start each image has the project after some of the first entries, the one in flight
  -- counted last
  pub any_moment : AreTold o.vaults deeds → o.start.stopped ≡ None → IsHeld o.disk o.start
      → EachSince o.disk o.start.store now.store (KeepsPrefix (studio_of o.disk o.start) (entries_of deeds))
  -- each image now has the project after all of them; or, where one of them stopped the studio, that one in flight
  pub going : AreTold o.vaults deeds → now.stopped ≡ None → IsHeld o.disk o.start
      → EachNow o.disk now.store (λ c. Keeps c (shown (studio_of o.disk now)))
  pub stopped : AreTold o.vaults deeds → o.start.stopped ≡ None → IsSome now.stopped → IsHeld o.disk o.start
      → EachNow o.disk now.store (λ c. Keeps c (shown (studio_of o.disk now))
      ⊎ StopsInFlight (studio_of o.disk o.start) (entries_of deeds) c)

abbrev pub DeedsLead : {D V : Type 0} → Ghosts D → vault.Ghosts V → Type 0
DeedsLead {D} disk vaults = (start now : Core D) (deeds : List Deed) → StandsFor (origin disk vaults start) now deeds
    → Leads (origin disk vaults start) now deeds

-- the room that the deeds of a chain take of the disk at most, added up
abbrev pub chain_asks : {D V : Type 0} (disk : Ghosts D) (vaults : vault.Ghosts V) (old : Core D) (deeds : List Deed)
    (new : Core D) → Chain disk vaults old deeds new → Room
chain_asks disk vaults old [] new chain = record { files = 0; bytes = 0; calls = 0 }
chain_asks disk vaults old (d ∷ ds) new chain = together
    (asks (exchange_of d.call d.sound d.what chain.1.removed) (disk.reads old.store old.file) old.block_size
    (chain.0.next_block - old.next_block) chain.1.lasts.len (packed_by old d.call))
    (chain_asks disk vaults chain.0 ds new chain.2)

-- The deeds take no more room of the disk than each of them may, and no file changes but the journal and those of
-- blocks, here and in what a stop may leave, of moments before the start too.
abbrev pub DeedsAsk : {D V : Type 0} → Ghosts D → vault.Ghosts V → Type 0
DeedsAsk {D} disk vaults = (start now : Core D) (deeds : List Deed)
    (stands : StandsFor (origin disk vaults start) now deeds)
    → Changed disk LeavesForeign (chain_asks disk vaults start deeds now stands.chain) start.store now.store
