-- What a studio stands for after the deeds of a desk.
use Rattle.std.specs.Prelude.{◌≡◌, ℕ, IsTrue, IsSome, List, [], ◌∷◌}
use Rattle.pcm_base.specs.{declared.command.Call.TheVariants.Line, declared.command.Command.TheVariants.Import}
use Rattle.pcm_base.specs.{Run.name_in}
use Rattle.disk_model.specs.declared.store.Store.{Ghosts}
use Rattle.pin_turn.specs.Counts.{Each}
use Rattle.editor_state.specs.{Applied.Imported, Applied.Lasts, Core.Core, Studios.IsStudio, Took.Took}
use Rattle.editor_state.specs.{Took.exchange_of}
use Rattle.studio_seats.specs.declared.deed.Deed.{Deed}
use Rattle.edit_ports.specs.declared.vault.Vault as vault

-- where a desk began
pub record Origin (D V : Type 0) : Type 1 where
  -- what the type of the store tells of its objects
  pub disk : Ghosts D
  -- what the type of the vaults tells of its objects
  pub vaults : vault.Ghosts V
  -- the studio with which the desk began
  pub start : Core D

abbrev pub origin : {D V : Type 0} → Ghosts D → vault.Ghosts V → Core D → Origin D V
origin disk vaults start = record { disk = disk; vaults = vaults; start = start }

-- the vaults of a type tell their bytes
abbrev pub AllTell : {V : Type 0} → vault.Ghosts V → Type 0
AllTell {V} vaults = (v : V) → IsTrue (vaults.tells v)

-- they do so where one of the deeds names a sound
abbrev pub AreTold : {V : Type 0} → vault.Ghosts V → List Deed → Type 0
AreTold vaults deeds = Each (λ d. IsSome (name_in d.call) → AllTell vaults) deeds

-- One deed is one call of the studio: a step, where its call names no sound, or `told` holds: vaults report their
-- bytes. Whatever they report, an import is a step by some sound, unless it returns that the sound is cut short.
pub record Does {D : Type 0} (disk : Ghosts D) (told : Type 0) (old : Core D) (d : Deed) (new : Core D) : Type 0 where
  -- the ids of the blocks whose files went
  pub removed : List ℕ
  pub took : (IsSome (name_in d.call) → told) → Took disk old (exchange_of d.call d.sound d.what removed) new
  pub imported : (name : List ℕ) → d.call ≡ Line (Import name) → Imported disk old name d.what new
  pub lasts : Lasts disk old (exchange_of d.call d.sound d.what removed) new

-- the deeds took the studio from one to the other, one after another
abbrev pub Chain : {D V : Type 0} → Ghosts D → vault.Ghosts V → Core D → List Deed → Core D → Type 0
Chain disk vaults old [] new = new ≡ old
Chain {D} disk vaults old (d ∷ ds) new =
    (mid : Core D) × Does disk (AllTell vaults) old d mid × Chain disk vaults mid ds new

-- from the start on, the studio stands for these deeds: each is one call of it, one after another
pub record StandsFor {D V : Type 0} (o : Origin D V) (now : Core D) (deeds : List Deed) : Type 0 where
  pub began : IsStudio o.disk o.start
  pub chain : Chain o.disk o.vaults o.start deeds now
