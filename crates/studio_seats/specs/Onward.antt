-- How what a seat knows goes on.
use Rattle.std.specs.Prelude.{◌≡◌, ◌⊎◌, ℕ, ◌+◌, if◌then◌else◌, ℤ, Bool, true, List, [], ◌∷◌, ◌++◌, length, Option, Some}
use Rattle.std.specs.Prelude.{None, Err, IsOk}
use Rattle.pcm_base.specs.declared.command.Call.TheVariants.{Line, Piece, ReadPin}
use Rattle.pcm_base.specs.{declared.refusal.Refusal.Refusal, declared.command.Command.Command}
use Rattle.pcm_base.specs.{declared.command.Call.Call}
use Rattle.pin_turn.specs.{declared.view.View.View, Counts.Each}
use Rattle.studio_seats.specs.{declared.held.Held.Held, declared.deed.Deed.Deed, Desks.spent, Merge.by_seat}
use Rattle.disk_model.specs.declared.store.Store.{Ghosts}

-- the places of the deeds of a kind, where the first of the list stands at place k
abbrev pub places_of : (Deed → Bool) → ℕ → List Deed → List ℕ
places_of kind k [] = []
places_of kind k (d ∷ ds) = (if kind d then k ∷ [] else []) ++ places_of kind (k + 1) ds

-- what the seat of this number asked, fits
abbrev pub Asks : (Call → Type 0) → ℕ → List Deed → Type 0
Asks fits seat ds = Each (λ d. d.actor ≡ seat → fits d.call) ds

-- The seat has seen these deeds more, of which its own are its turns and fit. Where it had found that no turn is left,
-- it still knows.
pub record Onward {D V : Type 0} {disk : Ghosts D} (fits : Call → Type 0)
    (v w : View (Held D V disk) Deed) : Type 0 where
  pub added : List Deed
  pub seen : w.seen ≡ v.seen ++ added
  pub asks : Asks fits v.number added
  pub number : w.number ≡ v.number
  pub away : w.away ≡ v.away
  pub mine : w.mine ≡ v.mine ++ places_of (by_seat v.number) (length v.seen) added
  pub used_up : v.used_up ≡ true → w.used_up ≡ true

-- each of these deeds was carried out
abbrev pub AreDone : List Deed → Type 0
AreDone ds = Each (λ d. IsOk d.what) ds

-- each but the last was carried out, which was answered by this refusal
pub record AreDoneTo (why : Refusal) (ds : List Deed) : Type 0 where
  pub done : List Deed
  pub last : Deed
  pub are : ds ≡ done ++ last ∷ []
  pub each : AreDone done
  pub refused : last.what ≡ Err why

-- all were carried out, and then no turn was left, as the seat knows
pub record AreSpent (used_up : Bool) (why : Refusal) (ds : List Deed) : Type 0 where
  pub each : AreDone ds
  pub spent_is : why ≡ spent
  pub found : used_up ≡ true

-- The deeds of a seat that makes no call after a refusal: all were carried out; or the last was refused; or for one
-- more call no turn was left.
abbrev pub EndsBy : Bool → Option Refusal → List Deed → Type 0
EndsBy used_up None ds = AreDone ds
EndsBy used_up (Some why) ds = AreDoneTo why ds ⊎ AreSpent used_up why ds

-- what a seat knows that gives frames, and the first refusal that it was answered
pub record Worker (D V : Type 0) (disk : Ghosts D) : Type 0 where
  pub view : View (Held D V disk) Deed
  pub refused : Option Refusal

abbrev pub worker : {D V : Type 0} {disk : Ghosts D} → View (Held D V disk) Deed → Option Refusal → Worker D V disk
worker view refused = record { view = view; refused = refused }

-- a line
abbrev pub IsLine : Call → Type 0
IsLine c = (command : Command) × (c ≡ Line command)

-- a piece of this recording
abbrev pub IsPieceOf : ℕ → ℕ → Call → Type 0
IsPieceOf track tag c = (samples : List ℤ) × (c ≡ Piece track tag samples)

-- a read of this pin
abbrev pub IsReadOf : ℕ → Call → Type 0
IsReadOf pin c = (from count : ℕ) × (c ≡ ReadPin pin from count)
