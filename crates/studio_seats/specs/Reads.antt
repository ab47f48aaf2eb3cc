-- How a seat reads a pin from its first frame on.
use Rattle.std.specs.Prelude.{◌≡◌, ◌⊎◌, ℕ, ◌+◌, ◌<◌, ◌≤◌, Bool, true, List, [], ◌∷◌, ◌++◌, length, Option, Some, None}
use Rattle.std.specs.Prelude.{Ok, Err}
use Rattle.pcm_base.specs.{declared.answer.Reply.TheVariants.Frames, declared.command.Call.TheVariants.ReadPin}
use Rattle.pcm_base.specs.{declared.refusal.Refusal.Refusal, declared.sound.Frame.Frame}
use Rattle.disk_model.specs.declared.store.Store.{Ghosts}
use Rattle.edit_ports.specs.Answers.{AtEnd, NextAt, Reading, RefusedAt, most_frames}
use Rattle.studio_seats.specs.Onward.{IsReadOf, Onward, Worker}
use Rattle.studio_seats.specs.{declared.deed.Deed.Deed, Desks.spent, Merge.by_seat, Merge.deeds_of}

-- how many frames one read asks for
abbrev pub IsAsked : ℕ → Type 0
IsAsked count = (0 < count) × (count ≤ most_frames)

-- These deeds read a pin from this place on, and came to the other place. Each begins where the one before it ended,
-- and gave as many frames as it asked for.
abbrev pub AreFullReads : ℕ → ℕ → ℕ → List Deed → Type 0
AreFullReads pin from to [] = to ≡ from
AreFullReads pin from to (d ∷ ds) = (frames : List Frame) × IsAsked (length frames)
    × (d.call ≡ ReadPin pin from (length frames)) × (d.what ≡ Ok (Frames frames))
    × AreFullReads pin (from + length frames) to ds

-- a read at this place that gave fewer frames than it asked for
pub record IsShortRead (pin from : ℕ) (d : Deed) : Type 0 where
  pub count : ℕ
  pub few : IsAsked count
  pub frames : List Frame
  pub short : length frames < count
  pub call_is : d.call ≡ ReadPin pin from count
  pub what_is : d.what ≡ Ok (Frames frames)

-- a read at this place that was refused
pub record IsRefusedRead (pin from : ℕ) (why : Refusal) (d : Deed) : Type 0 where
  pub count : ℕ
  pub few : IsAsked count
  pub call_is : d.call ≡ ReadPin pin from count
  pub what_is : d.what ≡ Err why

-- What came after full reads up to this place: nothing yet; a read that gave fewer frames; or one there that was
-- refused, or for which no turn was left, as the seat knows.
abbrev pub EndReads : Bool → ℕ → ℕ → Option Refusal → Reading → List Deed → Type 0
EndReads used_up pin place refused (NextAt next) ds = (refused ≡ None) × (ds ≡ []) × (next ≡ place)
EndReads used_up pin place refused AtEnd ds =
    (refused ≡ None) × (d : Deed) × (ds ≡ d ∷ []) × IsShortRead pin place d
EndReads used_up pin place refused (RefusedAt at) ds = (at ≡ place) × (why : Refusal) × (refused ≡ Some why)
    × (((d : Deed) × (ds ≡ d ∷ []) × IsRefusedRead pin place why d)
    ⊎ ((ds ≡ []) × (why ≡ spent) × (used_up ≡ true)))

-- The deeds of a seat that reads a pin from its first frame on: full reads, and what came after them, by how far the
-- reads came, and by the refusal that was answered.
pub record ReadsTo (used_up : Bool) (pin : ℕ) (refused : Option Refusal) (reading : Reading) (ds : List Deed) : Type 0
  where
    pub place : ℕ
    pub full : List Deed
    pub last : List Deed
    pub are : ds ≡ full ++ last
    pub reads : AreFullReads pin 0 place full
    pub ends : EndReads used_up pin place refused reading last

-- The seat of a worker that nothing had been refused went on by reads of a pin from its first frame on.
pub record ReadsOn {D V : Type 0} {disk : Ghosts D} (pin : ℕ) (reading : Reading) (v w : Worker D V disk) : Type 0 where
  pub onward : Onward (IsReadOf pin) v.view w.view
  pub reads : v.refused ≡ None
      → ReadsTo w.view.used_up pin w.refused reading (deeds_of (by_seat v.view.number) onward.added)
