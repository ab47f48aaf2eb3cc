-- What jobs ask of a desk, and what they need.
use Rattle.std.specs.Prelude.{◌≡◌, ℕ, ◌+◌, ◌^◌, ◌<◌, ◌≤◌, ℤ, IsTrue, List, ◌++◌, length}
use Rattle.pcm_base.specs.{declared.command.Call.Call, declared.command.Call.TheVariants.Line}
use Rattle.pcm_base.specs.{declared.sound.Frame.Frame}
use Rattle.disk_model.specs.declared.store.Store.{Ghosts}
use Rattle.pin_turn.specs.declared.view.View.{View}
use Rattle.studio_seats.specs.{declared.deed.Deed.Deed, declared.held.Held.Held, Deeds.entries_of, Deeds.number_after}
use Rattle.studio_seats.specs.{Desks.Views, Freeing.IsFullReclaim, Onward.IsReadOf, Pieces.pieces_by, Pins.is_made}
use Rattle.studio_seats.specs.{Recording.RecorderAsks, Shows.IsMixOf, Stands.Origin}
use Rattle.seat_examples.specs.{declared.jobs.Job.Job, declared.session.Session.Session}
use Rattle.pcm_base.specs.declared.command.Command.TheVariants as command
use Rattle.seat_examples.specs.declared.jobs.Job.TheVariants as job

-- a ramp in front of this track
abbrev pub IsRampIn : ℕ → Call → Type 0
IsRampIn track c = (count : ℕ) × (start : ℤ) × (step : ℤ) × (c ≡ Line (command.Ramp track 0 count start step))

-- what a job asks
abbrev pub asked : Job → Call → Type 0
asked (job.Edit track) c = IsRampIn track c
asked (job.Record track tag) c = RecorderAsks track tag c
asked (job.Play pin mix) c = IsReadOf pin c
asked job.Reclaim c = IsFullReclaim c

-- What a seat has to know for a job, by the commit number at the start and the deeds that it has seen: of a recording
-- its number, of a pin how it was made.
abbrev pub needed : Job → ℕ → List Deed → Type 0
needed (job.Edit track) first seen = track < 2 ^ 63
needed (job.Record track tag) first seen = (1 ≤ tag) × (tag ≤ number_after first seen)
needed (job.Play pin mix) first seen = IsTrue (is_made pin (entries_of seen))
needed job.Reclaim first seen = Unit {0}

-- how many pieces of a recording the seat added, as far as it has seen
abbrev pub piece_count : {D V : Type 0} {disk : Ghosts D} → ℕ → ℕ → ℕ → View (Held D V disk) Deed → ℕ
piece_count track tag first v = length (pieces_by track tag v.number first v.seen)

-- Where vaults tell their bytes and the disk held the studio at the start, the mix of the project that was current
-- where the pin was made has these frames.
abbrev pub IsPinOf : {D V : Type 0} {disk : Ghosts D} → Origin D V → View (Held D V disk) Deed → ℕ → List Frame → Type 0
IsPinOf o v pin mix = (all : List Frame) → IsMixOf o v.seen pin all → all ≡ mix

-- What a job of this many turns has done, or found, that ended with no refusal: as many turns, of a recording as many
-- pieces, and of a pin, where there was a turn, that it has the frames that were wanted.
abbrev pub did : {D V : Type 0} {disk : Ghosts D} → Origin D V → Job → ℕ → Views D V disk → Type 0
did o (job.Edit track) turns seat = length seat.after.mine ≡ length seat.before.mine + turns
did o (job.Record track tag) turns seat = piece_count track tag o.start.commit_number seat.after
    ≡ piece_count track tag o.start.commit_number seat.before + turns
did o (job.Play pin mix) turns seat = 0 < turns → IsPinOf o seat.before pin mix
did o job.Reclaim turns seat = length seat.after.mine ≡ length seat.before.mine + turns

-- the session may go on in threads by a seat that has seen these deeds
pub record IsReady (s : Session) (first : ℕ) (seen : List Deed) : Type 0 where
  pub made : IsTrue (is_made s.pin (entries_of seen))
  pub least : 1 ≤ s.tag
  pub most : s.tag ≤ number_after first seen

-- the seat is the one that it was, with none more away, and what it had seen begins what it has seen
pub record StaysSeat {D V : Type 0} {disk : Ghosts D} (v w : View (Held D V disk) Deed) : Type 0 where
  pub number : w.number ≡ v.number
  pub away : w.away ≡ v.away
  pub more : List Deed
  pub seen : w.seen ≡ v.seen ++ more
