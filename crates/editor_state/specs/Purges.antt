-- How many points a purge to a size drops, as its answer says.
use Rattle.std.specs.Prelude.{ℕ, List, Result, Ok, Err}
use Rattle.pcm_base.specs.{declared.answer.Reply.Reply, declared.answer.Reply.TheVariants.Purged}
use Rattle.pcm_base.specs.{declared.command.Call.Call, declared.command.Call.TheVariants.Line}
use Rattle.pcm_base.specs.{declared.command.Command.TheVariants.PurgeTo, declared.refusal.Refusal.Refusal}
use Rattle.pcm_base.specs.{declared.refusal.Refusal.TheVariants.BadRange, History.History}
use Rattle.project_state.specs.declared.track.Track.{Track}
use Rattle.purge_size.specs.Sizes.{IsPurgeTo}

-- By the layouts of the history before the call, whatever the disk tells: as many points as it answers have to go, and
-- where it is refused as a range none has to.
abbrev pub PurgesTo : History (List Track) → ℕ → Result Reply Refusal → Type 0
PurgesTo h bytes (Ok (Purged n)) = IsPurgeTo h bytes n
PurgesTo h bytes (Err BadRange) = IsPurgeTo h bytes 0
PurgesTo h bytes told = Unit {0}

-- by the call: no other one says a number of points
abbrev pub Purges : History (List Track) → Call → Result Reply Refusal → Type 0
Purges h (Line (PurgeTo bytes)) told = PurgesTo h bytes told
Purges h call told = Unit {0}
