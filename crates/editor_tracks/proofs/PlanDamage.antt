-- Where a track has no plan, no file is damaged.
use Rattle.editor_tracks.proofs.Common.{ℕ, not, List, rules, Refusal, IsUndamaged, Track, NoTrackPlan, TrackEdit}
use Rattle.editor_tracks.proofs.Common.{TellsNone, either_tells, lacks_tells, tests_tell}

-- where a track has no plan, no file is damaged
pub no_plan_tells : (e : TrackEdit) (id : ℕ) (old : List Track) (why : Refusal) → ((len : ℕ) → TellsNone (e.test len))
    → NoTrackPlan e id old why → IsUndamaged why
no_plan_tells e id old why fine not = search (rules, tests_tell, either_tells, lacks_tells)
