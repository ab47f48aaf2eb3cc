-- The tests of a call tell of no damaged file.
use Rattle.editor_state.proofs.Common.{◌≡◌, ℕ, nat_lt, nat_le, ◌&&◌, not, Bool, Option, Some, None, rules, no_room}
use Rattle.editor_state.proofs.Common.{◌otherwise◌, bad_range, refused_if, Refusal, stop_of, IsUndamaged, Track}
use Rattle.editor_state.proofs.Common.{Outgrows}
use Rattle.editor_state.specs.{Points.lacks}
use Rattle.pcm_base.specs.declared.refusal.Refusal.TheVariants as refusal
use Rattle.editor_state.proofs.Refusals.Tests as tests

-- a test tells of no damaged file
abbrev pub TellsNone : Option Refusal → Type 0
TellsNone = tests.Tells IsUndamaged

pub tests_tell : (o : Option Refusal) (why : Refusal) → TellsNone o → o ≡ Some why → IsUndamaged why
tests_tell = tests.told IsUndamaged

-- a test of one reason
pub one_tells : (b : Bool) (r : Refusal) → IsUndamaged r → TellsNone (refused_if b r)
one_tells = tests.one IsUndamaged

pub either_tells : (a b : Option Refusal) → TellsNone a → TellsNone b → TellsNone (a otherwise b)
either_tells = tests.either IsUndamaged

pub room_tells : (have need : ℕ) → TellsNone (no_room have need)
room_tells = tests.room IsUndamaged (λ have need. tt)

stop_tells : (stopped : Option ℕ) → TellsNone (stop_of stopped)
stop_tells None = tt
stop_tells (Some n) = tt

pub range_tells : (from to len : ℕ) → TellsNone (bad_range from to len)
range_tells from to len = one_tells (not (nat_lt from to && nat_le to len)) refusal.BadRange tt

pub lacks_tells : (id : ℕ) (found : Option Track) → TellsNone (lacks id found)
lacks_tells id None = tt
lacks_tells id (Some t) = tt

-- what refuses a commit tells of no damaged file, where its own tests do not
pub undamaged_test : (stopped : Option ℕ) (own : Option Refusal) (track tracks number : ℕ) (why : Refusal)
    → TellsNone own
    → (stop_of stopped) otherwise own otherwise (no_room track tracks) otherwise (no_room number 1) ≡ Some why
    → IsUndamaged why
undamaged_test stopped own track tracks number why tells is =
    search (rules, tests_tell, either_tells, room_tells, stop_tells)

pub outgrowing : (end next layouts len : ℕ) (why : Refusal) → Outgrows end next layouts len why → IsUndamaged why
outgrowing = tests.outgrowing IsUndamaged (λ have need. tt) (λ len. tt)
