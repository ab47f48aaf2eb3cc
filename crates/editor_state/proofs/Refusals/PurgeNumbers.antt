-- A purge to a size alone says how many points it drops. Whatever else it is answered says nothing of them.
use Rattle.editor_state.proofs.Common.{◌≡◌, refl, sym, ℕ, true, Option, Some, None, List, Result, Ok, Err, arith, rules}
use Rattle.editor_state.proofs.Common.{true≢false, commits_of, Reply, Call, Line, Refusal, History, Outside, refusal_of}
use Rattle.editor_state.proofs.Common.{stop_of, Track, Core, NotPrepared, is_broken_off, may_have_begun, Purges}
use Rattle.pcm_base.specs.{declared.answer.Reply.TheVariants.Done, declared.command.Command.TheVariants.PurgeTo}
use Rattle.purge_size.specs.Sizes.{IsPurgeTo}
use Rattle.editor_state.specs.{Purges.PurgesTo}
use Rattle.pcm_base.specs.declared.refusal.Refusal.TheVariants as refusal
use Rattle.pcm_base.specs.Studio as model
use Rattle.editor_state.proofs.Refusals.Tests as tests

-- ---- refusals of no range

abbrev pub IsNoRange : Refusal → Type 0
IsNoRange refusal.BadRange = ⊥
IsNoRange why = Unit {0}

stop : (stopped : Option ℕ) → tests.Tells IsNoRange (stop_of stopped)
stop None = tt
stop (Some faults) = tt

-- no test of a purge to a size refuses a range
sized : (out : Outside) (t : model.Studio) (bytes blocks len : ℕ)
    → tests.Tells IsNoRange (refusal_of out t (Line (PurgeTo bytes)) blocks len)
sized out t bytes blocks len = search (rules, stop)

-- an edit that is not prepared is refused for no range
pub unprepared_range : {D : Type 0} (s : Core D) (n tracks layouts count whole len : ℕ) (why : Refusal)
    → NotPrepared s n tracks layouts count whole len why → IsNoRange why
unprepared_range s n tracks layouts count whole len why =
    tests.unprepared IsNoRange (λ have need. tt) (λ len. tt) s n tracks layouts count whole len why tt

-- a device refuses no range
begun_range : (why : Refusal) → is_broken_off why ≡ true → IsNoRange why
begun_range refusal.BadRange off = absurd (true≢false (sym off))
begun_range why off = tt

-- ---- the points

module _ (h : History (List Track)) where
  -- a refusal of no range says nothing
  other_to : (bytes : ℕ) (why : Refusal) → IsNoRange why → PurgesTo h bytes (Err why)
  other_to bytes refusal.BadRange fine = absurd fine
  other_to bytes why fine = tt

  pub other_purges : (c : Call) (why : Refusal) → IsNoRange why → Purges h c (Err why)
  other_purges (Line (PurgeTo bytes)) why fine = other_to bytes why fine
  other_purges c why fine = tt

  -- a test refused the call
  pub tested_purges : (out : Outside) (t : model.Studio) (c : Call) (blocks len : ℕ) (why : Refusal)
      → refusal_of out t c blocks len ≡ Some why → Purges h c (Err why)
  tested_purges out t (Line (PurgeTo bytes)) blocks len why first = search (rules, other_to, sized)
  tested_purges out t c blocks len why first = tt

  -- a device did
  pub begun_purges : (c : Call) (why : Refusal) → may_have_begun c why ≡ true → Purges h c (Err why)
  begun_purges (Line (PurgeTo bytes)) why off = other_to bytes why (begun_range why off)
  begun_purges c why off = tt

  -- a commit whose answer is its number
  pub done_purges : (c : Call) → Purges h c (Ok Done)
  done_purges (Line (PurgeTo bytes)) = tt
  done_purges c = tt

  -- a call that is no commit
  pub quiet_purges : (c : Call) (told : Result Reply Refusal) → commits_of c ≡ 0 → Purges h c told
  quiet_purges (Line (PurgeTo bytes)) told none = absurd (omega (arith, none))
  quiet_purges c told none = tt

  -- a purge to a size, by its own test
  pub refused_to : (bytes : ℕ) (why : Refusal) → (why ≡ refusal.BadRange → IsPurgeTo h bytes 0)
      → PurgesTo h bytes (Err why)
  refused_to bytes refusal.BadRange none = none refl
  refused_to bytes why none = tt
