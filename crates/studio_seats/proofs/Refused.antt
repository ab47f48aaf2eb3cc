-- What is answered, and what a refusal leaves.
use Rattle.studio_seats.proofs.Common.{none-some, ◌≡◌, inl, inr, refl, sym, ℕ, ◌+◌, Option, Some, None}
use Rattle.studio_seats.proofs.Common.{IsSome, Result, Ok, Err, arith, Reply, Call, SoundMove, Refusal, Answers, shown}
use Rattle.studio_seats.proofs.Common.{carried_is, commits, Studio}
use Rattle.pcm_base.specs.Causes.{Cause, Test, Damage, Disk, Vault, Memory, cause_of}
use Rattle.pcm_base.specs.{Run.BreaksBy}
use Rattle.editor_state.specs.{Took.number_behind}

pub stopped_not : (o : Option ℕ) → IsSome o → o ≡ None → ⊥
stopped_not None some none = cc
stopped_not (Some n) some none = none-some n (sym none)

-- ---- a refusal leaves all that a script can see

pub record Same (t u : Studio) : Type 0 where
  pub state : u.state ≡ t.state
  pub rate : u.rate ≡ t.rate
  pub block_size : u.block_size ≡ t.block_size

broken_same : (t u : Studio) (c : Call) (sound : SoundMove) (cause : Cause) → BreaksBy cause t c sound u
    → Same t u
broken_same t u c sound Test h = absurd h
broken_same t u c sound Damage h = rw h.breaks.is (record { state = refl; rate = refl; block_size = refl })
broken_same t u c sound Disk h = rw h.breaks.is (record { state = refl; rate = refl; block_size = refl })
broken_same t u c sound Vault h = rw h.1.breaks.is (record { state = refl; rate = refl; block_size = refl })
broken_same t u c sound Memory h = rw h.same (record { state = refl; rate = refl; block_size = refl })

pub refused_same : (t u : Studio) (c : Call) (sound : SoundMove) (why : Refusal) → Answers t c sound (Err why) u
    → Same t u
refused_same t u c sound why (inl h) = rw h.same (record { state = refl; rate = refl; block_size = refl })
refused_same t u c sound why (inr (inl left)) = rw left.same (record { state = refl; rate = refl; block_size = refl })
refused_same t u c sound why (inr (inr h)) = broken_same t u c sound (cause_of why) h

same_shown : (t u : Studio) → Same t u → shown u ≡ shown t
same_shown t u h = λ i. record {
  rate = h.rate i;
  block_size = h.block_size i;
  history = (h.state i).history;
  next_track = (h.state i).next_track;
  commit = (h.state i).commit;
}

-- a call that stops the studio leaves what an image keeps
pub stopped_shown : (t u : Studio) (c : Call) (sound : SoundMove) (what : Result Reply Refusal)
    → Answers t c sound what u → t.stopped ≡ None → IsSome u.stopped
    → shown u ≡ shown t
stopped_shown t u c sound (Ok r) h going stops =
    absurd (stopped_not u.stopped stops (rw (carried_is t u c sound r h) going))
stopped_shown t u c sound (Err why) h going stops = same_shown t u (refused_same t u c sound why h)

-- ---- the commit number

-- it is raised by the commits of the call
pub number_raised : (what : Result Reply Refusal) (c : Call) (n : ℕ)
    → number_behind what c n ≡ n + commits what c
number_raised (Ok r) c n = refl
number_raised (Err why) c n = omega arith
