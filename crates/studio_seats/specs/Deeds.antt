-- What the turns of a desk do.
use Rattle.std.specs.Prelude.{ℕ, ◌+◌, nat_lt, Bool, List, [], ◌∷◌, Result, Ok, Err}
use Rattle.pcm_base.specs.{declared.answer.Reply.Reply, declared.command.Call.Call, declared.entry.Entry.Entry}
use Rattle.pcm_base.specs.{declared.entry.SoundMove.SoundMove, declared.refusal.Refusal.Refusal, Counters.commits_of}
use Rattle.editor_state.specs.Applied.{reply_of}
use Rattle.studio_seats.specs.declared.deed.Deed.{Deed}

abbrev pub deed : ℕ → Call → Result Reply Refusal → SoundMove → Deed
deed actor call what sound = record { actor = actor; call = call; what = what; sound = sound }

abbrev pub actor_of : Deed → ℕ
actor_of d = d.actor

-- as entries of a run
abbrev pub entry_of : Deed → Entry
entry_of d = record { actor = d.actor; call = d.call; reply = reply_of d.what; sound = d.sound }

abbrev pub entries_of : List Deed → List Entry
entries_of [] = []
entries_of (d ∷ ds) = entry_of d ∷ entries_of ds

-- how many commits a call made, by its answer
abbrev pub commits : Result Reply Refusal → Call → ℕ
commits (Ok r) call = commits_of call
commits (Err why) call = 0

abbrev pub made : Deed → ℕ
made d = commits d.what d.call

-- whether it made any
abbrev pub is_commit : Deed → Bool
is_commit d = nat_lt 0 (made d)

-- a commit number after a deed
abbrev pub raised_by : Deed → ℕ → ℕ
raised_by d n = n + made d

-- the commit number to which deeds lead from this one
abbrev pub number_after : ℕ → List Deed → ℕ
number_after n [] = n
number_after n (d ∷ ds) = number_after (raised_by d n) ds
