-- What the calls of a seat say.
use Rattle.std.specs.Prelude.{◌≡◌, ◌⊎◌, ℕ, ◌<◌, true, false, List, [], ◌∷◌, ◌++◌, length, Result, Err}
use Rattle.pcm_base.specs.{declared.limits.TheConstants.COUNTER_LIMIT, declared.answer.Reply.Reply}
use Rattle.pcm_base.specs.{declared.command.Call.Call, declared.entry.SoundMove.SoundMove}
use Rattle.pcm_base.specs.{declared.refusal.Refusal.Refusal, declared.refusal.Refusal.TheVariants.Spent}
use Rattle.pcm_base.specs.{declared.said.Said.Said}
use Rattle.disk_model.specs.declared.store.Store.{Ghosts}
use Rattle.pin_turn.specs.{declared.view.Seat.Seat, declared.view.View.View, Calls.IsOf, Calls.start_of, Rule.ByOthers}
use Rattle.editor_state.specs.Core.{Core}
use Rattle.editor_core.specs.Core.{core_of}
use Rattle.studio_seats.specs.{declared.deed.Deed.Deed, declared.desk.Desk.Desk, declared.held.Held.Held}
use Rattle.studio_seats.specs.{Deeds.actor_of, Deeds.deed, Stands.AllTell, Stands.Does, Stands.Origin, Stands.StandsFor}

-- no turn is left
abbrev pub spent : Refusal
spent = Spent COUNTER_LIMIT

-- a call, what it was answered, and what became of the sound that it names
pub record Asked : Type 0 where
  pub call : Call
  pub what : Result Reply Refusal
  pub sound : SoundMove

-- what a seat knew before a call, and what it knows after it
pub record Views (D V : Type 0) (disk : Ghosts D) : Type 0 where
  pub before : View (Held D V disk) Deed
  pub after : View (Held D V disk) Deed

abbrev pub asked : Call → Result Reply Refusal → SoundMove → Asked
asked call what sound = record { call = call; what = what; sound = sound }

abbrev pub views : {D V : Type 0} {disk : Ghosts D} → View (Held D V disk) Deed → View (Held D V disk) Deed
    → Views D V disk
views before after = record { before = before; after = after }

-- the deed of the call of a seat of this number
abbrev pub deed_of : ℕ → Asked → Deed
deed_of seat a = deed seat a.call a.what a.sound

module _ {D V : Type 0} {disk : Ghosts D} where
  -- the seat is of this desk
  abbrev pub IsAt : Desk D V disk → Seat (Held D V disk) Deed → Type 0
  IsAt d s = IsOf d.turn s

  -- the studio with which the desk began
  abbrev pub start_at : Desk D V disk → Core D
  start_at d = core_of (start_of d.turn).studio

  -- the first seat, which has seen nothing yet
  pub record IsFirst (v : View (Held D V disk) Deed) : Type 0 where
    pub number : v.number ≡ 0
    pub seen : v.seen ≡ []
    pub mine : v.mine ≡ []
    pub away : v.away ≡ []
    pub unspent : v.used_up ≡ false

  -- A turn of a seat: after all that it had seen it has seen deeds of others, and then its own, by which the studio
  -- went from `before` to `after`. It reports the commit number after the turn.
  pub record Turned (o : Origin D V) (a : Asked) (at : ℕ) (seat : Views D V disk) : Type 0 where
    pub between : List Deed
    pub by_others : ByOthers actor_of (seat.before.number ∷ []) between
    pub few : length (seat.before.seen ++ between) < COUNTER_LIMIT
    pub unspent : seat.before.used_up ≡ false
    pub view : seat.after ≡ record seat.before {
      seen = (seat.before.seen ++ between) ++ deed_of seat.before.number a ∷ [];
      mine = seat.before.mine ++ length (seat.before.seen ++ between) ∷ [];
    }
    pub before : Core D
    pub after : Core D
    pub stood : StandsFor o before (seat.before.seen ++ between)
    pub does : Does o.disk (AllTell o.vaults) before (deed_of seat.before.number a) after
    pub stands : StandsFor o after ((seat.before.seen ++ between) ++ deed_of seat.before.number a ∷ [])
    pub number : at ≡ after.commit_number

  -- no turn was left, and no call was made
  pub record Spends {A : Type 0} (v : View (Held D V disk) Deed) (said : Said A)
      (w : View (Held D V disk) Deed) : Type 0 where
    pub at : said.at ≡ 0
    pub what : said.what ≡ Err spent
    pub view : w ≡ record v { used_up = true }

  abbrev pub Says : {A : Type 0} → Origin D V → Asked → Said A → Views D V disk → Type 0
  Says o a said seat = Turned o a said.at seat ⊎ Spends seat.before said seat.after
