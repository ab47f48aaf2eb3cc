-- What a session does before its script: a new track for a recording, and a pin for a playback.
use Rattle.std.specs.Prelude.{◌≡◌, ◌⊎◌, ℕ, ◌≤◌, max, Bool, true, List, [], ◌∷◌, ◌++◌, Result, Ok, Err, IsTrue}
use Rattle.pcm_base.specs.declared.command.Call.TheVariants.{Line, Pin, Unpin}
use Rattle.pcm_base.specs.{declared.answer.Reply.Reply, declared.command.Call.Call}
use Rattle.pcm_base.specs.{declared.command.Command.TheVariants.Track, declared.refusal.Refusal.Refusal}
use Rattle.disk_model.specs.declared.store.Store.{Ghosts}
use Rattle.pin_turn.specs.declared.view.View.{View}
use Rattle.editor_state.specs.{Core.Core, Took.silent}
use Rattle.studio_seats.specs.{declared.deed.Deed.Deed, declared.held.Held.Held, Deeds.deed, Deeds.entries_of}
use Rattle.studio_seats.specs.{Deeds.number_after, Desks.spent, Merge.by_seat, Merge.deeds_of, Merge.numbers_of}
use Rattle.studio_seats.specs.{Onward.IsReadOf, Onward.Onward, Pins.is_made, Recording.RecorderAsks}
use Rattle.desk_session.specs.{declared.opening.Opened.Opened, declared.side.Side.Side, Sides.IfMade, Sides.WhereMade}
use Rattle.pcm_base.specs.declared.answer.Reply.TheVariants as reply
use Rattle.desk_session.specs.declared.side.Side.TheVariants as side

-- the seat's own deed of a call that was answered so; it is none where no turn was left, as the seat then knows
abbrev pub OwnDeed : Bool → ℕ → Call → Result Reply Refusal → List Deed → Type 0
OwnDeed used_up seat call what own =
    (own ≡ deed seat call what silent ∷ []) ⊎ ((what ≡ Err spent) × (own ≡ []) × (used_up ≡ true))

-- a new track: it was not asked for, or it was made, or it was refused
abbrev pub TrackDeed : Bool → ℕ → Side → List Deed → Type 0
TrackDeed used_up seat side.NotAsked own = own ≡ []
TrackDeed used_up seat (side.Made tag) own = (reply : Reply) × OwnDeed used_up seat (Line Track) (Ok reply) own
TrackDeed used_up seat (side.Refused why) own = OwnDeed used_up seat (Line Track) (Err why) own

-- a pin: it was not asked for, or it was made and has this number, or it was refused
abbrev pub PinDeed : Bool → ℕ → Side → List Deed → Type 0
PinDeed used_up seat side.NotAsked own = own ≡ []
PinDeed used_up seat (side.Made pin) own = OwnDeed used_up seat Pin (Ok (reply.Pinned pin)) own
PinDeed used_up seat (side.Refused why) own = OwnDeed used_up seat Pin (Err why) own

-- one of both calls
abbrev pub IsOpening : Call → Type 0
IsOpening c = (c ≡ Line Track) ⊎ (c ≡ Pin)

-- the number of a recording is a commit number up to this one
abbrev pub IsTagTo : Side → ℕ → Type 0
IsTagTo recording number = IfMade recording (λ tag. (1 ≤ tag) × (tag ≤ number))

-- a pin was made by these deeds
abbrev pub IsPinIn : Side → List Deed → Type 0
IsPinIn pin seen = IfMade pin (λ number. IsTrue (is_made number (entries_of seen)))

-- the commit number after what a seat has seen of a desk that began so
abbrev pub number_seen : {D V : Type 0} {disk : Ghosts D} → Core D → View (Held D V disk) Deed → ℕ
number_seen start v = number_after start.commit_number v.seen

-- the commit number of a new track, which is the recording's own
abbrev pub record_commits : Side → List ℕ
record_commits side.NotAsked = []
record_commits (side.Made tag) = tag ∷ []
record_commits (side.Refused why) = []

module _ {D V : Type 0} {disk : Ghosts D} where
  -- what was told is the commit number after a turn, where there was one, and else 0
  abbrev pub TellsNumber : ℕ → View (Held D V disk) Deed → ℕ → View (Held D V disk) Deed → Type 0
  TellsNumber first v at w = (last : ℕ) → last ≡ number_after first v.seen → max last at ≡ number_after first w.seen

  -- A seat went on by one call at most, which fits: its deed, and the numbers of its commits, by the number with which
  -- the desk began.
  pub record MakesCall (fits : Call → Type 0) (first : ℕ) (IsOwn : List Deed → Type 0) (numbers : List ℕ)
      (v w : View (Held D V disk) Deed) : Type 0 where
    pub onward : Onward fits v w
    pub own : IsOwn (deeds_of (by_seat v.number) onward.added)
    pub numbers_are : numbers_of (by_seat v.number) (number_after first v.seen) onward.added ≡ numbers

  -- A seat let a pin go: one call, whatever it was answered.
  pub record LetsGo (first pin : ℕ) (v w : View (Held D V disk) Deed) : Type 0 where
    pub what : Result Reply Refusal
    pub calls : MakesCall (λ call. call ≡ Unpin pin) first (OwnDeed w.used_up v.number (Unpin pin) what) [] v w

  -- A seat made both. The recording's number is that of the new track.
  pub record Opens (first : ℕ) (opened : Opened) (v w : View (Held D V disk) Deed) : Type 0 where
    pub onward : Onward IsOpening v w
    pub track_own : List Deed
    pub pin_own : List Deed
    pub own : deeds_of (by_seat v.number) onward.added ≡ track_own ++ pin_own
    pub track : TrackDeed w.used_up v.number opened.recording track_own
    pub pin : PinDeed w.used_up v.number opened.pin pin_own
    pub numbers : numbers_of (by_seat v.number) (number_after first v.seen) onward.added
        ≡ record_commits opened.recording

-- what the recorder's seat asks: pieces of the recording, where there is one, and reclaims
abbrev pub record_calls : ℕ → Side → Call → Type 0
record_calls track recording c = WhereMade recording (λ tag. RecorderAsks track tag c) ⊥

-- what the player's seat asks: reads of the pin, where there is one, and to let it go
abbrev pub play_calls : Side → Call → Type 0
play_calls pin c = WhereMade pin (λ number. IsReadOf number c ⊎ (c ≡ Unpin number)) ⊥
