-- Whose the deeds of a list are that three seats made.
use Rattle.std.specs.Prelude.{◌≡◌, ◌≢◌, ℕ, ◌||◌, Bool, true, List, [], ◌∷◌, ◌++◌, length}
use Rattle.pin_turn.specs.{Counts.Each, Counts.once_below, Counts.times, Rule.ByOthers}
use Rattle.studio_seats.specs.{declared.deed.Deed.Deed, Deeds.actor_of, Merge.by_seat, Onward.places_of}

-- the seats of a session: of the script, of the recorder and of the player
pub record Seats : Type 0 where
  pub script : ℕ
  pub recorder : ℕ
  pub player : ℕ

pub record Apart (s : Seats) : Type 0 where
  pub script_recorder : s.script ≢ s.recorder
  pub script_player : s.script ≢ s.player
  pub recorder_player : s.recorder ≢ s.player

abbrev pub is_by : Seats → Deed → Bool
is_by s d = by_seat s.script d || (by_seat s.recorder d || by_seat s.player d)

-- what each of the seats has seen at last begins the list, and their turns are all its places, each once
pub record Parts (s : Seats) (ds : List Deed) : Type 0 where
  pub script : List Deed
  pub more_script : List Deed
  pub script_is : ds ≡ script ++ more_script
  pub recorder : List Deed
  pub more_recorder : List Deed
  pub recorder_is : ds ≡ recorder ++ more_recorder
  pub player : List Deed
  pub more_player : List Deed
  pub player_is : ds ≡ player ++ more_player
  pub mine : List ℕ
  pub mine_is : mine ≡ (places_of (by_seat s.script) 0 script ++ places_of (by_seat s.player) 0 player)
      ++ places_of (by_seat s.recorder) 0 recorder
  pub counts : (k : ℕ) → times k mine ≡ once_below k (length ds)

-- then each deed is by one of them, and none after what a seat has seen is by that seat
pub record Made (s : Seats) (ds : List Deed) (p : Parts s ds) : Type 0 where
  pub all : Each (λ d. is_by s d ≡ true) ds
  pub script : ByOthers actor_of (s.script ∷ []) p.more_script
  pub recorder : ByOthers actor_of (s.recorder ∷ []) p.more_recorder
  pub player : ByOthers actor_of (s.player ∷ []) p.more_player

abbrev pub PartsMade : Type 0
PartsMade = (s : Seats) (ds : List Deed) (p : Parts s ds) → Apart s → Made s ds p
