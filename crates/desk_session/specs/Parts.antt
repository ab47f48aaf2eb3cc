-- A seat from which two were split, and that took them in again.
use Rattle.std.specs.Prelude.{◌≡◌, ◌<◌, true, List, ◌++◌}
use Rattle.pcm_base.specs.declared.command.Call.{Call}
use Rattle.disk_model.specs.declared.store.Store.{Ghosts}
use Rattle.pin_turn.specs.{declared.view.View.View, Counts.Each}
use Rattle.studio_seats.specs.Onward.{Asks, places_of}
use Rattle.studio_seats.specs.{declared.deed.Deed.Deed, declared.held.Held.Held, Merge.by_seat}
use Rattle.script_reader.specs.Calls.{IsOfScript}

-- What a seat knew before others were split from it; what it, the recorder's and the player's knew before they were
-- joined; and what it knew then.
pub record Parted (D V : Type 0) (disk : Ghosts D) : Type 0 where
  pub seat : View (Held D V disk) Deed
  pub script : View (Held D V disk) Deed
  pub recorder : View (Held D V disk) Deed
  pub player : View (Held D V disk) Deed
  pub joined : View (Held D V disk) Deed

module _ {D V : Type 0} {disk : Ghosts D} where
  -- a seat went on from what another had seen, and what it asked fits
  pub record Part (fits : Call → Type 0) (v w : View (Held D V disk) Deed) : Type 0 where
    pub added : List Deed
    pub seen : w.seen ≡ v.seen ++ added
    pub asks : Asks fits w.number added
    -- where it had found that no turn is left, it still knows
    pub used_up : v.used_up ≡ true → w.used_up ≡ true

  -- it had a new number, and its turns are those that it made since
  pub record NewPart (fits : Call → Type 0) (v w : View (Held D V disk) Deed) : Type 0 where
    pub part : Part fits v w
    pub above : v.number < w.number
    pub unseen : Each (λ d. d.actor < w.number) v.seen
    pub mine : w.mine ≡ places_of (by_seat w.number) 0 w.seen

  -- The seat went on by lines, a recorder's and a player's by what fits them, and then it had seen what each had seen.
  pub record Rejoined (pieces reads : Call → Type 0) (x : Parted D V disk) : Type 0 where
    pub by_script : Part IsOfScript x.seat x.script
    pub script_number : x.script.number ≡ x.seat.number
    pub by_recorder : NewPart pieces x.seat x.recorder
    pub by_player : NewPart reads x.seat x.player
    pub apart : x.recorder.number < x.player.number
    pub more_script : List Deed
    pub script_is : x.joined.seen ≡ x.script.seen ++ more_script
    pub more_recorder : List Deed
    pub recorder_is : x.joined.seen ≡ x.recorder.seen ++ more_recorder
    pub more_player : List Deed
    pub player_is : x.joined.seen ≡ x.player.seen ++ more_player
    pub mine : x.joined.mine ≡ (x.script.mine ++ x.player.mine) ++ x.recorder.mine
    pub number : x.joined.number ≡ x.seat.number
    pub away : x.joined.away ≡ x.seat.away
    -- what one of them found, that no turn is left, it knows too
    pub script_spent : x.script.used_up ≡ true → x.joined.used_up ≡ true
    pub recorder_spent : x.recorder.used_up ≡ true → x.joined.used_up ≡ true
    pub player_spent : x.player.used_up ≡ true → x.joined.used_up ≡ true
    -- where the turns of the seat were those of its own deeds, they still are, before it took the others in
    pub script_mine : x.seat.mine ≡ places_of (by_seat x.seat.number) 0 x.seat.seen
        → x.script.mine ≡ places_of (by_seat x.seat.number) 0 x.script.seen
