-- How what the seat of a recorder knows goes on: by pieces of its recording, and by reclaims.
use Rattle.std.specs.Prelude.{◌≡◌, ◌⊎◌, ℕ, Bool, true, false, List, [], ◌∷◌, Option, None}
use Rattle.pcm_base.specs.{declared.command.Call.Call, declared.refusal.Refusal.Refusal}
use Rattle.disk_model.specs.declared.store.Store.{Ghosts}
use Rattle.pin_turn.specs.declared.view.View.{View}
use Rattle.studio_seats.specs.Freeing.{AreFreed, IsDue, IsFullReclaim, makes_piece, unfreed}
use Rattle.studio_seats.specs.{declared.deed.Deed.Deed, declared.held.Held.Held, Deeds.entries_of, Merge.by_seat}
use Rattle.studio_seats.specs.{Merge.deeds_of, Onward.EndsBy, Onward.IsPieceOf, Onward.Onward}

-- what a recorder asks: a piece of this recording, or a reclaim
abbrev pub RecorderAsks : ℕ → ℕ → Call → Type 0
RecorderAsks track tag c = IsPieceOf track tag c ⊎ IsFullReclaim c

abbrev pub asks_piece : Deed → Bool
asks_piece d = makes_piece d.call

-- what a seat knows that takes pieces, the first refusal that it was answered, and how many pieces it asked for since
-- its last reclaim
pub record Recorder (D V : Type 0) (disk : Ghosts D) : Type 0 where
  pub view : View (Held D V disk) Deed
  pub refused : Option Refusal
  pub since : ℕ

abbrev pub recorder : {D V : Type 0} {disk : Ghosts D} → View (Held D V disk) Deed → Option Refusal → ℕ
    → Recorder D V disk
recorder view refused since = record { view = view; refused = refused; since = since }

module _ {D V : Type 0} {disk : Ghosts D} where
  -- these are one deed of a seat that knew of no end of the turns, or none as it now knows that no turn is left
  abbrev pub FreesOnce : View (Held D V disk) Deed → View (Held D V disk) Deed → List Deed → Type 0
  FreesOnce v w own = ((v.used_up ≡ false) × (d : Deed) × (own ≡ d ∷ [])) ⊎ ((w.used_up ≡ true) × (own ≡ []))

  -- a seat made one reclaim, or none as no turn was left
  pub record Frees (v w : View (Held D V disk) Deed) : Type 0 where
    pub onward : Onward IsFullReclaim v w
    pub freed : FreesOnce v w (deeds_of (by_seat v.number) onward.added)

  -- A seat that had asked for `since` pieces since its last reclaim did nothing, or made one that was due. Then it has
  -- asked for `left` since.
  abbrev pub FreesTo : Bool → ℕ → View (Held D V disk) Deed → ℕ → View (Held D V disk) Deed → Type 0
  FreesTo ended since v left w = ((left ≡ since) × (w ≡ v)) ⊎ ((left ≡ 0) × IsDue ended since × Frees v w)

  -- The seat of a recorder went on by pieces and reclaims, each a turn of its own, but for one for which no turn was
  -- left. Of the pieces none was refused but the last, where it `failed`. Each reclaim comes after 64 pieces, and it
  -- counts those since the last, until no turn is left. If it `ended`, its last entry may be one after fewer.
  pub record RecordsOn (track tag : ℕ) (ended failed : Bool) (v w : Recorder D V disk) : Type 0 where
    pub onward : Onward (RecorderAsks track tag) v.view w.view
    pub unrefused : failed ≡ false → w.refused ≡ v.refused
    pub ends : v.refused ≡ None → EndsBy w.view.used_up w.refused
        (deeds_of asks_piece (deeds_of (by_seat v.view.number) onward.added))
    pub freed : AreFreed ended v.since (entries_of (deeds_of (by_seat v.view.number) onward.added))
    pub since : (unfreed v.since (entries_of (deeds_of (by_seat v.view.number) onward.added)) ≡ w.since)
        ⊎ (w.view.used_up ≡ true)
