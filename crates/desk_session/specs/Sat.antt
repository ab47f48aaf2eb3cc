-- A session at a desk, from a seat and back to it.
use Rattle.std.specs.Prelude.{◌≡◌, ℕ, [], None, IsSomeAnd}
use Rattle.disk_model.specs.declared.store.Store.{Ghosts}
use Rattle.pin_turn.specs.declared.view.View.{View}
use Rattle.editor_state.specs.Core.{Core}
use Rattle.studio_seats.specs.{declared.deed.Deed.Deed, declared.held.Held.Held, Merge.by_seat, Merge.deeds_of}
use Rattle.studio_seats.specs.{Pieces.pieces_by, Shows.IsMixOf, Stands.origin}
use Rattle.script_reader.specs.Change.{change}
use Rattle.desk_session.specs.{Lent.Kinds, Lent.Lent, Lent.Outcome, Opening.play_calls, Opening.record_calls}
use Rattle.desk_session.specs.{Parts.Rejoined, Sides.WhereMade, Sounds.Played, Sounds.Recorded, Works.RanScript}

-- The studio with which a desk began, the track of the recording, the commit number that was told last before the
-- script, and what the seat knew before it and knows after it.
pub record Sitting (D V : Type 0) (disk : Ghosts D) : Type 0 where
  pub start : Core D
  pub track : ℕ
  pub last : ℕ
  pub seat : View (Held D V disk) Deed
  pub seat_now : View (Held D V disk) Deed

abbrev pub sitting : {D V : Type 0} {disk : Ghosts D} → Core D → (track last : ℕ)
    → (seat seat_now : View (Held D V disk) Deed) → Sitting D V disk
sitting start track last seat seat_now =
    record { start = start; track = track; last = last; seat = seat; seat_now = seat_now }

-- What script, recorder and player did, each at its own seat, from what one seat had seen; it took the others in.
pub record Sat {D V M P : Type 0} {disk : Ghosts D} (k : Kinds D V M P) (s : Sitting D V disk) (lent : Lent V M P)
    (out : Outcome)
    : Type 0 where
  pub script : View (Held D V disk) Deed
  pub recorder : View (Held D V disk) Deed
  pub player : View (Held D V disk) Deed
  pub seats : Rejoined (record_calls s.track out.opened.recording) (play_calls out.opened.pin) (record {
    seat = s.seat;
    script = script;
    recorder = recorder;
    player = player;
    joined = s.seat_now;
  })
  pub ran : RanScript k.vaults (record { start = s.start; last = s.last; seat = change s.seat script }) lent out.told
  pub recorded : WhereMade out.opened.recording (λ tag. IsSomeAnd out.kept (Recorded k.mics lent.mic
      (change [] (pieces_by s.track tag recorder.number s.start.commit_number recorder.seen)) recorder.used_up
      (deeds_of (by_seat recorder.number) seats.by_recorder.part.added)))
      ((out.kept ≡ None) × (lent.mic.now ≡ lent.mic.before))
  pub played : WhereMade out.opened.pin (λ pin. IsSomeAnd out.heard (Played k.speakers lent.speaker
      (IsMixOf (origin k.disk k.vaults s.start) s.seat.seen pin) pin player.used_up player.number
      (deeds_of (by_seat player.number) seats.by_player.part.added)))
      ((out.heard ≡ None) × (lent.speaker.now ≡ lent.speaker.before))
