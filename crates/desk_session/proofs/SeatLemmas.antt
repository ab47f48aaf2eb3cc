-- What each seat of a session asked, by what was opened for it.
use Rattle.std.proofs.Common.{◌≡◌, inl, inr, ℕ, ◌<◌, List, [], sym, ◌∙◌, ap, subst}
use Rattle.pcm_base.specs.{declared.command.Call.Call, declared.command.Call.TheVariants.Unpin}
use Rattle.disk_model.specs.declared.store.Store.{Ghosts}
use Rattle.pin_turn.specs.{declared.view.View.View, Counts.Each}
use Rattle.studio_seats.specs.{declared.deed.Deed.Deed, declared.held.Held.Held, Onward.IsReadOf, Onward.Onward}
use Rattle.studio_seats.specs.{Pieces.pieces_by, Recording.RecorderAsks}
use Rattle.studio_seats.proofs.OnwardLemmas.{onward_on, onward_self}
use Rattle.studio_seats.proofs.{PieceLemmas.pieces_others, WorkLemmas.onward_as, MergeLemmas.lower_others}
use Rattle.desk_session.specs.{declared.side.Side.Side, Opening.play_calls, Opening.record_calls, Opening.LetsGo}
use Rattle.desk_session.specs.{Sides.WhereMade, Lent.Kinds, Lent.Lent, Lent.Outcome, Works.Works, Works.Working}
use Rattle.desk_session.proofs.SideLemmas.{where_both, some_any}
use Rattle.desk_session.specs.declared.side.Side.TheVariants as side

module _ {D V : Type 0} {disk : Ghosts D} where
  pub recorder_goes : (made : Side) (track : ℕ) (v w : View (Held D V disk) Deed)
      → WhereMade made (λ tag. Onward (RecorderAsks track tag) v w) (w ≡ v) → Onward (record_calls track made) v w
  recorder_goes side.NotAsked track v w h =
      subst (λ (z : View (Held D V disk) Deed). Onward (record_calls track side.NotAsked) v z) (sym h)
      (onward_self (record_calls track side.NotAsked) v)
  recorder_goes (side.Made tag) track v w h = h
  recorder_goes (side.Refused why) track v w h =
      subst (λ (z : View (Held D V disk) Deed). Onward (record_calls track (side.Refused why)) v z)
      (sym h) (onward_self (record_calls track (side.Refused why)) v)

  idle : (fits : Call → Type 0) (v u w : View (Held D V disk) Deed) → u ≡ v → w ≡ u → Onward fits v w
  idle fits v u w one two = subst (λ (z : View (Held D V disk) Deed). Onward fits v z) (sym (two ∙ one))
      (onward_self fits v)

  pub player_goes : (made : Side) (v u w : View (Held D V disk) Deed)
      → WhereMade made (λ pin. Onward (IsReadOf pin) v u) (u ≡ v)
      → WhereMade made (λ pin. Onward (λ call. call ≡ Unpin pin) u w) (w ≡ u) → Onward (play_calls made) v w
  player_goes side.NotAsked v u w h k = idle (play_calls side.NotAsked) v u w h k
  player_goes (side.Made pin) v u w h k = onward_on (play_calls (side.Made pin)) v u w
      (onward_as (IsReadOf pin) (play_calls (side.Made pin)) v u (λ c is. inl is) h)
      (onward_as (λ call. call ≡ Unpin pin) (play_calls (side.Made pin)) u w (λ c is. inr is) k)
  player_goes (side.Refused why) v u w h k = idle (play_calls (side.Refused why)) v u w h k

  -- what the seats of recorder and player asked while all worked, and the call that lets the pin go
  module _ {M P : Type 0} {k : Kinds D V M P} {s : Working D V disk} {lent : Lent V M P} {out : Outcome}
      (works : Works k s lent out) where
    pub recorder_went : Onward (record_calls s.track out.opened.recording) s.recorder.before s.recorder.now
    recorder_went = recorder_goes out.opened.recording s.track s.recorder.before s.recorder.now
        (where_both out.opened.recording works.records (λ tag h. h.1.onward) (λ h. h.0))

    pub player_went : (first : ℕ) (w : View (Held D V disk) Deed)
        → WhereMade out.opened.pin (λ pin. LetsGo first pin s.player.now w) (w ≡ s.player.now)
        → Onward (play_calls out.opened.pin) s.player.before w
    player_went first w goes = player_goes out.opened.pin s.player.before s.player.now w
        (where_both out.opened.pin works.plays (λ pin h. some_any out.heard h (λ heard r. r.1.onward)) (λ h. h.0))
        (where_both out.opened.pin goes (λ pin h. h.calls.onward) (λ h. h))

  -- a seat that was split off has no pieces yet
  pub no_piece : (track tag first : ℕ) (v o : View (Held D V disk) Deed)
      → o ≡ record v { number = o.number; mine = []; away = [] }
      → Each (λ e. e.actor < o.number) v.seen → pieces_by track tag o.number first o.seen ≡ []
  no_piece track tag first v o new unseen = pieces_others track tag o.number first o.seen (lower_others o.number o.seen
      (subst (λ (l : List Deed). Each (λ e. e.actor < o.number) l)
      (sym (ap (λ (z : View (Held D V disk) Deed). z.seen) new)) unseen))
