-- The seats that were split off are taken in again.
use Rattle.std.proofs.Common.{◌≡◌, ◌∙◌, ap, subst, [], ◌∷◌, ◌++◌, List, ℤ, ℕ}
use Rattle.std.specs.Prelude.{is_some}
use Rattle.pin_turn.specs.{Calls.known, declared.view.View.View}
use Rattle.studio_seats.specs.{declared.deed.Deed.Deed, declared.held.Held.Held, Desks.start_at, Pieces.pieces_by}
use Rattle.studio_seats.specs.{Shows.IsMixOf, Stands.origin}
use Rattle.script_reader.specs.Change.{change}
use Rattle.desk_session.specs.Opening.{play_calls, record_calls}
use Rattle.desk_session.specs.{Lent.lent_by, Sounds.IsPlayed, Sounds.IsRecorded, Works.RanScript}
use Rattle.desk_session.proofs.RejoinLemmas.{first_join, rejoined, second_join}
use Rattle.desk_session.proofs.SeatLemmas.{no_piece, player_went, recorder_went}
use Rattle.desk_session.proofs.EndLemmas.{played_all, recorded}
use Rattle.desk_session.proofs.SideLemmas.{some_as, where_both, where_two}
use Rattle.desk_session.proofs.devices.Devices.run_seats.Goals as goal

pub join-requires-clause-away : goal.join-requires-clause-away
join-requires-clause-away g c =
    let one = c.split-recorder.ensures in
    let two = c.split-player.ensures in
    let works = c.run_work-seats.ensures.works in
    let h = first_join one.kept.1 one.new.1 one.number two.kept.1 two.new.1 two.number works.goes (recorder_went works)
    (player_went works _ _ c.let_go.ensures.goes) in
    (h.0, h.1)

pub join-requires-2-clause-away : goal.join-requires-2-clause-away
join-requires-2-clause-away g c =
    let one = c.split-recorder.ensures in
    let two = c.split-player.ensures in
    let works = c.run_work-seats.ensures.works in
    let h = second_join one.kept.1 one.new.1 one.number two.kept.1 two.new.1 two.number works.goes (recorder_went works)
    (player_went works _ _ c.let_go.ensures.goes) (known c.join.new.seat) c.join.ensures.kept.1 in
    (h.0, h.1)

pub returns-clause-sat : goal.returns-clause-sat
returns-clause-sat g c =
    let one = c.split-recorder.ensures in
    let two = c.split-player.ensures in
    let w = c.run_work-seats.result.0 in
    let did = c.run_work-seats.result.1 in
    let works = c.run_work-seats.ensures.works in
    let o = c.args.setting.opened in
    let start = start_at c.args.desk.now in
    let n = start.commit_number in
    let v = known c.args.seat in
    let Knows : Type 0 = View (Held g.row.S.Denot g.row.V.Denot g.S.Store) Deed in
    let lent = lent_by g.A.Source g.O.Sink (change c.args.self c.run_work-seats.result.2) in
    let r = known c.split-recorder.result in
    let p = known c.split-player.result in
    let apart : r.seen ≡ v.seen = ap (λ z. z.seen) one.new.1 in
    let seen : p.seen ≡ v.seen = ap (λ z. z.seen) two.new.1 ∙ ap (λ z. z.seen) one.kept.1 in
    let seats = rejoined one.kept.1 one.new.1 one.number two.kept.1 two.new.1 two.number works.goes
    (recorder_went works) (player_went works _ _ c.let_go.ensures.goes)
    (known c.join.new.seat) (known c.join-2.new.seat) c.join.ensures.kept.1 c.join-2.ensures.kept.1
    c.join.ensures.alike c.join-2.ensures.alike in
    record {
      script = known w.script;
      recorder = known w.recorder;
      player = known c.let_go.new.seat;
      seats = seats;
      ran = subst (λ (q : Knows). RanScript g.V.Vault
          (record { start = start; last = c.args.setting.last; seat = change q (known w.script) }) lent did.told)
          (two.kept.1 ∙ ap (λ (z : Knows). record z { away = z.away ++ p.number ∷ [] }) one.kept.1) works.ran;
      recorded = where_both o.recording works.records
          (λ tag h. some_as did.kept h.2 (λ k is. record {
            told = h.0;
            is = subst (λ (ps : List (List ℤ × ℕ)). IsRecorded g.M.Source lent.mic (change ps
                (pieces_by c.args.setting.track tag (known w.recorder).number n (known w.recorder).seen))
                h.0 k)
                (no_piece c.args.setting.track tag n v r one.new.1 one.number.above_makers) is;
            own_are = recorded c.args.setting.track tag (is_some h.0) v r (known w.recorder) h.0 apart h.1
                (record_calls c.args.setting.track o.recording) seats.by_recorder.part;
          }))
          (λ h. (h.1, h.2));
      played = where_two o.pin works.plays c.let_go.ensures.goes
          (λ pin h lets. some_as did.heard h (λ k is. played_all g.P.Sink lent.speaker
          (IsMixOf (origin g.S.Store g.V.Vault start) v.seen pin) pin n is.0 v p (known w.player)
          (known c.let_go.new.seat) k seen is.1 lets (play_calls o.pin) seats.by_player.part
          (subst (λ (l : List Deed). IsPlayed g.P.Sink lent.speaker
          (IsMixOf (origin g.S.Store g.V.Vault start) l pin) is.0 k) seen is.2)))
          (λ h lets. (h.1, h.2));
    }
