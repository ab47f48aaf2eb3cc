-- What came back follows what was lent.
use Rattle.std.proofs.Common.{refl, sym, subst, ◌∙◌, ap, Bool, true}
use Rattle.std.specs.Prelude.{is_some}
use Rattle.player_threads.specs.Filled.{reads_to}
use Rattle.pin_turn.specs.Calls.{known}
use Rattle.studio_seats.specs.{Desks.IsAt, Desks.start_at, Onward.Onward, Onward.worker, Pieces.pieces_by}
use Rattle.studio_seats.specs.{Reads.ReadsOn, Recording.RecordsOn, Recording.recorder, Shows.IsMixOf, Stands.origin}
use Rattle.studio_seats.proofs.RecordingLemmas.{pieces_free, records_free, records_self}
use Rattle.studio_seats.proofs.{OnwardLemmas.onward_self, ReadLemmas.reads_self}
use Rattle.script_reader.specs.{Calls.IsOfScript, declared.stop.Stop.Stop, Change.change, Place.Place, Place.place_of}
use Rattle.script_reader.specs.{Progress.Ran, Progress.reached}
use Rattle.desk_session.specs.Sounds.{IsPlayed, IsRecorded}
use Rattle.desk_session.proofs.SideLemmas.{back, some_as, where_any, where_both}
use Rattle.desk_session.proofs.SoundLemmas.{played_of, recorded_of}
use Rattle.desk_session.proofs.devices.Devices.run_work.Goals as goal

pub returns-clause-works : goal.returns-clause-works
returns-clause-works g c =
    let o = c.args.setting.opened in
    let d = c.args.self in
    let lends = c.lend_script-state.ensures in
    let takes = c.take_script-seat.ensures in
    let ran = c.run_beside-stop.result.1 in
    let s = ran.state in
    let first = c.run_beside-stop.ensures.lines.follows c.lend_script-state.result.editor
    (refl, refl, onward_self IsOfScript _) in
    let desk = first.0 ∙ lends.of.0 in
    let kept = c.take_recorder-recorder.result in
    let heard = c.take_player-player.result in
    record {
      goes = subst (λ (X : Type 0). X) (λ i. Onward IsOfScript (lends.seat i) (sym takes.seat i)) first.2;
      ran = (
        s.editor.last,
        subst (λ (z : Stop × Bool × Place × Place). Ran z.0
            (reached (record { place = z.2; written = g.O.Sink.written d.streams.out.now }) z.3
            (g.O.Sink.written ran.streams.out.now) z.1)
            (change (g.A.Source.left d.streams.script.now) (g.A.Source.left ran.streams.script.now)))
            (λ i. (
              sym takes.told.0 i,
              sym takes.told.1 i,
              place_of (start_at (lends.of.0 i)) (lends.seat i) (lends.fresh.0 i) (lends.fresh.1 i)
                  (g.V.Vault.tells (lends.of.2 i)) (g.V.Vault.holds (lends.of.2 i))
                  (g.V.Vault.fault_count (lends.of.2 i)),
              place_of (start_at (desk i)) (sym takes.seat i) s.editor.last (sym takes.told.2 i)
                  (g.V.Vault.tells (sym takes.vault.1 i)) (g.V.Vault.holds (sym takes.vault.1 i))
                  (g.V.Vault.fault_count (sym takes.vault.1 i)),
            ))
            c.run_beside-stop.ensures.lines.ran,
      );
      records = where_both o.recording
          (back _ _ _ _ _ o.recording c.lend_recorder-recording.result c.run_beside-stop.result.2
          c.lend_recorder-recording.ensures c.run_beside-stop.ensures.records c.take_recorder-recorder.ensures)
          (λ tag h.
          let w = h.0 in
          let a = h.1 in
          let goes = h.3.taker_goes w.taker (refl, refl, refl, records_self w.taker.track w.taker.tag _) in
          let track = h.2.4 in
          let tag_is = h.2.5 in
          let at = goes.0 ∙ h.2.2 in
          let there = known a.taker.seat in
          let here = known kept.0 in
          let begun = (start_at a.taker.desk.now).commit_number in
          let freed = records_free w.taker.track w.taker.tag there here (is_some a.taker.refused)
          (recorder (known w.taker.seat) w.taker.refused w.taker.since) a.taker.refused a.taker.since goes.3 true 0
          h.4.1 in
          let same = sym (pieces_free a.taker.track a.taker.tag there here true a.taker.since 0 begun h.4.1)
          ∙ (λ i. pieces_by ((goes.1 ∙ track) i) ((goes.2 ∙ tag_is) i) here.number
          (start_at (at i)).commit_number here.seen) in (
            a.taker.refused,
            subst (λ (X : Type 0). X) (λ i. RecordsOn (track i) (tag_is i) true (is_some a.taker.refused)
                (recorder (h.2.3 i) (h.2.6 i) (h.2.7 i)) (recorder here a.taker.refused 0)) freed,
            some_as kept.2 h.4.4
                (λ k f. subst (λ (X : Type 0). X)
                (λ i. IsRecorded g.M.Source (change (h.2.1 i) (sym h.4.3 i))
                (change
                (pieces_by (track i) (tag_is i) (h.2.3 i).number (start_at (h.2.2 i)).commit_number (h.2.3 i).seen)
                (same i)) a.taker.refused k)
                (recorded_of g.M.Source _ _ (λ l. l.source.now) (λ l. refl) (λ l. refl) (λ l n failed is. is.1)
                w.mic w.taker a k (refl, λ first is. is) h.3 f.0 f.1 f.2 f.3)),
          ))
          (λ h. (ap known h.2.0 ∙ h.1.0, h.2.3, h.2.2 ∙ h.1.3));
      plays = where_both o.pin
          (back _ _ _ _ _ o.pin c.lend_player-playback.result c.run_beside-stop.result.3
          c.lend_player-playback.ensures c.run_beside-stop.ensures.plays c.take_player-player.ensures)
          (λ pin h.
          let a = h.1 in
          let goes = h.3.giver_goes h.0.giver (refl, refl, reads_self h.0.giver.pin _) in
          let pin_is = h.2.4 in
          some_as heard.2 h.4.4 (λ k f. (
            h.3.place,
            subst (λ (X : Type 0). X) (λ i. ReadsOn (pin_is i) (reads_to (sym f.0 i) h.3.place)
                (worker (h.2.3 i) (h.2.5 i)) (worker (sym h.4.1 i) ((h.3.cause ∙ sym f.0) i))) goes.2,
            subst (λ (X : Type 0). X)
                (λ i. IsPlayed g.P.Sink (change (h.2.1 i) (sym h.4.3 i))
                (IsMixOf (origin g.S.Store g.V.Vault (start_at (h.2.2 i))) (h.2.3 i).seen (pin_is i)) h.3.place k)
                (played_of g.P.Sink _ _ (λ l. l.sink.now) (λ l. refl) (λ l. refl) (λ l n failed is. is.1) h.0.giver
                h.0.speaker a k (refl, λ first is. is) h.3 f.0 f.1 f.2),
          )))
          (λ h. (ap known h.2.0 ∙ h.1.0, h.2.3, h.2.2 ∙ h.1.3));
    }

pub returns-clause-at : goal.returns-clause-at
returns-clause-at g c =
    let o = c.args.setting.opened in
    let desk = c.args.desk.now in
    let first = c.run_beside-stop.ensures.lines.follows c.lend_script-state.result.editor
    (refl, refl, onward_self IsOfScript _) in (
      subst (λ d. IsAt d c.take_script-seat.result.0) (first.0 ∙ c.lend_script-state.ensures.of.0)
          c.take_script-seat.ensures.at,
      where_any o.recording
          (back _ _ _ _ _ o.recording c.lend_recorder-recording.result c.run_beside-stop.result.2
          c.lend_recorder-recording.ensures c.run_beside-stop.ensures.records c.take_recorder-recorder.ensures)
          (λ tag h. subst (λ d. IsAt d c.take_recorder-recorder.result.0)
          ((h.3.taker_goes h.0.taker (refl, refl, refl, records_self _ _ _)).0 ∙ h.2.2) h.4.0)
          (λ h. subst (λ s. IsAt desk s) (sym h.2.0) h.1.1),
      where_any o.pin
          (back _ _ _ _ _ o.pin c.lend_player-playback.result c.run_beside-stop.result.3
          c.lend_player-playback.ensures c.run_beside-stop.ensures.plays c.take_player-player.ensures)
          (λ pin h. subst (λ d. IsAt d c.take_player-player.result.0)
          ((h.3.giver_goes h.0.giver (refl, refl, reads_self _ _)).0 ∙ h.2.2) h.4.0)
          (λ h. subst (λ s. IsAt desk s) (sym h.2.0) h.1.1),
    )

pub returns-clause-cause : goal.returns-clause-cause
returns-clause-cause g c = rw c.take_script-seat.ensures.told.0 c.run_beside-stop.ensures.lines.cause

pub returns-clause-reads : goal.returns-clause-reads
returns-clause-reads g c = rw c.take_script-seat.ensures.told.0 c.run_beside-stop.ensures.lines.reads

pub returns-clause-same : goal.returns-clause-same
returns-clause-same g c =
    let o = c.args.setting.opened in
    let first = c.run_beside-stop.ensures.lines.follows c.lend_script-state.result.editor
    (refl, refl, onward_self IsOfScript _) in (
      c.take_script-seat.ensures.vault.0 ∙ first.1 ∙ c.lend_script-state.ensures.of.1,
      c.run_beside-stop.ensures.lines.same_script,
      c.run_beside-stop.ensures.lines.same_out,
      where_any o.recording
          (back _ _ _ _ _ o.recording c.lend_recorder-recording.result c.run_beside-stop.result.2
          c.lend_recorder-recording.ensures c.run_beside-stop.ensures.records c.take_recorder-recorder.ensures)
          (λ tag h. h.4.2 ∙ (h.3.mic_goes h.0.mic (refl, λ before x. x)).0 ∙ h.2.0)
          (λ h. h.2.1 ∙ h.1.2),
      where_any o.pin
          (back _ _ _ _ _ o.pin c.lend_player-playback.result c.run_beside-stop.result.3
          c.lend_player-playback.ensures c.run_beside-stop.ensures.plays c.take_player-player.ensures)
          (λ pin h. h.4.2 ∙ (h.3.speaker_goes h.0.speaker (refl, λ before x. x)).0 ∙ h.2.0)
          (λ h. h.2.1 ∙ h.1.2),
    )
