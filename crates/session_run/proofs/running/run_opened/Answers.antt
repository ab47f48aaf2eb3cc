-- A session on a studio that was opened.
use Rattle.session_run.proofs.Common.{inl, inr, refl, ap, subst, ◌∙◌, ◌≡◌, ◌||◌, ℕ, Core, core_of, last_text, change}
use Rattle.session_run.proofs.Common.{kinds, IsSession, WritesEnd, mic_failed, play_line, record_line, speaker_failed}
use Rattle.session_run.proofs.Common.{status_of, output}
use Rattle.desk_session.specs.{Lent.lent_by, Lent.outcome}
use Rattle.session_run.specs.{Last.play_refused, Last.record_refused}
use Rattle.session_run.proofs.StreamLemmas.{unread}
use Rattle.session_run.proofs.running.run_opened.Goals as goal

pub returns-in-Ok-clause-runs : goal.returns-in-Ok-clause-runs
returns-in-Ok-clause-runs g c =
    let ran = c.run-ended in
    let e = ran.result.0 in
    let r = e.report in
    let d = ran.result.1 in
    let end = c.finish in
    let track : e.track ≡ (core_of c.args.studio).next_track =
    ran.ensures.track ∙ ap (λ (z : Core g.row.S.Denot). z.next_track) c.in-Ok.ensures.ok.0 in (
      core_of e.studio,
      end.ensures.store,
      inl (record {
        ran = record {
          out = outcome e.opened r;
          mid = g.O.Sink.written d.streams.out.now;
          faults = g.O.Sink.fault_count d.streams.out.now;
          session =
              subst (λ (z : Core g.row.S.Denot). IsSession
              (kinds g.S.Store g.V.Vault g.M.Source g.P.Sink) z (core_of e.studio)
              (lent_by g.A.Source g.O.Sink (change c.args.devices d)) (outcome e.opened r))
              c.in-Ok.ensures.ok.0 ran.ensures.session;
          asked = (
            ran.ensures.asked.0 ∙ ap (λ b. b.records) c.in-Ok.ensures.ok.1,
            ran.ensures.asked.1 ∙ ap (λ b. b.plays) c.in-Ok.ensures.ok.1,
          );
          cause = ran.ensures.cause;
          ended = subst
              (λ (t : ℕ). WritesEnd r.told.stop (output g.O.Sink (change d.streams.out.now end.new.out))
              (last_text (record_line t e.opened.recording r.kept) (play_line e.opened.pin r.heard)
              (core_of e.studio).commit_number)) track end.ensures.ended;
        };
        status_is = end.ensures.status.0
            ∙ ap (λ (t : ℕ). status_of r.told.stop (mic_failed r.kept || speaker_failed r.heard)
            (r.told.refused || (record_refused (record_line t e.opened.recording r.kept)
            || play_refused (play_line e.opened.pin r.heard)))) track;
        opened = end.ensures.status.1;
        first = end.ensures.numbers.0 ∙ c.commit_number-first.ensures;
        last = end.ensures.numbers.1;
        record_is = end.ensures.numbers.2;
        commits = end.ensures.numbers.3;
        pieces = end.ensures.numbers.4;
      }),
    )

pub returns-in-Err-clause-runs : goal.returns-in-Err-clause-runs
returns-in-Err-clause-runs g c = (
  core_of c.args.studio,
  c.refuse.ensures.store ∙ (c.into_store-store.ensures ∙ ap (λ s. (core_of s).store) c.in-Err.ensures.err),
  inr (record {
    refused = record { printed = c.refuse.ensures.printed; done_is = c.refuse.ensures.done };
    unread = (refl, refl);
    idle = (refl, refl);
    same = (refl, refl);
  }),
)

pub returns-in-Ok-clause-reads : goal.returns-in-Ok-clause-reads
returns-in-Ok-clause-reads g c =
    record { course = c.run-ended.ensures.reads.course; goes = c.run-ended.ensures.reads.goes }

pub returns-in-Err-clause-reads : goal.returns-in-Err-clause-reads
returns-in-Err-clause-reads g c = unread g.A.Source c.args.devices.streams.script.now
