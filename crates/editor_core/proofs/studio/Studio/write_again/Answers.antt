-- The same record as often as it is asked for.
use Rattle.editor_core.proofs.Common.{◌≡◌, ◌∙◌, ap, [], List, ℕ, subst, sym, with_point, Body, current_tracks}
use Rattle.editor_core.proofs.Common.{BodyAgrees, again_agrees, body_bytes, core_of}
use Rattle.std.proofs.lemmas.Result.{on_ok_weaker}
use Rattle.editor_commits.proofs.RecordRows.{again_waits}
use Rattle.editor_core.proofs.KeptBodies.{body_keeps_none}
use Rattle.editor_core.proofs.studio.Studio.write_again.Goals as goal

pub write_record-requires-clause-numbers : goal.write_record-requires-clause-numbers
write_record-requires-clause-numbers g c =
    let current = current_tracks (core_of c.args.self.now).history in
    subst (λ (b : Body). BodyAgrees current b) (sym c.in_ok-again.ensures)
    (again_agrees current c.args.body.now c.requires.again)

pub write_record-requires-clause-kept : goal.write_record-requires-clause-kept
write_record-requires-clause-kept g c =
    body_keeps_none c.none.result (current_tracks (core_of c.args.self.now).history) c.in_ok-again.again
    c.none.ensures.front c.none.ensures.back

pub returns-clause-rows : goal.returns-clause-rows
returns-clause-rows g c =
    let s = core_of c.args.self.now in
    let current = current_tracks s.history in
    let body = c.args.body.now in
    let empty : c.write_record.new.self.row.items ≡ [] =
    ◌∙◌ {A = List ℕ} (λ i. (c.write_record.ensures.row i).items) c.clear.ensures.items in
    let written : c.deref.result.now ≡ body_bytes s (with_point current body) =
    ◌∙◌ {A = List ℕ} c.deref.ensures.value (◌∙◌ {A = List ℕ} c.in_ok-write_record.ensures.body
    (ap (λ (b : Body). body_bytes s b) c.in_ok-again.ensures)) in
    on_ok_weaker c.add_times.result
    (again_waits s.version current body c.args.more c.write_record.new.self.row.items c.add_times.new.rows.items
    c.deref.result.now empty written) c.add_times.ensures
