-- The last record comes after those that say the current point.
use Rattle.editor_core.proofs.Common.{◌≡◌, ◌∙◌, ap, ℕ, List, [], ◌∷◌, ◌++◌, length, arith, subst, sym, Stored, Track}
use Rattle.editor_core.proofs.Common.{current_tracks, BodyAgrees, body_bytes, Core, core_of}
use Rattle.project_journal.specs.Journal.{opened}
use Rattle.record_body.specs.Numbers.{BodyKeeps}
use Rattle.editor_commits.proofs.RecordRows.{all_wait, last_short}
use Rattle.editor_core.proofs.studio.Studio.write_records.Goals as goal

pub write_record-requires-clause-numbers : goal.write_record-requires-clause-numbers
write_record-requires-clause-numbers g c =
    subst (λ (h : Stored (List Track)). BodyAgrees (current_tracks h.history) c.args.body.now)
    (sym c.write_again.ensures.history) c.requires.numbers

pub write_record-requires-clause-kept : goal.write_record-requires-clause-kept
write_record-requires-clause-kept g c =
    subst (λ (h : Stored (List Track)). BodyKeeps c.args.kept (current_tracks h.history) c.args.body.now)
    (sym c.write_again.ensures.history) c.requires.kept

pub add_record-requires : goal.add_record-requires
add_record-requires g c =
    let s = core_of c.args.self.now in
    let body = c.args.body.now in
    let written : c.deref.result.now ≡ body_bytes s body =
    ◌∙◌ {A = List ℕ} c.deref.ensures.value (◌∙◌ {A = List ℕ} c.in_ok-write_record.ensures.body
    (ap (λ (z : Core g.row.S.Denot). body_bytes z body) c.write_again.ensures.same)) in
    omega (
      arith,
      ap length written,
      last_short s.version (current_tracks s.history) body c.args.more c.requires.short,
    )

pub returns-clause-rows : goal.returns-clause-rows
returns-clause-rows g c =
    let s = core_of c.args.self.now in
    let body = c.args.body.now in
    let written : c.deref.result.now ≡ body_bytes s body =
    ◌∙◌ {A = List ℕ} c.deref.ensures.value (◌∙◌ {A = List ℕ} c.in_ok-write_record.ensures.body
    (ap (λ (z : Core g.row.S.Denot). body_bytes z body) c.write_again.ensures.same)) in
    all_wait s.version (current_tracks s.history) body c.args.more c.write_again.new.self.row.items
    c.reserve.new.self.items c.deref.result.now c.in_ok-write_again.ensures.rows written c.requires.short
    (◌∙◌ {A = List ℕ} c.reserve.ensures.items (◌∙◌ {A = List ℕ} c.in_ok-add_record.ensures.row
    (λ i. (c.write_record.ensures.row i).items ++ opened (c.deref.result.now ∷ []))))
