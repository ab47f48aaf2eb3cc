-- The first test that fails is the one that is told.
use Rattle.journal_replay.proofs.Common.{◌≡◌, ◌∙◌, ap, purged, out_of_range}
use Rattle.journal_replay.proofs.Valid.{purge_finds}
use Rattle.record_body.specs.declared.limits.BadBody.TheVariants as bad
use Rattle.journal_replay.proofs.steps.drop_oldest.Goals as goal

pub returns-in-Err : goal.returns-in-Err
returns-in-Err c =
    let e = c.in-Err.ensures.err in
    let P : Unit {0} → Type 0 = λ _. c.purge.new.self.history ≡ purged c.args.history.now.history c.args.n in
    purge_finds P c.args.history.now.history c.args.at c.args.n c.out_of_range.result e.1
    (c.out_of_range.ensures
    ∙ ap (λ n. bad.Damaged (out_of_range c.args.at c.args.n n))
    (c.cursor.ensures.cursor ∙ ap (λ h. h.history.cursor) e.2))
