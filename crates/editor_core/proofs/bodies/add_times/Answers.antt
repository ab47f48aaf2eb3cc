-- One record more.
use Rattle.editor_core.proofs.Common.{◌≡◌, ◌∙◌, ℕ, List, [], ◌∷◌, ◌++◌, replicate, subst, sym, ap, append_assoc, arith}
use Rattle.editor_core.proofs.Common.{append-nil, AreWaiting}
use Rattle.project_journal.proofs.Together.{waiting_more}
use Rattle.editor_commits.proofs.RecordRows.{times_more}
use Rattle.editor_core.proofs.bodies.add_times.Goals as goal

pub rows-init : goal.rows-init
rows-init c = λ bodies are. subst (λ (bs : List (List ℕ)). AreWaiting c.args.rows.now.items bs)
    (sym (append-nil bodies)) are

pub rows-preserved : goal.rows-preserved
rows-preserved c = λ bodies are.
    subst (λ (bs : List (List ℕ)). AreWaiting c.add_record.new.rows.items bs)
    (append_assoc bodies (replicate c.rows.i c.args.body.now) (c.args.body.now ∷ [])
    ∙ ap (λ (l : List (List ℕ)). bodies ++ l) (times_more c.rows.i c.args.body.now))
    (waiting_more c.rows.rows.items c.add_record.new.rows.items (bodies ++ replicate c.rows.i c.args.body.now)
    c.args.body.now (c.rows.invariant bodies are) c.requires c.in_ok-add_record.ensures.row)

pub returns : goal.returns
returns c = λ bodies are.
    let all : c.rows.i ≡ c.args.count = omega (arith, c.rows-test.false, c.rows.auto.i-end) in
    subst (λ (n : ℕ). AreWaiting c.rows.rows.items (bodies ++ replicate n c.args.body.now)) all
    (c.rows.invariant bodies are)
