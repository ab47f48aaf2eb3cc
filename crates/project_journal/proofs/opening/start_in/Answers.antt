-- By the front of the file.
use Rattle.project_journal.proofs.Common.{ℕ, ◌∙◌, sym, subst, arith, Files, bytes_of, IsView}
use Rattle.project_journal.proofs.FirstReadings.{opened, starts_window}
use Rattle.project_journal.proofs.opening.start_in.Goals as goal

pub returns-clause-starts : goal.returns-clause-starts
returns-clause-starts g c = λ tells.
    starts_window c.args.file (bytes_of (g.S.Store.reads c.args.store.now c.args.file)) c.in_ok-window.window
    c.start.result c.in_ok-window.ensures.file c.in_ok-window.ensures.first (c.in_ok-window.ensures.view tells)
    c.start.ensures.starts c.start.ensures.reader

pub returns-clause-heading : goal.returns-clause-heading
returns-clause-heading g c =
    let w = c.in_ok-window.window in
    let kept = c.first_window.ensures.kept in
    opened g.S.Store c.first_window.new.store w c.start.result
    (omega (arith, c.in_ok-window.ensures.file, c.requires)) c.in_ok-window.ensures.first c.in_ok-window.ensures.room
    (λ tells.
    subst (λ (n : ℕ). IsView (bytes_of (g.S.Store.reads c.first_window.new.store n)) w)
    (sym c.in_ok-window.ensures.file)
    (subst (λ (f : Files). IsView (bytes_of (f c.args.file)) w) (sym kept.same_reads)
    (c.in_ok-window.ensures.view (sym kept.same_tells ∙ tells))))
    c.start.ensures.starts c.start.ensures.reader
