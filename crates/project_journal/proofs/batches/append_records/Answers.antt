-- The rows are records more.
use Rattle.project_journal.proofs.Common.{◌∙◌, refl, arith, changed_none}
use Rattle.project_journal.proofs.{Changes.append_changed, Together.tail_is, Together.row_length}
use Rattle.project_journal.proofs.Together as together
use Rattle.project_journal.proofs.batches.append_records.Goals as goal

pub returns-in_err-add-clause-any_moment : goal.returns-in_err-add-clause-any_moment
returns-in_err-add-clause-any_moment g c = together.any_moment g.S.Store _ _ c.args.file c.args.at c.args.rows.now.items _ _
    c.requires (tail_is _ _ (c.deref.ensures.value ∙ c.in_ok-extend_from_slice.ensures.items)) c.add.ensures.changed
    c.add.ensures.any_moment

pub returns-clause-any_moment : goal.returns-clause-any_moment
returns-clause-any_moment g c = together.any_moment g.S.Store _ _ c.args.file c.args.at c.args.rows.now.items _ _
    c.requires (tail_is _ _ (c.deref.ensures.value ∙ c.in_ok-extend_from_slice.ensures.items)) c.add.ensures.changed
    c.add.ensures.any_moment

pub returns-clause-done : goal.returns-clause-done
returns-clause-done g c = together.done g.S.Store _ _ c.args.file c.args.at c.args.rows.now.items _ _
    c.requires (tail_is _ _ (c.deref.ensures.value ∙ c.in_ok-extend_from_slice.ensures.items)) c.add.ensures.changed
    c.in_ok-next.next (omega (arith, c.in_ok-next.ensures.ok.0, c.len.ensures, c.requires)) c.in_ok-add.ensures.done
    c.in_ok-add.ensures.durable

pub returns-in_err-next-clause-changed : goal.returns-in_err-next-clause-changed
returns-in_err-next-clause-changed g c = changed_none _ (λ d o ne. refl) (g.met.S.Store.may_fewer _)

pub returns-in_err-extend_from_slice-clause-changed : goal.returns-in_err-extend_from_slice-clause-changed
returns-in_err-extend_from_slice-clause-changed g c = changed_none _ (λ d o ne. refl) (g.met.S.Store.may_fewer _)

pub returns-in_err-add-clause-changed : goal.returns-in_err-add-clause-changed
returns-in_err-add-clause-changed g c = append_changed _
    (row_length _ _ (c.deref.ensures.value ∙ c.in_ok-extend_from_slice.ensures.items) c.requires) c.add.ensures.changed

pub returns-clause-changed : goal.returns-clause-changed
returns-clause-changed g c = append_changed _
    (row_length _ _ (c.deref.ensures.value ∙ c.in_ok-extend_from_slice.ensures.items) c.requires) c.add.ensures.changed
