-- What holds of the table holds whatever comes.
use Rattle.row_ledger.proofs.laying.new_ids.Goals as goal

pub returns-in_err-append_ids-clause-there : goal.returns-in_err-append_ids-clause-there
returns-in_err-append_ids-clause-there c = c.alloc.ensures.there

pub returns-in_err-extend_from_slice-clause-there : goal.returns-in_err-extend_from_slice-clause-there
returns-in_err-extend_from_slice-clause-there c = c.alloc.ensures.there

pub returns-in_err-append_ids-2-clause-there : goal.returns-in_err-append_ids-2-clause-there
returns-in_err-append_ids-2-clause-there c = c.alloc.ensures.there

pub returns-clause-there : goal.returns-clause-there
returns-clause-there c = c.alloc.ensures.there
