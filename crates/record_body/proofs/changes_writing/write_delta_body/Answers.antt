-- The tracks of an edit are those of its point.
use Rattle.record_body.proofs.Common.{subst, Body, BodyAgrees}
use Rattle.record_body.specs.Numbers.{BodyKeeps}
use Rattle.record_body.proofs.changes_writing.write_delta_body.Goals as goal

pub write_edit_by-requires-clause-numbers : goal.write_edit_by-requires-clause-numbers
write_edit_by-requires-clause-numbers c =
    subst (λ (b : Body). BodyAgrees c.args.current.now b) c.in-Edit.is c.requires.numbers

pub write_edit_by-requires-clause-kept : goal.write_edit_by-requires-clause-kept
write_edit_by-requires-clause-kept c =
    subst (λ (b : Body). BodyKeeps c.args.kept c.args.current.now b) c.in-Edit.is c.requires.kept
