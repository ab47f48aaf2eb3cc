-- Layouts of other numbers keep what was said.
use Rattle.record_body.proofs.Common.{sym, layout_blocks}
use Rattle.std.proofs.Common.{⊎_elim}
use Rattle.record_body.proofs.KnownFronts.{of_take}
use Rattle.record_body.proofs.changes.known_front.Goals as goal

pub returns : goal.returns
returns c = ⊎_elim
    (λ same. absurd (c.if-old-new.false (sym same)))
    (λ keeps. of_take c.args.kept.front (layout_blocks c.args.old.now.layout) (layout_blocks c.args.new.now.layout)
    (sym keeps.front))
    c.requires.kept
