-- A layout of the old number brings nothing new.
use Rattle.editor_recovery.proofs.Common.{sym, layout_blocks, size_in}
use Rattle.editor_recovery.proofs.Searched.{nothing_new}
use Rattle.editor_recovery.proofs.sizes.wrong_layout.Goals as goal

pub returns-then-old-track : goal.returns-then-old-track
returns-then-old-track c =
    sym (nothing_new (size_in c.args.sizes.now) c.args.found (layout_blocks c.args.track.now.layout)
    (rw (c.requires.numbered (sym c.if-old-track.true)) c.requires.searched))
