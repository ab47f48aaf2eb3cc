-- What is known of the last clip comes after the blocks of the others.
use Rattle.record_body.proofs.KnownFronts.{clips_front, last_known}
use Rattle.record_body.proofs.changes.same_but_last.Goals as goal

pub same_clips-requires : goal.same_clips-requires
same_clips-requires c = record { known = clips_front c.args.front c.args.old.now c.args.new.now c.requires.known }

pub returns-clause-left : goal.returns-clause-left
returns-clause-left c =
    last_known c.same_clips.result c.args.front c.args.old.now c.args.new.now c.same_clips.ensures.value
    c.same_clips.ensures.left c.requires.known
