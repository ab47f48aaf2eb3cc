-- The last clip is the one at the last place.
use Rattle.record_body.proofs.Common.{sym, ap, ◌∙◌, Clip}
use Rattle.record_body.proofs.Commons.{last_at}
use Rattle.record_body.proofs.changes.last_blocks.Goals as goal

pub returns : goal.returns
returns c =
    ap (λ (k : Clip). k.blocks) (sym c.index-clips-clips.is)
    ∙ sym (last_at c.args.clips.now c.index-clips-clips.result c.requires c.index-clips-clips.is).blocks
