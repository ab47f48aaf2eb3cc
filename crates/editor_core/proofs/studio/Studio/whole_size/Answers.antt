-- The lengths of records that come together, written out whole.
use Rattle.editor_core.proofs.Common.{current_tracks, core_of, whole_total}
use Rattle.editor_core.proofs.studio.Studio.whole_size.Goals as goal

pub returns-clause-value : goal.returns-clause-value
returns-clause-value g c =
    let s = core_of c.args.self.now in
    whole_total (current_tracks s.history) c.args.body.now c.in_ok-again.again c.args.more c.body_len-2.result
    c.body_len-3.result c.len_together.result c.in_ok-again.ensures c.body_len-2.ensures.value
    c.body_len-3.ensures.value c.len_together.ensures.value
