-- A number without a list gets one.
use Rattle.layout_uses.proofs.Common.{sym, ◌∙◌, layout_blocks, list_of}
use Rattle.layout_uses.proofs.Stays.{none_so, other_list}
use Rattle.layout_uses.proofs.blocks.is_listed.Goals as goal

pub list_clips-requires-clause-kept : goal.list_clips-requires-clause-kept
list_clips-requires-clause-kept c =
    let l = c.args.ledger.now in
    other_list c.args.kept l c.args.base c.args.number (layout_blocks c.args.clips.now) c.requires.kept
    (none_so (list_of l c.args.number) (sym c.if-has_list.false ∙ c.has_list.ensures))
