-- Sorted, and then each once.
use Rattle.editor_core.proofs.Common.{rules, sym, subst, BlockRef}
use Rattle.std.proofs.{lemmas.List.Filters.dedup_is, lemmas.List.Sorted.IsNonDecreasingBy-from_sort_by_key}
use Rattle.editor_views.specs.Scans.{AreListed}
use Rattle.editor_views.proofs.SortedBlocks.{are_listed}
use Rattle.editor_core.proofs.scans.by_id.Goals as goal

pub returns : goal.returns
returns c =
    let rising = IsNonDecreasingBy-from_sort_by_key (λ (b : BlockRef). b.id) _ c.sort_unstable_by_key.ensures.sorted
    (λ a r q k. search rules) in
    let is = dedup_is _ _ _ c.dedup.ensures.filtered in
    subst (AreListed c.args.blocks.items) (sym is)
    (are_listed c.args.blocks.items _ c.sort_unstable_by_key.ensures.permutation rising)
