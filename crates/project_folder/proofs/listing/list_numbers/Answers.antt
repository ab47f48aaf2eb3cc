use Rattle.std.proofs.{lemmas.List.Filters.dedup_is, lemmas.Map.Keys.IsStrictlyIncreasing-dedup}
use Rattle.project_folder.proofs.listing.list_numbers.Goals as goal

-- Sorted numbers without what is there twice rise.
pub returns : goal.returns
returns g c =
    let is = dedup_is _ _ _ c.dedup.ensures.filtered in
    record { rising = rw is (IsStrictlyIncreasing-dedup _ c.sort_unstable.ensures.sorted) }
