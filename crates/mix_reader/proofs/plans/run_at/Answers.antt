-- The first block that is left has the first cells of the stretch.
use Rattle.mix_reader.proofs.Common.{◌++◌, List, drop, get_or, ap, arith}
use Rattle.std.proofs.lemmas.List.{drop_more}
use Rattle.pcm_base.specs.declared.block.BlockRef.{BlockRef}
use Rattle.block_sequence.specs.Rows.{flat}
use Rattle.cell_reader.specs.declared.rest.TrackRest.{TrackRest}
use Rattle.mix_reader.proofs.PlanLaws.{first_alone}
use Rattle.mix_reader.proofs.plans.run_at.Goals as goal

pub returns-else-block-skip-clause-alone : goal.returns-else-block-skip-clause-alone
returns-else-block-skip-clause-alone c =
    let r : TrackRest = c.rest_at-rest.result in
    let none : BlockRef = record { id = 0; len = 0 } in
    let more : List BlockRef = flat r.rows.now in
    first_alone c.args.from c.min.result c.args.layout.now r (get_or r.blocks.now 0 none) (drop 1 r.blocks.now ++ more)
    c.in_ok-skip-in-len1-up.skip c.rest_at-rest.ensures.rest
    (ap (λ (bs : List BlockRef). bs ++ more) (drop_more r.blocks.now 0 none c.in-len1-up.len_at_least)) (omega arith) (omega arith) (omega arith)
