-- A new project on a disk without blocks.
use Rattle.std.proofs.Common.{◌∙◌, ap, refl, List, arith}
use Rattle.pcm_base.specs.History.{history_of_one}
use Rattle.project_state.specs.declared.track.Track.{Track}
use Rattle.editor_core.proofs.NewProjects.{fresh_parts}
use Rattle.core_examples.proofs.tests.new_studio.Goals as goal

pub assemble-requires : goal.assemble-requires
assemble-requires g c =
    let depth = c.args.depth in
    let history = c.in-Ok.ensures.ok ∙ ap (λ (ts : List Track). history_of_one ts 0 depth) c.new.ensures in
    let tally = c.new-3.ensures in
    fresh_parts 8000 4 depth c.in-Ok.history c.new-3.result history tally.counted tally.none (record {
      rate_least = omega arith;
      even = refl;
      block_least = omega arith;
      block_most = omega arith;
      depth_least = c.requires.depth.0;
      depth_most = c.requires.depth.1;
    })
