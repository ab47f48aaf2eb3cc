-- One frame more is stored, and at the end they are those of the run.
use Rattle.block_cache.proofs.Common.{◌+◌, ◌∙◌, ap, arith, length, sym}
use Rattle.std.proofs.lemmas.List.{take_all, take_more_set}
use Rattle.std.proofs.lemmas.List.FromFn.{map-range_with_len_more}
use Rattle.std.specs.{Prelude.map, List.range_with_len}
use Rattle.block_cache.specs.Pages.{run_frame}
use Rattle.block_cache.proofs.RunLaws.{made_cut}
use Rattle.block_cache.proofs.runs.copy_run.Goals as goal

pub loop-i-preserved : goal.loop-i-preserved
loop-i-preserved c =
    let r = c.args.run in
    let more = map-range_with_len_more (run_frame c.args.bytes.now r.level r.block.len r.from) c.args.skip c.loop-i.i
    (c.args.skip + c.loop-i.i) (omega arith) in
    let stored = take_more_set c.loop-i.out c.loop-i.i c.frame_of.result (omega arith) in
    cc

pub returns : goal.returns
returns c =
    let r = c.args.run in
    let f = run_frame c.args.bytes.now r.level r.block.len r.from in
    sym (take_all c.loop-i.i c.loop-i.out (omega arith)) ∙ c.loop-i.invariant
    ∙ ap (λ n. map f (range_with_len c.args.skip n)) (omega arith)
    ∙ sym (made_cut f r.count c.args.skip (length c.args.out.now) c.requires.there)
