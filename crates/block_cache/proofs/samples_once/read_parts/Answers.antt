-- Those that are kept, and then the others.
use Rattle.block_cache.proofs.Common.{length, arith, common_steps, kept_none}
use Rattle.std.proofs.{lemmas.Result.on_ok_weaker}
use Rattle.block_cache.proofs.{CacheLaws.keeps_same, CacheLaws.keeps_turn, CacheLaws.right_same, PartLaws.part_rest}
use Rattle.block_cache.proofs.samples_once.read_parts.Goals as goal

pub read_alone-requires-clause-cached : goal.read_alone-requires-clause-cached
read_alone-requires-clause-cached g c = λ told. right_same _ _ _ c.copy_kept-done.ensures.same (c.requires.cached told)

pub returns-then-done-out-clause-cache : goal.returns-then-done-out-clause-cache
returns-then-done-out-clause-cache g c = keeps_same c.copy_kept-done.ensures.same

pub returns-then-done-out-clause-kept : goal.returns-then-done-out-clause-kept
returns-then-done-out-clause-kept g c = kept_none _ (g.met.S.Store.may_fewer _)

pub returns-clause-cache : goal.returns-clause-cache
returns-clause-cache g c = keeps_turn _ _ _ c.args.cache.now c.copy_kept-done.new.cache c.read_alone.new.cache
    (keeps_same c.copy_kept-done.ensures.same) c.read_alone.ensures.cache

pub returns-clause-samples : goal.returns-clause-samples
returns-clause-samples g c = λ told.
    let files = g.S.Store.reads c.args.store.now in
    on_ok_weaker c.read_alone.result
    (λ got. part_rest files c.args.block c.args.from c.copy_kept-done.result (length c.args.out.now) _ _
    c.copy_kept-done.new.out c.read_alone.new.out (grind (arith, common_steps)) (grind (arith, common_steps))
    (grind (arith, common_steps)) (c.copy_kept-done.ensures.there files (c.requires.cached told)) got)
    (c.read_alone.ensures.samples told)
