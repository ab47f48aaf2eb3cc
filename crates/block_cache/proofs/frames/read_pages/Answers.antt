-- One page more is read.
use Rattle.block_cache.proofs.Common.{◌+◌, length, arith, ◌∙◌, subst, refl, common_steps, Files, bytes_of, tells_on}
use Rattle.block_cache.proofs.Common.{kept_turn, kept_none, HasHeader}
use Rattle.block_cache.proofs.CacheLaws.{keeps_before, keeps_same, keeps_turn, same_none, same_turn}
use Rattle.block_cache.proofs.PageLaws.{ends_on}
use Rattle.block_cache.proofs.HitLaws.{frames_next}
use Rattle.block_store.proofs.PieceLaws.{frames_on}
use Rattle.block_cache.proofs.frames.read_pages.Goals as goal

pub pages-init : goal.pages-init
pages-init g c = record {
  within = omega arith;
  kept = kept_none _ (g.met.S.Store.may_fewer _);
  count = refl;
  cache = keeps_same (same_none _);
  hit = λ has. (refl, same_none _);
  header = λ told some. absurd (omega arith);
  whole = λ told some. absurd (omega arith);
  frames = λ told. refl;
}

pub returns-in-Err-clause-kept : goal.returns-in-Err-clause-kept
returns-in-Err-clause-kept g c = kept_turn c.pages.invariant.kept c.read_page.ensures.kept

pub returns-in-Err-clause-hit : goal.returns-in-Err-clause-hit
returns-in-Err-clause-hit g c = λ has.
    let before = c.pages.invariant.hit has in
    let on = c.in-Err.ensures.hit (frames_next _ _ c.args.part.level c.args.part.block c.args.part.from (length c.args.out.now)
    (c.args.part.from + c.pages.done) before.1 has (omega arith) (grind (arith, common_steps))) in
    (on.0, on.1 ∙ before.0, same_turn _ _ _ before.1 on.2)

pub pages-preserved : goal.pages-preserved
pages-preserved g c = record {
  within = grind (arith, common_steps);
  kept = kept_turn c.pages.invariant.kept c.read_page.ensures.kept;
  count = c.in_default.ensures.faults ∙ c.pages.invariant.count;
  cache = keeps_turn _ _ _ _ _ _ c.pages.invariant.cache
      (keeps_before c.args.store.now c.pages.store _ _ _ c.pages.invariant.kept c.read_page.ensures.cache);
  hit = λ has.
      let before = c.pages.invariant.hit has in
      let on = c.read_page.ensures.hit (frames_next _ _ c.args.part.level c.args.part.block c.args.part.from (length c.args.out.now)
      (c.args.part.from + c.pages.done) before.1 has (omega arith) (grind (arith, common_steps))) in
      (on.1 ∙ before.0, same_turn _ _ _ before.1 on.2);
  header = λ told some.
      let still = tells_on c.pages.invariant.kept told in
      subst (λ (f : Files). HasHeader c.args.part.block.id c.args.part.block.len (bytes_of (f c.args.part.block.id)))
      c.pages.invariant.kept.same_reads (c.in_default.ensures.header still);
  whole = λ told some.
      let still = tells_on c.pages.invariant.kept told in
      ends_on (g.S.Store.reads c.args.store.now) (g.S.Store.reads c.pages.store) c.args.part.once c.args.part.level
      c.args.part.block c.args.part.from c.pages.done c.min.result _ c.pages.invariant.kept.same_reads
      (c.in_default.ensures.whole still) (grind (arith, common_steps));
  frames = λ told.
      let still = tells_on c.pages.invariant.kept told in
      frames_on (g.S.Store.reads c.args.store.now) (g.S.Store.reads c.pages.store) c.args.part.block.id
      c.args.part.level c.args.part.block.len c.args.part.from c.pages.done c.min.result _ _ c.pages.out c.read_page.new.out
      c.pages.invariant.kept.same_reads c.pages.invariant.within (c.pages.invariant.frames told)
      (c.in_default.ensures.frames still) (grind (arith, common_steps));
}
