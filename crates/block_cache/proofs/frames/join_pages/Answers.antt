-- Those of one page more are joined.
use Rattle.block_cache.proofs.Common.{◌+◌, arith, ◌∙◌, subst, refl, common_steps, Files, bytes_of, tells_on}
use Rattle.block_cache.proofs.Common.{kept_turn, kept_none, HasHeader}
use Rattle.block_cache.proofs.CacheLaws.{keeps_before, keeps_same, keeps_turn, same_none, same_turn}
use Rattle.block_cache.proofs.PageLaws.{ends_on, joined_on}
use Rattle.block_cache.proofs.HitLaws.{frames_next}
use Rattle.block_cache.proofs.frames.join_pages.Goals as goal

pub pages-init : goal.pages-init
pages-init g c = record {
  within = omega arith;
  kept = kept_none _ (g.met.S.Store.may_fewer _);
  faults = refl;
  cache = keeps_same (same_none _);
  hit = λ has. (refl, same_none _);
  header = λ told some. absurd (omega arith);
  whole = λ told some. absurd (omega arith);
  sum = λ told. refl;
}

pub returns-in-Err-clause-kept : goal.returns-in-Err-clause-kept
returns-in-Err-clause-kept g c = kept_turn c.pages.invariant.kept c.join_page.ensures.kept

pub returns-in-Err-clause-cache : goal.returns-in-Err-clause-cache
returns-in-Err-clause-cache g c = keeps_turn _ _ _ _ _ _ c.pages.invariant.cache
    (keeps_before c.args.store.now c.pages.store _ _ _ c.pages.invariant.kept c.join_page.ensures.cache)

pub returns-in-Err-clause-hit : goal.returns-in-Err-clause-hit
returns-in-Err-clause-hit g c = λ has.
    let before = c.pages.invariant.hit has in
    let on = c.in-Err.ensures.hit (frames_next _ _ c.args.part.level c.args.part.block c.args.part.from c.args.count
    (c.args.part.from + c.pages.done) before.1 has (omega arith) (grind (arith, common_steps))) in
    (on.0, on.1 ∙ before.0, same_turn _ _ _ before.1 on.2)

pub pages-preserved : goal.pages-preserved
pages-preserved g c = record {
  within = grind (arith, common_steps);
  kept = kept_turn c.pages.invariant.kept c.join_page.ensures.kept;
  faults = c.in-Ok.ensures.faults ∙ c.pages.invariant.faults;
  cache = keeps_turn _ _ _ _ _ _ c.pages.invariant.cache
      (keeps_before c.args.store.now c.pages.store _ _ _ c.pages.invariant.kept c.join_page.ensures.cache);
  hit = λ has.
      let before = c.pages.invariant.hit has in
      let on = c.join_page.ensures.hit (frames_next _ _ c.args.part.level c.args.part.block c.args.part.from c.args.count
      (c.args.part.from + c.pages.done) before.1 has (omega arith) (grind (arith, common_steps))) in
      (on.1 ∙ before.0, same_turn _ _ _ before.1 on.2);
  header = λ told some.
      let still = tells_on c.pages.invariant.kept told in
      subst (λ (f : Files). HasHeader c.args.part.block.id c.args.part.block.len (bytes_of (f c.args.part.block.id)))
      c.pages.invariant.kept.same_reads (c.in-Ok.ensures.header still);
  whole = λ told some.
      let still = tells_on c.pages.invariant.kept told in
      ends_on (g.S.Store.reads c.args.store.now) (g.S.Store.reads c.pages.store) c.args.part.once c.args.part.level
      c.args.part.block c.args.part.from c.pages.done _ _ c.pages.invariant.kept.same_reads
      (c.in-Ok.ensures.whole still) refl;
  sum = λ told.
      let still = tells_on c.pages.invariant.kept told in
      c.in-Ok.ensures.sum still ∙ joined_on (g.S.Store.reads c.args.store.now) (g.S.Store.reads c.pages.store)
      c.args.part.level c.args.part.block c.args.part.from c.pages.done _ c.pages.all c.pages.invariant.kept.same_reads
      (c.pages.invariant.sum told);
}
