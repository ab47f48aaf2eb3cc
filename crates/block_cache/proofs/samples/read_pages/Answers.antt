-- One page more is read.
use Rattle.block_cache.proofs.Common.{◌≡◌, ◌≤◌, ◌<◌, ◌+◌, ◌-◌, ◌*◌, ◌/◌, ◌%◌, ℕ, length, arith, ◌∙◌, sym, subst, refl}
use Rattle.block_cache.proofs.Common.{min, common_steps, Files, bytes_of, tells_on, kept_turn, kept_none, HasHeader}
use Rattle.block_cache.proofs.Common.{page_end, samples_on}
use Rattle.block_cache.proofs.CacheLaws.{keeps_before, keeps_same, keeps_turn, same_none, same_turn}
use Rattle.block_cache.proofs.HitLaws.{samples_next}
use Rattle.block_cache.proofs.samples.read_pages.Goals as goal

-- the page of the last item so far ends where it did
whole_more : (was now : Files) (id len from done n : ℕ) → now ≡ was → 0 < n → (from + done) % 4096 + n ≤ 4096
    → 16 + 2 * page_end 4096 len (from + done) ≤ length (bytes_of (now id))
    → 16 + 2 * page_end 4096 len (from + (done + n) - 1) ≤ length (bytes_of (was id))
whole_more was now id len from done n same some one got =
    let there : 16 + 2 * page_end 4096 len (from + done) ≤ length (bytes_of (was id)) =
    subst (λ (f : Files). 16 + 2 * page_end 4096 len (from + done) ≤ length (bytes_of (f id))) same got in
    let page : (from + (done + n) - 1) / 4096 ≡ (from + done) / 4096 = omega arith in
    subst (λ (p : ℕ). 16 + 2 * min len (4096 * (p + 1)) ≤ length (bytes_of (was id))) (sym page) there

pub pages-init : goal.pages-init
pages-init g c = record {
  within = omega arith;
  kept = kept_none _ (g.met.S.Store.may_fewer _);
  count = refl;
  cache = keeps_same (same_none _);
  hit = λ has. (refl, same_none _);
  header = λ told some. absurd (omega arith);
  whole = λ told some. absurd (omega arith);
  samples = λ told. refl;
}

pub returns-in-Err-clause-kept : goal.returns-in-Err-clause-kept
returns-in-Err-clause-kept g c = kept_turn c.pages.invariant.kept c.read_page.ensures.kept

pub returns-in-Err-clause-hit : goal.returns-in-Err-clause-hit
returns-in-Err-clause-hit g c = λ has.
    let before = c.pages.invariant.hit has in
    let on = c.in-Err.ensures.hit (samples_next _ _ c.args.block c.args.from (length c.args.out.now)
    (c.args.from + c.pages.done) before.1 has (omega arith) (grind (arith, common_steps))) in
    (on.0, on.1 ∙ before.0, same_turn _ _ _ before.1 on.2)

pub pages-preserved : goal.pages-preserved
pages-preserved g c = record {
  within = grind (arith, common_steps);
  kept = kept_turn c.pages.invariant.kept c.read_page.ensures.kept;
  count = c.in_default.ensures.faults ∙ c.pages.invariant.count;
  cache = keeps_turn _ _ _ _ _ _ c.pages.invariant.cache
      (keeps_before c.args.store.now c.pages.store _ _ _ c.pages.invariant.kept c.read_page.ensures.cache);
  hit = λ has.
      let before = c.pages.invariant.hit has in
      let on = c.read_page.ensures.hit (samples_next _ _ c.args.block c.args.from (length c.args.out.now)
      (c.args.from + c.pages.done) before.1 has (omega arith) (grind (arith, common_steps))) in
      (on.1 ∙ before.0, same_turn _ _ _ before.1 on.2);
  header = λ told some.
      let still = tells_on c.pages.invariant.kept told in
      subst (λ (f : Files). HasHeader c.args.block.id c.args.block.len (bytes_of (f c.args.block.id)))
      c.pages.invariant.kept.same_reads (c.in_default.ensures.header still);
  whole = λ told some.
      let still = tells_on c.pages.invariant.kept told in
      whole_more (g.S.Store.reads c.args.store.now) (g.S.Store.reads c.pages.store) c.args.block.id c.args.block.len
      c.args.from c.pages.done c.min.result c.pages.invariant.kept.same_reads (grind (arith, common_steps))
      (grind (arith, common_steps)) (c.in_default.ensures.whole still);
  samples = λ told.
      let still = tells_on c.pages.invariant.kept told in
      samples_on (g.S.Store.reads c.args.store.now) (g.S.Store.reads c.pages.store) c.args.block.id
      (16 + 2 * c.args.from) c.args.from c.pages.done c.min.result _ _ c.pages.out c.read_page.new.out
      c.pages.invariant.kept.same_reads c.pages.invariant.within refl (c.pages.invariant.samples told)
      (c.in_default.ensures.samples still) (grind (arith, common_steps));
}
