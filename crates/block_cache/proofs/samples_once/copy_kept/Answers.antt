-- One page more is copied.
use Rattle.block_cache.proofs.Common.{◌+◌, length, arith, refl, sym, subst, List, ℤ, common_steps, HasPart}
use Rattle.std.proofs.{lemmas.Slice.take-put_mid_below}
use Rattle.block_cache.proofs.CacheLaws.{right_same, same_none, same_turn}
use Rattle.block_cache.proofs.{HitLaws.samples_next, PartLaws.part_more}
use Rattle.block_cache.proofs.samples_once.copy_kept.Goals as goal

pub pages-init : goal.pages-init
pages-init c = record {
  within = omega arith;
  there = λ files right. record {
    header = λ some. absurd (omega arith);
    whole = λ some. absurd (omega arith);
    samples = refl;
  };
  same = same_none _;
}

pub pages-preserved : goal.pages-preserved
pages-preserved c = record {
  within = grind (arith, common_steps);
  there = λ files right. part_more files c.args.block c.args.from c.pages.done c.min.result _ _ c.pages.out
      c.copy_part.new.out c.pages.invariant.within (grind (arith, common_steps)) (grind (arith, common_steps))
      (c.pages.invariant.there files right)
      (c.copy_part.ensures.there files (right_same files _ _ c.pages.invariant.same right) (grind (arith, common_steps)));
  same = same_turn _ _ _ c.pages.invariant.same c.copy_part.ensures.same;
}

-- those before the first page that is not there
pub returns-then-not-copy_part-clause-there : goal.returns-then-not-copy_part-clause-there
returns-then-not-copy_part-clause-there c = λ files right.
    let P : List ℤ → Type 0 = HasPart files c.args.block c.args.from c.pages.done in
    subst P (sym (take-put_mid_below c.pages.done _ c.pages.out c.copy_part.new.out c.pages.done (omega arith)
    c.pages.invariant.within)) (c.pages.invariant.there files right)

pub returns-then-not-copy_part-clause-hit : goal.returns-then-not-copy_part-clause-hit
returns-then-not-copy_part-clause-hit c = λ has.
    absurd (c.copy_part.ensures.missed (grind (arith, common_steps)) (samples_next _ _ c.args.block c.args.from
    (length c.args.out.now) (c.args.from + c.pages.done) c.pages.invariant.same has (omega arith)
    (grind (arith, common_steps))))

pub returns-then-not-copy_part-clause-same : goal.returns-then-not-copy_part-clause-same
returns-then-not-copy_part-clause-same c = same_turn _ _ _ c.pages.invariant.same c.copy_part.ensures.same
