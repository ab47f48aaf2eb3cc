-- What a look-up finds is an entry.
use Rattle.block_cache.proofs.Common.{arith, ◌+◌, ◌-◌, length, ◌≡◌, take, drop, ◌∙◌, sym, ap}
use Rattle.block_cache.proofs.KeyLaws.{found_there, missed_there, promoted_same}
use Rattle.block_cache.proofs.pages.copy_page.Goals as goal

pub returns-in-Some-clause-there : goal.returns-in-Some-clause-there
returns-in-Some-clause-there g c = λ _.
    let n = length c.args.out.now in
    let size : c.args.skip + n - c.args.skip ≡ n = omega arith in (
      c.in-Some.page.now,
      found_there c.args.key c.args.pages.now.entries c.in-Some.page.now (sym c.in-Some.ensures.value),
      c.copy_from_slice.ensures.after ∙ ap (λ m. take m (drop c.args.skip c.deref.result.now)) size
          ∙ ap (λ ys. take n (drop c.args.skip ys)) c.deref.ensures.value,
    )

pub returns-in-Some-clause-same : goal.returns-in-Some-clause-same
returns-in-Some-clause-same g c = promoted_same c.args.key _ _ (ap (λ m. m.entries) c.get.follows.holds-at-none)

pub returns-in-None-clause-missed : goal.returns-in-None-clause-missed
returns-in-None-clause-missed g c = λ _. missed_there c.args.key c.args.pages.now.entries (sym c.in-None.ensures.value)

pub returns-in-None-clause-same : goal.returns-in-None-clause-same
returns-in-None-clause-same g c = promoted_same c.args.key _ _ (ap (λ m. m.entries) c.get.follows.holds-at-none)

pub overflow_add-skip : goal.overflow_add-skip
overflow_add-skip g c =
    let fits = c.requires c.in-Some.page.now (found_there c.args.key c.args.pages.now.entries c.in-Some.page.now (sym
    c.in-Some.ensures.value)) in
    let small = c.deref.type_inv.0 in
    let size = ap length c.deref.ensures.value in
    omega arith

pub offset_bounds-deref-skip : goal.offset_bounds-deref-skip
offset_bounds-deref-skip g c =
    let fits = c.requires c.in-Some.page.now (found_there c.args.key c.args.pages.now.entries c.in-Some.page.now (sym
    c.in-Some.ensures.value)) in
    let size = ap length c.deref.ensures.value in
    omega arith

pub slice_bounds-copy_from_slice-end : goal.slice_bounds-copy_from_slice-end
slice_bounds-copy_from_slice-end g c =
    let fits = c.requires c.in-Some.page.now (found_there c.args.key c.args.pages.now.entries c.in-Some.page.now (sym
    c.in-Some.ensures.value)) in
    let size = ap length c.deref.ensures.value in
    search (arith, fits, size)
