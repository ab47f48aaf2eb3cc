-- The goals of `lay_run` that the search leaves open.
use Rattle.std.proofs.Common.{◌≡◌, ◌+◌, ◌<◌, ◌++◌, length, drop, List, ◌∷◌, ℤ, refl, sym, ap, ◌∙◌, arith}
use Rattle.block_sequence.specs.Laid.{parts, all_laid_samples}
use Rattle.block_sequence.specs.{Fuse.added, declared.types.Laid.Laid, declared.types.Laid.TheVariants.Make}
use Rattle.block_sequence.proofs.Sizes.{made, made_next, added_next, added_sizes, added_all}
use Rattle.block_sequence.proofs.Out.{made_is_run, AllMade-push, parts_push, samples_push_laid}
use Rattle.block_sequence.proofs.{Rest.none_left, Origins.AllLaidFrom-push}
use Rattle.block_sequence.specs.Fuse as layout
use Rattle.block_sequence.proofs.fusing.lay_run.Goals as goal

pub loop-k-init : goal.loop-k-init
loop-k-init c = record {
  new_blocks = c.requires.made;
  sizes = ap (λ (ps : List layout.Part). parts c.args.out.now.items ++ ps) (made_is_run c.args.m c.args.run);
  samples = λ src. refl;
  origin = λ blocks count f k. k;
  within = omega arith;
  left = omega (arith, added_sizes c.args.m c.args.run c.requires.some);
}

pub loop-k-preserved : goal.loop-k-preserved
loop-k-preserved c =
    let sizes = layout.block_sizes c.args.m c.args.run in
    let k = c.loop-k.k in
    let h : k < length sizes = omega arith in
    let len = c.block_size-len.result in
    let cut = c.in_ok-cut.cut.pieces.items in
    let next = added_next sizes k h in
    let l : Laid = Make cut len in
    rw (c.in_ok-push.ensures.items, c.new-pieces.ensures) (record {
      new_blocks = AllMade-push c.args.m c.loop-k.out.items l c.loop-k.invariant.new_blocks
          (c.in_ok-cut.ensures.valid, c.in_ok-cut.ensures.fit c.args.m c.requires.fit, c.in_ok-cut.ensures.total);
      sizes =
          parts_push c.loop-k.out.items l (made (drop (k + 1) sizes))
          ∙ ap (λ (ps : List layout.Part). parts c.loop-k.out.items ++ ps)
          (ap (λ n. layout.Made n ∷ made (drop (k + 1) sizes)) c.block_size-len.ensures ∙ sym (made_next sizes k h))
          ∙ c.loop-k.invariant.sizes;
      samples = λ src.
          samples_push_laid src c.loop-k.out.items l _
          ∙ ap (λ (xs : List ℤ). all_laid_samples src c.loop-k.out.items ++ xs) (c.in_ok-cut.ensures.samples src)
          ∙ c.loop-k.invariant.samples src;
      origin = λ blocks count f g. AllLaidFrom-push blocks count c.loop-k.out.items l
          (c.loop-k.invariant.origin blocks count f g) (c.in_ok-cut.ensures.from blocks count f);
      within = c.in_ok-cut.ensures.within;
      left = omega (arith, next, c.in_ok-cut.ensures.rest);
    })

pub returns-clause-samples : goal.returns-clause-samples
returns-clause-samples c =
    let sizes = layout.block_sizes c.args.m c.args.run in
    let none : added (drop c.loop-k.k sizes) ≡ 0 = added_all sizes c.loop-k.k (omega arith) in
    λ src.
    sym (none_left src c.args.pieces.now c.loop-k.place.at c.loop-k.place.skip _ (c.loop-k.invariant.left ∙ none))
    ∙ c.loop-k.invariant.samples src
