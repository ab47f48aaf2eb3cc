-- One frame more, and the end mark.
use Rattle.std.proofs.Common.{◌≡◌, [], ◌∷◌, ◌++◌, ◌+◌, take, slice_set, append_assoc, rules, arith, ap, ◌∙◌}
use Rattle.std.proofs.{lemmas.List.take_more_set, lemmas.List.map-append, lemmas.Grind.common_steps}
use Rattle.play_ring.specs.declared.ends.Item.TheVariants.{Sound, End}
use Rattle.play_ring.specs.Ends.{received, sounds}
use Rattle.play_ring.proofs.KnownLemmas.{IsPrefix-pop}
use Rattle.play_ring.proofs.ends.PlayOut.take.Goals as goal

pub loop-count-preserved : goal.loop-count-preserved
loop-count-preserved c =
    let i = c.loop-count.invariant in
    let frame = c.in-Ok-Sound.frame in
    let popped = rw c.in-Ok-Sound.field-0-is at c.in-Ok-Sound.ensures.ok in
    let more : sounds (take (c.loop-count.count + 1) (slice_set c.loop-count.out c.loop-count.count frame))
    ≡ sounds (take c.loop-count.count c.loop-count.out) ++ Sound frame ∷ [] =
    ap sounds (take_more_set c.loop-count.out c.loop-count.count frame c.loop-count-test.true)
    ∙ map-append Sound (take c.loop-count.count c.loop-count.out) (frame ∷ []) in
    record {
      bound = grind (arith, common_steps);
      ring = search rules;
      knew = rw more (IsPrefix-pop _ _ _ _ (Sound frame) i.knew popped.1);
      taken = rw more (popped.0 ∙ ap (λ t. t ++ Sound frame ∷ []) i.taken ∙ append_assoc (received c.args.self.now)
          (sounds (take c.loop-count.count c.loop-count.out)) (Sound frame ∷ []));
    }

pub returns-in-Ok-End-clause-known : goal.returns-in-Ok-End-clause-known
returns-in-Ok-End-clause-known c =
    let popped = rw c.in-Ok-End.field-0-is at c.in-Ok-End.ensures.ok in
    IsPrefix-pop _ _ _ _ End c.loop-count.invariant.knew popped.1
