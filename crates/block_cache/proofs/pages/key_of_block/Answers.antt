use Rattle.block_cache.proofs.Common.{Contains, subst, sym, ⊎_elim, ap, ◌∙◌, Contains-head, Contains-tail}
use Rattle.block_cache.proofs.Common.{Contains-cons, Contains-nil}
use Rattle.block_cache.proofs.KeyLaws.{has_key}
use Rattle.block_cache.proofs.pages.key_of_block.Goals as goal

pub loop-key-preserved : goal.loop-key-preserved
loop-key-preserved g c = record {
  can_next = tt;
  is_finite = tt;
  among = λ e has. c.loop-key.invariant.among e
      (subst (λ l. Contains l e) (sym c.in-Some.ensures.steps) (Contains-tail (
        c.in-Some.key.now,
        c.in-Some.field-0-1.now,
      ) c.next.new.self e has));
  ahead = λ e has is. ⊎_elim
      (λ same. absurd (c.if-key-id.false (ap (λ x. x.0.id) same ∙ is)))
      (λ d. d)
      (Contains-cons (c.in-Some.key.now, c.in-Some.field-0-1.now) c.next.new.self e
      (subst (λ l. Contains l e) c.in-Some.ensures.steps (c.loop-key.invariant.ahead e has is)));
}

pub returns-clause-none : goal.returns-clause-none
returns-clause-none g c = λ _ e has is. Contains-nil e
    (subst (λ l. Contains l e) c.in-None.ensures.steps.0 (c.loop-key.invariant.ahead e has is))

pub returns-then-key-id-clause-found : goal.returns-then-key-id-clause-found
returns-then-key-id-clause-found g c = (
  c.if-key-id.true,
  has_key c.args.pages.now.entries (c.in-Some.key.now, c.in-Some.field-0-1.now) (c.loop-key.invariant.among _
      (subst (λ l. Contains l (c.in-Some.key.now, c.in-Some.field-0-1.now)) (sym c.in-Some.ensures.steps)
      (Contains-head (c.in-Some.key.now, c.in-Some.field-0-1.now) c.next.new.self))),
)
