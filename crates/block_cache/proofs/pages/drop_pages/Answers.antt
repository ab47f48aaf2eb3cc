use Rattle.block_cache.proofs.Common.{Contains, length, subst, sym, ap, ◌∙◌, ◌<◌}
use Rattle.lru.proofs.CallerLemmas.{Contains-remove_entry}
use Rattle.block_cache.proofs.KeyLaws.{same_key, one_fewer, others_stay}
use Rattle.block_cache.proofs.pages.drop_pages.Goals as goal

pub keys-smaller : goal.keys-smaller
keys-smaller g c = subst (λ es. length es < length c.keys.pages.entries) (sym (ap (λ m. m.entries)
    c.pop.ensures.entries))
    (one_fewer c.in-Some.key c.keys.pages.entries c.in-Some.ensures.found.1)

pub keys-smaller-in-Some : goal.keys-smaller-in-Some
keys-smaller-in-Some g c = subst (λ es. length es < length c.keys.pages.entries) (sym (ap (λ m. m.entries)
    c.pop.ensures.entries))
    (one_fewer c.in-Some.key c.keys.pages.entries c.in-Some.ensures.found.1)

pub keys-preserved : goal.keys-preserved
keys-preserved g c = record {
  same_cap = ap (λ m. m.cap) c.pop.ensures.entries ∙ c.keys.invariant.same_cap;
  fewer = λ e has. c.keys.invariant.fewer e (Contains-remove_entry (same_key c.in-Some.key) c.keys.pages.entries e
      (subst (λ m. Contains m.entries e) c.pop.ensures.entries has));
  others = λ e has other. subst (λ m. Contains m.entries e) (sym c.pop.ensures.entries)
      (others_stay c.in-Some.key c.keys.pages.entries e (c.keys.invariant.others e has other)
      (λ is. other (is ∙ c.in-Some.ensures.found.0)));
}

pub keys-preserved-in-Some : goal.keys-preserved-in-Some
keys-preserved-in-Some g c = record {
  same_cap = ap (λ m. m.cap) c.pop.ensures.entries ∙ c.keys.invariant.same_cap;
  fewer = λ e has. c.keys.invariant.fewer e (Contains-remove_entry (same_key c.in-Some.key) c.keys.pages.entries e
      (subst (λ m. Contains m.entries e) c.pop.ensures.entries has));
  others = λ e has other. subst (λ m. Contains m.entries e) (sym c.pop.ensures.entries)
      (others_stay c.in-Some.key c.keys.pages.entries e (c.keys.invariant.others e has other)
      (λ is. other (is ∙ c.in-Some.ensures.found.0)));
}

pub returns-clause-without : goal.returns-clause-without
returns-clause-without g c = λ e. (
  λ has. (c.keys.invariant.fewer e has, c.key_of_block.ensures.none c.in_default.is e has),
  λ was. c.keys.invariant.others e was.0 was.1,
)
