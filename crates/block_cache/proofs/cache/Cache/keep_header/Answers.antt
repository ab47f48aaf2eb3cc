-- What is kept is that key.
use Rattle.block_cache.proofs.Common.{subst, ⊎_elim, inl, inr, Contains, Entries}
use Rattle.block_cache.proofs.KeyLaws.{key_has, has_key, put_or_same}
use Rattle.block_cache.proofs.cache.Cache.keep_header.Goals as goal

pub returns-clause-headers : goal.returns-clause-headers
returns-clause-headers c = λ k has.
    let on = key_has c.put.new.self.entries k has in ⊎_elim
    (λ old. inl (subst (λ (m : Entries). Contains m.headers k) c.self.view_is (has_key c.self.inside.headers.entries
    (k, on.0) old)))
    (λ put. inr put.0)
    (put_or_same c.self.inside.headers c.put.new.self c.args.key tt c.put.result c.put.ensures.entries
    c.put.ensures.err (k, on.0) on.1)
