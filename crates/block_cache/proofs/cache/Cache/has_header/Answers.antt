-- A key that is found is there, and none goes.
use Rattle.block_cache.proofs.Common.{subst, sym, ◌∙◌, ap, refl, Contains, Entries, SameCache, entries_of}
use Rattle.block_cache.proofs.{KeyLaws.found_key, KeyLaws.promoted_same, ListLaws.keys_same}
use Rattle.block_cache.proofs.cache.Cache.has_header.Goals as goal

pub returns-clause-there : goal.returns-clause-there
returns-clause-there c = λ yes. subst (λ (m : Entries). Contains m.headers c.args.key) c.self.view_is
    (found_key c.args.key c.self.inside.headers.entries (sym c.promote.ensures.value ∙ yes))

pub returns-clause-same : goal.returns-clause-same
returns-clause-same c = subst (λ (m : Entries). SameCache m (entries_of c.promote.new.self.entries
    c.self.inside.samples.entries c.self.inside.frames.entries c.self.inside.samples.cap)) c.self.view_is (record {
      headers = keys_same _ _ (promoted_same c.args.key _ _ (ap (λ m. m.entries) c.promote.ensures.entries));
      samples = λ e. (λ h. h, λ h. h);
      frames = λ e. (λ h. h, λ h. h);
      pages = refl;
    })
