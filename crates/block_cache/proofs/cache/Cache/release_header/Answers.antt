-- No header goes.
use Rattle.block_cache.proofs.Common.{subst, ap, refl, Entries, SameCache, entries_of}
use Rattle.block_cache.proofs.{KeyLaws.demoted_same, ListLaws.keys_same}
use Rattle.block_cache.proofs.cache.Cache.release_header.Goals as goal

pub returns : goal.returns
returns c = subst (λ (m : Entries). SameCache m (entries_of c.demote.new.self.entries
    c.self.inside.samples.entries c.self.inside.frames.entries c.self.inside.samples.cap)) c.self.view_is (record {
      headers = keys_same _ _ (demoted_same c.args.key _ _ (ap (λ m. m.entries) c.demote.ensures.entries));
      samples = λ e. (λ h. h, λ h. h);
      frames = λ e. (λ h. h, λ h. h);
      pages = refl;
    })
