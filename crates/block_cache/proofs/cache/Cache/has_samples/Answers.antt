-- A page that is not found is not there.
use Rattle.block_cache.proofs.Common.{◌≡◌, ◌∙◌, false, refl, sym, subst, Option, HasKey, Entries}
use Rattle.std.proofs.Common.{None, Some}
use Rattle.std.specs.Prelude.{is_some}
use Rattle.block_cache.proofs.{KeyLaws.missed_there, ListLaws.lists_keys}
use Rattle.block_cache.proofs.cache.Cache.has_samples.Goals as goal

none_of : {V : Type 0} (o : Option V) → is_some o ≡ false → o ≡ None
none_of None e = refl
none_of (Some v) e = absurd cc

pub returns : goal.returns
returns c = λ no has.
    missed_there c.args.key c.self.inside.samples.entries (none_of _ (sym c.contains.ensures ∙ no))
    (lists_keys c.self.inside.samples.entries c.args.key
    (subst (λ (m : Entries). HasKey m.samples c.args.key) (sym c.self.view_is) has))
