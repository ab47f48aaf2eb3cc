-- What a look-up finds is an entry.
use Rattle.block_cache.proofs.Common.{ap, sym}
use Rattle.block_cache.proofs.KeyLaws.{found_there, missed_there, promoted_same}
use Rattle.block_cache.proofs.pages.copy_frame_page.Goals as goal

pub copy-requires : goal.copy-requires
copy-requires c = c.requires c.in-Some.page.now (found_there c.args.key c.args.pages.now.entries c.in-Some.page.now
    (sym c.in-Some.ensures.value))

pub returns-in-Some-clause-there : goal.returns-in-Some-clause-there
returns-in-Some-clause-there c = λ _. (
  c.in-Some.page.now,
  found_there c.args.key c.args.pages.now.entries c.in-Some.page.now (sym c.in-Some.ensures.value),
  c.copy.ensures,
)

pub returns-in-Some-clause-same : goal.returns-in-Some-clause-same
returns-in-Some-clause-same c = promoted_same c.args.key _ _ (ap (λ m. m.entries) c.get.follows.holds-at-none)

pub returns-in-None-clause-missed : goal.returns-in-None-clause-missed
returns-in-None-clause-missed c = λ _. missed_there c.args.key c.args.pages.now.entries (sym c.in-None.ensures.value)

pub returns-in-None-clause-same : goal.returns-in-None-clause-same
returns-in-None-clause-same c = promoted_same c.args.key _ _ (ap (λ m. m.entries) c.get.follows.holds-at-none)
