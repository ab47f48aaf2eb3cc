-- A page that is kept is right, and otherwise it is read.
use Rattle.block_cache.proofs.Common.{◌≡◌, ◌/◌, length, ◌∙◌, arith, ap, page_len, sample_key, kept_none}
use Rattle.block_cache.proofs.CacheLaws.{keeps_same, keeps_turn, right_same}
use Rattle.block_cache.proofs.PageLaws.{page_header, page_samples}
use Rattle.block_cache.proofs.samples.take_page.Goals as goal

pub returns-then-copy_samples-clause-cache : goal.returns-then-copy_samples-clause-cache
returns-then-copy_samples-clause-cache g c = keeps_same c.copy_samples.ensures.same

pub returns-then-copy_samples-clause-samples : goal.returns-then-copy_samples-clause-samples
returns-then-copy_samples-clause-samples g c = λ told.
    let on = c.copy_samples.ensures.there c.if-copy_samples.true in
    let size : length on.0 ≡ page_len (sample_key c.args.block (c.args.from / 4096)) = on.2.size
    ∙ ap page_len c.sample_key-key.ensures in
    page_samples (g.S.Store.reads c.args.store.now) c.sample_key-key.result c.args.block c.args.from (length
    c.args.out.now)
    on.0 c.copy_samples.new.out c.sample_key-key.ensures ((c.requires.cached told).samples (
      c.sample_key-key.result,
      on.0,
    ) on.1)
    (omega (arith, size, c.requires.one, c.requires.within)) on.3

pub returns-then-copy_samples-clause-header : goal.returns-then-copy_samples-clause-header
returns-then-copy_samples-clause-header g c = λ told.
    let on = c.copy_samples.ensures.there c.if-copy_samples.true in
    page_header (g.S.Store.reads c.args.store.now) c.sample_key-key.result c.args.block (c.args.from / 4096) on.0
    c.sample_key-key.ensures ((c.requires.cached told).samples (c.sample_key-key.result, on.0) on.1)

pub returns-then-copy_samples-clause-kept : goal.returns-then-copy_samples-clause-kept
returns-then-copy_samples-clause-kept g c = kept_none _ (g.met.S.Store.may_fewer _)

pub load_page-requires-clause-cached : goal.load_page-requires-clause-cached
load_page-requires-clause-cached g c = λ told. right_same _ _ _ c.copy_samples.ensures.same (c.requires.cached told)

pub returns-clause-cache : goal.returns-clause-cache
returns-clause-cache g c = keeps_turn _ _ _ c.args.cache.now c.copy_samples.new.self c.load_page.new.cache
    (keeps_same c.copy_samples.ensures.same) c.load_page.ensures.cache
