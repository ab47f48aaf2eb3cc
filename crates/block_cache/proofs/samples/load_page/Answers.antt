-- The whole page is read and kept, and a part of it is answered.
use Rattle.block_cache.proofs.Common.{◌*◌, ◌/◌, ◌%◌, length, ◌∙◌, arith, inl, inr, ⊎_elim, common_steps, tells_on}
use Rattle.block_cache.proofs.{CacheLaws.keeps_samples, CacheLaws.keeps_turn, PageLaws.page_read, PageLaws.part_read}
use Rattle.block_cache.proofs.samples.load_page.Goals as goal

pub returns-clause-cache : goal.returns-clause-cache
returns-clause-cache g c = keeps_turn _ _ _ c.args.cache.now c.compare_kept.new.cache c.keep_samples.new.self
    c.compare_kept.ensures.cache
    (keeps_samples _ _ c.args.block (c.args.from / 4096) c.read_compared_samples.new.out c.compare_kept.new.cache
    c.keep_samples.new.self
    (λ told.
    let still = tells_on c.compare_kept.ensures.kept told in
    page_read (g.S.Store.reads c.args.store.now) (g.S.Store.reads c.compare_kept.new.store) c.args.block
    (c.args.from / 4096) (c.args.from / 4096 * 4096) _ c.read_compared_samples.new.out
    c.compare_kept.ensures.kept.same_reads (omega arith) (c.in_default.ensures.header told)
    (c.in_default-read_compared_samples.ensures.whole still (grind (arith, common_steps)))
    (c.in_default-read_compared_samples.ensures.samples still))
    (λ e there. ⊎_elim inl (λ put. inr (put.0 ∙ c.sample_key.ensures, put.1)) (c.keep_samples.ensures.samples e there))
    c.keep_samples.ensures.headers c.keep_samples.ensures.frames c.keep_samples.ensures.pages)

pub returns-clause-samples : goal.returns-clause-samples
returns-clause-samples g c = λ told.
    let still = tells_on c.compare_kept.ensures.kept told in
    part_read (g.S.Store.reads c.args.store.now) (g.S.Store.reads c.compare_kept.new.store) c.args.block.id
    (c.args.from / 4096 * 4096) c.args.from (c.args.from % 4096) (length c.args.out.now) _
    c.read_compared_samples.new.out _ c.compare_kept.ensures.kept.same_reads (omega arith) (grind (arith, common_steps))
    (c.in_default-read_compared_samples.ensures.samples still) c.copy_from_slice.ensures.after
