-- The page that was read is kept.
use Rattle.block_cache.proofs.Common.{◌/◌, ◌∙◌, arith, inl, inr, refl, subst, sym, ⊎_elim, IsPage, PageKey}
use Rattle.block_cache.specs.Pages.{run_frames}
use Rattle.block_cache.proofs.CacheLaws.{keeps_frames, keeps_turn}
use Rattle.block_cache.proofs.PageLaws.{frame_page_len, frame_page_read}
use Rattle.block_cache.proofs.frames.fill_page.Goals as goal

pub keep_frames-requires-clause-page : goal.keep_frames-requires-clause-page
keep_frames-requires-clause-page g c =
    let r = c.args.run in
    subst (λ (k : PageKey). IsPage k r.count) (sym c.frame_key.ensures) (record {
      block = c.requires.block;
      size = omega (arith, c.requires.count, c.requires.start, frame_page_len r.level r.block (r.from / 256));
    })

pub returns-clause-cache : goal.returns-clause-cache
returns-clause-cache g c =
    let r = c.args.run in
    let files = g.S.Store.reads c.args.store.now in
    keeps_turn _ _ _ c.args.cache.now c.read_run.new.cache c.keep_frames.new.self c.read_run.ensures.cache
    (keeps_frames _ _ r.level r.block (r.from / 256)
    (run_frames c.read_run.new.bytes r.level r.block.len r.from r.count) c.read_run.new.cache c.keep_frames.new.self
    (λ told. frame_page_read files files r.level r.block (r.from / 256) r.from r.count _ refl c.requires.start
    (c.in_default.ensures.header told) (c.in_default.ensures.whole told) (c.in_default.ensures.frames told))
    (λ e there. ⊎_elim inl (λ put. inr (put.0 ∙ c.frame_key.ensures, put.1)) (c.keep_frames.ensures.frames e there))
    c.keep_frames.ensures.headers c.keep_frames.ensures.samples c.keep_frames.ensures.pages)
