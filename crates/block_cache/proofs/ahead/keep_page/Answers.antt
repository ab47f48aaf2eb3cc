-- The page is one of the file.
use Rattle.block_cache.proofs.Common.{◌*◌, ◌∙◌, arith, common_steps, inl, inr, refl, subst, sym, ⊎_elim}
use Rattle.block_cache.proofs.Common.{IsPage, PageKey}
use Rattle.block_cache.specs.Pages.{run_frames}
use Rattle.block_cache.proofs.CacheLaws.{keeps_frames}
use Rattle.block_cache.proofs.PageLaws.{frame_page_len, page_among}
use Rattle.block_cache.proofs.ahead.keep_page.Goals as goal

pub keep_frames-requires-clause-page : goal.keep_frames-requires-clause-page
keep_frames-requires-clause-page c =
    let r = c.args.run in
    let size = frame_page_len r.level r.block c.args.page in
    subst (λ (k : PageKey). IsPage k c.min-count.result) (sym c.frame_key-key.ensures) (record {
      block = c.requires.block;
      size = grind (arith, common_steps, size);
    })

pub returns : goal.returns
returns c = λ tells files read.
    let r = c.args.run in
    keeps_frames tells files r.level r.block c.args.page
    (run_frames _ r.level r.block.len (256 * c.args.page) c.min-count.result) c.args.cache.now c.keep_frames.new.self
    (λ told. page_among files r.level r.block r.from _ c.args.page c.min-count.result c.args.bytes.now _ (read told)
    c.requires.start refl (grind (arith, common_steps)) refl)
    (λ e there. ⊎_elim inl (λ put. inr (put.0 ∙ c.frame_key-key.ensures, put.1)) (c.keep_frames.ensures.frames e there))
    c.keep_frames.ensures.headers c.keep_frames.ensures.samples c.keep_frames.ensures.pages
