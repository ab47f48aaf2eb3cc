use Rattle.block_cache.proofs.Common.{◌∙◌, inl, inr, ⊎_elim}
use Rattle.block_cache.proofs.KeyLaws.{put_or_same}
use Rattle.block_cache.proofs.pages.keep_frame_page.Goals as goal

pub returns-clause-kept : goal.returns-clause-kept
returns-clause-kept c = λ e has. ⊎_elim (λ old. inl old) (λ put. inr (put.0, put.1 ∙ c.in-Ok.ensures))
    (put_or_same c.args.pages.now c.put.new.self c.args.key c.in-Ok.page c.put.result
    c.put.ensures.entries c.put.ensures.err e has)
