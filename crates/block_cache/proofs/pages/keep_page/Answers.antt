use Rattle.block_cache.proofs.Common.{◌≡◌, ◌∙◌, ap, sym, inl, inr, ⊎_elim, List, [], ◌++◌, Result, Ok, Err}
use Rattle.std.specs.Prelude.{false, is_ok, is_err, if◌then◌else◌}
use Rattle.block_cache.proofs.KeyLaws.{put_or_same}
use Rattle.block_cache.proofs.pages.keep_page.Goals as goal

filled : {T A E : Type 0} (r : Result A E) (old new items : List T) → is_err r ≡ false → old ≡ []
    → new ≡ (if is_ok r then old ++ items else old) → new ≡ items
filled (Ok x) old new items ok empty e = e ∙ ap (λ l. l ++ items) empty
filled (Err x) old new items ok empty e = cc

pub returns-clause-kept : goal.returns-clause-kept
returns-clause-kept g c = λ e has.
    let page = filled c.extend_from_slice.result _ _ c.args.items.now (sym c.is_err.ensures.value
    ∙ c.if-is_err.false) c.in-Ok.ensures.items c.extend_from_slice.ensures.items in
    ⊎_elim (λ old. inl old) (λ put. inr (put.0, ap (λ v. v.items) put.1 ∙ page))
    (put_or_same c.args.pages.now c.put.new.self c.args.key c.extend_from_slice.new.self c.put.result
    c.put.ensures.entries c.put.ensures.err e has)
