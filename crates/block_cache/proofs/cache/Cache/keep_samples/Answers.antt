-- What is kept is a page.
use Rattle.block_cache.proofs.Common.{◌≡◌, length, subst, sym, ◌∙◌, ◌⊎◌, inl, inr, ⊎_elim, Contains, List, ℤ, Entries}
use Rattle.block_cache.proofs.Common.{entries_of, lists_of, PageKey, IsPage}
use Rattle.block_cache.proofs.ListLaws.{lists_kept, pages_left}
use Rattle.block_cache.proofs.cache.Cache.keep_samples.Goals as goal

kept : (c : goal.After-keep_page) → (e : PageKey × List ℤ) → Contains (lists_of c.keep_page.new.pages.entries) e
    → Contains (lists_of c.self.inside.samples.entries) e ⊎ ((e.0 ≡ c.args.key) × (e.1 ≡ c.args.samples.now))
kept c = lists_kept _ _ c.args.key c.args.samples.now c.keep_page.ensures.kept

pub invariant_of-self : goal.invariant_of-self
invariant_of-self c = (
  pages_left (entries_of c.self.inside.headers.entries c.self.inside.samples.entries c.self.inside.frames.entries
      c.self.inside.samples.cap) (entries_of c.self.inside.headers.entries c.keep_page.new.pages.entries
      c.self.inside.frames.entries c.keep_page.new.pages.cap) c.self.invariant.0 c.keep_page.ensures.cap (λ e has.
      ⊎_elim inl (λ put. inr (subst (λ k. IsPage k (length e.1)) (sym put.0) (subst (λ (xs : List ℤ). IsPage
      c.args.key (length xs)) (sym put.1) c.requires))) (kept c e has)) (λ e has. inl has),
  c.self.invariant.1 ∙ sym c.keep_page.ensures.cap,
  c.self.invariant.2 ∙ sym c.keep_page.ensures.cap,
)

pub returns-clause-samples : goal.returns-clause-samples
returns-clause-samples c = λ e has. ⊎_elim
    (λ old. inl (subst (λ (m : Entries). Contains m.samples e) c.self.view_is old)) inr
    (lists_kept _ _ c.args.key c.args.samples.now c.keep_page.ensures.kept e has)
