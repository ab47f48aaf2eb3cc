-- A page that is found is an entry, and none goes.
use Rattle.block_cache.proofs.Common.{subst, sym, ◌∙◌, arith, inl, Contains, HasKey, Entries, SameCache, entries_of}
use Rattle.block_cache.proofs.ListLaws.{lists_has, lists_keys, lists_same, pages_left}
use Rattle.block_cache.proofs.cache.Cache.copy_samples.Goals as goal

pub copy_page-requires : goal.copy_page-requires
copy_page-requires c = λ v has.
    let page = c.self.invariant.0.samples (c.args.key, v.items) (lists_has _ (c.args.key, v) has) in
    omega (arith, page.size, c.requires)

pub invariant_of-self : goal.invariant_of-self
invariant_of-self c = (
  pages_left (entries_of c.self.inside.headers.entries c.self.inside.samples.entries c.self.inside.frames.entries
      c.self.inside.samples.cap) (entries_of c.self.inside.headers.entries c.copy_page.new.pages.entries
      c.self.inside.frames.entries c.copy_page.new.pages.cap) c.self.invariant.0 c.copy_page.ensures.cap (λ e has. inl
      ((lists_same _ _ c.copy_page.ensures.same e).0 has)) (λ e has. inl has),
  c.self.invariant.1 ∙ sym c.copy_page.ensures.cap,
  c.self.invariant.2 ∙ sym c.copy_page.ensures.cap,
)

pub returns-clause-there : goal.returns-clause-there
returns-clause-there c = λ yes.
    let on = c.copy_page.ensures.there yes in
    let has = lists_has c.self.inside.samples.entries (c.args.key, on.0) on.1 in (
      on.0.items,
      subst (λ (m : Entries). Contains m.samples (c.args.key, on.0.items)) c.self.view_is has,
      c.self.invariant.0.samples (c.args.key, on.0.items) has,
      on.2,
    )

pub returns-clause-missed : goal.returns-clause-missed
returns-clause-missed c = λ no has. c.copy_page.ensures.missed no (lists_keys c.self.inside.samples.entries c.args.key
    (subst (λ (m : Entries). HasKey m.samples c.args.key) (sym c.self.view_is) has))

pub returns-clause-same : goal.returns-clause-same
returns-clause-same c = subst (λ (m : Entries). SameCache m (entries_of c.self.inside.headers.entries
    c.copy_page.new.pages.entries c.self.inside.frames.entries c.copy_page.new.pages.cap)) c.self.view_is (record {
      headers = λ k. (λ h. h, λ h. h);
      samples = lists_same _ _ c.copy_page.ensures.same;
      frames = λ e. (λ h. h, λ h. h);
      pages = c.copy_page.ensures.cap;
    })
