-- A page that is found is an entry, and none goes.
use Rattle.block_cache.proofs.Common.{subst, sym, ◌∙◌, arith, refl, inl, Contains, HasKey, Entries, SameCache}
use Rattle.block_cache.proofs.Common.{entries_of}
use Rattle.block_cache.proofs.ListLaws.{pages_left}
use Rattle.std.proofs.lemmas.Option.{IfSome_then}
use Rattle.block_cache.proofs.cache.Cache.join_frames.Goals as goal

pub join_page-requires : goal.join_page-requires
join_page-requires c = λ fs has.
    let page = c.self.invariant.0.frames (c.args.key, fs) has in
    omega (arith, page.size, c.requires)

pub invariant_of-self : goal.invariant_of-self
invariant_of-self c = (
  pages_left (entries_of c.self.inside.headers.entries c.self.inside.samples.entries c.self.inside.frames.entries
      c.self.inside.samples.cap) (entries_of c.self.inside.headers.entries c.self.inside.samples.entries
      c.join_page.new.pages.entries c.self.inside.samples.cap) c.self.invariant.0 refl (λ e has. inl has) (λ e has.
      inl ((c.join_page.ensures.same e).0 has)),
  c.self.invariant.1,
  c.join_page.ensures.cap ∙ c.self.invariant.2,
)

pub returns-clause-there : goal.returns-clause-there
returns-clause-there c = IfSome_then c.join_page.result c.join_page.ensures.there (λ s on.
    let has = on.1 in (
      on.0,
      subst (λ (m : Entries). Contains m.frames (c.args.key, on.0)) c.self.view_is has,
      c.self.invariant.0.frames (c.args.key, on.0) has,
      on.2,
    ))

pub returns-clause-missed : goal.returns-clause-missed
returns-clause-missed c = λ no has. c.join_page.ensures.missed no (
    subst (λ (m : Entries). HasKey m.frames c.args.key) (sym c.self.view_is) has)

pub returns-clause-same : goal.returns-clause-same
returns-clause-same c = subst (λ (m : Entries). SameCache m (entries_of c.self.inside.headers.entries
    c.self.inside.samples.entries c.join_page.new.pages.entries c.self.inside.samples.cap)) c.self.view_is (record {
      headers = λ k. (λ h. h, λ h. h);
      samples = λ e. (λ h. h, λ h. h);
      frames = c.join_page.ensures.same;
      pages = refl;
    })
