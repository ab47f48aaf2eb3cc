-- No page goes.
use Rattle.block_cache.proofs.Common.{subst, sym, ◌∙◌, inl, Entries, SameCache, entries_of}
use Rattle.block_cache.proofs.ListLaws.{lists_same, pages_left}
use Rattle.block_cache.proofs.cache.Cache.release_samples.Goals as goal

pub invariant_of-self : goal.invariant_of-self
invariant_of-self c = (
  pages_left (entries_of c.self.inside.headers.entries c.self.inside.samples.entries c.self.inside.frames.entries
      c.self.inside.samples.cap) (entries_of c.self.inside.headers.entries c.release_page.new.pages.entries
      c.self.inside.frames.entries c.release_page.new.pages.cap) c.self.invariant.0 c.release_page.ensures.cap (λ e
      has. inl ((lists_same _ _ c.release_page.ensures.same e).0 has)) (λ e has. inl has),
  c.self.invariant.1 ∙ sym c.release_page.ensures.cap,
  c.self.invariant.2 ∙ sym c.release_page.ensures.cap,
)

pub returns : goal.returns
returns c = subst (λ (m : Entries). SameCache m (entries_of c.self.inside.headers.entries
    c.release_page.new.pages.entries c.self.inside.frames.entries c.release_page.new.pages.cap)) c.self.view_is
    (record {
      headers = λ k. (λ h. h, λ h. h);
      samples = lists_same _ _ c.release_page.ensures.same;
      frames = λ e. (λ h. h, λ h. h);
      pages = c.release_page.ensures.cap;
    })
