-- All entries but those of the block are left.
use Rattle.block_cache.proofs.Common.{subst, sym, ◌∙◌, inl, Entries, IsCacheWithout, entries_of}
use Rattle.block_cache.proofs.ListLaws.{keys_without, lists_without, pages_left}
use Rattle.block_cache.proofs.cache.Cache.drop_entries.Goals as goal

pub invariant_of-self : goal.invariant_of-self
invariant_of-self c = (
  pages_left (entries_of c.self.inside.headers.entries c.self.inside.samples.entries c.self.inside.frames.entries
      c.self.inside.samples.cap) (entries_of c.drop_pages.new.pages.entries c.drop_pages-2.new.pages.entries
      c.drop_pages-3.new.pages.entries c.drop_pages-2.new.pages.cap) c.self.invariant.0 c.drop_pages-2.ensures.cap
      (λ e has. inl ((lists_without c.args.id _ _ c.drop_pages-2.ensures.without e).0 has).0)
      (λ e has. inl ((c.drop_pages-3.ensures.without e).0 has).0),
  c.drop_pages.ensures.cap ∙ c.self.invariant.1 ∙ sym c.drop_pages-2.ensures.cap,
  c.drop_pages-3.ensures.cap ∙ c.self.invariant.2 ∙ sym c.drop_pages-2.ensures.cap,
)

pub returns : goal.returns
returns c = subst (λ (m : Entries). IsCacheWithout c.args.id m (entries_of c.drop_pages.new.pages.entries
    c.drop_pages-2.new.pages.entries c.drop_pages-3.new.pages.entries c.drop_pages-2.new.pages.cap)) c.self.view_is
    (record {
      headers = keys_without c.args.id _ _ c.drop_pages.ensures.without;
      samples = lists_without c.args.id _ _ c.drop_pages-2.ensures.without;
      frames = c.drop_pages-3.ensures.without;
      pages = c.drop_pages-2.ensures.cap;
    })
