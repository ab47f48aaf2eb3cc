-- What is kept is a page.
use Rattle.block_cache.proofs.Common.{length, subst, sym, ◌∙◌, refl, inl, inr, ⊎_elim, Contains, ap}
use Rattle.block_cache.proofs.Common.{Entries, entries_of, IsPage, ℕ}
use Rattle.block_cache.proofs.ListLaws.{pages_left}
use Rattle.block_cache.proofs.RunLaws.{length_run}
use Rattle.block_cache.proofs.cache.Cache.keep_frames.Goals as goal

pub invariant_of-self : goal.invariant_of-self
invariant_of-self c =
    let r = c.args.run in
    let size = length_run c.args.bytes.now r.level r.block.len r.from r.count in (
      pages_left (entries_of c.self.inside.headers.entries c.self.inside.samples.entries c.self.inside.frames.entries
          c.self.inside.samples.cap) (entries_of c.self.inside.headers.entries c.self.inside.samples.entries
          c.keep_frame_page.new.pages.entries c.self.inside.samples.cap) c.self.invariant.0 refl (λ e has. inl has)
          (λ e has. ⊎_elim inl (λ put. inr (subst (λ k. IsPage k (length e.1)) (sym put.0)
          (subst (λ (n : ℕ). IsPage c.args.key n) (sym (ap length put.1 ∙ size)) c.requires.page)))
          (c.keep_frame_page.ensures.kept e has)),
      c.self.invariant.1,
      c.keep_frame_page.ensures.cap ∙ c.self.invariant.2,
    )

pub returns-clause-frames : goal.returns-clause-frames
returns-clause-frames c = λ e has. ⊎_elim
    (λ old. inl (subst (λ (m : Entries). Contains m.frames e) c.self.view_is old)) inr
    (c.keep_frame_page.ensures.kept e has)
