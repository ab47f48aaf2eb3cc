-- What the parts make is a studio, which a disk with what they stand for holds.
use Rattle.editor_core.proofs.Common.{◌≡◌, sym, subst, [], Core, IsHeld, IsStudio, assembled}
use Rattle.block_cache.specs.Caches.{no_entries}
use Rattle.editor_core.proofs.StudioParts.{assembles, holds}
use Rattle.editor_core.proofs.studio.Studio.assemble.Goals as goal

pub returns-clause-studio : goal.returns-clause-studio
returns-clause-studio g c =
    let s : Core g.row.S.Denot = assembled c.args.store c.args.parts in
    let pins : c.new-3.result.items ≡ [] = c.new-3.ensures.items in
    let size : c.in-Ok-new.buffers ≡ c.args.parts.block_size = c.in-Ok-new.ensures in
    let none : c.in-Ok.cache ≡ no_entries c.args.parts.pages = c.in-Ok.ensures.empty in
    subst (λ (z : Core g.row.S.Denot). IsStudio g.S.Store z)
    (λ i. record s { cache = sym none i; pins = sym pins i; block_size = sym size i })
    (assembles g.S.Store c.args.store c.args.parts c.requires c.len-points.ensures.whole)

pub returns-clause-held : goal.returns-clause-held
returns-clause-held g c has =
    let s : Core g.row.S.Denot = assembled c.args.store c.args.parts in
    let pins : c.new-3.result.items ≡ [] = c.new-3.ensures.items in
    let size : c.in-Ok-new.buffers ≡ c.args.parts.block_size = c.in-Ok-new.ensures in
    let none : c.in-Ok.cache ≡ no_entries c.args.parts.pages = c.in-Ok.ensures.empty in
    subst (λ (z : Core g.row.S.Denot). IsHeld g.S.Store z)
    (λ i. record s { cache = sym none i; pins = sym pins i; block_size = sym size i })
    (holds g.S.Store c.args.store c.args.parts has)

-- a cache without entries is right of any files
pub invariant_of-reader : goal.invariant_of-reader
invariant_of-reader g c = record { right = λ told. c.in-Ok.ensures.right (g.S.Store.reads c.args.store) }
