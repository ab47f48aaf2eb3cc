-- A block that does not fit.
use Rattle.std.proofs.Common.{◌≡◌, sym, subst, true, false, ℕ, ◌+◌, ◌-◌, ◌∷◌, [], drop, arith, ◌<◌, length}
use Rattle.std.proofs.lemmas.Option.{slice_get-get_or}
use Rattle.pcm_base.specs.declared.block.BlockRef.{BlockRef}
use Rattle.purge_size.specs.Fits.{Takes}
use Rattle.purge_size.proofs.Taking.{same_takes, took_no_more}
use Rattle.layout_uses.proofs.Turns.{single}
use Rattle.purge_size.proofs.fitting.Fitting.take_blocks.Goals as goal

pub returns-then-not-branch : goal.returns-then-not-branch
returns-then-not-branch c =
    let bs = c.args.blocks.now in
    let none : BlockRef = record { id = 0; len = 0 } in
    let i = c.loop-i.i - 1 in
    let next : c.loop-i.i ≡ i + 1 = omega (arith, c.loop-i-test.true) in
    let within : i < length bs = omega (arith, c.loop-i-test.true, c.loop-i.auto.i) in
    let was = subst (λ (n : ℕ). Takes true (drop n bs) c.args.self.now c.loop-i.self) next c.loop-i.invariant in
    subst (λ z. Takes false z c.args.self.now c.take_block.new.self) (single bs)
    (took_no_more (λ (b : BlockRef). b ∷ []) bs i _ (slice_get-get_or bs i none within) c.args.self.now c.loop-i.self
    c.take_block.new.self (subst (λ z. Takes true z c.args.self.now c.loop-i.self) (sym (single (drop (i + 1) bs))) was)
    (same_takes _ false _ _ _ c.if-not-branch.true c.in_ok-take_block.ensures))
