-- A row that fits, or does not.
use Rattle.std.proofs.Common.{◌≡◌, refl, sym, subst, true, false, ℕ, ◌+◌, ◌-◌, drop, arith, ◌<◌, length, List}
use Rattle.std.proofs.lemmas.Option.{slice_get_read}
use Rattle.pcm_base.specs.declared.block.BlockRef.{BlockRef}
use Rattle.block_sequence.specs.Rows.{flat}
use Rattle.purge_size.specs.Fits.{AreSmall, Takes}
use Rattle.purge_size.proofs.Taking.{same_takes, small_here, took_here, took_no_more}
use Rattle.layout_uses.proofs.Turns.{rows_flat}
use Rattle.purge_size.proofs.fitting.Fitting.take_rows.Goals as goal

pub take_blocks-requires : goal.take_blocks-requires
take_blocks-requires c =
    let cs = c.args.rows.now in
    let i = c.loop-i.i - 1 in
    let within : i < length cs = omega (arith, c.loop-i-test.true, c.loop-i.auto.i) in
    let value = c.as_slice.ensures.value in
    let here = slice_get_read cs _ i c.index-rows-i.result refl within c.index-rows-i.is in
    subst AreSmall (sym value)
    (small_here (λ (x : List BlockRef). x) cs i c.index-rows-i.result here (subst AreSmall (rows_flat cs) c.requires))

pub returns-then-not-branch : goal.returns-then-not-branch
returns-then-not-branch c =
    let cs = c.args.rows.now in
    let i = c.loop-i.i - 1 in
    let next : c.loop-i.i ≡ i + 1 = omega (arith, c.loop-i-test.true) in
    let within : i < length cs = omega (arith, c.loop-i-test.true, c.loop-i.auto.i) in
    let value = c.as_slice.ensures.value in
    let here = slice_get_read cs _ i c.index-rows-i.result refl within c.index-rows-i.is in
    let was = subst (λ (n : ℕ). Takes true (flat (drop n cs)) c.args.self.now c.loop-i.self) next
    c.loop-i.invariant in
    subst (λ z. Takes false z c.args.self.now c.take_blocks.new.self) (sym (rows_flat cs))
    (took_no_more (λ (x : List BlockRef). x) cs i c.index-rows-i.result here c.args.self.now c.loop-i.self
    c.take_blocks.new.self (subst (λ z. Takes true z c.args.self.now c.loop-i.self) (rows_flat (drop (i + 1) cs)) was)
    (subst (λ z. Takes false z c.loop-i.self c.take_blocks.new.self) value
    (same_takes _ false _ _ _ c.if-not-branch.true c.in_ok-take_blocks.ensures)))

pub loop-i-preserved : goal.loop-i-preserved
loop-i-preserved c =
    let cs = c.args.rows.now in
    let i = c.loop-i.i - 1 in
    let next : c.loop-i.i ≡ i + 1 = omega (arith, c.loop-i-test.true) in
    let within : i < length cs = omega (arith, c.loop-i-test.true, c.loop-i.auto.i) in
    let value = c.as_slice.ensures.value in
    let here = slice_get_read cs _ i c.index-rows-i.result refl within c.index-rows-i.is in
    let was = subst (λ (n : ℕ). Takes true (flat (drop n cs)) c.args.self.now c.loop-i.self) next
    c.loop-i.invariant in
    subst (λ z. Takes true z c.args.self.now c.take_blocks.new.self) (sym (rows_flat (drop i cs)))
    (took_here (λ (x : List BlockRef). x) cs i c.index-rows-i.result here c.args.self.now c.loop-i.self
    c.take_blocks.new.self (subst (λ z. Takes true z c.args.self.now c.loop-i.self) (rows_flat (drop (i + 1) cs)) was)
    (subst (λ z. Takes true z c.loop-i.self c.take_blocks.new.self) value
    (same_takes _ true _ _ _ c.if-not-branch.false c.in_ok-take_blocks.ensures)))
