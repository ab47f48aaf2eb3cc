-- A clip that fits, or does not.
use Rattle.std.proofs.Common.{◌≡◌, refl, sym, subst, ap, ◌∙◌, true, false, ℕ, ◌+◌, ◌-◌, drop, arith, ◌<◌, length}
use Rattle.std.proofs.lemmas.Option.{slice_get_read}
use Rattle.clip_track.specs.{declared.clips.Clip.Clip, Clips.layout_blocks}
use Rattle.purge_size.specs.Fits.{AreSmall, Takes}
use Rattle.purge_size.proofs.Taking.{same_takes, small_here, took_here, took_no_more}
use Rattle.layout_uses.proofs.Turns.{layout_flat}
use Rattle.purge_size.proofs.fitting.Fitting.take_clips.Goals as goal

pub take_rows-requires : goal.take_rows-requires
take_rows-requires c =
    let cs = c.args.clips.now in
    let i = c.loop-i.i - 1 in
    let within : i < length cs = omega (arith, c.loop-i-test.true, c.loop-i.auto.i) in
    let value = c.rows.ensures.value ∙ ap (λ (x : Clip). x.blocks) (sym c.index-clips-i.is) in
    let here = slice_get_read cs _ i c.index-clips-i.result refl within c.index-clips-i.is in
    subst AreSmall (sym value)
    (small_here (λ (x : Clip). x.blocks) cs i c.index-clips-i.result here (subst AreSmall (layout_flat cs) c.requires))

pub returns-then-not-branch : goal.returns-then-not-branch
returns-then-not-branch c =
    let cs = c.args.clips.now in
    let i = c.loop-i.i - 1 in
    let next : c.loop-i.i ≡ i + 1 = omega (arith, c.loop-i-test.true) in
    let within : i < length cs = omega (arith, c.loop-i-test.true, c.loop-i.auto.i) in
    let value = c.rows.ensures.value ∙ ap (λ (x : Clip). x.blocks) (sym c.index-clips-i.is) in
    let here = slice_get_read cs _ i c.index-clips-i.result refl within c.index-clips-i.is in
    let was = subst (λ (n : ℕ). Takes true (layout_blocks (drop n cs)) c.args.self.now c.loop-i.self) next
    c.loop-i.invariant in
    subst (λ z. Takes false z c.args.self.now c.take_rows.new.self) (sym (layout_flat cs))
    (took_no_more (λ (x : Clip). x.blocks) cs i c.index-clips-i.result here c.args.self.now c.loop-i.self
    c.take_rows.new.self (subst (λ z. Takes true z c.args.self.now c.loop-i.self) (layout_flat (drop (i + 1) cs)) was)
    (subst (λ z. Takes false z c.loop-i.self c.take_rows.new.self) value
    (same_takes _ false _ _ _ c.if-not-branch.true c.in_ok-take_rows.ensures)))

pub loop-i-preserved : goal.loop-i-preserved
loop-i-preserved c =
    let cs = c.args.clips.now in
    let i = c.loop-i.i - 1 in
    let next : c.loop-i.i ≡ i + 1 = omega (arith, c.loop-i-test.true) in
    let within : i < length cs = omega (arith, c.loop-i-test.true, c.loop-i.auto.i) in
    let value = c.rows.ensures.value ∙ ap (λ (x : Clip). x.blocks) (sym c.index-clips-i.is) in
    let here = slice_get_read cs _ i c.index-clips-i.result refl within c.index-clips-i.is in
    let was = subst (λ (n : ℕ). Takes true (layout_blocks (drop n cs)) c.args.self.now c.loop-i.self) next
    c.loop-i.invariant in
    subst (λ z. Takes true z c.args.self.now c.take_rows.new.self) (sym (layout_flat (drop i cs)))
    (took_here (λ (x : Clip). x.blocks) cs i c.index-clips-i.result here c.args.self.now c.loop-i.self
    c.take_rows.new.self (subst (λ z. Takes true z c.args.self.now c.loop-i.self) (layout_flat (drop (i + 1) cs)) was)
    (subst (λ z. Takes true z c.loop-i.self c.take_rows.new.self) value
    (same_takes _ true _ _ _ c.if-not-branch.false c.in_ok-take_rows.ensures)))
