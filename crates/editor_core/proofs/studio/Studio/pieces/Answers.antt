-- Pieces of a recording, or the first of them alone, are a step.
use Rattle.editor_core.proofs.Common.{◌≡◌, refl, sym, subst, ℕ, ℤ, false, IfErr, List, length, take, Result, Ok, Err}
use Rattle.editor_core.proofs.Common.{arith, length-take, take_all, Done, Refusal, Took, quietly, as_reply, Core}
use Rattle.editor_core.proofs.Common.{IsStill, IsHeld, core_of}
use Rattle.std.proofs.Common.{IsErr}
use Rattle.std.proofs.{lemmas.Bool.true≢false}
use Rattle.pcm_base.specs.{declared.command.Call.TheVariants.Piece}
use Rattle.editor_state.specs.{Exchanges.may_begin}
use Rattle.editor_core.proofs.studio.Studio.pieces.Goals as goal

-- what a test refused has left the studio as it was
idle_same : {D : Type 0} (old new : Core D) (r : Result ℕ Refusal)
    → IfErr r (λ why. may_begin why ≡ false) × IsErr r → IfErr r (IsStill old new) → new ≡ old
idle_same old new (Ok n) idle still = absurd (true≢false (sym idle.1))
idle_same old new (Err why) idle still = still idle.0

pub slice_bounds-piece-end : goal.slice_bounds-piece-end
slice_bounds-piece-end g c =
    omega (arith, length-take 256 c.args.samples.now, c.if-samples-gt-CHUNK_SAMPLES.true)

pub piece-what-requires-then-is_idle-clause-few : goal.piece-what-requires-then-is_idle-clause-few
piece-what-requires-then-is_idle-clause-few g c = omega (arith, length-take 256 c.args.samples.now)

pub returns-then-is_idle-clause-took : goal.returns-then-is_idle-clause-took
returns-then-is_idle-clause-took g c =
    let s = core_of c.args.self.now in
    let same = idle_same s (core_of c.piece-what.new.self) c.piece-what.result (c.if-is_idle.ensures refl)
    c.piece-what.ensures.still in
    let call = Piece c.args.track c.args.tag (take 256 c.args.samples.now) in
    let told = as_reply (λ (n : ℕ). Done) c.piece-what-then-is_idle.result in
    subst (λ (z : Core g.row.S.Denot). Took g.S.Store z (quietly call told)
    (core_of c.piece-what-then-is_idle.new.self))
    same c.piece-what-then-is_idle.ensures.took

pub returns-then-is_idle-clause-valid : goal.returns-then-is_idle-clause-valid
returns-then-is_idle-clause-valid g c = λ held.
    let s = core_of c.args.self.now in
    let same = idle_same s (core_of c.piece-what.new.self) c.piece-what.result (c.if-is_idle.ensures refl)
    c.piece-what.ensures.still in
    c.piece-what-then-is_idle.ensures.valid (subst (λ (z : Core g.row.S.Denot). IsHeld g.S.Store z) (sym same) held)

pub returns-clause-took : goal.returns-clause-took
returns-clause-took g c =
    let s = core_of c.args.self.now in
    let xs = c.args.samples.now in
    let told = as_reply (λ (n : ℕ). Done) c.piece-what.result in
    subst (λ (z : List ℤ). Took g.S.Store s (quietly (Piece c.args.track c.args.tag z) told)
    (core_of c.piece-what.new.self))
    (sym (take_all (length xs) xs (omega arith))) c.piece-what.ensures.took
