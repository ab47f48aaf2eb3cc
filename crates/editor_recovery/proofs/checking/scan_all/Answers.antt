-- One block after another.
use Rattle.editor_recovery.proofs.Common.{take, arith, core_of}
use Rattle.std.proofs.{lemmas.List.take_all}
use Rattle.editor_recovery.proofs.Checked.{far_all, far_ends, far_more, far_named, far_none, far_studio}
use Rattle.editor_recovery.proofs.checking.scan_all.Goals as goal

pub loop-i-init : goal.loop-i-init
loop-i-init g c =
    let old = core_of c.args.studio.now in
    far_none g.S.Store old c.requires.studio c.requires.going (g.met.S.Store.may_fewer old.store)

pub scan-requires-clause-studio : goal.scan-requires-clause-studio
scan-requires-clause-studio g c =
    far_studio g.S.Store (core_of c.args.studio.now) c.requires.studio c.requires.going
    (take c.loop-i.i c.args.blocks.now) (core_of c.loop-i.studio) c.loop-i.invariant

pub scan-requires-clause-named : goal.scan-requires-clause-named
scan-requires-clause-named g c =
    far_named g.S.Store (core_of c.args.studio.now) c.requires.studio c.requires.going
    (take c.loop-i.i c.args.blocks.now) (core_of c.loop-i.studio)
    c.loop-i.invariant c.args.blocks.now c.loop-i.i (record { id = 0; len = 0 }) c.requires.named c.loop-i-test.true

pub returns-in-Err : goal.returns-in-Err
returns-in-Err g c =
    far_ends g.S.Store (core_of c.args.studio.now) c.requires.studio c.requires.going c.args.blocks.now c.loop-i.i
    c.loop-i-test.true (core_of c.loop-i.studio)
    c.loop-i.invariant (record { id = 0; len = 0 }) (core_of c.scan.new.self) c.in-Err.fault c.in-Err.ensures

pub loop-i-preserved : goal.loop-i-preserved
loop-i-preserved g c =
    far_more g.S.Store (core_of c.args.studio.now) c.requires.studio c.requires.going c.args.blocks.now c.loop-i.i
    c.loop-i-test.true (core_of c.loop-i.studio)
    c.loop-i.invariant (record { id = 0; len = 0 }) (core_of c.scan.new.self) tt c.in-Ok.ensures

pub returns : goal.returns
returns g c =
    let old = core_of c.args.studio.now in
    let now = core_of c.loop-i.studio in
    far_all g.S.Store old c.requires.studio c.requires.going c.args.blocks.now now
    (rw (take_all c.loop-i.i c.args.blocks.now (omega (arith, c.loop-i-test.false))) at c.loop-i.invariant) tt
