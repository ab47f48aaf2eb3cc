-- A scan changes nothing, and tells of the block that was read.
use Rattle.editor_core.proofs.Common.{sym, subst, Entries, core_of}
use Rattle.editor_views.specs.Scans.{ScansBlock}
use Rattle.editor_views.proofs.BlockScans.{point_named, point_short, scans_block}
use Rattle.editor_core.proofs.studio.Studio.scan.Goals as goal

pub check-requires-clause-block : goal.check-requires-clause-block
check-requires-clause-block g c = point_named g.S.Store (core_of c.args.self.now) c.requires.studio c.args.block
    c.requires.named

pub check-requires-clause-room : goal.check-requires-clause-room
check-requires-clause-room g c = point_short g.S.Store (core_of c.args.self.now) c.requires.studio c.args.block
    c.requires.named

pub returns : goal.returns
returns g c =
    let s = core_of c.args.self.now in
    let store = c.check.new.reader.store in
    subst (λ (k : Entries). ScansBlock g.S.Store s c.args.block c.check.result
    (record s { store = store; cache = k; block_size = c.check.new.self })) (sym c.check.ensures.pages)
    (scans_block g.S.Store s c.requires.studio c.requires.going c.args.block c.requires.named
    c.check.result store c.check.ensures.kept
    c.check.new.self c.check.ensures.same c.check.ensures.whole c.check.ensures.checked c.check.ensures.valid
    c.check.ensures.faults)
