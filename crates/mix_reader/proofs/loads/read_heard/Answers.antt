-- What is planned is read together, and then the others.
use Rattle.mix_reader.proofs.Common.{◌∙◌, ◌+◌, List, length, refl, subst, exit_err, same_turn, Files, unmuted, Track}
use Rattle.mix_reader.proofs.Common.{meant, point_blocks, stored_of, AreStretches, reads_err, reads_then, told_on}
use Rattle.std.specs.Prelude.{OnOk}
use Rattle.disk_model.proofs.Frames.{tells_back}
use Rattle.mix_reader.proofs.{PageLaws.heard_on, PlanLaws.put_filled, PlanLaws.put_none}
use Rattle.mix_reader.proofs.loads.read_heard.Goals as goal

pub returns-in_err-read_plan-clause-reads : goal.returns-in_err-read_plan-clause-reads
returns-in_err-read_plan-clause-reads g c =
    rw (exit_err c.from_residual-in_err-read_plan.result c.from_residual-in_err-read_plan.ensures.1)
    (reads_then {x = c.in_ok-plan.plan} c.in_ok-plan.ensures.reads
    (reads_err (c.in_err-read_plan.ensures.reads (point_blocks c.args.point.now) c.in_ok-plan.ensures.among)))

pub read_tracks-requires-clause-put : goal.read_tracks-requires-clause-put
read_tracks-requires-clause-put g c = λ told.
    let ts : List Track = c.args.point.now in
    let read = c.in_ok-read_plan.ensures.reads (point_blocks ts) c.in_ok-plan.ensures.among in
    put_filled (g.S.Store.reads c.plan_tracks.new.reader.store) (g.S.Store.reads c.read_plan.new.reader.store)
    c.args.from c.args.len (length c.args.samples.now) ts c.in_ok-plan.plan.parts c.args.samples.now
    c.read_plan.new.samples read.kept.same_reads c.in_ok-plan.ensures.parts refl
    (c.in_ok-read_plan.ensures.read (tells_back read.kept told) c.if-branch.true) c.in_ok-plan.ensures.plans

pub returns-then-branch-clause-reads : goal.returns-then-branch-clause-reads
returns-then-branch-clause-reads g c =
    reads_then {x = c.in_ok-plan.plan} c.in_ok-plan.ensures.reads
    (reads_then {x = c.in_ok-read_plan.field-0}
    (c.in_ok-read_plan.ensures.reads (point_blocks c.args.point.now) c.in_ok-plan.ensures.among)
    c.read_tracks.ensures.reads)

pub returns-then-branch-clause-stored : goal.returns-then-branch-clause-stored
returns-then-branch-clause-stored g c = λ told.
    let ts : List Track = c.args.point.now in
    let plan = c.in_ok-plan.ensures.reads in
    let read = c.in_ok-read_plan.ensures.reads (point_blocks ts) c.in_ok-plan.ensures.among in
    let P : Files → Type 0 = λ f. OnOk c.read_tracks.result
    (AreStretches c.args.from c.args.len (unmuted (meant (stored_of f) ts)) c.read_tracks.new.samples) in
    subst P (read.kept.same_reads ∙ plan.kept.same_reads) (c.read_tracks.ensures.stored (told_on read (told_on plan told)))

pub read_tracks-requires-2-clause-put : goal.read_tracks-requires-2-clause-put
read_tracks-requires-2-clause-put g c = λ told.
    put_none (stored_of (g.S.Store.reads c.read_plan.new.reader.store)) c.args.from c.args.len c.args.point.now
    c.read_plan.new.samples

pub returns-clause-reads : goal.returns-clause-reads
returns-clause-reads g c =
    reads_then {x = c.in_ok-plan.plan} c.in_ok-plan.ensures.reads
    (reads_then {x = c.in_ok-read_plan.field-0}
    (c.in_ok-read_plan.ensures.reads (point_blocks c.args.point.now) c.in_ok-plan.ensures.among)
    c.read_tracks-2.ensures.reads)

pub returns-clause-hit : goal.returns-clause-hit
returns-clause-hit g c = λ has.
    let plan = c.in_ok-plan.ensures.hit has in
    let read = c.read_plan.ensures.hit (c.in_ok-plan.ensures.spared has) in
    let same = same_turn _ _ _ plan.2 read.2 in
    let rest = c.read_tracks-2.ensures.hit (heard_on c.args.reader.now.cache c.read_plan.new.reader.cache c.args.from
    (c.args.from + c.args.len) c.args.point.now same has) in
    (rest.0, rest.1 ∙ read.1 ∙ plan.1, same_turn _ _ _ same rest.2)

pub returns-clause-stored : goal.returns-clause-stored
returns-clause-stored g c = λ told.
    let ts : List Track = c.args.point.now in
    let plan = c.in_ok-plan.ensures.reads in
    let read = c.in_ok-read_plan.ensures.reads (point_blocks ts) c.in_ok-plan.ensures.among in
    let P : Files → Type 0 = λ f. OnOk c.read_tracks-2.result
    (AreStretches c.args.from c.args.len (unmuted (meant (stored_of f) ts)) c.read_tracks-2.new.samples) in
    subst P (read.kept.same_reads ∙ plan.kept.same_reads)
    (c.read_tracks-2.ensures.stored (told_on read (told_on plan told)))
