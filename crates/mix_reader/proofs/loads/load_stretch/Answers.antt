-- What is loaded is what the tracks mean.
use Rattle.mix_reader.proofs.Common.{◌≤◌, ◌+◌, ◌∙◌, subst, refl, arith, exit_err, Project, point_blocks, same_none}
use Rattle.mix_reader.proofs.Common.{reads_err, reads_none, reads_ok, valid_in}
use Rattle.mixdown.specs.Loads.{Shows}
use Rattle.mix_reader.proofs.{PageLaws.heard_part, TrackLaws.stored_meant}
use Rattle.mix_reader.proofs.loads.load_stretch.Goals as goal

pub returns-in_err-fill-clause-valid : goal.returns-in_err-fill-clause-valid
returns-in_err-fill-clause-valid g c = λ told whole.
    rw (exit_err c.from_residual-in_err-fill.result c.from_residual-in_err-fill.ensures.1)
    (valid_in (g.S.Store.reads c.args.reader.now.store) (point_blocks c.args.point.now) _ whole
    (c.in_err-fill.ensures.reads.damaged told))

pub returns-clause-read : goal.returns-clause-read
returns-clause-read g c = λ told whole.
    let S : Project → Type 0 = λ p. Shows c.args.from p c.fill.new.loaded in
    subst S (stored_meant (g.S.Store.reads c.args.reader.now.store) c.args.point.now whole)
    (c.in_ok-fill.ensures.stored told)

pub returns-clause-gains : goal.returns-clause-gains
returns-clause-gains g c = c.fill.ensures.gains ∙ c.in_ok-make_ready.ensures.gains

-- there was no memory, and nothing was read
pub returns-in_err-make_ready-clause-reads : goal.returns-in_err-make_ready-clause-reads
returns-in_err-make_ready-clause-reads g c =
    rw (exit_err c.from_residual.result c.from_residual.ensures.1) (reads_none tt (g.met.S.Store.may_fewer _))

pub returns-in_err-fill-clause-reads : goal.returns-in_err-fill-clause-reads
returns-in_err-fill-clause-reads g c =
    rw (exit_err c.from_residual-in_err-fill.result c.from_residual-in_err-fill.ensures.1)
    (reads_err c.in_err-fill.ensures.reads)

pub returns-clause-reads : goal.returns-clause-reads
returns-clause-reads g c = reads_ok {y = tt} c.in_ok-fill.ensures.reads

pub returns-in_err-make_ready-clause-hit : goal.returns-in_err-make_ready-clause-hit
returns-in_err-make_ready-clause-hit g c =
    rw (exit_err c.from_residual.result c.from_residual.ensures.1) (λ has. (refl, refl, same_none _))

pub returns-in_err-fill-clause-hit : goal.returns-in_err-fill-clause-hit
returns-in_err-fill-clause-hit g c =
    let a = c.args in
    let len = c.make_ready.new.loaded.len in
    let few : len ≤ a.n = omega (arith, c.in_ok-make_ready.ensures.len, c.min-count.ensures) in
    rw (exit_err c.from_residual-in_err-fill.result c.from_residual-in_err-fill.ensures.1)
    (λ has. c.in_err-fill.ensures.hit (heard_part a.reader.now.cache a.from (a.from + a.n) a.from
    (a.from + len) a.point.now (omega arith) (omega (arith, few)) has))

pub returns-clause-hit : goal.returns-clause-hit
returns-clause-hit g c = λ has.
    let a = c.args in
    let len = c.make_ready.new.loaded.len in
    let few : len ≤ a.n = omega (arith, c.in_ok-make_ready.ensures.len, c.min-count.ensures) in
    c.in_ok-fill.ensures.hit (heard_part a.reader.now.cache a.from (a.from + a.n) a.from
    (a.from + len) a.point.now (omega arith) (omega (arith, few)) has)
