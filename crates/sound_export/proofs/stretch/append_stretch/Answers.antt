-- The answer of the read, and none where the vault failed.
use Rattle.pcm_base.proofs.Exits.{exit_err}
use Rattle.block_cache.proofs.ReaderLaws.{reads_err, reads_ok}
use Rattle.std.proofs.Common.{refl, arith}
use Rattle.mix_reader.specs.Tracks.{mix_length_of}
use Rattle.mix_reader.proofs.PageLaws.{heard_part}
use Rattle.sound_export.proofs.stretch.append_stretch.Goals as goal

pub returns-in_err-count-clause-reads : goal.returns-in_err-count-clause-reads
returns-in_err-count-clause-reads g c =
    rw (exit_err c.from_residual.result c.from_residual.ensures.1) (reads_err c.in_err-count.ensures.reads)

pub returns-in-Err-clause-reads : goal.returns-in-Err-clause-reads
returns-in-Err-clause-reads g c = reads_ok {y = tt} c.in_ok-count.ensures.reads

pub returns-clause-reads : goal.returns-clause-reads
returns-clause-reads g c = reads_ok {y = tt} c.in_ok-count.ensures.reads

pub returns-in_err-count-clause-hit : goal.returns-in_err-count-clause-hit
returns-in_err-count-clause-hit g c =
    let m = c.args.mix.now in
    let left = c.requires.left in
    rw (exit_err c.from_residual.result c.from_residual.ensures.1) (λ has. c.in_err-count.ensures.hit
    (heard_part c.args.reader.now.cache m.at (mix_length_of m.point.now) m.at _ m.point.now (omega arith)
    (omega (arith, left)) has))

pub returns-in-Err-clause-hit : goal.returns-in-Err-clause-hit
returns-in-Err-clause-hit g c = λ has.
    let m = c.args.mix.now in
    let left = c.requires.left in
    let hit = c.in_ok-count.ensures.hit (heard_part c.args.reader.now.cache m.at (mix_length_of m.point.now) m.at _
    m.point.now (omega arith) (omega (arith, left)) has) in
    (refl, hit.1, hit.2)

pub returns-clause-hit : goal.returns-clause-hit
returns-clause-hit g c = λ has.
    let m = c.args.mix.now in
    let left = c.requires.left in
    let hit = c.in_ok-count.ensures.hit (heard_part c.args.reader.now.cache m.at (mix_length_of m.point.now) m.at _
    m.point.now (omega arith) (omega (arith, left)) has) in
    (refl, hit.1, hit.2)
