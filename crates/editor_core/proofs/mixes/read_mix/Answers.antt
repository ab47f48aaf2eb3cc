-- As many as there are.
use Rattle.editor_core.proofs.Common.{ℕ, ◌+◌, length, take, arith, length-take}
use Rattle.mix_reader.proofs.PageLaws.{heard_part}
use Rattle.editor_core.proofs.mixes.read_mix.Goals as goal

pub returns-clause-hit : goal.returns-clause-hit
returns-clause-hit g c = λ has.
    let a = c.args in
    let count : ℕ = c.min-count.result in
    c.read_frames.ensures.hit (heard_part a.reader.now.cache a.from (a.from + a.most) a.from
    (a.from + length (take count a.out.now)) a.point.now (omega arith)
    (omega (arith, length-take count a.out.now, c.min-count.ensures)) has)
