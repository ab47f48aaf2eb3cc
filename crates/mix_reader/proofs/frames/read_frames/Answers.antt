-- The reader stands at the place, and reads no page after the end.
use Rattle.mix_reader.proofs.Common.{◌+◌, ◌-◌, List, length, min, sym, subst, arith, Track, HasHeard, mix_length_of}
use Rattle.mix_reader.proofs.PageLaws.{heard_part}
use Rattle.mix_reader.proofs.frames.read_frames.Goals as goal

pub returns-clause-hit : goal.returns-clause-hit
returns-clause-hit g c = λ has.
    let a = c.args in
    let cache = a.reader.now.cache in
    let n = length a.out.now in
    let at = c.new-mix.result.at in
    let P : List Track → Type 0 = λ ts. HasHeard cache at (at + min n (mix_length_of ts - at)) ts in
    c.read.ensures.hit (subst P (sym c.new-mix.ensures.point) (heard_part cache a.from (a.from + n) at
    (at + min n (mix_length_of a.point.now - at)) a.point.now (omega (arith, c.new-mix.ensures.place))
    (omega (arith, c.new-mix.ensures.place)) has))
