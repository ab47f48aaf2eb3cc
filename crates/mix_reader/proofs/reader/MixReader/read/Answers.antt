-- As many as there are.
use Rattle.mix_reader.proofs.Common.{◌≤◌, ◌≡◌, ◌+◌, ◌-◌, ℕ, length, take, drop, map, min, ap, ◌∙◌, arith, length-take}
use Rattle.mix_reader.proofs.Common.{exit_err, Files, frame_at, mix_length, mix_of, Frame, counted_from, Project, meant}
use Rattle.mix_reader.proofs.Common.{point_blocks, reads_err, reads_ok, stored_of, valid_in, take_front, drop_front}
use Rattle.mix_reader.proofs.Common.{mix_length_of}
use Rattle.mix_reader.proofs.{CountLaws.made_from, PageLaws.heard_part, TrackLaws.stored_meant}
use Rattle.mix_reader.proofs.reader.MixReader.read.Goals as goal

pub returns-in_err-mix_stretches-clause-valid : goal.returns-in_err-mix_stretches-clause-valid
returns-in_err-mix_stretches-clause-valid g c = λ told whole.
    rw (exit_err c.from_residual.result c.from_residual.ensures.1)
    (valid_in (g.S.Store.reads c.args.reader.now.store) (point_blocks c.args.self.now.point.now) _ whole
    (c.in_err-mix_stretches.ensures.reads.damaged told))

pub returns-clause-stored : goal.returns-clause-stored
returns-clause-stored g c = λ told.
    let a = c.args in
    let files : Files = g.S.Store.reads c.args.reader.now.store in
    let p = meant (stored_of files) a.self.now.point.now in
    let f : ℕ → Frame = frame_at p in
    let len = mix_length p in
    let count = c.min-count.result in
    let size : length (take count a.out.now) ≡ count =
    omega (arith, length-take count a.out.now, c.min-count.ensures) in
    let few : count ≡ min count (len - a.self.now.at) =
    omega (arith, c.min-count.ensures, c.saturating_sub-left.ensures, c.mix_len.ensures.frames (stored_of files)) in
    take_front count c.mix_stretches.new.out (drop count a.out.now) (omega (arith, c.mix_stretches.auto.out, size))
    ∙ c.in_ok-mix_stretches.ensures.stored told ∙ ap (λ m. map f (counted_from a.self.now.at m)) size
    ∙ made_from f count a.self.now.at len count few

pub returns-clause-read : goal.returns-clause-read
returns-clause-read g c = λ told whole.
    let files : Files = g.S.Store.reads c.args.reader.now.store in
    returns-clause-stored g c told
    ∙ ap (λ (p : Project). take c.min-count.result (drop c.args.self.now.at (mix_of p)))
    (stored_meant files c.args.self.now.point.now whole)

pub returns-clause-rest : goal.returns-clause-rest
returns-clause-rest g c =
    let count = c.min-count.result in
    let out = c.args.out.now in
    let size : length (take count out) ≡ count = omega (arith, length-take count out, c.min-count.ensures) in
    drop_front count c.mix_stretches.new.out (drop count out) (omega (arith, c.mix_stretches.auto.out, size))

pub returns-in_err-mix_stretches-clause-reads : goal.returns-in_err-mix_stretches-clause-reads
returns-in_err-mix_stretches-clause-reads g c =
    rw (exit_err c.from_residual.result c.from_residual.ensures.1) (reads_err c.in_err-mix_stretches.ensures.reads)

pub returns-clause-reads : goal.returns-clause-reads
returns-clause-reads g c = reads_ok {y = c.min-count.result} c.in_ok-mix_stretches.ensures.reads

pub returns-in_err-mix_stretches-clause-hit : goal.returns-in_err-mix_stretches-clause-hit
returns-in_err-mix_stretches-clause-hit g c =
    let a = c.args in
    let at = a.self.now.at in
    let count = c.min-count.result in
    let m : ℕ = length (take count a.out.now) in
    let to : ℕ = at + min (length a.out.now) (mix_length_of a.self.now.point.now - at) in
    let within : at + m ≤ to = omega (
      arith,
      length-take count a.out.now,
      c.min-count.ensures,
      c.saturating_sub-left.ensures,
      c.mix_len.ensures.value,
    ) in
    rw (exit_err c.from_residual.result c.from_residual.ensures.1) (λ has. c.in_err-mix_stretches.ensures.hit
    (heard_part a.reader.now.cache at to at (at + m) a.self.now.point.now (omega arith) within has))

pub returns-clause-hit : goal.returns-clause-hit
returns-clause-hit g c = λ has.
    let a = c.args in
    let at = a.self.now.at in
    let count = c.min-count.result in
    let m : ℕ = length (take count a.out.now) in
    let to : ℕ = at + min (length a.out.now) (mix_length_of a.self.now.point.now - at) in
    let within : at + m ≤ to = omega (
      arith,
      length-take count a.out.now,
      c.min-count.ensures,
      c.saturating_sub-left.ensures,
      c.mix_len.ensures.value,
    ) in
    c.in_ok-mix_stretches.ensures.hit
    (heard_part a.reader.now.cache at to at (at + m) a.self.now.point.now (omega arith) within has)
