-- What is seen of the block is put.
use Rattle.cell_reader.proofs.Common.{◌≡◌, ◌≤◌, ◌+◌, ◌-◌, ℕ, ℤ, List, map, length, take, drop, arith, ◌∙◌, length-drop}
use Rattle.cell_reader.proofs.Common.{length-map, length-take, on_ok_weaker, Files, Sample, stretch, length-stretch}
use Rattle.cell_reader.proofs.Common.{reads_none, same_none, place_in, stored_on}
use Rattle.cell_reader.proofs.{KeptLaws.samples_part, KeptLaws.hits_none, SeenLaws.puts_none, SeenLaws.puts_mid}
use Rattle.cell_reader.proofs.{StoredLaws.stored_part}
use Rattle.cell_reader.proofs.blocks.put_block.Goals as goal

pub returns-then-start-end-clause-stored : goal.returns-then-start-end-clause-stored
returns-then-start-end-clause-stored g c = λ told.
    let f : ℕ → ℤ = stored_on (g.S.Store.reads c.args.reader.now.store) c.args.block.id in
    let samples = stretch f 0 c.args.block.len in
    let size : length (map Sample samples) ≡ c.args.block.len =
    length-map samples Sample ∙ length-stretch f 0 c.args.block.len in
    puts_none g.T.FromCell.made c.args.view c.args.at c.args.block.len (map Sample samples) c.args.out.now
    (omega (arith, c.requires.size)) size
    (omega (arith, c.place_in-start.ensures, c.if-start-end.true, c.place_in-end.ensures))

pub returns-then-start-end-clause-reads : goal.returns-then-start-end-clause-reads
returns-then-start-end-clause-reads g c = reads_none tt (g.met.S.Store.may_fewer _)

pub returns-clause-stored : goal.returns-clause-stored
returns-clause-stored g c = λ told.
    let a = c.args in
    let b = c.args.block in
    let files : Files = g.S.Store.reads c.args.reader.now.store in
    let start = c.place_in-start.result in
    let skip = c.saturating_sub-skip.result in
    let k = c.place_in-end.result - start in
    let m : ℕ = length (take k (drop start a.out.now)) in
    let samples : List ℤ = stretch (stored_on files b.id) 0 b.len in
    let size : length (map Sample samples) ≡ b.len =
    length-map samples Sample ∙ length-stretch (stored_on files b.id) 0 b.len in
    let order : a.view.from ≤ a.view.to = omega (arith, c.requires.size) in
    let fits : start ≤ length a.out.now = omega (arith, c.place_in-start.ensures, c.requires.size) in
    let seen : m ≡ place_in a.view (a.at + b.len) - place_in a.view a.at =
    omega (
      arith,
      length-take k (drop start a.out.now),
      length-drop start a.out.now,
      c.place_in-start.ensures,
      c.place_in-end.ensures,
      c.requires.size,
    ) in
    let within : skip + m ≤ b.len =
    omega (
      arith,
      seen,
      c.saturating_sub-skip.ensures,
      c.if-start-end.false,
      c.place_in-start.ensures,
      c.place_in-end.ensures,
    ) in
    on_ok_weaker c.read.result
    (λ got. puts_mid g.T.FromCell.made a.view a.at b.len k start (map Sample samples) c.read.new.out a.out.now order size
    c.place_in-start.ensures fits
    (stored_part g.T.FromCell.made files b a.view a.at m skip c.read.new.out order seen c.saturating_sub-skip.ensures within
    got))
    (c.read.ensures.stored told)

pub returns-then-start-end-clause-hit : goal.returns-then-start-end-clause-hit
returns-then-start-end-clause-hit g c = hits_none

pub returns-clause-hit : goal.returns-clause-hit
returns-clause-hit g c =
    let a = c.args in
    let b = c.args.block in
    let start = c.place_in-start.result in
    let k = c.place_in-end.result - start in
    let m : ℕ = length (take k (drop start a.out.now)) in
    let seen : m ≡ place_in a.view (a.at + b.len) - place_in a.view a.at =
    omega (
      arith,
      length-take k (drop start a.out.now),
      length-drop start a.out.now,
      c.place_in-start.ensures,
      c.place_in-end.ensures,
      c.requires.size,
    ) in
    let skip : c.saturating_sub-skip.result ≡ a.view.from - a.at = omega (arith, c.saturating_sub-skip.ensures) in
    λ has. c.read.ensures.hit (samples_part a.reader.now.cache _ b (a.view.from - a.at)
    (place_in a.view (a.at + b.len) - place_in a.view a.at) c.saturating_sub-skip.result m (same_none _)
    (omega (arith, skip)) (omega (arith, skip, seen)) has)
