-- The gap, and then the blocks.
use Rattle.cell_reader.proofs.Common.{◌≡◌, ℕ, ◌+◌, ◌-◌, List, length, map, subst, sym, ap, arith, length-replicate, on_ok_weaker}
use Rattle.cell_reader.proofs.Common.{replicate, BlockRef, Cell, block_samples, blocks_len, AllNamed, HasBlocks, Hits}
use Rattle.cell_reader.proofs.Common.{Reads, Puts, stored_of}
use Rattle.cell_reader.proofs.SeenLaws.{puts_turn}
use Rattle.pcm_base.specs.declared.sound.Cell.TheVariants as cell
use Rattle.cell_reader.proofs.clips.put_clip.Goals as goal

pub put_rows-requires-clause-named : goal.put_rows-requires-clause-named
put_rows-requires-clause-named g c =
    let N : List BlockRef → Type 0 = AllNamed in
    subst N (sym c.rows.ensures.value) c.requires.named

pub put_rows-requires-clause-few : goal.put_rows-requires-clause-few
put_rows-requires-clause-few g c = omega (arith, ap blocks_len c.rows.ensures.value, c.requires.few)

pub returns-clause-stored : goal.returns-clause-stored
returns-clause-stored g c = λ told.
    let a = c.args in
    let clip = c.args.clip.now in
    let src = stored_of (g.S.Store.reads c.args.reader.now.store) in
    let gap : List Cell = replicate (clip.start - a.at) cell.Gap in
    let P : List BlockRef → Type 0 = λ bs.
    Puts g.T.FromCell.made a.view clip.start (map cell.Sample (block_samples src bs)) c.put_gap.new.out c.put_rows.new.out in
    let place : clip.start ≡ a.at + length gap =
    omega (arith, length-replicate (clip.start - a.at) cell.Gap, c.requires.later) in
    let Q : ℕ → Type 0 = λ n.
    Puts g.T.FromCell.made a.view n (map cell.Sample (block_samples src clip.blocks)) c.put_gap.new.out c.put_rows.new.out in
    on_ok_weaker c.put_rows.result
    (λ two. puts_turn g.T.FromCell.made a.view a.at gap
    (map cell.Sample (block_samples src clip.blocks)) a.out.now c.put_gap.new.out c.put_rows.new.out
    c.put_gap.ensures (subst Q place (subst P c.rows.ensures.value two)))
    (c.put_rows.ensures.stored told)

pub returns-clause-reads : goal.returns-clause-reads
returns-clause-reads g c =
    let R : List BlockRef → Type 0 = λ bs. Reads bs c.args.reader.now c.put_rows.new.reader c.put_rows.result in
    subst R c.rows.ensures.value c.put_rows.ensures.reads

pub returns-clause-hit : goal.returns-clause-hit
returns-clause-hit g c =
    let a = c.args in
    let H : List BlockRef → Type 0 = λ bs. Hits (HasBlocks a.reader.now.cache a.view a.clip.now.start bs) a.reader.now
    c.put_rows.new.reader c.put_rows.result in
    subst H c.rows.ensures.value c.put_rows.ensures.hit
