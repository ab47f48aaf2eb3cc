-- The gap, the blocks, and the clips.
use Rattle.cell_reader.proofs.Common.{◌≡◌, ℕ, ◌+◌, ◌-◌, List, ◌++◌, length, map, subst, arith, length-append}
use Rattle.cell_reader.proofs.Common.{length-map, length-replicate, on_ok_weaker, Contains-append_left}
use Rattle.cell_reader.proofs.Common.{Contains-append_right, replicate, exit_err, Files, Cell, block_samples}
use Rattle.cell_reader.proofs.Common.{length-blocks, cells_from, layout_blocks, reads_more, reads_then, told_on, Puts}
use Rattle.cell_reader.proofs.Common.{stored_of, rest_blocks}
use Rattle.cell_reader.specs.Kept.{left_blocks}
use Rattle.std.specs.Prelude.{OnOk}
use Rattle.cell_reader.proofs.{KeptLaws.clips_on, KeptLaws.hits_then}
use Rattle.cell_reader.proofs.SeenLaws.{puts_turn}
use Rattle.pcm_base.specs.declared.sound.Cell.TheVariants as cell
use Rattle.cell_reader.proofs.ahead.put_rest.Goals as goal

pub returns-clause-stored : goal.returns-clause-stored
returns-clause-stored g c = λ told.
    let a = c.args in
    let r = c.args.rest.now in
    let files : Files = g.S.Store.reads c.args.reader.now.store in
    let src = stored_of files in
    let first = c.in_ok-put_sound.ensures.reads in
    let gap : List Cell = replicate (r.start - r.at) cell.Gap in
    let sound : List Cell = map cell.Sample (block_samples src (left_blocks r)) in
    let rest : List Cell = cells_from src r.end r.clips.now in
    let still = told_on first told in
    let two = c.in_ok-put_sound.ensures.stored told in
    let U : Files → Type 0 = λ f. OnOk c.put_clips.result
    (Puts g.T.FromCell.made a.view r.end (cells_from (stored_of f) r.end r.clips.now) c.put_sound.new.out c.put_clips.new.out) in
    let three = subst U first.kept.same_reads (c.put_clips.ensures.stored still) in
    let size = length-replicate (r.start - r.at) cell.Gap in
    let place : r.start ≡ r.at + length gap = omega (arith, size, c.requires.rest.later) in
    let long : length sound ≡ r.end - r.start = omega (
      arith,
      length-map (block_samples src (left_blocks r)) cell.Sample,
      length-blocks src (left_blocks r),
      c.requires.rest.whole,
    ) in
    let end : r.end ≡ r.at + length (gap ++ sound) =
    omega (arith, length-append gap sound, size, long, c.requires.rest.later, c.requires.rest.whole) in
    let Q : ℕ → Type 0 = λ n. Puts g.T.FromCell.made a.view n sound c.put_gap.new.out c.put_sound.new.out in
    let T : ℕ → Type 0 = λ n. Puts g.T.FromCell.made a.view n rest c.put_sound.new.out c.put_clips.new.out in
    on_ok_weaker c.put_clips.result
    (λ last. puts_turn g.T.FromCell.made a.view r.at (gap ++ sound) rest a.out.now c.put_sound.new.out c.put_clips.new.out
    (puts_turn g.T.FromCell.made a.view r.at gap sound a.out.now c.put_gap.new.out c.put_sound.new.out c.put_gap.ensures
    (subst Q place two))
    (subst T end last))
    three

pub returns-in_err-put_sound-clause-reads : goal.returns-in_err-put_sound-clause-reads
returns-in_err-put_sound-clause-reads g c =
    let r = c.args.rest.now in
    rw (exit_err c.from_residual.result c.from_residual.ensures.1) (reads_more (left_blocks r) (rest_blocks r)
    (λ b has. Contains-append_left (left_blocks r) (layout_blocks r.clips.now) b has) c.in_err-put_sound.ensures.reads)

pub returns-clause-reads : goal.returns-clause-reads
returns-clause-reads g c =
    let r = c.args.rest.now in
    reads_then {x = tt} (reads_more (left_blocks r) (rest_blocks r)
    (λ b has. Contains-append_left (left_blocks r) (layout_blocks r.clips.now) b has) c.in_ok-put_sound.ensures.reads)
    (reads_more (layout_blocks r.clips.now) (rest_blocks r)
    (λ b has. Contains-append_right (left_blocks r) (layout_blocks r.clips.now) b has) c.put_clips.ensures.reads)

pub returns-in_err-put_sound-clause-hit : goal.returns-in_err-put_sound-clause-hit
returns-in_err-put_sound-clause-hit g c =
    rw (exit_err c.from_residual.result c.from_residual.ensures.1)
    (λ has. c.in_err-put_sound.ensures.hit has.0)

pub returns-clause-hit : goal.returns-clause-hit
returns-clause-hit g c =
    let a = c.args in
    let r = c.args.rest.now in
    hits_then (λ has. has.0)
    (λ has same. clips_on a.reader.now.cache c.put_sound.new.reader.cache a.view r.clips.now same has.1)
    c.in_ok-put_sound.ensures.hit c.put_clips.ensures.hit
