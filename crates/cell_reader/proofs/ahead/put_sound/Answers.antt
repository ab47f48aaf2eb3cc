-- The blocks of the row, and the rows after it.
use Rattle.cell_reader.proofs.Common.{◌≡◌, ℕ, ◌+◌, List, ◌++◌, length, map, subst, sym, ap, ◌∙◌, arith}
use Rattle.cell_reader.proofs.Common.{length-map, map-append, on_ok_weaker, Contains-append_left}
use Rattle.cell_reader.proofs.Common.{Contains-append_right, exit_err, Files, Cell, block_samples}
use Rattle.cell_reader.proofs.Common.{length-blocks, reads_more, reads_then, told_on, Puts, HasBlocks, stored_of, Sample}
use Rattle.std.specs.Prelude.{OnOk}
use Rattle.block_sequence.{specs.Rows.flat, proofs.FlatRows.blocks_len-append, proofs.FlatRows.block_samples-append}
use Rattle.cell_reader.specs.Kept.{left_blocks}
use Rattle.cell_reader.proofs.{KeptLaws.blocks_on, KeptLaws.blocks_front, KeptLaws.blocks_back, KeptLaws.hits_then}
use Rattle.cell_reader.proofs.{SeenLaws.puts_turn, SeenLaws.named_front, SeenLaws.named_back, RestLaws.ends_from}
use Rattle.cell_reader.proofs.ahead.put_sound.Goals as goal

pub put_blocks-requires-clause-named : goal.put_blocks-requires-clause-named
put_blocks-requires-clause-named g c =
    let r = c.args.rest.now in
    named_front r.blocks.now (flat r.rows.now) c.requires.rest.named

pub put_blocks-requires-clause-few : goal.put_blocks-requires-clause-few
put_blocks-requires-clause-few g c =
    let r = c.args.rest.now in
    let is = c.requires.rest in
    omega (
      arith,
      is.row,
      is.whole,
      is.few,
      blocks_len-append r.blocks.now (flat r.rows.now),
      ends_from r.end r.clips.now is.apart,
    )

pub put_rows-requires-clause-named : goal.put_rows-requires-clause-named
put_rows-requires-clause-named g c =
    let r = c.args.rest.now in
    named_back r.blocks.now (flat r.rows.now) c.requires.rest.named

pub put_rows-requires-clause-few : goal.put_rows-requires-clause-few
put_rows-requires-clause-few g c =
    let r = c.args.rest.now in
    let is = c.requires.rest in
    omega (
      arith,
      is.row,
      is.whole,
      is.few,
      blocks_len-append r.blocks.now (flat r.rows.now),
      ends_from r.end r.clips.now is.apart,
    )

pub returns-clause-stored : goal.returns-clause-stored
returns-clause-stored g c = λ told.
    let a = c.args in
    let r = c.args.rest.now in
    let bs = r.blocks.now in
    let more = flat r.rows.now in
    let files : Files = g.S.Store.reads c.args.reader.now.store in
    let src = stored_of files in
    let first = c.in_ok-put_blocks.ensures.reads in
    let xs : List Cell = map Sample (block_samples src bs) in
    let ys : List Cell = map Sample (block_samples src more) in
    let two = c.in_ok-put_blocks.ensures.stored told in
    let U : Files → Type 0 = λ f. OnOk c.put_rows.result
    (Puts g.T.FromCell.made a.view r.row_end (map Sample (block_samples (stored_of f) more)) c.put_blocks.new.out
    c.put_rows.new.out) in
    let three = subst U first.kept.same_reads (c.put_rows.ensures.stored (told_on first told)) in
    let end : r.row_end ≡ r.start + length xs =
    omega (arith, length-map (block_samples src bs) Sample, length-blocks src bs, c.requires.rest.row) in
    let T : ℕ → Type 0 = λ n. Puts g.T.FromCell.made a.view n ys c.put_blocks.new.out c.put_rows.new.out in
    let R : List Cell → Type 0 = λ cs. Puts g.T.FromCell.made a.view r.start cs a.out.now c.put_rows.new.out in
    let all : xs ++ ys ≡ map Sample (block_samples src (left_blocks r)) =
    sym (map-append Sample (block_samples src bs) (block_samples src more))
    ∙ ap (map Sample) (sym (block_samples-append src bs more)) in
    on_ok_weaker c.put_rows.result
    (λ last. subst R all (puts_turn g.T.FromCell.made a.view r.start xs ys a.out.now c.put_blocks.new.out
    c.put_rows.new.out two (subst T end last)))
    three

pub returns-in_err-put_blocks-clause-reads : goal.returns-in_err-put_blocks-clause-reads
returns-in_err-put_blocks-clause-reads g c =
    let r = c.args.rest.now in
    rw (exit_err c.from_residual.result c.from_residual.ensures.1) (reads_more r.blocks.now (left_blocks r)
    (λ b has. Contains-append_left r.blocks.now (flat r.rows.now) b has) c.in_err-put_blocks.ensures.reads)

pub returns-clause-reads : goal.returns-clause-reads
returns-clause-reads g c =
    let r = c.args.rest.now in
    reads_then {x = tt} (reads_more r.blocks.now (left_blocks r)
    (λ b has. Contains-append_left r.blocks.now (flat r.rows.now) b has) c.in_ok-put_blocks.ensures.reads)
    (reads_more (flat r.rows.now) (left_blocks r)
    (λ b has. Contains-append_right r.blocks.now (flat r.rows.now) b has) c.put_rows.ensures.reads)

pub returns-in_err-put_blocks-clause-hit : goal.returns-in_err-put_blocks-clause-hit
returns-in_err-put_blocks-clause-hit g c =
    let r = c.args.rest.now in
    rw (exit_err c.from_residual.result c.from_residual.ensures.1)
    (λ has. c.in_err-put_blocks.ensures.hit
    (blocks_front c.args.reader.now.cache c.args.view r.start r.blocks.now (flat r.rows.now) has))

pub returns-clause-hit : goal.returns-clause-hit
returns-clause-hit g c =
    let a = c.args in
    let r = c.args.rest.now in
    let cache = a.reader.now.cache in
    let bs = r.blocks.now in
    let more = flat r.rows.now in
    let P : ℕ → Type 0 = λ n. HasBlocks cache a.view n more in
    hits_then (λ has. blocks_front cache a.view r.start bs more has)
    (λ has same. blocks_on cache c.put_blocks.new.reader.cache a.view r.row_end more same
    (subst P (sym c.requires.rest.row) (blocks_back cache a.view r.start bs more has)))
    c.in_ok-put_blocks.ensures.hit c.put_rows.ensures.hit
