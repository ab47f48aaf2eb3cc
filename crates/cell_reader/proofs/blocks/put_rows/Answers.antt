-- One row more is put.
use Rattle.cell_reader.proofs.Common.{◌≡◌, ℕ, ◌+◌, ℤ, List, [], ◌++◌, length, drop, map, refl, sym, ap}
use Rattle.cell_reader.proofs.Common.{subst, ◌∙◌, arith, length-map, map-append, length-blocks}
use Rattle.cell_reader.proofs.Common.{Contains-append_left, Contains-append_right, Files, Contains, reads_more}
use Rattle.cell_reader.proofs.Common.{reads_none, reads_then, told_on, HasBlocks, blocks_len, block_samples, BlockRef}
use Rattle.cell_reader.proofs.Common.{Cell, Sample, AllNamed, place_in, Puts, stored_of}
use Rattle.block_sequence.specs.Rows.{flat}
use Rattle.block_sequence.proofs.FlatRows.{flat_next, flat_end, blocks_len-append, block_samples-append}
use Rattle.cell_reader.proofs.{KeptLaws.blocks_on, KeptLaws.blocks_front, KeptLaws.blocks_back}
use Rattle.cell_reader.proofs.{KeptLaws.hits_none, KeptLaws.hits_then, SeenLaws.named_front, SeenLaws.named_back}
use Rattle.cell_reader.proofs.SeenLaws.{puts_turn, puts_none}
use Rattle.cell_reader.proofs.blocks.put_rows.Goals as goal

pub rows-init : goal.rows-init
rows-init g c = record {
  left = refl;
  named = c.requires.named;
  reads = reads_none tt (g.met.S.Store.may_fewer _);
  hit = hits_none;
  kept = λ has. has;
  among = λ b has. has;
  stored = λ told new puts. puts;
}

pub put_blocks-requires-clause-few : goal.put_blocks-requires-clause-few
put_blocks-requires-clause-few g c =
    let rs = c.args.rows.now in
    let i = c.rows.row-index in
    let x : List BlockRef = c.as_slice-blocks.result.now in
    let rest = flat (drop (i + 1) rs) in
    let e : flat (drop i rs) ≡ x ++ rest = flat_next rs i c.row-item.result c.rows-test.true
    ∙ ap (λ (ys : List BlockRef). ys ++ rest) (sym (c.as_slice-blocks.ensures.value ∙ c.row-item.is)) in
    omega (arith, ap blocks_len e, blocks_len-append x rest, c.rows.invariant.left, c.requires.few)

pub put_blocks-requires-clause-named : goal.put_blocks-requires-clause-named
put_blocks-requires-clause-named g c =
    let rs = c.args.rows.now in
    let i = c.rows.row-index in
    let x : List BlockRef = c.as_slice-blocks.result.now in
    let rest = flat (drop (i + 1) rs) in
    let e : flat (drop i rs) ≡ x ++ rest = flat_next rs i c.row-item.result c.rows-test.true
    ∙ ap (λ (ys : List BlockRef). ys ++ rest) (sym (c.as_slice-blocks.ensures.value ∙ c.row-item.is)) in
    let N : List BlockRef → Type 0 = AllNamed in
    named_front x rest (subst N e c.rows.invariant.named)

pub overflow_add-place : goal.overflow_add-place
overflow_add-place g c =
    let rs = c.args.rows.now in
    let i = c.rows.row-index in
    let x : List BlockRef = c.as_slice-blocks.result.now in
    let rest = flat (drop (i + 1) rs) in
    let e : flat (drop i rs) ≡ x ++ rest = flat_next rs i c.row-item.result c.rows-test.true
    ∙ ap (λ (ys : List BlockRef). ys ++ rest) (sym (c.as_slice-blocks.ensures.value ∙ c.row-item.is)) in
    let len = c.len-place.ensures ∙ ap blocks_len (sym c.as_slice-blocks.ensures.value) in
    omega (arith, ap blocks_len e, blocks_len-append x rest, len, c.rows.invariant.left, c.requires.few)

pub rows-preserved : goal.rows-preserved
rows-preserved g c =
    let rs = c.args.rows.now in
    let bs = flat rs in
    let i = c.rows.row-index in
    let x : List BlockRef = c.as_slice-blocks.result.now in
    let rest = flat (drop (i + 1) rs) in
    let e : flat (drop i rs) ≡ x ++ rest = flat_next rs i c.row-item.result c.rows-test.true
    ∙ ap (λ (ys : List BlockRef). ys ++ rest) (sym (c.as_slice-blocks.ensures.value ∙ c.row-item.is)) in
    let len = c.len-place.ensures ∙ ap blocks_len (sym c.as_slice-blocks.ensures.value) in
    let inv = c.rows.invariant in
    let a = c.args.reader.now.cache in
    let files : Files = g.S.Store.reads c.args.reader.now.store in
    let N : List BlockRef → Type 0 = AllNamed in
    let K : List BlockRef → Type 0 = HasBlocks a c.args.view c.rows.place in
    let next : c.rows.place + blocks_len x ≡ c.rows.place + c.len-place.result = omega (arith, len) in
    record {
      left = omega (arith, ap blocks_len e, blocks_len-append x rest, len, inv.left);
      named = named_back x rest (subst N e inv.named);
      reads = reads_then {x = tt} inv.reads (reads_more x bs (λ d has. inv.among d
          (subst (λ qs. Contains qs d) (sym e) (Contains-append_left x rest d has))) c.in_default.ensures.reads);
      hit = hits_then (λ has. has) (λ has same. blocks_on a c.rows.reader.cache c.args.view c.rows.place x same
          (blocks_front a c.args.view c.rows.place x rest (subst K e (inv.kept has)))) inv.hit c.in_default.ensures.hit;
      kept = λ has. subst (λ n. HasBlocks a c.args.view n rest) next
          (blocks_back a c.args.view c.rows.place x rest (subst K e (inv.kept has)));
      among = λ d has. inv.among d (subst (λ qs. Contains qs d) (sym e) (Contains-append_right x rest d has));
      stored = λ told new puts.
          let still = told_on inv.reads told in
          let src = stored_of files in
          let P : Files → Type 0 = λ f. Puts g.T.FromCell.made c.args.view c.rows.place
          (map Sample (block_samples (stored_of f) x)) c.rows.out c.put_blocks.new.out in
          let one = subst P inv.reads.kept.same_reads (c.in_default.ensures.stored still) in
          let xs : List ℤ = block_samples src x in
          let ys : List ℤ = block_samples src rest in
          let size : length (map Sample xs) ≡ blocks_len x = length-map xs Sample ∙ length-blocks src x in
          let Q : ℕ → Type 0 = λ n. Puts g.T.FromCell.made c.args.view n (map Sample ys) c.put_blocks.new.out new in
          let place : c.rows.place + c.len-place.result ≡ c.rows.place + length (map Sample xs) = omega (arith, size, len) in
          let both = puts_turn g.T.FromCell.made c.args.view c.rows.place (map Sample xs)
          (map Sample ys) c.rows.out c.put_blocks.new.out new one (subst Q place puts) in
          let R : List Cell → Type 0 = λ cs. Puts g.T.FromCell.made c.args.view c.rows.place cs c.rows.out new in
          let all : map Sample xs ++ map Sample ys ≡ map Sample (block_samples src (flat (drop i rs))) =
          sym (map-append Sample xs ys) ∙ ap (map Sample) (sym (block_samples-append src x rest)
          ∙ ap (block_samples src) (sym e)) in
          inv.stored told new (subst R all both);
    }

pub returns-clause-stored : goal.returns-clause-stored
returns-clause-stored g c = λ told.
    let rs = c.args.rows.now in
    let i = c.rows.row-index in
    let none : flat (drop i rs) ≡ [] = flat_end rs i (omega arith) in
    let inv = c.rows.invariant in
    let files : Files = g.S.Store.reads c.args.reader.now.store in
    let R : List BlockRef → Type 0 = λ qs. Puts g.T.FromCell.made c.args.view c.rows.place
    (map Sample (block_samples (stored_of files) qs)) c.rows.out c.rows.out in
    let stop : c.rows.place ≡ c.rows.place + 0 = omega arith in
    inv.stored told c.rows.out (subst R (sym none) (puts_none g.T.FromCell.made c.args.view c.rows.place 0 [] c.rows.out
    (omega (arith, c.requires.size)) refl (ap (place_in c.args.view) stop)))

-- the rows that are left stand after the view
pub returns-then-place-view-clause-stored : goal.returns-then-place-view-clause-stored
returns-then-place-view-clause-stored g c = λ told.
    let files : Files = g.S.Store.reads c.args.reader.now.store in
    let left : List Cell = map Sample (block_samples (stored_of files) (flat (drop c.rows.row-index c.args.rows.now))) in
    c.rows.invariant.stored told c.rows.out (puts_none g.T.FromCell.made c.args.view c.rows.place (length left) left c.rows.out
    (omega (arith, c.requires.size)) refl (omega arith))

pub returns-in-Err-clause-reads : goal.returns-in-Err-clause-reads
returns-in-Err-clause-reads g c =
    let rs = c.args.rows.now in
    let i = c.rows.row-index in
    let x : List BlockRef = c.as_slice-blocks.result.now in
    let rest = flat (drop (i + 1) rs) in
    let e : flat (drop i rs) ≡ x ++ rest = flat_next rs i c.row-item.result c.rows-test.true
    ∙ ap (λ (ys : List BlockRef). ys ++ rest) (sym (c.as_slice-blocks.ensures.value ∙ c.row-item.is)) in
    let inv = c.rows.invariant in
    reads_then {x = tt} inv.reads (reads_more x (flat rs) (λ d has. inv.among d
    (subst (λ qs. Contains qs d) (sym e) (Contains-append_left x rest d has))) c.in-Err.ensures.reads)

pub returns-in-Err-clause-hit : goal.returns-in-Err-clause-hit
returns-in-Err-clause-hit g c =
    let rs = c.args.rows.now in
    let i = c.rows.row-index in
    let x : List BlockRef = c.as_slice-blocks.result.now in
    let rest = flat (drop (i + 1) rs) in
    let e : flat (drop i rs) ≡ x ++ rest = flat_next rs i c.row-item.result c.rows-test.true
    ∙ ap (λ (ys : List BlockRef). ys ++ rest) (sym (c.as_slice-blocks.ensures.value ∙ c.row-item.is)) in
    let inv = c.rows.invariant in
    let a = c.args.reader.now.cache in
    let K : List BlockRef → Type 0 = HasBlocks a c.args.view c.rows.place in
    hits_then {P = HasBlocks a c.args.view c.args.at (flat rs)} (λ has. has)
    (λ has same. blocks_on a c.rows.reader.cache c.args.view c.rows.place x same
    (blocks_front a c.args.view c.rows.place x rest (subst K e (inv.kept has)))) inv.hit c.in-Err.ensures.hit
