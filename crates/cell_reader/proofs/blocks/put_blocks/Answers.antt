-- One block more is put.
use Rattle.cell_reader.proofs.Common.{◌≡◌, ℕ, ◌+◌, ℤ, List, [], ◌∷◌, ◌++◌, length, drop, map, get_or, refl, sym, ap}
use Rattle.cell_reader.proofs.Common.{subst, ◌∙◌, arith, length-map, drop_more, drop_all, map-append}
use Rattle.cell_reader.proofs.Common.{Contains-append_left, Contains-append_right, Files, Contains, reads_more}
use Rattle.cell_reader.proofs.Common.{reads_none, reads_then, told_on, HasBlocks, blocks_len, block_samples, BlockRef}
use Rattle.cell_reader.proofs.Common.{Cell, Sample, stretch, length-stretch, AllNamed, place_in, Puts, stored_on}
use Rattle.cell_reader.proofs.Common.{stored_of}
use Rattle.cell_reader.proofs.{KeptLaws.block_on, KeptLaws.hits_none, KeptLaws.hits_then}
use Rattle.cell_reader.proofs.SeenLaws.{puts_turn, puts_none}
use Rattle.cell_reader.proofs.blocks.put_blocks.Goals as goal

pub rows-init : goal.rows-init
rows-init g c = record {
  left = refl;
  named = c.requires.named;
  reads = reads_none tt (g.met.S.Store.may_fewer _);
  hit = hits_none;
  kept = λ has. has;
  among = λ b has. has;
  stored = λ told new puts. puts;
}

pub put_block-requires-clause-few : goal.put_block-requires-clause-few
put_block-requires-clause-few g c =
    let bs = c.args.blocks.now in
    let i = c.rows.block-index in
    let e : drop i bs ≡ get_or bs i (record { id = 0; len = 0 }) ∷ drop (i + 1) bs =
    drop_more bs i (record { id = 0; len = 0 }) c.rows-test.true in
    omega (arith, ap blocks_len e, c.rows.invariant.left, c.requires.few)

pub put_block-requires-clause-block : goal.put_block-requires-clause-block
put_block-requires-clause-block g c =
    let bs = c.args.blocks.now in
    let i = c.rows.block-index in
    let e : drop i bs ≡ get_or bs i (record { id = 0; len = 0 }) ∷ drop (i + 1) bs =
    drop_more bs i (record { id = 0; len = 0 }) c.rows-test.true in
    let N : List BlockRef → Type 0 = AllNamed in
    (subst N e c.rows.invariant.named).0

pub overflow_add-place : goal.overflow_add-place
overflow_add-place g c =
    let bs = c.args.blocks.now in
    let i = c.rows.block-index in
    let e : drop i bs ≡ get_or bs i (record { id = 0; len = 0 }) ∷ drop (i + 1) bs =
    drop_more bs i (record { id = 0; len = 0 }) c.rows-test.true in
    let sum = ap blocks_len e in
    let left = c.rows.invariant.left in
    let few = c.requires.few in
    grind arith

pub rows-preserved : goal.rows-preserved
rows-preserved g c =
    let bs = c.args.blocks.now in
    let i = c.rows.block-index in
    let b : BlockRef = get_or bs i (record { id = 0; len = 0 }) in
    let rest = drop (i + 1) bs in
    let e : drop i bs ≡ b ∷ rest = drop_more bs i (record { id = 0; len = 0 }) c.rows-test.true in
    let inv = c.rows.invariant in
    let files : Files = g.S.Store.reads c.args.reader.now.store in
    let N : List BlockRef → Type 0 = AllNamed in
    let K : List BlockRef → Type 0 = HasBlocks c.args.reader.now.cache c.args.view c.rows.place in
    record {
      left = omega (arith, ap blocks_len e, inv.left);
      named = (subst N e inv.named).1;
      reads = reads_then {x = tt} inv.reads (reads_more (b ∷ []) bs (λ d has. inv.among d
          (subst (λ qs. Contains qs d) (sym e) (Contains-append_left (b ∷ []) rest d has))) c.in_default.ensures.reads);
      hit = hits_then (λ has. has) (λ has same. block_on c.args.reader.now.cache c.rows.reader.cache c.args.view
          c.rows.place b same (subst K e (inv.kept has)).0) inv.hit c.in_default.ensures.hit;
      kept = λ has. (subst K e (inv.kept has)).1;
      among = λ d has. inv.among d (subst (λ qs. Contains qs d) (sym e) (Contains-append_right (b ∷ []) rest d has));
      stored = λ told new puts.
          let still = told_on inv.reads told in
          let P : Files → Type 0 = λ f. Puts g.T.FromCell.made c.args.view c.rows.place
          (map Sample (stretch (stored_on f b.id) 0 b.len)) c.rows.out c.put_block.new.out in
          let one = subst P inv.reads.kept.same_reads (c.in_default.ensures.stored still) in
          let xs : List ℤ = stretch (stored_on files b.id) 0 b.len in
          let ys : List ℤ = block_samples (stored_of files) rest in
          let size : length (map Sample xs) ≡ b.len =
          length-map xs Sample ∙ length-stretch (stored_on files b.id) 0 b.len in
          let Q : ℕ → Type 0 = λ n. Puts g.T.FromCell.made c.args.view n (map Sample ys) c.put_block.new.out new in
          let place : c.rows.place + b.len ≡ c.rows.place + length (map Sample xs) = omega (arith, size) in
          let both = puts_turn g.T.FromCell.made c.args.view c.rows.place (map Sample xs)
          (map Sample ys) c.rows.out c.put_block.new.out new one (subst Q place puts) in
          let R : List Cell → Type 0 = λ cs. Puts g.T.FromCell.made c.args.view c.rows.place cs c.rows.out new in
          let all : map Sample xs ++ map Sample ys ≡ map Sample (block_samples (stored_of files) (drop i bs)) =
          sym (map-append Sample xs ys) ∙ ap (λ qs. map Sample (block_samples (stored_of files) qs)) (sym e) in
          inv.stored told new (subst R all both);
    }

pub returns-clause-stored : goal.returns-clause-stored
returns-clause-stored g c = λ told.
    let bs = c.args.blocks.now in
    let i = c.rows.block-index in
    let none : drop i bs ≡ [] = drop_all i bs (omega arith) in
    let inv = c.rows.invariant in
    let files : Files = g.S.Store.reads c.args.reader.now.store in
    let R : List BlockRef → Type 0 = λ qs. Puts g.T.FromCell.made c.args.view c.rows.place
    (map Sample (block_samples (stored_of files) qs)) c.rows.out c.rows.out in
    let stop : c.rows.place ≡ c.rows.place + 0 = omega arith in
    inv.stored told c.rows.out (subst R (sym none) (puts_none g.T.FromCell.made c.args.view c.rows.place 0 [] c.rows.out
    (omega (arith, c.requires.size)) refl (ap (place_in c.args.view) stop)))

-- the blocks that are left stand after the view
pub returns-then-place-view-clause-stored : goal.returns-then-place-view-clause-stored
returns-then-place-view-clause-stored g c = λ told.
    let files : Files = g.S.Store.reads c.args.reader.now.store in
    let left : List Cell = map Sample (block_samples (stored_of files) (drop c.rows.block-index c.args.blocks.now)) in
    c.rows.invariant.stored told c.rows.out (puts_none g.T.FromCell.made c.args.view c.rows.place (length left) left c.rows.out
    (omega (arith, c.requires.size)) refl (omega arith))

pub returns-in-Err-clause-reads : goal.returns-in-Err-clause-reads
returns-in-Err-clause-reads g c =
    let bs = c.args.blocks.now in
    let i = c.rows.block-index in
    let b : BlockRef = get_or bs i (record { id = 0; len = 0 }) in
    let rest = drop (i + 1) bs in
    let e : drop i bs ≡ b ∷ rest = drop_more bs i (record { id = 0; len = 0 }) c.rows-test.true in
    let inv = c.rows.invariant in
    reads_then {x = tt} inv.reads (reads_more (b ∷ []) bs (λ d has. inv.among d
    (subst (λ qs. Contains qs d) (sym e) (Contains-append_left (b ∷ []) rest d has))) c.in-Err.ensures.reads)

pub returns-in-Err-clause-hit : goal.returns-in-Err-clause-hit
returns-in-Err-clause-hit g c =
    let bs = c.args.blocks.now in
    let i = c.rows.block-index in
    let b : BlockRef = get_or bs i (record { id = 0; len = 0 }) in
    let rest = drop (i + 1) bs in
    let e : drop i bs ≡ b ∷ rest = drop_more bs i (record { id = 0; len = 0 }) c.rows-test.true in
    let inv = c.rows.invariant in
    let K : List BlockRef → Type 0 = HasBlocks c.args.reader.now.cache c.args.view c.rows.place in
    hits_then {P = HasBlocks c.args.reader.now.cache c.args.view c.args.at c.args.blocks.now} (λ has. has)
    (λ has same. block_on c.args.reader.now.cache c.rows.reader.cache c.args.view c.rows.place b same
    (subst K e (inv.kept has)).0) inv.hit c.in-Err.ensures.hit
