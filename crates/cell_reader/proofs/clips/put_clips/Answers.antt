-- One clip more is put.
use Rattle.cell_reader.proofs.Common.{◌≡◌, ℕ, ◌+◌, ◌-◌, ◌≤◌, List, [], ◌∷◌, ◌++◌, length, drop, map, refl, sym, ap}
use Rattle.cell_reader.proofs.Common.{subst, ◌∙◌, arith, length-append, drop_more, drop_all, length-map}
use Rattle.cell_reader.proofs.Common.{length-replicate, Contains-append_left, Contains-append_right, replicate}
use Rattle.cell_reader.proofs.Common.{Contains, Files, Cell, blocks_len, block_samples, length-blocks, Clip, AreClips}
use Rattle.cell_reader.proofs.Common.{end_of, clip_end, cells_from, layout_blocks, AreClips-next, end_within}
use Rattle.cell_reader.proofs.Common.{reads_more, reads_none, reads_then, told_on, AllNamed, HasClips, place_in, Puts}
use Rattle.cell_reader.proofs.Common.{stored_of}
use Rattle.cell_reader.proofs.{KeptLaws.blocks_on, KeptLaws.hits_none, KeptLaws.hits_then}
use Rattle.cell_reader.proofs.SeenLaws.{puts_turn, puts_none, named_front, named_back}
use Rattle.pcm_base.specs.declared.sound.Cell.TheVariants as cell
use Rattle.cell_reader.proofs.clips.put_clips.Goals as goal

pub rows-init : goal.rows-init
rows-init g c = record {
  apart = c.requires.apart;
  same_end = refl;
  named = c.requires.named;
  reads = reads_none tt (g.met.S.Store.may_fewer _);
  hit = hits_none;
  kept = λ has. has;
  among = λ b has. has;
  stored = λ told new puts. puts;
}

pub put_clip-requires-clause-named : goal.put_clip-requires-clause-named
put_clip-requires-clause-named g c =
    let cs = c.args.clips.now in
    let i = c.rows.clip-index in
    let x : Clip = c.clip-item.result in
    let rest = drop (i + 1) cs in
    let inv = c.rows.invariant in
    let e : drop i cs ≡ x ∷ rest =
    drop_more cs i x c.rows-test.true ∙ ap (λ (y : Clip). y ∷ rest) (sym c.clip-item.is) in
    let N : List Clip → Type 0 = λ ds. AllNamed (layout_blocks ds) in
    named_front x.blocks (layout_blocks rest) (subst N e inv.named)

pub put_clip-requires-clause-few : goal.put_clip-requires-clause-few
put_clip-requires-clause-few g c =
    let cs = c.args.clips.now in
    let i = c.rows.clip-index in
    let x : Clip = c.clip-item.result in
    let rest = drop (i + 1) cs in
    let inv = c.rows.invariant in
    let e : drop i cs ≡ x ∷ rest =
    drop_more cs i x c.rows-test.true ∙ ap (λ (y : Clip). y ∷ rest) (sym c.clip-item.is) in
    let P : List Clip → Type 0 = λ ds. AreClips c.rows.at ds in
    omega (
      arith,
      end_within c.rows.at x rest (subst P e inv.apart),
      ap (end_of c.rows.at) e,
      inv.same_end,
      c.requires.few,
    )

pub put_clip-requires-clause-later : goal.put_clip-requires-clause-later
put_clip-requires-clause-later g c =
    let cs = c.args.clips.now in
    let i = c.rows.clip-index in
    let x : Clip = c.clip-item.result in
    let rest = drop (i + 1) cs in
    let inv = c.rows.invariant in
    let e : drop i cs ≡ x ∷ rest =
    drop_more cs i x c.rows-test.true ∙ ap (λ (y : Clip). y ∷ rest) (sym c.clip-item.is) in
    let P : List Clip → Type 0 = λ ds. AreClips c.rows.at ds in
    (subst P e inv.apart).0

pub overflow_add-at : goal.overflow_add-at
overflow_add-at g c =
    let cs = c.args.clips.now in
    let i = c.rows.clip-index in
    let x : Clip = c.clip-item.result in
    let rest = drop (i + 1) cs in
    let inv = c.rows.invariant in
    let e : drop i cs ≡ x ∷ rest =
    drop_more cs i x c.rows-test.true ∙ ap (λ (y : Clip). y ∷ rest) (sym c.clip-item.is) in
    let P : List Clip → Type 0 = λ ds. AreClips c.rows.at ds in
    let within = end_within c.rows.at x rest (subst P e inv.apart) in
    let sum = ap (end_of c.rows.at) e in
    let same = inv.same_end in
    let few = c.requires.few in
    let size = c.len.ensures.value in
    grind arith

pub rows-preserved : goal.rows-preserved
rows-preserved g c =
    let cs = c.args.clips.now in
    let i = c.rows.clip-index in
    let x : Clip = c.clip-item.result in
    let rest = drop (i + 1) cs in
    let inv = c.rows.invariant in
    let e : drop i cs ≡ x ∷ rest =
    drop_more cs i x c.rows-test.true ∙ ap (λ (y : Clip). y ∷ rest) (sym c.clip-item.is) in
    let files : Files = g.S.Store.reads c.args.reader.now.store in
    let at = c.rows.at in
    let P : List Clip → Type 0 = λ ds. AreClips at ds in
    let N : List Clip → Type 0 = λ ds. AllNamed (layout_blocks ds) in
    let K : List Clip → Type 0 = HasClips c.args.reader.now.cache c.args.view in
    let end : x.start + c.len.result ≡ clip_end x = omega (arith, c.len.ensures.value) in
    rw end (record {
      apart = AreClips-next at x rest (subst P e inv.apart);
      same_end = sym (ap (end_of at) e) ∙ inv.same_end;
      named = named_back x.blocks (layout_blocks rest) (subst N e inv.named);
      reads = reads_then {x = tt} inv.reads (reads_more x.blocks (layout_blocks cs) (λ d has. inv.among d
          (subst (λ ds. Contains (layout_blocks ds) d) (sym e)
          (Contains-append_left x.blocks (layout_blocks rest) d has)))
          c.in_default.ensures.reads);
      hit = hits_then (λ has. has) (λ has same. blocks_on c.args.reader.now.cache c.rows.reader.cache c.args.view
          x.start x.blocks same (subst K e (inv.kept has)).0) inv.hit c.in_default.ensures.hit;
      kept = λ has. (subst K e (inv.kept has)).1;
      among = λ d has. inv.among d (subst (λ ds. Contains (layout_blocks ds) d) (sym e)
          (Contains-append_right x.blocks (layout_blocks rest) d has));
      stored = λ told new puts.
          let still = told_on inv.reads told in
          let U : Files → Type 0 = λ f. Puts g.T.FromCell.made c.args.view at (replicate (x.start - at) cell.Gap
          ++ map cell.Sample (block_samples (stored_of f) x.blocks)) c.rows.out c.put_clip.new.out in
          let one = subst U inv.reads.kept.same_reads (c.in_default.ensures.stored still) in
          let gap : List Cell = replicate (x.start - at) cell.Gap in
          let sound : List Cell = map cell.Sample (block_samples (stored_of files) x.blocks) in
          let later : at ≤ x.start = (subst P e inv.apart).0 in
          let size : length sound ≡ blocks_len x.blocks = length-map
          (block_samples (stored_of files) x.blocks) cell.Sample ∙ length-blocks (stored_of files) x.blocks in
          let place : clip_end x ≡ at + length (gap ++ sound) =
          omega (arith, length-append gap sound, length-replicate (x.start - at) cell.Gap, size, later) in
          let Q : ℕ → Type 0 = λ n.
          Puts g.T.FromCell.made c.args.view n (cells_from (stored_of files) (clip_end x) rest) c.put_clip.new.out new in
          let both = puts_turn g.T.FromCell.made c.args.view at (gap ++ sound) (cells_from (stored_of files) (clip_end x) rest)
          c.rows.out c.put_clip.new.out new one (subst Q place puts) in
          let R : List Clip → Type 0 =
          λ ds. Puts g.T.FromCell.made c.args.view at (cells_from (stored_of files) at ds) c.rows.out new in
          inv.stored told new (subst R (sym e) both);
    })

pub returns-clause-stored : goal.returns-clause-stored
returns-clause-stored g c = λ told.
    let cs = c.args.clips.now in
    let i = c.rows.clip-index in
    let none : drop i cs ≡ [] = drop_all i cs (omega arith) in
    let inv = c.rows.invariant in
    let files : Files = g.S.Store.reads c.args.reader.now.store in
    let R : List Clip → Type 0 =
    λ ds. Puts g.T.FromCell.made c.args.view c.rows.at (cells_from (stored_of files) c.rows.at ds) c.rows.out c.rows.out in
    let stop : c.rows.at ≡ c.rows.at + 0 = omega arith in
    inv.stored told c.rows.out (subst R (sym none) (puts_none g.T.FromCell.made c.args.view c.rows.at 0 [] c.rows.out
    (omega (arith, c.requires.size)) refl (ap (place_in c.args.view) stop)))

-- the clips that are left stand after the view
pub returns-then-at-view-clause-stored : goal.returns-then-at-view-clause-stored
returns-then-at-view-clause-stored g c = λ told.
    let files : Files = g.S.Store.reads c.args.reader.now.store in
    let left : List Cell = cells_from (stored_of files) c.rows.at (drop c.rows.clip-index c.args.clips.now) in
    c.rows.invariant.stored told c.rows.out (puts_none g.T.FromCell.made c.args.view c.rows.at (length left) left c.rows.out
    (omega (arith, c.requires.size)) refl (omega arith))

pub returns-in-Err-clause-reads : goal.returns-in-Err-clause-reads
returns-in-Err-clause-reads g c =
    let cs = c.args.clips.now in
    let i = c.rows.clip-index in
    let x : Clip = c.clip-item.result in
    let rest = drop (i + 1) cs in
    let inv = c.rows.invariant in
    let e : drop i cs ≡ x ∷ rest =
    drop_more cs i x c.rows-test.true ∙ ap (λ (y : Clip). y ∷ rest) (sym c.clip-item.is) in
    reads_then {x = tt} inv.reads (reads_more x.blocks (layout_blocks cs) (λ d has. inv.among d
    (subst (λ ds. Contains (layout_blocks ds) d) (sym e) (Contains-append_left x.blocks (layout_blocks rest) d has)))
    c.in-Err.ensures.reads)

pub returns-in-Err-clause-hit : goal.returns-in-Err-clause-hit
returns-in-Err-clause-hit g c =
    let cs = c.args.clips.now in
    let i = c.rows.clip-index in
    let x : Clip = c.clip-item.result in
    let rest = drop (i + 1) cs in
    let inv = c.rows.invariant in
    let e : drop i cs ≡ x ∷ rest =
    drop_more cs i x c.rows-test.true ∙ ap (λ (y : Clip). y ∷ rest) (sym c.clip-item.is) in
    let K : List Clip → Type 0 = HasClips c.args.reader.now.cache c.args.view in
    hits_then (λ has. has) (λ has same. blocks_on c.args.reader.now.cache c.rows.reader.cache c.args.view x.start
    x.blocks same (subst K e (inv.kept has)).0) inv.hit c.in-Err.ensures.hit
