-- One block after another.
use Rattle.editor_core.proofs.Common.{◌≡◌, ◌∙◌, ℕ, false, Some, length, slice_get, refl, sym, subst, arith}
use Rattle.editor_core.proofs.Common.{slice_get_read, after_err, NewBlock, Brought, MayBring, AllPass, Core}
use Rattle.editor_core.proofs.Common.{batch_of, is_given, core_of}
use Rattle.block_writer.specs.Brought.{AreInOrder}
use Rattle.editor_state.specs.{Makes.MadeOne, Makes.Writes, Makes.Written}
use Rattle.editor_blocks.proofs.BroughtSamples.{brought_more, brought_none, next_order}
use Rattle.editor_blocks.proofs.BlocksWritten.{making_next, making_size}
use Rattle.editor_blocks.proofs.NextBlock.{IsReady, item, ready_item, fresh_next, stuck_here}
use Rattle.editor_state.proofs.Blocks.CachePages.{pages_by_blocks}
use Rattle.editor_core.proofs.studio.Studio.write_blocks.Given.{Over}
use Rattle.editor_core.proofs.studio.Studio.write_blocks.Goals.{After-write_one-arg-in-rows-1}
use Rattle.editor_core.proofs.studio.Studio.write_blocks.Goals as goal
use Rattle.row_ledger.specs.Lists.{counts_of}

-- the block that is next, and that it is ready
here : (g : Over) (c : goal.After-write_one-arg-in-rows-1 g)
    → slice_get c.args.makes.now c.rows.block-index ≡ Some c.block-item.result
here g c =
    slice_get_read c.args.makes.now _ c.rows.block-index c.block-item.result refl c.rows-test.true c.block-item.is

ready : (g : Over) (c : goal.After-write_one-arg-in-rows-1 g)
    → IsReady c.args.self.now.buffers c.args.self.now.next_block c.rows.block-index c.block-item.result
ready g c =
    let s = core_of c.args.self.now in
    ready_item s.block_size s.next_block c.rows.block-index c.args.makes.now c.block-item.result c.rows-test.true
    (here g c) c.requires.new c.requires.least c.requires.most c.requires.size

pub rows-init : goal.rows-init
rows-init g c = record {
  brought = brought_none g.S.Store (core_of c.args.self.now) (g.G.Brings.brings c.args.given.now) c.args.makes.now
      (g.met.S.Store.may_fewer _) c.requires.order;
  still = record { same = refl; goes = λ first h. h };
  faults = refl;
  spare = omega arith;
  history = refl;
  body = refl;
  row = refl;
  uses = refl;
}

pub write_one-requires-clause-id : goal.write_one-requires-clause-id
write_one-requires-clause-id g c =
    (ready g c).id ∙ sym (making_next g.S.Store (core_of c.args.self.now) c.rows.invariant.brought.samples
    c.args.makes.now c.rows.block-index (core_of c.rows.self) c.rows.invariant.brought.written.making)

pub write_one-requires-clause-block : goal.write_one-requires-clause-block
write_one-requires-clause-block g c = (ready g c).block

pub write_one-requires-clause-total : goal.write_one-requires-clause-total
write_one-requires-clause-total g c = (ready g c).total

pub write_one-requires-clause-size : goal.write_one-requires-clause-size
write_one-requires-clause-size g c = omega (
  arith,
  (ready g c).few,
  making_size g.S.Store (core_of c.args.self.now) c.rows.invariant.brought.samples c.args.makes.now c.rows.block-index
      (core_of c.rows.self) c.rows.invariant.brought.written.making,
)

pub write_one-requires-clause-fresh : goal.write_one-requires-clause-fresh
write_one-requires-clause-fresh g c =
    let s = core_of c.args.self.now in
    fresh_next s.next_block c.rows.block-index s.counts (counts_of c.rows.self.tally.ledger) c.block-item.result.id
    c.rows.invariant.brought.written.making.ledger c.requires.below (ready g c).id

pub returns-in_err-write_one-clause-written : goal.returns-in_err-write_one-clause-written
returns-in_err-write_one-clause-written g c =
    let new = core_of c.write_one.new.self in
    let failed = c.in_err-write_one.ensures in
    let was = c.rows.invariant.brought in (
      was.samples,
      was.may,
      after_err (λ r. Writes g.S.Store (core_of c.args.self.now) (batch_of was.samples c.args.makes.now) r new) _
          c.from_residual.result c.from_residual.ensures.1
          (stuck_here g.S.Store (core_of c.args.self.now) was.samples c.args.makes.now c.rows.block-index
          (core_of c.rows.self) was.written.making c.rows-test.true c.requires.new c.block-item.result
          (here g (goal.at.returns-in_err-write_one-clause-written g c).After-write_one-arg-in-rows-1)
          c.in_err-write_one.field-0.0 new was.written.read_faults failed.made failed.valid failed.damaged),
    )

pub write_one-requires-clause-order : goal.write_one-requires-clause-order
write_one-requires-clause-order g c =
    let bs = c.args.makes.now in
    let n = c.rows.block-index in
    let b : NewBlock = c.block-item.result in
    let B : Brought → Type 0 = λ x. x.tells ≡ false → AreInOrder 0 x.count b.pieces in
    subst B (sym c.rows.invariant.still.same) (λ quiet.
    subst (λ (x : NewBlock). AreInOrder 0 (g.G.Brings.brings c.args.given.now).count x.pieces)
    (item bs n b b c.rows-test.true (here g c))
    (next_order g.S.Store (core_of c.args.self.now) (g.G.Brings.brings c.args.given.now) bs n b (core_of c.rows.self)
    c.rows-test.true c.rows.invariant.brought quiet))

pub rows-preserved : goal.rows-preserved
rows-preserved g c =
    let s = core_of c.args.self.now in
    let n = c.rows.block-index in
    let b : NewBlock = c.block-item.result in
    let is = item c.args.makes.now n b b c.rows-test.true
    (here g (goal.at.rows-preserved g c).After-write_one-arg-in-rows-1) in
    let mid = core_of c.rows.self in
    let new = core_of c.write_one.new.self in
    let done = c.in_ok-write_one.ensures in
    let inv = c.rows.invariant in
    let brings = g.G.Brings.brings c.args.given.now in
    let may = subst (λ (x : Brought). MayBring x done.made.0) inv.still.same done.made.1 in
    let one = subst (λ (x : NewBlock). MadeOne g.S.Store mid done.made.0 x new) (sym is) done.made.2 in record {
      brought = brought_more g.S.Store s brings c.args.makes.now n b mid new c.rows-test.true c.requires.new
          inv.brought done.made.0
          may one;
      still = record {
        same = done.still.same ∙ inv.still.same;
        goes = λ first h. done.still.goes first (inv.still.goes first h);
      };
      faults = done.given ∙ inv.faults;
      spare = omega (arith, done.spare, inv.spare);
      history = done.history ∙ inv.history;
      body = done.body ∙ inv.body;
      row = done.row ∙ inv.row;
      uses = done.uses ∙ inv.uses;
    }

pub returns-clause-written : goal.returns-clause-written
returns-clause-written g c =
    let was = c.rows.invariant.brought in
    let all : c.rows.block-index ≡ length c.args.makes.now = omega arith in (
      was.samples,
      was.may,
      subst (λ (k : ℕ). Written g.S.Store (core_of c.args.self.now) (batch_of was.samples c.args.makes.now) k
          (core_of c.rows.self)) all was.written,
    )

pub write_one-requires-clause-pages : goal.write_one-requires-clause-pages
write_one-requires-clause-pages g c =
    let s = core_of c.args.self.now in
    let making = c.rows.invariant.brought.written.making in
    subst (λ (z : Core g.row.S.Denot). AllPass (is_given z.next_block) z.cache) (sym making.is)
    (pages_by_blocks s.next_block c.rows.block-index s.cache c.requires.pages)
