-- The blocks of one row more are written.
use Rattle.record_body.proofs.Common.{◌≡◌, ◌+◌, ◌-◌, ◌++◌, List, [], length, take, drop, sym, ap, ◌∙◌, arith, ℕ}
use Rattle.record_body.proofs.Common.{append_assoc, append-nil, length-append, length-drop, drop_all, take_all, BlockRef}
use Rattle.record_body.proofs.Common.{flat_map, block_bytes}
use Rattle.std.proofs.{lemmas.Grind.flat_map-append, lemmas.Slice.take-put_mid}
use Rattle.block_sequence.{specs.Rows.flat, proofs.FlatRows.flat_next, proofs.FlatRows.flat_end}
use Rattle.record_body.proofs.Parts.{drop_over, length_blocks}
use Rattle.record_body.proofs.writing.write_rows.Goals as goal

pub overflow_add-end : goal.overflow_add-end
overflow_add-end c =
    let rs = c.args.rows.now in
    let i = c.loop-row.row-index in
    let x : List BlockRef = c.as_slice-blocks.result.now in
    let rest = flat (drop (i + 1) rs) in
    let d : flat (drop i rs) ≡ x ++ rest = flat_next rs i c.row-item.result c.loop-row-test.true
    ∙ ap (λ (ys : List BlockRef). ys ++ rest) (sym (c.as_slice-blocks.ensures.value ∙ c.row-item.is)) in
    omega (
      arith,
      ap length d,
      length-append x rest,
      c.loop-row.invariant.room,
      c.loop-row.invariant.within,
      c.min-from.ensures,
    )

pub loop-row-preserved : goal.loop-row-preserved
loop-row-preserved c =
    let rs = c.args.rows.now in
    let i = c.loop-row.row-index in
    let at = c.loop-row.at in
    let left = c.loop-row.left in
    let out = c.loop-row.out in
    let x : List BlockRef = c.as_slice-blocks.result.now in
    let rest = flat (drop (i + 1) rs) in
    let n = c.min-from.result in
    let part = c.write_after.new.out in
    let more = flat_map block_bytes (drop (left - n) rest) in
    let d : flat (drop i rs) ≡ x ++ rest = flat_next rs i c.row-item.result c.loop-row-test.true
    ∙ ap (λ (ys : List BlockRef). ys ++ rest) (sym (c.as_slice-blocks.ensures.value ∙ c.row-item.is)) in
    let inv = c.loop-row.invariant in
    let all : flat_map block_bytes (drop left (flat (drop i rs))) ≡ part ++ more =
    ap (λ (ys : List BlockRef). flat_map block_bytes (drop left ys)) d
    ∙ ap (flat_map block_bytes) (drop_over left n x rest c.min-from.ensures)
    ∙ flat_map-append block_bytes (drop n x) (drop (left - n) rest)
    ∙ ap (λ (bs : List ℕ). bs ++ more) (sym c.write_after.ensures) in
    let long = ap length c.write_after.ensures ∙ length_blocks (drop n x) in
    let size = ap length d ∙ length-append x rest in
    record {
      written = ap (λ (bs : List ℕ). bs ++ more) (take-put_mid at _ out part _
          (omega (arith, long, length-drop n x)) (omega (arith, size, inv.room, inv.within, c.min-from.ensures)))
          ∙ append_assoc (take at out) part more
          ∙ ap (λ (bs : List ℕ). take at out ++ bs) (sym all)
          ∙ inv.written;
      within = omega (arith, size, inv.within, c.min-from.ensures);
      room = omega (arith, size, inv.room, inv.within, c.min-from.ensures, long, length-drop n x);
    }

pub returns : goal.returns
returns c =
    let rs = c.args.rows.now in
    let i = c.loop-row.row-index in
    let at = c.loop-row.at in
    let out = c.loop-row.out in
    let inv = c.loop-row.invariant in
    let none : flat (drop i rs) ≡ [] = flat_end rs i (omega arith) in
    let left : drop c.loop-row.left (flat (drop i rs)) ≡ [] =
    drop_all c.loop-row.left (flat (drop i rs)) (omega (arith, ap length none)) in
    sym (take_all at out (omega (arith, inv.room, inv.within, ap length none)))
    ∙ sym (append-nil (take at out))
    ∙ ap (λ (bs : List BlockRef). take at out ++ flat_map block_bytes bs) (sym left)
    ∙ inv.written
