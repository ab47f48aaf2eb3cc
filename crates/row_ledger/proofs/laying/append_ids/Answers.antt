-- The rows so far are passed.
use Rattle.std.proofs.Common.{◌≡◌, ℕ, ◌+◌, ◌++◌, List, length, drop, refl, sym, ap, ap₂, ◌∙◌}
use Rattle.row_ledger.specs.Rows.{flat, from_to}
use Rattle.row_ledger.proofs.{FlatRows.flat_next, FlatRows.flat_end, FromTo.part_more, FromTo.part_end}
use Rattle.row_ledger.proofs.laying.append_ids.Goals as goal

pub loop-row-preserved : goal.loop-row-preserved
loop-row-preserved c =
    let rows = c.args.table.now.rows in
    let ks = c.args.rows.now in
    let i = c.loop-row.row-index in
    let skip = c.loop-row.skip in
    let end = c.loop-row.end in
    let out = c.loop-row.out.items in
    let ids = c.ids-ids.result.now in
    let rest = flat rows (drop (i + 1) ks) in
    let d : flat rows (drop i ks) ≡ ids ++ rest = flat_next rows ks i 0 c.loop-row-test.true
    ∙ ap (λ (xs : List ℕ). xs ++ rest) (sym c.ids-ids.ensures) in
    ap (λ (os : List ℕ). os ++ from_to c.saturating_sub-skip.result c.saturating_sub-end.result rest)
    c.in_ok-append_row.ensures
    ∙ ap₂ (λ (a b : ℕ). (out ++ from_to skip end ids) ++ from_to a b rest)
    c.saturating_sub-skip.ensures c.saturating_sub-end.ensures
    ∙ part_more skip end (length ids) out ids rest refl
    ∙ ap (λ (xs : List ℕ). out ++ from_to skip end xs) (sym d)
    ∙ c.loop-row.invariant

pub returns : goal.returns
returns c =
    let rows = c.args.table.now.rows in
    let ks = c.args.rows.now in
    let i = c.loop-row.row-index in
    part_end c.loop-row.skip c.loop-row.end c.loop-row.out.items (flat rows (drop i ks))
    (c.args.out.now.items ++ from_to c.args.from c.args.to (flat rows ks)) (flat_end rows ks i c.loop-row-test.false)
    c.loop-row.invariant
