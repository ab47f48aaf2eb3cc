-- The copy has all ids of the rows, and so the list has those at both ends.
use Rattle.std.proofs.Common.{◌≡◌, ◌++◌, ◌-◌, ◌∙◌, ℕ, List, length, take, drop, ap, arith}
use Rattle.std.proofs.lemmas.List.{length-take, take_rest}
use Rattle.row_ledger.specs.Rows.{flat, from_to}
use Rattle.row_ledger.proofs.LikeLists.{all_of, put_together}
use Rattle.row_ledger.proofs.likes.like_ids.Goals as goal

pub overflow_sub-to : goal.overflow_sub-to
overflow_sub-to c =
    let xs = flat c.args.table.now.rows c.args.rows.now in
    let v = c.append_ids.new.out in
    let whole : v.items ≡ xs = all_of 18446744073709551615 xs v.items
    (c.in_ok-append_ids.ensures ∙ ap (λ (zs : List ℕ). zs ++ from_to 0 18446744073709551615 xs) c.new-all.ensures.items)
    (omega (arith, v.small, v.ok.0, v.ok.1)) in
    omega (arith, ap length whole, c.len.ensures, v.ok.0, c.requires)

pub slice_bounds-extend_from_slice-end : goal.slice_bounds-extend_from_slice-end
slice_bounds-extend_from_slice-end c =
    let xs = flat c.args.table.now.rows c.args.rows.now in
    let v = c.append_ids.new.out in
    let whole : v.items ≡ xs = all_of 18446744073709551615 xs v.items
    (c.in_ok-append_ids.ensures ∙ ap (λ (zs : List ℕ). zs ++ from_to 0 18446744073709551615 xs) c.new-all.ensures.items)
    (omega (arith, v.small, v.ok.0, v.ok.1)) in
    omega (
      arith,
      length-take c.args.front c.as_slice.result.now,
      ap length c.as_slice.ensures.value,
      ap length whole,
      c.requires,
    )

pub returns : goal.returns
returns c =
    let xs = flat c.args.table.now.rows c.args.rows.now in
    let v = c.append_ids.new.out in
    let whole : v.items ≡ xs = all_of 18446744073709551615 xs v.items
    (c.in_ok-append_ids.ensures ∙ ap (λ (zs : List ℕ). zs ++ from_to 0 18446744073709551615 xs) c.new-all.ensures.items)
    (omega (arith, v.small, v.ok.0, v.ok.1)) in
    put_together xs c.extend_from_slice.new.self.items c.extend_from_slice-2.new.self.items
    c.extend_from_slice-3.new.self.items c.args.middle.now c.args.front (c.len.result - c.args.back) c.args.back
    (omega (arith, c.len.ensures, v.ok.0, ap length whole))
    (c.in_ok-extend_from_slice.ensures.items
    ∙ ap (λ (zs : List ℕ). zs ++ take c.args.front c.as_slice.result.now) c.new-out.ensures.items
    ∙ ap (take c.args.front) (c.as_slice.ensures.value ∙ whole))
    c.in_ok-extend_from_slice-2.ensures.items
    (c.in_ok-extend_from_slice-3.ensures.items
    ∙ ap (λ (zs : List ℕ). c.extend_from_slice-2.new.self.items ++ zs)
    (take_rest c.as_slice-2.result.now (c.len.result - c.args.back))
    ∙ ap (λ (zs : List ℕ). c.extend_from_slice-2.new.self.items ++ drop (c.len.result - c.args.back) zs)
    (c.as_slice-2.ensures.value ∙ whole))
