-- The rows of a list are among all, and are those of its number.
use Rattle.std.proofs.Common.{◌≡◌, ◌∙◌, rules, sym, ap, arith, get_or, Ok, Err}
use Rattle.std.proofs.lemmas.List.Sorted.{answers_always}
use Rattle.block_ledger.specs.Counts.{times}
use Rattle.row_ledger.specs.{Rows.flat, Lists.IsAt, Lists.IsGap, Lists.ids_or_none, Lists.listed}
use Rattle.row_ledger.proofs.{Searches.found, Searches.gap, Searches.number_at_is}
use Rattle.row_ledger.proofs.Numbers.{are_distinct, gap_none, placed, placed_list, without_all}
use Rattle.row_ledger.proofs.row_ledger.rows_of.Goals as goal

pub returns-in-Ok-clause-among : goal.returns-in-Ok-clause-among
returns-in-Ok-clause-among c =
    let ls = c.args.lists.now in
    let at = c.in-Ok.at in
    let l = c.index-lists-at.result in
    λ k. omega (
      arith,
      ap (times k) c.as_slice.ensures.value,
      without_all ls at (get_or ls at l) k (placed ls at l c.in-Ok.ensures.bound),
    )

pub returns-in-Ok-clause-ids : goal.returns-in-Ok-clause-ids
returns-in-Ok-clause-ids c =
    let ls = c.args.lists.now in
    let n = c.args.number in
    let at = c.in-Ok.at in
    let l = c.index-lists-at.result in
    let within = c.in-Ok.ensures.bound in
    let here : IsAt ls n at = found ls n (Ok at) within
    (c.in-Ok.ensures.position (λ list. list.number) (answers_always _ _ _ (λ f a r g called. search rules))) in
    let number : (get_or ls at l).number ≡ n = sym (number_at_is ls at l within) ∙ here.same in
    λ rows.
    ap (flat rows) c.as_slice.ensures.value
    ∙ sym (ap ids_or_none
    (ap (listed rows ls) (sym number)
    ∙ placed_list rows ls at (get_or ls at l) (are_distinct ls c.requires) (placed ls at l within)))

pub returns-in-Err-clause-ids : goal.returns-in-Err-clause-ids
returns-in-Err-clause-ids c =
    let ls = c.args.lists.now in
    let n = c.args.number in
    let place = c.in-Err.field-0 in
    let lacks : IsGap ls n place = gap ls n (Err place) c.requires c.in-Err.ensures.bound
    (c.in-Err.ensures.position (λ list. list.number) (answers_always _ _ _ (λ f a r g called. search rules))) in
    λ rows. sym (ap ids_or_none (gap_none rows ls n place lacks))
