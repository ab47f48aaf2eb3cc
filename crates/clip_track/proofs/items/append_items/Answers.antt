-- The goals of `append_items` that the search leaves open.
use Rattle.clip_track.proofs.Common.{◌≡◌, ℕ, ◌+◌, ◌-◌, ◌≤◌, ◌++◌, min, List, length, get_or, drop, sym, ap, ◌∙◌}
use Rattle.clip_track.proofs.Common.{append_assoc, arith, drop_more, take-append-le, item_len, part_items, Item, Gap}
use Rattle.std.proofs.lemmas.List.{length-take}
use Rattle.clip_track.proofs.Strips.{part_none, part_past, part_within}
use Rattle.clip_track.proofs.items.append_items.Goals.{then-left-gt0+then-len-skip}
use Rattle.clip_track.proofs.items.append_items.Goals.{then-left-gt0+else-len-skip+in_ok-push, else-left-gt0}
use Rattle.clip_track.proofs.items.append_items.Goals as goal

pub loop-item-preserved : goal.loop-item-preserved
loop-item-preserved c =
    let xs = c.args.items.now in
    let i = c.loop-item.item-index in
    let x = get_or xs i (Gap 0) in
    let rest = drop (i + 1) xs in
    let out = c.loop-item.out.items in
    let skip = c.loop-item.skip in
    let left = c.loop-item.left in
    let d = ap (part_items skip left) (drop_more xs i (Gap 0) c.loop-item-test.true) in
    let inv = c.loop-item.invariant in
    elim c.if-left-gt0.branch [
      | then-left-gt0+then-len-skip w ↦ rw (w.out-is, w.skip-is, w.left-is, w.item_len-len.ensures) (record {
        all_items = ap (λ (ys : List Item). out ++ ys)
            (sym (d ∙ part_past skip left x rest (omega arith) (omega arith))) ∙ inv.all_items;
        front = inv.front;
      })
      | then-left-gt0+else-len-skip+in_ok-push w ↦
          let k : w.min-size.result ≡ min left (item_len x - skip) = omega arith in
          let few : length c.args.out.now.items ≤ length out =
          omega (arith, length-take (length c.args.out.now.items) out, ap length inv.front) in
          rw (w.out-is, w.skip-is, w.left-is, w.in_ok-push.ensures.items, w.part_of_item.ensures, k) (record {
            all_items =
                append_assoc out _ _
                ∙ ap (λ (ys : List Item). out ++ ys)
                (sym (d ∙ part_within skip left x rest (omega arith) (omega arith)))
                ∙ inv.all_items;
            front = take-append-le (length c.args.out.now.items) out _ few ∙ inv.front;
          })
      | else-left-gt0 w ↦
          let z : left ≡ 0 = omega arith in
          rw (w.out-is, w.skip-is, w.left-is, z) (record {
            all_items = ap (λ (ys : List Item). out ++ ys) (part_none skip rest ∙ sym (part_none skip (drop i xs))
                ∙ ap (λ (n : ℕ). part_items skip n (drop i xs)) (sym z)) ∙ inv.all_items;
            front = inv.front;
          })
    ]
