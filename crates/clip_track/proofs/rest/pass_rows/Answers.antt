-- One row more is passed.
use Rattle.clip_track.proofs.Common.{◌≡◌, ◌-◌, ◌≤◌, ◌++◌, ◌∷◌, List, length, take, drop, sym, ap, subst, ◌∙◌, arith}
use Rattle.clip_track.proofs.Common.{append_assoc, map-append, BlockRef, Item, NoneEmpty, blocks_len, items_after, items_from, sound_items}
use Rattle.clip_track.proofs.Common.{Sound, strip_len}
use Rattle.pcm_base.specs.Pieces.{whole}
use Rattle.block_sequence.specs.Rows.{flat}
use Rattle.block_sequence.proofs.FlatRows.{blocks_len-append}
use Rattle.clip_track.proofs.{Layouts.strip_len-sound, RestItems.after_first, RestItems.first_of, RestItems.none_empty_after}
use Rattle.clip_track.proofs.rest.pass_rows.Goals as goal

pub rows-preserved : goal.rows-preserved
rows-preserved c =
    let xs = c.rows.rows.now in
    let x : List BlockRef = c.row-item.result in
    let more : List (List BlockRef) = take (length xs - 1) (drop 1 xs) in
    let same : xs ≡ x ∷ more =
    first_of xs x c.in-len1-up.len_at_least ∙ ap (λ (y : List BlockRef). y ∷ more) (sym c.row-item.is) in
    let all : flat xs ≡ x ++ flat more = ap flat same in
    let skip = c.rows.skip in
    let tail = items_from c.args.left.end c.args.left.clips.now in
    let n : strip_len (sound_items x) ≡ blocks_len x = strip_len-sound x in
    let long : strip_len (sound_items x) ≤ skip = omega (arith, n, c.if-skip-len.false, c.len.ensures) in
    let len : strip_len (sound_items x) ≡ c.len-skip.result = n ∙ sym c.len-skip.ensures in
    record {
      within = omega (arith, ap blocks_len all, blocks_len-append x (flat more), c.rows.invariant.within, c.len-skip.ensures);
      some = none_empty_after x (flat more) (subst NoneEmpty all c.rows.invariant.some);
      items = ap (λ k. items_after (skip - k) (sound_items (flat more) ++ tail)) (sym len)
          ∙ sym (after_first skip (sound_items x) (sound_items (flat more) ++ tail) long)
          ∙ ap (items_after skip) (sym (append_assoc (sound_items x) (sound_items (flat more)) tail)
          ∙ ap (λ (is : List Item). is ++ tail) (sym (map-append (λ b. Sound (whole b)) x (flat more)))
          ∙ ap (λ (bs : List BlockRef). sound_items bs ++ tail) (sym all))
          ∙ c.rows.invariant.items;
    }
