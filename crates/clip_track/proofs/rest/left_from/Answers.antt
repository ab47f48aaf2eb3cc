-- One clip more is passed.
use Rattle.clip_track.proofs.Common.{◌≡◌, ◌-◌, ◌≤◌, ◌∷◌, List, length, take, drop, sym, ap, subst, ◌∙◌, arith, AreClips}
use Rattle.clip_track.proofs.Common.{end_of, clip_end, items_from, Clip, items_after}
use Rattle.clip_track.proofs.{Layouts.AreClips-next, Layouts.end_within, RestItems.first_of, RestItems.past_clip}
use Rattle.clip_track.proofs.rest.left_from.Goals as goal

pub overflow_add-next : goal.overflow_add-next
overflow_add-next c =
    let xs = c.rows.rest.now in
    let x : Clip = c.clip-item.result in
    let more : List Clip = take (length xs - 1) (drop 1 xs) in
    let same : xs ≡ x ∷ more =
    first_of xs x c.in-len1-up.len_at_least ∙ ap (λ (y : Clip). y ∷ more) (sym c.clip-item.is) in
    omega (
      arith,
      end_within c.rows.end x more (subst (AreClips c.rows.end) same c.rows.invariant.apart),
      ap (end_of c.rows.end) same,
      c.rows.invariant.few,
      c.len.ensures.value,
    )

pub rows-preserved : goal.rows-preserved
rows-preserved c =
    let end = c.rows.end in
    let xs = c.rows.rest.now in
    let x : Clip = c.clip-item.result in
    let more : List Clip = take (length xs - 1) (drop 1 xs) in
    let same : xs ≡ x ∷ more =
    first_of xs x c.in-len1-up.len_at_least ∙ ap (λ (y : Clip). y ∷ more) (sym c.clip-item.is) in
    let apart : AreClips end (x ∷ more) = subst (AreClips end) same c.rows.invariant.apart in
    let later : clip_end x ≤ c.args.place = omega (arith, c.if-place-next.false, c.len.ensures.value) in
    rw c.len.ensures.value (record {
      before = later;
      apart = AreClips-next end x more apart;
      few = omega (arith, ap (end_of end) same, c.rows.invariant.few);
      items = sym (past_clip end c.args.place x more apart later)
          ∙ sym (ap (λ cs. items_after (c.args.place - end) (items_from end cs)) same) ∙ c.rows.invariant.items;
    })
