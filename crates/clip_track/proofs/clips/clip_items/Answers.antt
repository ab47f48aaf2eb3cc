-- The goals of `clip_items` that the search leaves open.
use Rattle.clip_track.proofs.Common.{◌+◌, ◌-◌, ◌++◌, List, ◌∷◌, drop, sym, ap, subst, ◌∙◌, append_assoc, arith}
use Rattle.clip_track.proofs.Common.{drop_more, items_from, sound_items, end_of, clip_end, AreClips, Item, Clip}
use Rattle.clip_track.proofs.Common.{gap_items}
use Rattle.clip_track.proofs.Layouts.{AreClips-next, end_within}
use Rattle.clip_track.proofs.clips.clip_items.Goals as goal

pub append_clip-requires-clause-few : goal.append_clip-requires-clause-few
append_clip-requires-clause-few c =
    let x = c.clip-item.result in
    let d = drop_more c.args.clips.now c.loop-clip.clip-index x c.loop-clip-test.true
    ∙ ap (λ (y : Clip). y ∷ drop (c.loop-clip.clip-index + 1) c.args.clips.now) (sym c.clip-item.is) in
    let P : List Clip → Type 0 = λ cs. AreClips c.loop-clip.at cs in
    let a = end_within c.loop-clip.at x _ (subst P d c.loop-clip.invariant.apart) in
    let e = ap (end_of c.loop-clip.at) d in
    omega (arith, a, e)

pub loop-clip-preserved : goal.loop-clip-preserved
loop-clip-preserved c =
    let x = c.clip-item.result in
    let rest = drop (c.loop-clip.clip-index + 1) c.args.clips.now in
    let at = c.loop-clip.at in
    let d = drop_more c.args.clips.now c.loop-clip.clip-index x c.loop-clip-test.true
    ∙ ap (λ (y : Clip). y ∷ rest) (sym c.clip-item.is) in
    let P : List Clip → Type 0 = λ cs. AreClips at cs in
    rw (c.in_ok-at.ensures.items, c.in_ok-at.ensures.end) (record {
      all_items =
          append_assoc c.loop-clip.out.items (gap_items (x.start - at) ++ sound_items x.blocks)
          (items_from (clip_end x) rest)
          ∙ ap (λ (ys : List Item). c.loop-clip.out.items ++ ys) (sym (ap (items_from at) d))
          ∙ c.loop-clip.invariant.all_items;
      apart = AreClips-next at x rest (subst P d c.loop-clip.invariant.apart);
      same_end = sym (ap (end_of at) d) ∙ c.loop-clip.invariant.same_end;
    })
