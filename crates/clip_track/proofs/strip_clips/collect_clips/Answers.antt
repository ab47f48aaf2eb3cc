-- The goals of `collect_clips` that the search leaves open.
use Rattle.clip_track.proofs.Common.{◌≡◌, ◌+◌, ◌-◌, ◌<◌, ◌++◌, List, [], ◌∷◌, drop, map, replicate, refl, sym, ap}
use Rattle.clip_track.proofs.Common.{subst, ◌∙◌, arith, drop_more, all_samples, Item, Gap, Sound, AreItems, strip_len}
use Rattle.clip_track.proofs.Common.{strip_cells}
use Rattle.pcm_base.proofs.Pieces.{total-append, AllValid-append}
use Rattle.clip_track.proofs.StripClips.{gap_cells, sound_cells}
use Rattle.clip_track.proofs.strip_clips.collect_clips.Goals.{in-Gap+in_ok-close-in-Gap, in-Sound+in_ok-push-in-Sound}
use Rattle.pcm_base.specs.declared.sound.Cell.TheVariants as cell
use Rattle.clip_track.specs.StripClips as clips
use Rattle.clip_track.proofs.strip_clips.collect_clips.Goals as goal

pub loop-item-preserved : goal.loop-item-preserved
loop-item-preserved c =
    let items = c.args.items.now in
    let i = c.loop-item.item-index in
    let rest = drop (i + 1) items in
    let inv = c.loop-item.invariant in
    elim c.match-item.branch [
      | in-Gap+in_ok-close-in-Gap w ↦
          let d : drop i items ≡ Gap w.in-Gap.len ∷ rest =
          drop_more items i (Gap 0) c.loop-item-test.true ∙ ap (λ (x : Item). x ∷ rest) w.in-Gap.is in
          let ok = subst AreItems d inv.rest_ok in
          let len = ap strip_len d in
          let some : 0 < w.in-Gap.len = ok.0 in
          rw (w.out-is, w.held-is, w.size-is, w.start-is, w.new-held-in-Gap.ensures.items) (record {
            valid = tt;
            same_size = refl;
            room = omega (arith, len, inv.room);
            apart = w.in_ok-close-in-Gap.ensures.apart;
            later = omega (arith, w.in_ok-close-in-Gap.ensures.later, some);
            rest_ok = ok.1;
            cells = λ src. gap_cells (clips.clips_cells src 0 w.close.new.out.items) _ _ w.in-Gap.len _
                (strip_cells src rest) _ (omega (arith, w.in_ok-close-in-Gap.ensures.end))
                (w.in_ok-close-in-Gap.ensures.cells src)
                (ap (λ (xs : List Item). clips.clips_cells src 0 c.loop-item.out.items
                ++ replicate (c.loop-item.start - clips.clips_end 0 c.loop-item.out.items) cell.Gap
                ++ map cell.Sample (all_samples src c.loop-item.held.items) ++ strip_cells src xs) (sym d)
                ∙ inv.cells src);
          })
      | in-Sound+in_ok-push-in-Sound w ↦
          let d : drop i items ≡ Sound w.in-Sound.piece ∷ rest =
          drop_more items i (Gap 0) c.loop-item-test.true ∙ ap (λ (x : Item). x ∷ rest) w.in-Sound.is in
          let ok = subst AreItems d inv.rest_ok in
          let len = ap strip_len d in
          let p = w.in-Sound.piece in
          let t = total-append c.loop-item.held.items (p ∷ []) in
          rw (w.out-is, w.held-is, w.size-is, w.start-is, w.in_ok-push-in-Sound.ensures.items) (record {
            valid = AllValid-append _ _ inv.valid (ok.0.1, tt);
            same_size = omega (arith, t, inv.same_size, w.piece_len-size.ensures);
            room = omega (arith, len, inv.room, w.piece_len-size.ensures);
            apart = inv.apart;
            later = inv.later;
            rest_ok = ok.1;
            cells = λ src. sound_cells src _ c.loop-item.held.items p (strip_cells src rest) _ (
                ap (λ (xs : List Item). clips.clips_cells src 0 c.loop-item.out.items
                ++ replicate (c.loop-item.start - clips.clips_end 0 c.loop-item.out.items) cell.Gap
                ++ map cell.Sample (all_samples src c.loop-item.held.items) ++ strip_cells src xs) (sym d)
                ∙ inv.cells src);
          })
    ]
