-- The goals of `lay_strip` that the search leaves open.
use Rattle.edit_ops.proofs.Common.{◌≡◌, ◌+◌, ◌-◌, ◌<◌, ◌++◌, List, [], ◌∷◌, drop, map, replicate, refl, sym, ap, subst}
use Rattle.edit_ops.proofs.Common.{◌∙◌, arith, drop_more, drop_all, append-nil, all_samples, Piece, ItemsFit, AreItems}
use Rattle.edit_ops.proofs.Common.{strip_len, strip_cells, Item, Gap, Sound, room_from, rough_from, ItemsShort}
use Rattle.edit_ops.proofs.Common.{AllShort, AllFrom, ItemsFrom}
use Rattle.pcm_base.proofs.Pieces.{total-append, AllValid-append, AllFit-append}
use Rattle.block_sequence.specs.{Fuse.rough, Room.clip_room}
use Rattle.edit_ops.proofs.LaidLists.{AllShort-append, ended_cells}
use Rattle.edit_ops.proofs.laying.lay_strip.Goals.{in-Gap+in_ok-close-in-Gap, in-Sound+in_ok-push-in-Sound}
use Rattle.clip_track.proofs.StripClips.{sound_cells, gap_cells}
use Rattle.block_sequence.proofs.Origins.{AllFrom-append}
use Rattle.pcm_base.specs.declared.sound.Cell.TheVariants as cell
use Rattle.edit_ops.specs.LaidClips as clips
use Rattle.edit_ops.proofs.laying.lay_strip.Goals as goal

pub loop-item-preserved : goal.loop-item-preserved
loop-item-preserved c =
    let items = c.args.items.now in
    let i = c.loop-item.item-index in
    let rest = drop (i + 1) items in
    let inv = c.loop-item.invariant in
    elim c.match-item.branch [
      | in-Gap+in_ok-close-in-Gap w ↦
          let d : drop i items ≡ Gap w.in-Gap.len ∷ rest =
          drop_more items i (Gap 0) c.loop-item-test.true ∙ ap (λ (x : Item). x ∷ rest) w.in-Gap.is in
          let ok = subst AreItems d inv.rest_ok in
          let F : List Item → Type 0 = λ xs. ItemsFit c.args.planner.block_size xs in
          let len = ap strip_len d in
          let some : 0 < w.in-Gap.len = ok.0 in
          rw (w.out-is, w.held-is, w.size-is, w.start-is, w.new-held-in-Gap.ensures.items) (record {
            valid = tt;
            fit = tt;
            same_size = refl;
            sum = omega (arith, len, inv.sum);
            apart = w.in_ok-close-in-Gap.ensures.apart;
            later = omega (arith, w.in_ok-close-in-Gap.ensures.later, some);
            rest_ok = ok.1;
            rest_fit = (subst F d inv.rest_fit).1;
            origin = λ old count h.
                let f = inv.origin old count h in
                let S : List Piece → Type 0 = AllFrom old count in
                let T : List Item → Type 0 = ItemsFrom old count in (
                  tt,
                  (subst T d f.1).1,
                  w.in_ok-close-in-Gap.ensures.origin old count (subst S (sym w.as_slice.ensures.value) f.0) f.2,
                );
            few_made = λ h.
                let f = inv.few_made h in
                let e = ap (rough_from c.args.planner.block_size c.loop-item.held.items) d in
                let S : List Piece → Type 0 = AllShort c.args.planner.block_size in
                let k = w.in_ok-close-in-Gap.ensures.few_made (subst S (sym w.as_slice.ensures.value) f.0) in
                let o = ap (rough c.args.planner.block_size) w.as_slice.ensures.value in
                let T : List Item → Type 0 = ItemsShort c.args.planner.block_size in
                (tt, (subst T d f.1).1, omega (arith, f.2, e, k, o));
            few_samples = omega (
              arith,
              inv.few_samples,
              ap (room_from c.args.planner.block_size c.loop-item.held.items) d,
              ap (clip_room c.args.planner.block_size) w.as_slice.ensures.value,
              w.in_ok-close-in-Gap.ensures.few_samples,
            );
            cells = λ src. gap_cells (clips.laid_cells src 0 w.close.new.out.items) _ _ w.in-Gap.len _
                (strip_cells src rest) _ (omega (arith, w.in_ok-close-in-Gap.ensures.end))
                (w.in_ok-close-in-Gap.ensures.cells src)
                (ap (λ (ps : List Piece). clips.laid_cells src 0 c.loop-item.out.items ++ replicate
                (c.loop-item.start - clips.laid_end 0 c.loop-item.out.items) cell.Gap ++ map cell.Sample
                (all_samples src ps) ++ strip_cells src (Gap w.in-Gap.len ∷ rest)) w.as_slice.ensures.value
                ∙ ap (λ (xs : List Item). clips.laid_cells src 0 c.loop-item.out.items
                ++ replicate (c.loop-item.start - clips.laid_end 0 c.loop-item.out.items) cell.Gap
                ++ map cell.Sample (all_samples src c.loop-item.held.items) ++ strip_cells src xs) (sym d)
                ∙ inv.cells src);
          })
      | in-Sound+in_ok-push-in-Sound w ↦
          let d : drop i items ≡ Sound w.in-Sound.piece ∷ rest =
          drop_more items i (Gap 0) c.loop-item-test.true ∙ ap (λ (x : Item). x ∷ rest) w.in-Sound.is in
          let ok = subst AreItems d inv.rest_ok in
          let F : List Item → Type 0 = λ xs. ItemsFit c.args.planner.block_size xs in
          let fit = subst F d inv.rest_fit in
          let len = ap strip_len d in
          let p = w.in-Sound.piece in
          let t = total-append c.loop-item.held.items (p ∷ []) in
          rw (w.out-is, w.held-is, w.size-is, w.start-is, w.in_ok-push-in-Sound.ensures.items) (record {
            valid = AllValid-append _ _ inv.valid (ok.0.1, tt);
            fit = AllFit-append c.args.planner.block_size _ _ inv.fit (fit.0, tt);
            same_size = omega (arith, t, inv.same_size, w.piece_len-size.ensures);
            sum = omega (arith, len, inv.sum, w.piece_len-size.ensures);
            apart = inv.apart;
            later = inv.later;
            rest_ok = ok.1;
            rest_fit = fit.1;
            origin = λ old count h.
                let f = inv.origin old count h in
                let T : List Item → Type 0 = ItemsFrom old count in
                let g = subst T d f.1 in
                (AllFrom-append old count c.loop-item.held.items (p ∷ []) f.0 (g.0, tt), g.1, f.2);
            few_made = λ h.
                let f = inv.few_made h in
                let e = ap (rough_from c.args.planner.block_size c.loop-item.held.items) d in
                let T : List Item → Type 0 = ItemsShort c.args.planner.block_size in
                let g = subst T d f.1 in (
                  AllShort-append c.args.planner.block_size c.loop-item.held.items (p ∷ []) f.0 ((ok.0.0, g.0), tt),
                  g.1,
                  omega (arith, f.2, e),
                );
            few_samples =
                omega (arith, inv.few_samples, ap (room_from c.args.planner.block_size c.loop-item.held.items) d);
            cells = λ src. sound_cells src _ c.loop-item.held.items p (strip_cells src rest) _ (
                ap (λ (xs : List Item). clips.laid_cells src 0 c.loop-item.out.items
                ++ replicate (c.loop-item.start - clips.laid_end 0 c.loop-item.out.items) cell.Gap
                ++ map cell.Sample (all_samples src c.loop-item.held.items) ++ strip_cells src xs) (sym d)
                ∙ inv.cells src);
          })
    ]

pub returns-clause-cells : goal.returns-clause-cells
returns-clause-cells c src =
    let items = c.args.items.now in
    let d = drop_all c.loop-item.item-index items c.loop-item-test.false in
    let before = clips.laid_cells src 0 c.loop-item.out.items
    ++ replicate (c.loop-item.start - clips.laid_end 0 c.loop-item.out.items) cell.Gap in
    ended_cells c.args.planner.block_size src c.close-2.new.out.items _ _ c.in_ok-close.ensures.apart (
    c.in_ok-close.ensures.cells src
    ∙ ap (λ (ps : List Piece). before ++ map cell.Sample (all_samples src ps)) c.as_slice-2.ensures.value
    ∙ sym (append-nil (before ++ map cell.Sample (all_samples src c.loop-item.held.items)))
    ∙ ap (λ (xs : List Item). before ++ map cell.Sample (all_samples src c.loop-item.held.items) ++ strip_cells src xs)
    (sym d)
    ∙ c.loop-item.invariant.cells src)

pub returns-clause-origin : goal.returns-clause-origin
returns-clause-origin c old count h =
    let f = c.loop-item.invariant.origin old count h in
    let S : List Piece → Type 0 = AllFrom old count in
    c.in_ok-close.ensures.origin old count (subst S (sym c.as_slice-2.ensures.value) f.0) f.2
