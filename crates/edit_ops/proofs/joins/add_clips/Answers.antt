-- Each clip is added where it stands.
use Rattle.edit_ops.proofs.Common.{◌≡◌, ℕ, ◌+◌, ◌-◌, ◌<◌, ◌≤◌, ◌++◌, [], ◌∷◌, List, length, drop, sym, ap, ap₂, subst}
use Rattle.edit_ops.proofs.Common.{◌∙◌, arith, AllHalfFull, BlockRef, Clip, IsHalfFull, clip_end, drop_more, end_of, get_or}
use Rattle.std.proofs.Common.{IfSome, Option}
use Rattle.pcm_base.specs.Blocks.{NoneEmpty, block_lens, blocks_len}
use Rattle.clip_track.specs.Clips.{AreClips}
use Rattle.clip_track.proofs.Layouts.{AreClips-earlier, end_within}
use Rattle.edit_ops.specs.Joins.{Adds, finished, moved}
use Rattle.edit_ops.specs.declared.joins.Joining.{Joining}
use Rattle.block_sequence.specs.Rows.{from_to}
use Rattle.block_sequence.proofs.FromTo.{from_to_all}
use Rattle.edit_ops.proofs.WindowBlocks.{end_more}
use Rattle.edit_ops.proofs.joins.add_clips.Goals as goal

taken : (clips : List Clip) (i : ℕ) (x : Clip) → i < length clips → x ≡ get_or clips i x
    → drop i clips ≡ x ∷ drop (i + 1) clips
taken clips i x h e = drop_more clips i x h ∙ ap (λ (y : Clip). y ∷ drop (i + 1) clips) (sym e)

bound : (by : ℕ) (x : Clip) (xs rest : List Clip) → xs ≡ x ∷ rest → AreClips 0 xs → by + end_of 0 xs ≤ 4294967296
    → by + clip_end x ≤ 4294967296
bound by x xs rest e h few = omega (arith, ap (end_of 0) e, end_within 0 x rest (subst (AreClips 0) e h), few)

clip_whole : (x : Clip) (n : ℕ) → n ≡ length x.blocks → from_to 0 n x.blocks ≡ x.blocks
clip_whole x n h = from_to_all n x.blocks (omega (arith, h))

pub overflow_add-part : goal.overflow_add-part
overflow_add-part c =
    let clips = c.args.clips.now in
    let i = c.loop-clip.clip-index in
    let x : Clip = c.clip-item.result in
    let inv = c.loop-clip.invariant in
    omega (
      arith,
      bound c.args.by x (drop i clips) (drop (i + 1) clips)
          (taken clips i x c.loop-clip-test.true c.clip-item.is) inv.apart inv.few,
    )

pub add_part-requires-clause-part : goal.add_part-requires-clause-part
add_part-requires-clause-part c =
    let m = c.args.planner.block_size in
    let clips = c.args.clips.now in
    let i = c.loop-clip.clip-index in
    let x : Clip = c.clip-item.result in
    let inv = c.loop-clip.invariant in
    let d = taken clips i x c.loop-clip-test.true c.clip-item.is in
    let same = clip_whole x c.count.result c.count.ensures.value in
    let H : List BlockRef → Type 0 = λ bs. IsHalfFull m (block_lens bs) in
    record {
      rising = omega arith;
      within = omega (arith, c.count.ensures.value);
      size = c.len.ensures.value ∙ ap blocks_len (sym same);
      few = omega (
        arith,
        bound c.args.by x (drop i clips) (drop (i + 1) clips) d inv.apart inv.few,
        c.len.ensures.value,
      );
      none_empty = subst NoneEmpty (sym same) (subst (AreClips 0) d inv.apart).2;
      half_full = subst H (sym same) (subst (AllHalfFull m) d inv.half_full).0;
    }

pub loop-clip-preserved : goal.loop-clip-preserved
loop-clip-preserved c =
    let m = c.args.planner.block_size in
    let by = c.args.by in
    let clips = c.args.clips.now in
    let i = c.loop-clip.clip-index in
    let x : Clip = c.clip-item.result in
    let rest = drop (i + 1) clips in
    let inv = c.loop-clip.invariant in
    let all = c.loop-clip.all in
    let d = taken clips i x c.loop-clip-test.true c.clip-item.is in
    let same = clip_whole x c.count.result c.count.ensures.value in
    let q : Clip = record { start = x.start + by; blocks = from_to 0 c.count.result x.blocks } in
    let P : Option Joining → Type 0 = λ o. IfSome o (Adds m all (q ∷ [])) in
    let adds : Adds m all (q ∷ []) c.in-Some.next = subst P c.in-Some.is c.in_ok-next.ensures in
    let e : x.start + by ≡ x.start - 0 + by = omega arith in
    record {
      joining = adds.joining;
      added = λ es. adds.clips (moved 0 by rest ++ es)
          ∙ ap₂ (λ (n : ℕ) (bs : List BlockRef). finished all (record { start = n; blocks = bs } ∷ (moved 0 by rest ++ es)))
          e same
          ∙ ap (λ (cs : List Clip). finished all (moved 0 by cs ++ es)) (sym d)
          ∙ inv.added es;
      apart = AreClips-earlier 0 (clip_end x + 1) rest (omega arith) (subst (AreClips 0) d inv.apart).3;
      half_full = (subst (AllHalfFull m) d inv.half_full).1;
      few = omega (arith, inv.few, ap (end_of 0) d, end_more 0 (clip_end x) rest (omega arith));
    }
