-- The window stands in the clip.
use Rattle.edit_ops.proofs.Common.{◌≡◌, ◌+◌, ◌<◌, ◌≤◌, ◌++◌, ◌∷◌, List, drop, length, sym, ap, subst, ◌∙◌, ℕ}
use Rattle.edit_ops.proofs.Common.{arith, BlockRef, Clip, IsHalfFull}
use Rattle.pcm_base.specs.Blocks.{NoneEmpty, block_lens, blocks_len}
use Rattle.block_sequence.specs.Rows.{from_to}
use Rattle.block_sequence.proofs.FlatRows.{length_few}
use Rattle.clip_track.specs.Clips.{AreClips}
use Rattle.edit_ops.proofs.TouchingClips.{of_some}
use Rattle.edit_ops.proofs.WindowBlocks.{apart_parts, front_len, half_full_parts, half_three, part_length, three_whole}
use Rattle.edit_ops.proofs.windows.window_in.Goals as goal

pub pass_rows-first-requires : goal.pass_rows-first-requires
pass_rows-first-requires c =
    let r = c.rows-rows.ensures in
    omega (arith, ap length r.value, length_few _ r.none_empty, r.few)

pub pass_rows-last-requires : goal.pass_rows-last-requires
pass_rows-last-requires c =
    let r = c.rows-rows.ensures in
    omega (arith, ap length r.value, length_few _ r.none_empty, r.few)

pub returns-clause-window : goal.returns-clause-window
returns-clause-window c m s h =
    let before = c.args.before.now in
    let clip = c.args.clip.now in
    let after = c.args.after.now in
    let bs = clip.blocks in
    let begin = c.pass_rows-first.result.count in
    let end = c.min-end.result in
    let count = c.count-count.result in
    let same = c.count-count.ensures.value in
    let rising : begin ≤ end = omega (arith, c.if-end-first.false) in
    let last : end ≤ count = omega (arith, c.min-end.ensures) in
    let within : end ≤ length bs = omega (arith, last, same) in
    let front = from_to 0 begin bs in
    let middle = from_to begin end bs in
    let back = from_to end count bs in
    let all : bs ≡ front ++ middle ++ back =
    sym (ap (λ (n : ℕ). front ++ middle ++ from_to end n bs) same ∙ three_whole begin end bs rising within) in
    let some : 0 < length middle = omega (arith, part_length begin end bs rising within, c.if-end-first.false) in
    let parts = apart_parts 0 before (clip ∷ after) c.requires.layout.apart in
    let mine = parts.1 in
    let H : List BlockRef → Type 0 = λ xs. IsHalfFull m (block_lens xs) in
    let half = half_three m front middle back s some (subst H all (half_full_parts m before (clip ∷ after) h).1.0) in
    let A : ℕ → Type 0 = λ n. AreClips (clip.start + n + 1) after in
    let rows = c.rows-rows.ensures.value in
    record {
      layout = c.requires.layout;
      rising = rising;
      last = last;
      within = omega (arith, same);
      clips = ap (λ (xs : List BlockRef). before ++ record { start = clip.start; blocks = xs } ∷ after) all
          ∙ ap (λ (cs : List Clip). before ++ (cs ++ after)) (sym (of_some clip.start (front ++ middle ++ back)
          (omega (arith, mine.1, ap blocks_len all))));
      before = parts.0;
      apart = mine.0;
      after = subst A (sym c.len.ensures.value) mine.3;
      len = c.len.ensures.value ∙ ap blocks_len all;
      none_empty = subst NoneEmpty all mine.2;
      front = half.0;
      middle = half.1;
      back = half.2;
      from = omega (
        arith,
        c.pass_rows-first.ensures.size,
        ap blocks_len rows,
        ap (λ (xs : List BlockRef). blocks_len (drop begin xs)) rows,
        front_len begin bs,
      );
    }
