-- The goals of `close` that the search leaves open.
use Rattle.clip_track.proofs.Common.{◌≡◌, ℕ, ◌-◌, ℤ, List, [], ◌++◌, map, replicate, refl, sym, ap, ◌∙◌, arith}
use Rattle.clip_track.proofs.Common.{append-nil, Cell, all_samples, StripClip, clips_end, clips_cells}
use Rattle.std.proofs.lemmas.List.{nil_from_length}
use Rattle.pcm_base.proofs.Pieces.{length-all_samples}
use Rattle.clip_track.proofs.StripClips.{clips_end-push, next_start-push, AreStripClips-push, end_before_next}
use Rattle.clip_track.proofs.StripClips.{closed_cells}
use Rattle.pcm_base.specs.declared.sound.Cell.TheVariants as cell
use Rattle.clip_track.proofs.strip_clips.close.Goals as goal

abbrev new_clip : (c : goal.In_ok-push) → StripClip
new_clip c = record { start = c.args.start; pieces = c.args.held.items }

pub returns-in_ok-push-clause-apart : goal.returns-in_ok-push-clause-apart
returns-in_ok-push-clause-apart c =
    rw (c.in_ok-push.ensures.items, c.new-pieces.ensures) (
    AreStripClips-push 0 c.args.out.now.items (new_clip c) c.requires.apart c.requires.later
    (omega (arith, c.requires.size, c.if-size-gt0.true)) c.requires.valid)

pub returns-in_ok-push-clause-later : goal.returns-in_ok-push-clause-later
returns-in_ok-push-clause-later c =
    rw (c.in_ok-push.ensures.items, c.new-pieces.ensures)
    (omega (arith, c.requires.size, next_start-push 0 c.args.out.now.items (new_clip c)))

pub returns-in_ok-push-clause-end : goal.returns-in_ok-push-clause-end
returns-in_ok-push-clause-end c =
    rw (c.in_ok-push.ensures.items, c.new-pieces.ensures)
    (omega (arith, c.requires.size, clips_end-push 0 c.args.out.now.items (new_clip c)))

pub returns-in_ok-push-clause-cells : goal.returns-in_ok-push-clause-cells
returns-in_ok-push-clause-cells c src =
    rw (c.in_ok-push.ensures.items, c.new-pieces.ensures) (closed_cells src c.args.out.now.items
    (new_clip c) c.args.size (all_samples src c.args.held.items) (sym c.requires.size) refl)

pub returns-else-size-gt0-clause-end : goal.returns-else-size-gt0-clause-end
returns-else-size-gt0-clause-end c =
    omega (arith, end_before_next 0 0 c.args.out.now.items (omega arith), c.requires.later)

pub returns-else-size-gt0-clause-cells : goal.returns-else-size-gt0-clause-cells
returns-else-size-gt0-clause-cells c src =
    let none : all_samples src c.args.held.items ≡ [] =
    nil_from_length _ (length-all_samples src c.args.held.items ∙ sym c.requires.size ∙ omega arith) in
    let z : c.args.size ≡ 0 = omega arith in
    let before = clips_cells src 0 c.args.out.now.items in
    let gap : ℕ → List Cell = λ n. replicate (n - clips_end 0 c.args.out.now.items) cell.Gap in
    ap (λ (n : ℕ). before ++ gap n) (omega arith)
    ∙ sym (ap (λ (ss : List ℤ). before ++ gap c.args.start ++ map cell.Sample ss) none
    ∙ append-nil (before ++ gap c.args.start))
