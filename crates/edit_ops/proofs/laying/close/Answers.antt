-- The goals of `close` that the search leaves open.
use Rattle.edit_ops.proofs.Common.{◌≡◌, ℕ, ◌-◌, ℤ, List, [], ◌++◌, length, map, replicate, sym, ap, ◌∙◌, arith}
use Rattle.edit_ops.proofs.Common.{append-nil, Cell, all_samples, length-all_samples, sizes, added, LaidClip, laid_end}
use Rattle.edit_ops.proofs.Common.{laid_cells}
use Rattle.std.proofs.lemmas.List.{nil_from_length}
use Rattle.edit_ops.proofs.LaidLists.{made_clips-push, length-all_laid, silent, laid_end-push, laid_next-push}
use Rattle.edit_ops.proofs.LaidLists.{AreLaidClips-push, end_before_next, closed_cells, ClipsFrom-push}
use Rattle.pcm_base.specs.declared.sound.Cell.TheVariants as cell
use Rattle.edit_ops.proofs.laying.close.Goals as goal

-- as many samples as there are pieces of
same_len : (c : goal.In_ok-push) → added (sizes c.in_ok-laid.laid.items) ≡ c.args.size
same_len c =
    sym (length-all_laid c.args.planner.block_size silent c.in_ok-laid.laid.items c.in_ok-laid.ensures.made)
    ∙ ap length (c.in_ok-laid.ensures.samples silent)
    ∙ length-all_samples silent c.args.held.now
    ∙ sym c.requires.size

abbrev new_clip : (c : goal.In_ok-push) → LaidClip
new_clip c = record { start = c.args.start; laid = c.in_ok-laid.laid }

pub returns-in_ok-push-clause-apart : goal.returns-in_ok-push-clause-apart
returns-in_ok-push-clause-apart c =
    let e = same_len c in
    rw c.in_ok-push.ensures.items (
    AreLaidClips-push c.args.planner.block_size 0 c.args.out.now.items (new_clip c) c.requires.apart c.requires.later
    (omega (arith, e, c.if-size-gt0.true)) c.in_ok-laid.ensures.made c.in_ok-laid.ensures.half_full)

pub returns-in_ok-push-clause-later : goal.returns-in_ok-push-clause-later
returns-in_ok-push-clause-later c =
    let e = same_len c in
    rw c.in_ok-push.ensures.items (omega (arith, e, laid_next-push 0 c.args.out.now.items (new_clip c)))

pub returns-in_ok-push-clause-end : goal.returns-in_ok-push-clause-end
returns-in_ok-push-clause-end c =
    let e = same_len c in
    rw c.in_ok-push.ensures.items (omega (arith, e, laid_end-push 0 c.args.out.now.items (new_clip c)))

pub returns-in_ok-push-clause-cells : goal.returns-in_ok-push-clause-cells
returns-in_ok-push-clause-cells c src =
    rw c.in_ok-push.ensures.items (closed_cells src c.args.out.now.items (new_clip c) c.args.size
    (all_samples src c.args.held.now) (same_len c) (c.in_ok-laid.ensures.samples src))

pub returns-else-size-gt0-clause-end : goal.returns-else-size-gt0-clause-end
returns-else-size-gt0-clause-end c =
    omega (arith, end_before_next 0 0 c.args.out.now.items (omega arith), c.requires.later)

pub returns-else-size-gt0-clause-cells : goal.returns-else-size-gt0-clause-cells
returns-else-size-gt0-clause-cells c src =
    let none : all_samples src c.args.held.now ≡ [] =
    nil_from_length _ (length-all_samples src c.args.held.now ∙ sym c.requires.size ∙ omega arith) in
    let z : c.args.size ≡ 0 = omega arith in
    let before = laid_cells src 0 c.args.out.now.items in
    let gap : ℕ → List Cell = λ n. replicate (n - laid_end 0 c.args.out.now.items) cell.Gap in
    ap (λ (n : ℕ). before ++ gap n) (omega arith)
    ∙ sym (ap (λ (ss : List ℤ). before ++ gap c.args.start ++ map cell.Sample ss) none
    ∙ append-nil (before ++ gap c.args.start))

pub returns-in_ok-push-clause-few_made : goal.returns-in_ok-push-clause-few_made
returns-in_ok-push-clause-few_made c s =
    rw c.in_ok-push.ensures.items
    (omega (arith, made_clips-push c.args.out.now.items (new_clip c), c.in_ok-laid.ensures.few_made s))

pub returns-in_ok-push-clause-few_samples : goal.returns-in_ok-push-clause-few_samples
returns-in_ok-push-clause-few_samples c =
    let e = made_clips-push c.args.out.now.items (new_clip c) in
    rw (c.in_ok-push.ensures.items, e) (omega (arith, c.in_ok-laid.ensures.few_samples))

pub returns-in_ok-push-clause-origin : goal.returns-in_ok-push-clause-origin
returns-in_ok-push-clause-origin c old count f g = rw c.in_ok-push.ensures.items
    (ClipsFrom-push old count c.args.out.now.items (new_clip c) g (c.in_ok-laid.ensures.from old count f))
