-- The goals of `append_piece` that the search leaves open.
use Rattle.std.proofs.Common.{◌≡◌, ◌+◌, ◌-◌, ◌≤◌, ◌++◌, List, [], ◌∷◌, length, min, take, drop, ℕ, ℤ, ap, ◌∙◌, arith}
use Rattle.std.proofs.{lemmas.List.append-nil, Math.Nat.sub-zero}
use Rattle.pcm_base.specs.Pieces.{stretch, whole, samples_of, all_samples, part_of, piece_len, IsValid}
use Rattle.pcm_base.proofs.Pieces.{AllValid-append, IsValid-part, all_samples-append, length-stretch, samples-part}
use Rattle.block_sequence.specs.Rows.{from_to}
use Rattle.block_sequence.proofs.FromTo.{from_to_past, from_to_empty, from_to_min, part_none}
use Rattle.block_sequence.proofs.row_pieces.append_piece.Goals as goal
use Rattle.block_sequence.proofs.row_pieces.append_piece.Goals.{then-len-from-via-then-len-from}
use Rattle.block_sequence.proofs.row_pieces.append_piece.Goals.{then-len-from-via-else-len-from+then-to-from}

pub returns-then-len-from-clause-samples : goal.returns-then-len-from-clause-samples
returns-then-len-from-clause-samples c src =
    let f = src.block c.args.block.id in
    let xs = stretch f 0 c.args.block.len in
    let none : from_to c.args.from c.args.to xs ≡ [] = elim c.then-len-from.branch [
      | then-len-from-via-then-len-from w ↦
          from_to_past c.args.from c.args.to xs (omega (arith, length-stretch f 0 c.args.block.len))
      | then-len-from-via-else-len-from+then-to-from w ↦ from_to_empty c.args.from c.args.to xs (omega arith)
    ] in
    part_none c.args.from c.args.to (all_samples src c.args.out.now.items) xs none

pub returns-clause-valid : goal.returns-clause-valid
returns-clause-valid c =
    let p = whole c.args.block in
    let k : c.args.from + (c.min.result - c.args.from) ≤ piece_len p = omega arith in
    let v : IsValid p = (omega arith, omega arith, omega arith) in
    rw (c.in_ok-push.ensures.items, c.part_of.ensures)
    (AllValid-append _ _ c.requires.valid (IsValid-part c.args.from (c.min.result - c.args.from) p k v, tt))

pub returns-clause-samples : goal.returns-clause-samples
returns-clause-samples c src =
    let from = c.args.from in
    let n = c.min.result - from in
    let p = whole c.args.block in
    let len = c.args.block.len in
    let f = src.block c.args.block.id in
    let xs = stretch f 0 len in
    let k : from + n ≤ piece_len p = omega arith in
    let e : n ≡ min c.args.to (length xs) - from = omega (arith, length-stretch f 0 len) in
    rw (c.in_ok-push.ensures.items, c.part_of.ensures) (
    all_samples-append src c.args.out.now.items (part_of from n p ∷ [])
    ∙ ap (λ (ys : List ℤ). all_samples src c.args.out.now.items ++ ys) (
    append-nil (samples_of src (part_of from n p))
    ∙ samples-part src from n p k
    ∙ ap (λ (m : ℕ). take n (drop from (stretch f 0 m))) (sub-zero len)
    ∙ ap (λ (m : ℕ). take m (drop from xs)) e
    ∙ from_to_min from c.args.to xs
    )
    )
