-- The goals of `cut_off` that the search leaves open.
use Rattle.std.proofs.Common.{◌≡◌, ◌+◌, ◌≤◌, ◌++◌, List, [], ◌∷◌, get_or, ap, ◌∙◌, ℤ, arith}
use Rattle.pcm_base.specs.Pieces.{all_samples, piece_len, part_of}
use Rattle.pcm_base.specs.{declared.piece.Piece.Piece, declared.piece.Piece.TheVariants.Old}
use Rattle.pcm_base.proofs.Pieces.{total-append, piece_len-part, IsValid-part, Fits-part, AllValid-append}
use Rattle.pcm_base.proofs.Pieces.{AllFit-append}
use Rattle.block_sequence.proofs.Rest.{valid_at, fits_at, below, total_next, samples_next, samples_part, samples_push}
use Rattle.block_sequence.proofs.Origins.{IsFrom-part, from_at, AllFrom-append}
use Rattle.block_sequence.proofs.cutting.cut_off.Goals as goal

pub piece_len-len-requires : goal.piece_len-len-requires
piece_len-len-requires c =
    let h = below c.args.pieces.now c.loop-left.at (omega arith) in
    valid_at c.args.pieces.now c.loop-left.at _ h c.requires.valid

pub part_of-requires-clause-valid : goal.part_of-requires-clause-valid
part_of-requires-clause-valid c =
    let h = below c.args.pieces.now c.loop-left.at (omega arith) in
    valid_at c.args.pieces.now c.loop-left.at _ h c.requires.valid

-- what the code reads where there is no piece
abbrev nothing : Piece
nothing = Old (record { id = 0; len = 0 }) 0 0

pub loop-left-preserved-then-len-skip : goal.loop-left-preserved-then-len-skip
loop-left-preserved-then-len-skip c =
    let ps = c.args.pieces.now in
    let i = c.loop-left.at in
    let h = below ps i (omega arith) in
    let t = total_next ps i nothing h in
    record {
      valid = c.loop-left.invariant.valid;
      fit = c.loop-left.invariant.fit;
      origin = c.loop-left.invariant.origin;
      taken = c.loop-left.invariant.taken;
      within = omega (arith, t);
      rest = omega (arith, t);
      samples = λ src. rw c.piece_len-len.ensures (
          ap (λ (ys : List ℤ). all_samples src c.loop-left.out.items ++ ys)
          (samples_next src ps i c.loop-left.skip nothing h (omega arith))
          ∙ c.loop-left.invariant.samples src);
    }

pub loop-left-preserved : goal.loop-left-preserved
loop-left-preserved c =
    let ps = c.args.pieces.now in
    let i = c.loop-left.at in
    let h = below ps i (omega arith) in
    let t = total_next ps i nothing h in
    let p = get_or ps i nothing in
    let v = valid_at ps i nothing h c.requires.valid in
    let k : c.loop-left.skip + c.min-size.result ≤ piece_len p = omega arith in
    let part : c.part_of.result ≡ part_of c.loop-left.skip c.min-size.result p = c.part_of.ensures in
    let n = piece_len-part c.loop-left.skip c.min-size.result p in
    rw (c.in_ok-push.ensures.items, part) (record {
      valid = AllValid-append _ _ c.loop-left.invariant.valid (IsValid-part _ _ p k v, tt);
      fit = λ m f. AllFit-append m _ _ (c.loop-left.invariant.fit m f) (
        Fits-part m _ _ p (fits_at m ps i nothing h f),
        tt,
      );
      origin = λ blocks count f. AllFrom-append blocks count _ _ (c.loop-left.invariant.origin blocks count f)
          (IsFrom-part blocks count _ _ p k v (from_at blocks count ps i nothing h f), tt);
      taken = omega (arith, total-append c.loop-left.out.items (part_of c.loop-left.skip c.min-size.result p ∷ []), n);
      within = omega arith;
      rest = omega (arith, total-append c.loop-left.out.items (part_of c.loop-left.skip c.min-size.result p ∷ []), n);
      samples = λ src. samples_push src c.loop-left.out.items _ _ _ _
          (samples_part src ps i c.loop-left.skip c.min-size.result nothing h k) (c.loop-left.invariant.samples src);
    })
