-- What two lists of blocks, or of clips, have in common.
use Rattle.record_body.proofs.Common.{◌≡◌, suc, ◌-◌, ◌<◌, get_or, Bool, true, false, List}
use Rattle.record_body.proofs.Common.{[], ◌∷◌, length, refl, ◌∙◌, ap, arith, ◌&&◌}
use Rattle.record_body.proofs.Common.{Clip, same_clip, same_clips, last_blocks}
use Rattle.record_body.proofs.Common.{last_start}

pub clips_unlike : (xs ys : List Clip) → (length xs ≡ length ys → ⊥) → same_clips xs ys ≡ false
clips_unlike [] [] differ = absurd (differ refl)
clips_unlike [] (y ∷ ys) differ = refl
clips_unlike (x ∷ xs) [] differ = refl
clips_unlike (x ∷ xs) (y ∷ ys) differ = both_false (same_clip x y) (same_clips xs ys)
    (clips_unlike xs ys (λ same. differ (ap suc same)))
  where
    both_false : (a b : Bool) → b ≡ false → a && b ≡ false
    both_false true b e = e
    both_false false b e = refl

-- the last clip
pub record IsLast (c : Clip) (cs : List Clip) : Type 0 where
  pub blocks : last_blocks cs ≡ c.blocks
  pub start : last_start cs ≡ c.start

pub last_at : (cs : List Clip) (c : Clip) → 0 < length cs → c ≡ get_or cs (length cs - 1) c → IsLast c cs
last_at [] c some is = absurd (omega (arith, some))
last_at (x ∷ []) c some is = search arith
last_at (x ∷ y ∷ cs) c some is =
    let less : length (x ∷ y ∷ cs) - 1 ≡ suc (length (y ∷ cs) - 1) = omega arith in
    let more = last_at (y ∷ cs) c (omega arith) (is ∙ ap (λ n. get_or (x ∷ y ∷ cs) n c) less) in
    record { blocks = more.blocks; start = more.start }
