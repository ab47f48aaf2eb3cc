-- The choice that is made of the clips in one pass.
use Rattle.record_body.proofs.Common.{◌≡◌, ◌<◌, ◌==◌, ◌&&◌, Bool, true, List, [], ◌∷◌, length}
use Rattle.record_body.proofs.Common.{Some, refl, sym, ap, arith, ap₂, ◌∙◌, eq-eqb, lt-ltb, ltb-true, subst}
use Rattle.record_body.proofs.Common.{BlockRef, Clip, Track}
use Rattle.record_body.proofs.Common.{same_clip, same_clips, last_blocks, last_start, same_but_last, same_settings}
use Rattle.record_body.proofs.Common.{◌≤◌, change_of, Same, Whole, if◌then◌else◌}
use Rattle.pcm_base.specs.declared.limits.TheConstants.{MAX_CELLS}
use Rattle.block_sequence.proofs.Fronts.{common_within}
use Rattle.record_body.specs.Changes.{same_blocks, front_clips, tail_change}
use Rattle.record_body.specs.Choices.{change_by, clips_choice, last_choice, LiesIn}
use Rattle.record_body.proofs.ChangeLaws.{both, clips_refl, clips_same}
use Rattle.record_body.proofs.KnownFronts.{front_more}

decides : (xs ys : List Clip) → 0 < length xs → 0 < length ys → (last_start xs == last_start ys) ≡ true
    → same_clips (front_clips xs) (front_clips ys) ≡ true
    → same_clips xs ys ≡ same_blocks (last_blocks xs) (last_blocks ys)
decides [] ys some other start front = absurd (omega (arith, some))
decides (x ∷ xs) [] some other start front = absurd (omega (arith, other))
decides (x ∷ []) (y ∷ []) some other start front = search (arith, start)
decides (x ∷ []) (y ∷ w ∷ ys) some other start front = search (arith, front, front_more)
decides (x ∷ z ∷ xs) (y ∷ []) some other start front = search (arith, front, front_more)
decides (x ∷ z ∷ xs) (y ∷ w ∷ ys) some other start front =
    let are = both (same_clip x y) (same_clips (front_clips (z ∷ xs)) (front_clips (w ∷ ys)))
    (ap₂ (λ (cs ds : List Clip). same_clips cs ds) (sym (front_more x z xs)) (sym (front_more y w ys)) ∙ front) in
    ap (λ (b : Bool). b && same_clips (z ∷ xs) (w ∷ ys)) are.first
    ∙ decides (z ∷ xs) (w ∷ ys) (omega arith) (omega arith) start are.second

-- where all but the blocks of the last clip is the same, these decide
pub last_decides : (xs ys : List Clip) → same_but_last xs ys ≡ true
    → same_clips xs ys ≡ same_blocks (last_blocks xs) (last_blocks ys)
last_decides xs ys e = search (arith, both, ltb-true, decides xs ys)

begin_refl : (xs : List Clip) → 0 < length xs → same_but_last xs xs ≡ true
begin_refl xs some = search (arith, clips_refl (front_clips xs), eq-eqb, lt-ltb)

-- the same clips, of which there is one, are the same but for the last
pub same_begin : (xs ys : List Clip) → 0 < length xs → same_clips xs ys ≡ true → same_but_last xs ys ≡ true
same_begin xs ys some e = subst (λ (zs : List Clip). same_but_last xs zs ≡ true) (clips_same xs ys e)
    (begin_refl xs some)

none_alike : (ys : List Clip) → same_clips [] ys ≡ (length ys == 0)
none_alike [] = refl
none_alike (y ∷ ys) = search arith

some_told : (xs : List Clip) (t : Track) → 0 < length xs
    → change_by t (clips_choice xs t.layout) ≡ (if same_clips xs t.layout then Same
    else if same_but_last xs t.layout then tail_change xs t.layout else Whole t)
some_told xs t some =
    search (arith, last_decides xs t.layout, same_begin xs t.layout some)

all_told : (xs : List Clip) (t : Track)
    → change_by t (clips_choice xs t.layout) ≡ (if same_clips xs t.layout then Same
    else if same_but_last xs t.layout then tail_change xs t.layout else Whole t)
all_told [] t = search (arith, none_alike t.layout)
all_told (x ∷ xs) t = some_told (x ∷ xs) t (omega arith)

pub by_clips : (old t : Track) → same_settings old t ≡ true
    → change_by t (clips_choice old.layout t.layout) ≡ change_of (Some old) t
by_clips old t e = search (arith, all_told old.layout t)

-- what is kept is common to both
pub last_within : (xs : List BlockRef) (ys : List Clip) → 0 < length ys → length xs ≤ MAX_CELLS
    → LiesIn ys (last_choice xs (last_blocks ys))
last_within xs ys some few = search (arith, common_within xs (last_blocks ys))

-- settings and clips that are the same
pub same_told : (old t : Track) → same_settings old t ≡ true → same_clips old.layout t.layout ≡ true
    → Same ≡ change_of (Some old) t
same_told old t settings clips = search arith
