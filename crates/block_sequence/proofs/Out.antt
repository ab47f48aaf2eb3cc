-- One more block is laid out.
use Rattle.std.proofs.Common.{◌≡◌, ℕ, List, [], ◌∷◌, ◌++◌, refl, sym, ap, ◌∙◌, ℤ, append_assoc}
use Rattle.std.proofs.lemmas.List.{map_push, append-nil}
use Rattle.pcm_base.specs.Pieces.{Sources}
use Rattle.block_sequence.specs.Laid.{part_of_laid, parts, laid_samples, all_laid_samples, IsMade, AllMade}
use Rattle.block_sequence.specs.{declared.types.Laid.Laid, Fuse.Part, Fuse.block_sizes, Laying.run_parts}
use Rattle.block_sequence.proofs.Sizes.{made}

pub made_is_run : (m t : ℕ) → made (block_sizes m t) ≡ run_parts m t
unfolding run_parts
made_is_run m t = refl

pub AllMade-push : (m : ℕ) (ls : List Laid) (l : Laid) → AllMade m ls → IsMade m l → AllMade m (ls ++ l ∷ [])
AllMade-push m [] l a b = (b, tt)
AllMade-push m (k ∷ ls) l a b = (a.0, AllMade-push m ls l a.1 b)

-- what is pushed comes before the rest
pub parts_push : (ls : List Laid) (l : Laid) (rest : List Part)
    → parts (ls ++ l ∷ []) ++ rest ≡ parts ls ++ part_of_laid l ∷ rest
parts_push ls l rest =
    ap (λ ps. ps ++ rest) (map_push part_of_laid ls l) ∙ append_assoc (parts ls) (part_of_laid l ∷ []) rest

laid_samples_push : (src : Sources) (ls : List Laid) (l : Laid)
    → all_laid_samples src (ls ++ l ∷ []) ≡ all_laid_samples src ls ++ laid_samples src l
laid_samples_push src [] l = append-nil (laid_samples src l)
laid_samples_push src (k ∷ ls) l =
    ap (λ xs. laid_samples src k ++ xs) (laid_samples_push src ls l)
    ∙ sym (append_assoc (laid_samples src k) (all_laid_samples src ls) (laid_samples src l))

pub samples_push_laid : (src : Sources) (ls : List Laid) (l : Laid) (rest : List ℤ)
    → all_laid_samples src (ls ++ l ∷ []) ++ rest ≡ all_laid_samples src ls ++ (laid_samples src l ++ rest)
samples_push_laid src ls l rest =
    ap (λ xs. xs ++ rest) (laid_samples_push src ls l)
    ∙ append_assoc (all_laid_samples src ls) (laid_samples src l) rest
