-- Images file by file.
use Rattle.memory_disk.proofs.Common.{◌≡◌, ◌⊎◌, ℕ, ◌+◌, ◌≤◌, ◌<◌, min, max, None, List, [], ◌∷◌, length, take, drop}
use Rattle.memory_disk.proofs.Common.{get_or, refl, sym, ◌∙◌, ap, subst, arith, length-drop, get_or-take, get_or-drop}
use Rattle.memory_disk.proofs.Common.{same_number_lists, Files, Torn, TornFile, Step, Wrote, Synced, Removed, IsImage}
use Rattle.memory_disk.proofs.Common.{IsFileImage, reads_of}
use Rattle.std.proofs.lemmas.List.{length-take}

-- files are left independently of one another
pub image_from_files : (h : List Step) (c : Files) → ((f : ℕ) → IsFileImage f h (c f)) → IsImage h c
image_from_files [] c each = λ i f. each f i
image_from_files (Wrote file at bytes ∷ h) c each = (
  (λ f. (each f).0),
  image_from_files h (λ f. (each f).0) (λ f. (each f).1),
  record {
    torn = (each file).2 refl;
    others = λ o ne. (each o).3 ne;
  },
)
image_from_files (Synced file ∷ h) c each = (image_from_files h c (λ f. (each f).0), (each file).1 refl)
image_from_files (Removed file ∷ h) c each = (
  (λ f. (each f).0),
  image_from_files h (λ f. (each f).0) (λ f. (each f).1),
  record { gone = (each file).2 refl; others = λ o ne. (each o).3 ne },
)

-- a torn write, index by index
pub torn_by_index : (at n : ℕ) (old new : List ℕ) → length old ≤ length new → length new ≤ max (length old) (at + n)
    → ((i : ℕ) → i < length old → i < at → get_or new i 0 ≡ get_or old i 0)
    → ((i : ℕ) → i < length old → at + n ≤ i → get_or new i 0 ≡ get_or old i 0) → Torn at n old new
torn_by_index at n old new shorter longer below above =
    let m = min at (length old) in
    record {
      before =
          same_number_lists (take m new) (take m old) (omega (arith, length-take m new, length-take m old)) (λ i lt.
          let small : i < m = omega (arith, length-take m new) in
          get_or-take m new i 0 small ∙ below i (omega arith) (omega arith) ∙ sym (get_or-take m old i 0 small));
      after = same_number_lists (drop (at + n) new) (drop (at + n) old)
          (omega (arith, length-drop (at + n) new, length-drop (at + n) old)) (λ i lt.
          get_or-drop (at + n) new i 0 ∙ above (at + n + i) (omega (arith, length-drop (at + n) new)) (omega arith)
          ∙ sym (get_or-drop (at + n) old i 0));
      no_shorter = shorter;
      no_longer = longer;
    }

pub image_to_file : (h : List Step) (c : Files) (f : ℕ) → IsImage h c → IsFileImage f h (c f)
image_to_file [] c f image = ap (λ (g : Files). g f) image
image_to_file (Wrote file at bytes ∷ h) c f image = (
  image.0 f,
  image_to_file h image.0 f image.1,
  (λ same. subst (λ (g : ℕ). TornFile at (length bytes) (image.0 g) (c g)) (sym same) image.2.torn),
  image.2.others f,
)
image_to_file (Synced file ∷ h) c f image =
    (image_to_file h c f image.0, λ same. subst (λ (g : ℕ). c g ≡ reads_of h g) (sym same) image.1)
image_to_file (Removed file ∷ h) c f image = (
  image.0 f,
  image_to_file h image.0 f image.1,
  (λ same. subst (λ (g : ℕ). (c g ≡ image.0 g) ⊎ (c g ≡ None)) (sym same) image.2.gone),
  image.2.others f,
)
