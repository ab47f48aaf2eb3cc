-- Building a disk file by file.
use Rattle.memory_disk.proofs.Common.{◌≡◌, ◌⊎◌, inl, inr, ⊎_elim, ℕ, ◌+◌, ◌<◌, Option, Some, List, [], ◌∷◌, get_or}
use Rattle.memory_disk.proofs.Common.{refl, sym, ◌∙◌, ap, subst, arith, cases_eq, Files, bytes_of, written, Step, Wrote}
use Rattle.memory_disk.proofs.Common.{Synced, Removed, reads_of, reads_written, reads_elsewhere, reads_removed}
use Rattle.memory_disk.proofs.Common.{elsewhere_removed, AllHeld, history_of, Call, IsBuilt, SetsFile}
use Rattle.disk_model.specs.Disk.{SameElsewhere}
use Rattle.disk_model.proofs.Writes.{written_new}

-- files that agree at one and elsewhere
same_files : (file : ℕ) (c d : Files) → c file ≡ d file → SameElsewhere file d c → c ≡ d
same_files file c d here there = λ i f. point f i
  where
    point : (f : ℕ) → c f ≡ d f
    point f = ⊎_elim (λ e. subst (λ (g : ℕ). c g ≡ d g) (sym e) here) (λ ne. there f ne) (cases_eq f file)

pub sets_some : (file : ℕ) (v : List ℕ) (h : List Step)
    → SetsFile file (Some v) h (Synced file ∷ Wrote file 0 v ∷ Removed file ∷ h)
sets_some file v h =
    let gone = reads_removed file h in
    let wrote = reads_written file 0 v (Removed file ∷ h) in
    record {
      there = wrote
          ∙ ap (λ (l : List ℕ). Some l) (ap (λ (o : Option (List ℕ)). written (bytes_of o) 0 v) gone ∙ written_new v);
      others = λ o ne. reads_elsewhere file 0 v (Removed file ∷ h) o ne ∙ elsewhere_removed file h o ne;
      settled = λ only c image.
          let one = image.0 in
          let two = one.1 in
          same_files file c (reads_of (Wrote file 0 v ∷ Removed file ∷ h)) image.1 (λ o ne.
          one.2.others o ne ∙ two.2.others o ne ∙ ap (λ (f : Files). f o) (only two.0 two.1)
          ∙ sym (reads_elsewhere file 0 v (Removed file ∷ h) o ne ∙ elsewhere_removed file h o ne));
    }

built_none : (numbers : List ℕ) (disk : Files) → IsBuilt numbers 0 disk []
built_none numbers disk = record {
  there = λ k lt. absurd (omega arith);
  absent = λ f _. refl;
  settled = λ c image. image;
}

pub built_start : (numbers : List ℕ) (disk : Files) (row : List ℕ) (calls : List Call) → calls ≡ []
    → IsBuilt numbers 0 disk (history_of row calls)
built_start numbers disk row calls none =
    subst (λ (l : List Call). IsBuilt numbers 0 disk (history_of row l)) (sym none) (built_none numbers disk)

pub held_start : (n : ℕ) (calls : List Call) → calls ≡ [] → AllHeld n calls
held_start n calls none = subst (λ (l : List Call). AllHeld n l) (sym none) tt

pub built_next : (numbers : List ℕ) (i : ℕ) (disk : Files) (old new : List Step) (x : Option (List ℕ))
    → IsBuilt numbers i disk old → x ≡ disk (get_or numbers i 0) → SetsFile (get_or numbers i 0) x old new
    → IsBuilt numbers (i + 1) disk new
built_next numbers i disk old new x was is sets =
    let file = get_or numbers i 0 in
    record {
      there = λ k lt. ⊎_elim
          (λ e. subst (λ (g : ℕ). reads_of new g ≡ disk g) (sym e) (sets.there ∙ is))
          (λ ne. sets.others (get_or numbers k 0) ne
          ∙ ⊎_elim (λ less. was.there k less) (λ e. absurd (ne (ap (λ (j : ℕ). get_or numbers j 0) e))) (below k lt))
          (cases_eq (get_or numbers k 0) file);
      absent =
          λ f apart. sets.others f (λ e. apart i (omega arith) (sym e)) ∙ was.absent f (λ k lt. apart k (omega arith));
      settled = sets.settled was.settled;
    }
  where
    below : (k : ℕ) → k < i + 1 → (k < i) ⊎ (k ≡ i)
    below k lt = ⊎_elim (λ e. inr e) (λ ne. inl (omega arith)) (cases_eq k i)

-- the same of histories that are known by equations
pub sets_written : (file : ℕ) (v : List ℕ) (was removed wrote now : List Step) → removed ≡ Removed file ∷ was
    → wrote ≡ Wrote file 0 v ∷ removed → now ≡ Synced file ∷ wrote → SetsFile file (Some v) was now
sets_written file v was removed wrote now one two three = rw (three, two, one) (sets_some file v was)
