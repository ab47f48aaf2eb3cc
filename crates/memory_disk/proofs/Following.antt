-- One call more.
use Rattle.memory_disk.proofs.Common.{◌≡◌, ◌⊎◌, inl, inr, ⊎_elim, ℕ, Option, Some, None, List, ◌∷◌, length, refl, sym}
use Rattle.memory_disk.proofs.Common.{subst, arith, Files, Torn, TornFile, Step, Wrote, Synced, Removed, IsImage}
use Rattle.memory_disk.proofs.Common.{image_since}
use Rattle.disk_model.specs.Moment.{Moment, At, Both, IsUpTo}
use Rattle.disk_model.specs.Disk.{WriteStep, RemoveStep, StaysStep, Follows}
use Rattle.disk_model.proofs.Moments.{wider}
use Rattle.memory_disk.specs.History.{SinceMoment}
use Rattle.memory_disk.specs.Histories.{fewer_moment}

kept_moment : (s : Step) (h : List Step) (t : Moment) (c : Files) → IsUpTo t (At (length h)) → SinceMoment h t c
    → SinceMoment (s ∷ h) t c
kept_moment s h (At t) c le past = inr (le, past)
kept_moment s h (Both i a b) c le past = absurd past

added_moment : (s : Step) (h : List Step) (t : Moment) (c : Files) → SinceMoment (s ∷ h) t c
    → SinceMoment h t c ⊎ SinceMoment (s ∷ h) (At (length h)) c
added_moment s h (At t) c (inl image) = inr (inl image)
added_moment s h (At t) c (inr past) = inl past.1
added_moment s h (Both i a b) c since = absurd since

-- no call
pub follows_none : (h : List Step) → Follows StaysStep (At (length h)) (At (length h)) (SinceMoment h) (SinceMoment h)
follows_none h = record {
  later = omega arith;
  fewer = λ t u c le _. fewer_moment h t u c le;
  kept = λ t c _ past. past;
  added = λ t c _ past. inl past;
  from = λ c past. (c, past, refl);
}

-- one call more, whose images come by a step that may also do nothing
pub follows_step : (step : Files → Files → Type 0) (s : Step) (h : List Step) → ((c : Files) → step c c)
    → ((c : Files) → IsImage (s ∷ h) c → (d : Files) × IsImage h d × step d c)
    → Follows step (At (length h)) (At (length (s ∷ h))) (SinceMoment h) (SinceMoment (s ∷ h))
follows_step step s h none comes = record {
  later = omega arith;
  fewer = λ t u c le _. fewer_moment (s ∷ h) t u c le;
  kept = kept_moment s h;
  added = λ t c le. added_moment s h t c;
  from = λ c. ⊎_elim
      (λ image. let d = comes c image in (d.0, image_since h (length h) d.0 d.1, d.2))
      (λ past. (c, past.1, none c));
}

-- what a write leaves where it does nothing
torn_none : (at n : ℕ) (f : List ℕ) → Torn at n f f
torn_none at n f = record { before = refl; after = refl; no_shorter = omega arith; no_longer = omega arith }

pub torn_file_none : (at n : ℕ) (f : Option (List ℕ)) → TornFile at n f f
torn_file_none at n None = tt
torn_file_none at n (Some f) = torn_none at n f

write_none : (file at n : ℕ) (c : Files) → WriteStep file at n c c
write_none file at n c = record { torn = torn_file_none at n (c file); others = λ _ _. refl }

remove_none : (file : ℕ) (c : Files) → RemoveStep file c c
remove_none file c = record { gone = inl refl; others = λ _ _. refl }

-- The same for a history that is known by an equation.
pub follows_same : (h k : List Step) → k ≡ h
    → Follows StaysStep (At (length h)) (At (length k)) (SinceMoment h) (SinceMoment k)
follows_same h k is = rw is (follows_none h)

same_step : (step : Files → Files → Type 0) (h k : List Step) → ((c : Files) → step c c) → k ≡ h
    → Follows step (At (length h)) (At (length k)) (SinceMoment h) (SinceMoment k)
same_step step h k none is = wider (λ d c stays. subst (step d) (sym stays) (none d)) (follows_same h k is)

more_step : (step : Files → Files → Type 0) (s : Step) (h k : List Step) → ((c : Files) → step c c)
    → ((c : Files) → IsImage (s ∷ h) c → (d : Files) × IsImage h d × step d c) → k ≡ s ∷ h
    → Follows step (At (length h)) (At (length k)) (SinceMoment h) (SinceMoment k)
more_step step s h k none comes is = rw is (follows_step step s h none comes)

pub write_same : (file at n : ℕ) (h k : List Step) → k ≡ h
    → Follows (WriteStep file at n) (At (length h)) (At (length k)) (SinceMoment h) (SinceMoment k)
write_same file at n h k = same_step (WriteStep file at n) h k (write_none file at n)

pub write_more : (file at : ℕ) (bytes : List ℕ) (h k : List Step) → k ≡ Wrote file at bytes ∷ h
    → Follows (WriteStep file at (length bytes)) (At (length h)) (At (length k)) (SinceMoment h) (SinceMoment k)
write_more file at bytes h k =
    more_step (WriteStep file at (length bytes)) (Wrote file at bytes) h k (write_none file at (length bytes))
    (λ c image. image)

pub remove_same : (file : ℕ) (h k : List Step) → k ≡ h
    → Follows (RemoveStep file) (At (length h)) (At (length k)) (SinceMoment h) (SinceMoment k)
remove_same file h k = same_step (RemoveStep file) h k (remove_none file)

pub remove_more : (file : ℕ) (h k : List Step) → k ≡ Removed file ∷ h
    → Follows (RemoveStep file) (At (length h)) (At (length k)) (SinceMoment h) (SinceMoment k)
remove_more file h k = more_step (RemoveStep file) (Removed file) h k (remove_none file) (λ c image. image)

pub sync_more : (file : ℕ) (h k : List Step) → k ≡ Synced file ∷ h
    → Follows StaysStep (At (length h)) (At (length k)) (SinceMoment h) (SinceMoment k)
sync_more file h k = more_step StaysStep (Synced file) h k (λ c. refl) (λ c image. (c, image.0, refl))
