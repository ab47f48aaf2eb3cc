-- What a store reads is among its images, and what may be left since a moment may be left since an earlier one.
use Rattle.std.proofs.Common.{◌≡◌, inl, inr, ℕ, zero, suc, ◌+◌, ◌-◌, ◌≤◌, min, max, eqb, true, Option, Some, None, List}
use Rattle.std.proofs.Common.{[], ◌∷◌, ◌++◌, length, take, drop, replicate, refl, sym, ◌∙◌, ap, subst, arith}
use Rattle.std.proofs.Common.{append_assoc, length-append, length-drop}
use Rattle.std.proofs.lemmas.List.{drop_at, take-append-le, length-take-le, length-replicate}
use Rattle.std.proofs.{lemmas.Bool.eq-eqb, lemmas.Bool.cond-true, lemmas.Bool.Decides.nat_tests}
use Rattle.disk_model.specs.Moment.{Moment, At, Both, IsUpTo}
use Rattle.disk_model.specs.Disk.{Files, bytes_of, written, Torn, TornFile, SameElsewhere}
use Rattle.memory_disk.specs.History.{Step, Wrote, Synced, Removed, IsImage, SinceImage, SinceMoment, reads_of}

-- this moment is one of those since an earlier one
pub image_since : (h : List Step) (t : ℕ) (c : Files) → IsImage h c → SinceImage h t c
image_since [] t c image = image
image_since (s ∷ h) t c image = inl image

pub since_fewer : (h : List Step) (t u : ℕ) (c : Files) → t ≤ u → SinceImage h u c → SinceImage h t c
since_fewer [] t u c le image = image
since_fewer (s ∷ h) t u c le (inl image) = inl image
since_fewer (s ∷ h) t u c le (inr past) = inr (omega (arith, past.0), since_fewer h t u c le past.1)

pub fewer_moment : (h : List Step) (t u : Moment) (c : Files) → IsUpTo t u → SinceMoment h u c → SinceMoment h t c
fewer_moment h (At t) (At u) c le since = since_fewer h t u c le since
fewer_moment h (At t) (Both i a b) c le since = absurd le
fewer_moment h (Both i a b) (At u) c le since = absurd le
fewer_moment h (Both i a b) (Both j d e) c le since = absurd since

-- What is read is one of the images.
take_take : (m n : ℕ) (l : List ℕ) → m ≤ n → take m (take n l) ≡ take m l
take_take zero n l le = refl
take_take (suc m) zero l le = absurd (omega arith)
take_take (suc m) (suc n) [] le = refl
take_take (suc m) (suc n) (x ∷ l) le = ap (λ (t : List ℕ). x ∷ t) (take_take m n l (omega arith))

-- the part of a write that stands before its range
pub length-padded : (old : List ℕ) (at : ℕ) → length (take at (old ++ replicate (at - length old) 0)) ≡ at
length-padded old at = length-take-le at (old ++ replicate (at - length old) 0)
    (omega (arith, length-append old (replicate (at - length old) 0), length-replicate {A = ℕ} (at - length old) 0))

pub length-written : (old : List ℕ) (at : ℕ) (bytes : List ℕ)
    → length (written old at bytes) ≡ max (length old) (at + length bytes)
length-written old at bytes =
    let front = take at (old ++ replicate (at - length old) 0) in
    omega (
      arith,
      length-append (front ++ bytes) (drop (at + length bytes) old),
      length-append front bytes,
      length-padded old at,
      length-drop (at + length bytes) old,
    )

pub written_torn : (old : List ℕ) (at : ℕ) (bytes : List ℕ) → Torn at (length bytes) old (written old at bytes)
written_torn old at bytes =
    let front = take at (old ++ replicate (at - length old) 0) in
    let m = min at (length old) in
    let behind = drop (at + length bytes) old in
    let size = length-written old at bytes in
    record {
      before = ap (λ (l : List ℕ). take m l) (append_assoc front bytes behind)
          ∙ take-append-le m front (bytes ++ behind) (omega (arith, length-padded old at))
          ∙ take_take m at (old ++ replicate (at - length old) 0) (omega arith)
          ∙ take-append-le m old (replicate (at - length old) 0) (omega arith);
      after = drop_at (front ++ bytes) behind (at + length bytes)
          (omega (arith, length-append front bytes, length-padded old at));
      no_shorter = omega (arith, size);
      no_longer = omega (arith, size);
    }

pub same_eq : (f : ℕ) → eqb f f ≡ true
same_eq f = eq-eqb f f refl

written_torn_file : (old : Option (List ℕ)) (at : ℕ) (bytes : List ℕ)
    → TornFile at (length bytes) old (Some (written (bytes_of old) at bytes))
written_torn_file None at bytes = written_torn [] at bytes
written_torn_file (Some old) at bytes = written_torn old at bytes

pub reads_written : (file at : ℕ) (bytes : List ℕ) (h : List Step)
    → reads_of (Wrote file at bytes ∷ h) file ≡ Some (written (bytes_of (reads_of h file)) at bytes)
reads_written file at bytes h =
    cond-true (eqb file file) (Some (written (bytes_of (reads_of h file)) at bytes)) (reads_of h file) (same_eq file)

pub reads_elsewhere : (file at : ℕ) (bytes : List ℕ) (h : List Step)
    → SameElsewhere file (reads_of h) (reads_of (Wrote file at bytes ∷ h))
reads_elsewhere file at bytes h = λ other ne. grind (arith, nat_tests, ne)

pub reads_removed : (file : ℕ) (h : List Step) → reads_of (Removed file ∷ h) file ≡ None
reads_removed file h = cond-true (eqb file file) None (reads_of h file) (same_eq file)

pub elsewhere_removed : (file : ℕ) (h : List Step) → SameElsewhere file (reads_of h) (reads_of (Removed file ∷ h))
elsewhere_removed file h = λ other ne. grind (arith, nat_tests, ne)

pub reads_is_image : (h : List Step) → IsImage h (reads_of h)
reads_is_image [] = refl
reads_is_image (Wrote file at bytes ∷ h) = (
  reads_of h,
  reads_is_image h,
  record {
    torn = subst (λ (f : Option (List ℕ)). TornFile at (length bytes) (reads_of h file) f)
        (sym (reads_written file at bytes h)) (written_torn_file (reads_of h file) at bytes);
    others = reads_elsewhere file at bytes h;
  },
)
reads_is_image (Synced file ∷ h) = (reads_is_image h, refl)
reads_is_image (Removed file ∷ h) =
    (reads_of h, reads_is_image h, record { gone = inr (reads_removed file h); others = elsewhere_removed file h })
