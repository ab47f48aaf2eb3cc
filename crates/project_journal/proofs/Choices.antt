-- The choice of a file, by the front of each.
use Rattle.project_journal.proofs.Common.{◌≡◌, inl, inr, ℕ, zero, suc, ◌^◌, ◌≤◌, min, Option, Some, None, Result, Ok}
use Rattle.project_journal.proofs.Common.{Err, List, [], ◌∷◌, ◌++◌, length, take, drop, refl, sym, ◌∙◌, ap, subst}
use Rattle.project_journal.proofs.Common.{arith, Bool, true, false, eq-eqb, get_or-take, length-take, take_at, take_min}
use Rattle.project_journal.proofs.Common.{◌==◌, Files, bytes_of, Absent, DiskFault}
use Rattle.project_journal.proofs.Common.{FailsIn, IsOlder, IsPicked, newer_test, other_file, IsProject, first_failed}
use Rattle.project_journal.proofs.Common.{Chooses, Opens, StartsIn, two_files, Reader, differ}
use Rattle.std.proofs.Common.{if◌then◌else◌}
use Rattle.project_journal.specs.declared.fault.JournalFault.TheVariants.{Damaged}
use Rattle.project_journal.specs.Choice.{choice_tests, generation_at}
use Rattle.project_journal.specs.Opening.{ChoosesSome, OpensSome, StartsSome}
use Rattle.project_journal.specs.{declared.fault.Damaged.Damaged as Fault, declared.fault.JournalFault.JournalFault}
use Rattle.project_journal.proofs.Parses.{field_take}

-- what is read at the front of a file
pub front_read : (bytes buf : List ℕ) (n : ℕ) → n ≡ min 33 (length bytes) → take n (take n bytes ++ drop n buf) ≡ take 33 bytes
front_read bytes buf n is =
    take_at (take n bytes) (drop n buf) n (length-take n bytes ∙ omega (arith, is))
    ∙ ap (λ (k : ℕ). take k bytes) is ∙ take_min 33 bytes

pub take_project : (n : ℕ) (bytes : List ℕ) → IsProject (take n bytes) → IsProject bytes
take_project n bytes p =
    let long : 33 ≤ min n (length bytes) = omega (arith, p.0, length-take n bytes) in
    (omega (arith, long), λ shut. p.1 (get_or-take n bytes 0 0 (omega (arith, long)) ∙ shut))

pub project_take : (n : ℕ) (bytes : List ℕ) → 33 ≤ n → IsProject bytes → IsProject (take n bytes)
project_take n bytes fits p = (
  omega (arith, p.0, fits, length-take n bytes),
  λ shut. p.1 (sym (get_or-take n bytes 0 0 (omega (arith, fits))) ∙ shut),
)

generation_front : (bytes : List ℕ) → generation_at (take 33 bytes) ≡ generation_at bytes
unfolding generation_at
generation_front bytes = rw (field_take 5 4 33 bytes (omega arith), field_take 21 8 33 bytes (omega arith)) refl

choice_front : (bytes : List ℕ) → choice_tests (take 33 bytes) ≡ choice_tests bytes
unfolding choice_tests
choice_front bytes = rw (
  field_take 1 4 33 bytes (omega arith),
  field_take 5 4 33 bytes (omega arith),
  generation_front bytes,
) refl

newer_front : (a b : List ℕ) → newer_test (take 33 a) (take 33 b) ≡ newer_test a b
newer_front a b = rw (generation_front a, generation_front b) refl

-- files that have the fronts of others
abbrev AreFronts : Files → Files → Type 0
AreFronts c d = (n : ℕ) → n ≤ 1 → bytes_of (c n) ≡ take 33 (bytes_of (d n))

older_front : (g : ℕ) (bytes : List ℕ) → IsOlder g (take 33 bytes) → IsOlder g bytes
older_front g bytes is = record {
  valid = ap first_failed (sym (choice_front bytes)) ∙ is.valid;
  lower = omega (arith, is.lower, generation_front bytes);
}

pub picked_front : (file : ℕ) (c d : Files) → AreFronts c d → IsPicked file c → IsPicked file d
picked_front file c d fronts is =
    let mine = fronts file is.few in
    let other = fronts (other_file file) (omega arith) in
    let there : IsProject (bytes_of (d (other_file file))) → IsProject (bytes_of (c (other_file file))) =
    λ p. subst IsProject (sym other) (project_take 33 (bytes_of (d (other_file file))) (omega arith) p) in
    record {
      few = is.few;
      project = take_project 33 (bytes_of (d file)) (subst IsProject mine is.project);
      valid = λ p. ap first_failed (sym (choice_front (bytes_of (d file))))
          ∙ ap (λ (b : List ℕ). first_failed (choice_tests b)) (sym mine) ∙ is.valid (there p);
      newest = λ p. older_front (generation_at (bytes_of (d file))) (bytes_of (d (other_file file)))
          (rw (mine, generation_front (bytes_of (d file)), other) at (is.newest (there p)));
    }

fails_front : (a b : List ℕ) (file : ℕ) (fault : Fault) → FailsIn (take 33 a) (take 33 b) file fault
    → FailsIn a b file fault
fails_front a b file fault (inl here) = inl (here.0, ap first_failed (sym (choice_front a)) ∙ here.1)
fails_front a b file fault (inr there) = inr (
  there.0,
  ap first_failed (sym (choice_front a)) ∙ there.1,
  ap (λ (t : Fault). first_failed (choice_tests b ++ t ∷ [])) (sym (newer_front a b))
      ∙ ap (λ (ts : List Fault). first_failed (ts ++ newer_test (take 33 a) (take 33 b) ∷ [])) (sym (choice_front b))
      ∙ there.2,
)

pub chooses_front : (c d : Files) (r : Result (Option ℕ) JournalFault) → AreFronts c d → Chooses c r → Chooses d r
chooses_front c d (Ok None) fronts is = (
  λ p. is.0 (subst IsProject (sym (fronts 0 (omega arith))) (project_take 33 (bytes_of (d 0)) (omega arith) p)),
  λ p. is.1 (subst IsProject (sym (fronts 1 (omega arith))) (project_take 33 (bytes_of (d 1)) (omega arith) p)),
)
chooses_front c d (Ok (Some file)) fronts is = picked_front file c d fronts is
chooses_front c d (Err (Damaged file at want have)) fronts is = record {
  first = take_project 33 (bytes_of (d 0)) (subst IsProject (fronts 0 (omega arith)) is.first);
  second = take_project 33 (bytes_of (d 1)) (subst IsProject (fronts 1 (omega arith)) is.second);
  fails = fails_front (bytes_of (d 0)) (bytes_of (d 1)) file (record { at = at; want = want; have = have })
      (rw (fronts 0 (omega arith), fronts 1 (omega arith)) at is.fails);
}
chooses_front c d (Err _) fronts is = is

-- the fronts of files 0 and 1
pub two_fronts : (a b : List ℕ) (d : Files) → a ≡ take 33 (bytes_of (d 0)) → b ≡ take 33 (bytes_of (d 1))
    → AreFronts (two_files a b) d
two_fronts a b d first second zero few = first
two_fronts a b d first second (suc zero) few = second
two_fronts a b d first second (suc (suc n)) few = absurd (omega (arith, few))

pub two_few : (a b : List ℕ) → length a ≤ 2 ^ 62 → length b ≤ 2 ^ 62 → (file : ℕ)
    → length (bytes_of (two_files a b file)) ≤ 2 ^ 62
two_few a b first second zero = first
two_few a b first second (suc zero) = second
two_few a b first second (suc (suc n)) = omega arith

-- a reader of the chosen file
pub opens_from : (file : ℕ) (files : Files) (r : Result Reader JournalFault) → IsPicked file files
    → StartsIn file (bytes_of (files file)) r → Opens files r
opens_from file files (Ok r) picked s =
    record { picked = rw s.same picked; version = rw s.same s.version; valid = rw (s.version, s.same) s.valid }
opens_from file files (Err Absent) picked s = absurd (s picked.project)
opens_from file files (Err (Damaged told at want have)) picked s =
    inr (record { picked = rw s.same picked; fails = rw s.same s.fails })
opens_from file files (Err _) picked s = s

abbrev no_files : Files
no_files = λ n. None

-- a file alone
abbrev one_file : ℕ → List ℕ → Files
one_file file bytes = λ n. if n == file then Some bytes else None

alone_here : (file : ℕ) (bytes : List ℕ) → bytes_of (one_file file bytes file) ≡ bytes
alone_here file bytes = rw (eq-eqb file file refl) refl

alone_other : (file : ℕ) (bytes : List ℕ) → file ≤ 1 → bytes_of (one_file file bytes (other_file file)) ≡ []
alone_other file bytes few = rw (differ (other_file file) file (λ e. omega (arith, e, few))) refl

alone_few : (file : ℕ) (bytes : List ℕ) → length bytes ≤ 2 ^ 62 → (n : ℕ)
    → length (bytes_of (one_file file bytes n)) ≤ 2 ^ 62
alone_few file bytes few n = by_file (n == file)
  where
    by_file : (b : Bool) → length (bytes_of (if b then Some bytes else None)) ≤ 2 ^ 62
    by_file true = few
    by_file false = omega arith

picked_alone : (file : ℕ) (bytes : List ℕ) → file ≤ 1 → IsProject bytes → IsPicked file (one_file file bytes)
picked_alone file bytes few project =
    let none : IsProject (bytes_of (one_file file bytes (other_file file))) → ⊥ =
    λ p. omega (arith, (subst IsProject (alone_other file bytes few) p).0) in
    record {
      few = few;
      project = subst IsProject (sym (alone_here file bytes)) project;
      valid = λ p. absurd (none p);
      newest = λ p. absurd (none p);
    }

opens_alone : (file : ℕ) (r : Result Reader JournalFault) → file ≤ 1 → (s : StartsSome file r) → IsProject s.bytes
    → OpensSome r
opens_alone file r few s project = record {
  files = one_file file s.bytes;
  few = alone_few file s.bytes s.few;
  opens = opens_from file (one_file file s.bytes) r (picked_alone file s.bytes few project)
      (subst (λ (b : List ℕ). StartsIn file b r) (sym (alone_here file s.bytes)) s.starts);
}

pub opens_some : (file : ℕ) (r : Result Reader JournalFault) → file ≤ 1 → StartsSome file r → OpensSome r
opens_some file (Ok r) few s = opens_alone file (Ok r) few s s.starts.project
opens_some file (Err (Damaged told at want have)) few s =
    opens_alone file (Err (Damaged told at want have)) few s s.starts.project
opens_some file (Err Absent) few s = record {
  files = no_files;
  few = λ n. omega arith;
  opens = (λ p. omega (arith, p.0), λ p. omega (arith, p.0));
}
opens_some file (Err _) few s = record { files = no_files; few = λ n. omega arith; opens = s.starts }

-- a fault of the disk comes of any files
pub chooses_fault : ChoosesSome (Err DiskFault)
chooses_fault = record { files = no_files; few = λ n. omega arith; chooses = tt }

pub opens_fault : OpensSome (Err DiskFault)
opens_fault = record { files = no_files; few = λ n. omega arith; opens = tt }
