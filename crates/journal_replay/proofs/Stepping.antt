-- One record more.
use Rattle.journal_replay.proofs.Common.{◌≡◌, ℕ, ◌+◌, List, [], ◌∷◌, ◌++◌, map, Some, None, refl, sym, ap, subst, ◌∙◌}
use Rattle.journal_replay.proofs.Common.{append_assoc, append-nil, option_or, Ghosts, Damaged, first_failed, Reader}
use Rattle.journal_replay.proofs.Common.{body_at, IsReading, Edit, Undo, Redo, Purge, Saved, after_body, IsNextIn}
use Rattle.journal_replay.proofs.Common.{LeadIn, Body, first_fault_in, IsValid}
use Rattle.record_body.specs.{SavedValid.IsValidSaved}
use Rattle.record_body.proofs.SavedBounds.{next_saved}
use Rattle.journal_replay.specs.{Faults.record_tests, Faults.says}

-- where the first record has no fault, the others decide
pub fault_behind : (version m : ℕ) (k : Saved) (r : ℕ × List ℕ) (rs : List (ℕ × List ℕ))
    → first_failed (record_tests version m k r) ≡ None
    → first_fault_in version m k (r ∷ rs) ≡ first_fault_in version m (after_body k (says version k r.1)) rs
fault_behind version m k r rs none =
    ap (λ o. option_or o (first_fault_in version m (after_body k (says version k r.1)) rs)) none

pub fault_here : (version m : ℕ) (k : Saved) (r : ℕ × List ℕ) (rs : List (ℕ × List ℕ)) (d : Damaged)
    → first_failed (record_tests version m k r) ≡ Some d → first_fault_in version m k (r ∷ rs) ≡ Some d
fault_here version m k r rs d some =
    ap (λ o. option_or o (first_fault_in version m (after_body k (says version k r.1)) rs)) some

-- How far a fold of records has come: those that are left decide, and where they lead, all lead.
pub record Folded (version m : ℕ) (first : Saved) (all : List (ℕ × List ℕ)) (now : Saved)
    (left : List (ℕ × List ℕ)) : Type 0 where
  pub fault : first_fault_in version m now left ≡ first_fault_in version m first all
  pub leads : (end : Saved) → LeadIn version m now (map body_at left) end → LeadIn version m first (map body_at all) end

-- a record that has no fault, and what it makes of a project
pub record IsStep (version m : ℕ) (now : Saved) (r : ℕ × List ℕ) (next : Saved) : Type 0 where
  pub none : first_failed (record_tests version m now r) ≡ None
  pub one : IsNextIn version m now r.1 (says version now r.1)
  pub is : next ≡ after_body now (says version now r.1)

pub folded_none : (version m : ℕ) (first now : Saved) (all : List (ℕ × List ℕ)) → now ≡ first
    → Folded version m first all now all
folded_none version m first now all e = record {
  fault = ap (λ k. first_fault_in version m k all) e;
  leads = λ end lead. subst (λ (k : Saved). LeadIn version m k (map body_at all) end) e lead;
}

pub folded_more : (version m : ℕ) (first now next : Saved) (all left more : List (ℕ × List ℕ)) (r : ℕ × List ℕ)
    → left ≡ r ∷ more → Folded version m first all now left → IsStep version m now r next
    → Folded version m first all next more
folded_more version m first now next all left more r is folded step = record {
  fault = ap (λ k. first_fault_in version m k more) step.is ∙ sym (fault_behind version m now r more step.none)
      ∙ ap (first_fault_in version m now) (sym is) ∙ folded.fault;
  leads = λ end lead. folded.leads end
      (subst (λ (rs : List (ℕ × List ℕ)). LeadIn version m now (map body_at rs) end) (sym is) (
        says version now r.1,
        step.one,
        subst (λ (k : Saved). LeadIn version m k (map body_at more) end) step.is lead,
      ));
}

-- Records that were folded, whatever follows them.
pub record Came (version m : ℕ) (first : Saved) (records : List (ℕ × List ℕ)) (now : Saved) : Type 0 where
  pub folded : (more : List (ℕ × List ℕ)) → Folded version m first (records ++ more) now more

pub came_none : (version m : ℕ) (first now : Saved) → now ≡ first → Came version m first [] now
came_none version m first now e = record { folded = λ more. folded_none version m first now more e }

pub came_more : (version m : ℕ) (first now next : Saved) (records : List (ℕ × List ℕ)) (r : ℕ × List ℕ)
    → Came version m first records now → IsStep version m now r next → Came version m first (records ++ r ∷ []) next
came_more version m first now next records r came step = record {
  folded = λ more. subst (λ (all : List (ℕ × List ℕ)). Folded version m first all next more)
      (sym (append_assoc records (r ∷ []) more))
      (folded_more version m first now next (records ++ r ∷ more) (r ∷ more) more r refl (came.folded (r ∷ more))
      step);
}

-- none of them has a fault, and they lead here
pub came_all : (version m : ℕ) (first now : Saved) (records : List (ℕ × List ℕ)) → Came version m first records now
    → (first_fault_in version m first records ≡ None) × LeadIn version m first (map body_at records) now
came_all version m first now records came =
    let folded = came.folded [] in
    subst (λ (all : List (ℕ × List ℕ)). (first_fault_in version m first all ≡ None)
    × LeadIn version m first (map body_at all) now)
    (append-nil records) (sym folded.fault, folded.leads now refl)

-- the next has the first fault
pub came_fault : (version m : ℕ) (first now : Saved) (records more : List (ℕ × List ℕ)) (r : ℕ × List ℕ) (d : Damaged)
    → Came version m first records now → first_failed (record_tests version m now r) ≡ Some d
    → first_fault_in version m first ((records ++ r ∷ []) ++ more) ≡ Some d
came_fault version m first now records more r d came some =
    ap (first_fault_in version m first) (append_assoc records (r ∷ []) more) ∙ sym (came.folded (r ∷ more)).fault
    ∙ fault_here version m now r more d some

pub after_commit : (k : Saved) (body : Body) → (after_body k body).commit ≡ k.commit + 1
after_commit k (Edit tag next_block next_track point) = refl
after_commit k Undo = refl
after_commit k Redo = refl
after_commit k (Purge n) = refl

-- after these records it is as records may leave it
pub valid_by : (m depth count : ℕ) (k : Saved) → IsValidSaved m depth count k → IsValid m k
valid_by m depth count k s = record {
  points = s.points;
  depth_is = refl;
  commit_is = refl;
  block_least = s.block_least;
  block_most = s.block_most;
  track_least = s.track_least;
  track_most = s.track_most;
}

-- what a valid project becomes is valid
pub valid_next : (version m : ℕ) (now next : Saved) (r : ℕ × List ℕ) → IsStep version m now r next → IsValid m now
    → IsValid m next
valid_next version m now next r step valid =
    subst (IsValid m) (sym step.is)
    (valid_by m now.history.depth (now.commit + 1) (after_body now (says version now r.1))
    (next_saved version m now.history.depth now.commit now r.1 (says version now r.1) step.one valid))

-- The records that a reader has read were folded, from the project that the header brings.
pub record SoFar {D : Type 0} (disk : Ghosts D) (store : D) (reader : Reader) (version m : ℕ) (points : List (List ℕ))
    (first now : Saved) : Type 0 where
  pub records : List (ℕ × List ℕ)
  pub reading : IsReading disk store reader points records
  pub came : Came version m first records now
  pub valid : IsValid m now
