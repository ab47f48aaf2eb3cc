-- A project is made, and an honest disk stays honest.
use Rattle.editor_recovery.proofs.Common.{◌≡◌, ◌≢◌, ℕ, zero, suc, ◌≤◌, true, false, inl, inr, ⊎_elim, ◌⊎◌}
use Rattle.editor_recovery.proofs.Common.{Result, Ok, Err, refl, arith, IsTrue}
use Rattle.editor_recovery.proofs.Common.{OnOk, Files, Follows, StaysStep, upto_refl, Kept, Ghosts, kept_turn, HasLog}
use Rattle.editor_recovery.proofs.Common.{IsAt, EachNow, NoProject, each_has, Keeps, HasNoForeign}
use Rattle.editor_recovery.proofs.Common.{OpenFault, is_foreign, Names, IsHonest, HasNone, Stands}
use Rattle.disk_model.specs.Disk.{SameElsewhere}
use Rattle.project_journal.specs.Journal.{fresh}
use Rattle.project_journal.specs.{Header.form_3}
use Rattle.record_body.proofs.NewProjects.{fresh_begins}
use Rattle.record_body.specs.Saved.{new_project}
use Rattle.editor_recovery.specs.Creating.{new_opened, Creates, LeavesRefused}
use Rattle.editor_recovery.proofs.{Alone.none_log, Honest.same_saved, Listed.contains_none}

-- the new journal is the new project
pub keeps_new : (rate block_size depth : ℕ) (c : Files) → HasLog (form_3 0) (fresh rate block_size depth) c
    → Keeps c (new_opened rate block_size depth)
keeps_new rate block_size depth c has = record {
  form = form_3 0;
  known = inr (inr refl);
  few = omega arith;
  keeps = record {
    log = fresh rate block_size depth;
    base = new_project depth;
    kept = new_project depth;
    there = has;
    begins = fresh_begins rate block_size depth;
    told = refl;
    whole = tt;
    is = refl;
  };
}

-- and stands in file 0
pub new_stands : (rate block_size depth : ℕ) (c : Files) → HasLog (form_3 0) (fresh rate block_size depth) c
    → Stands c (form_3 0) (fresh rate block_size depth) (new_project depth)
new_stands rate block_size depth c has = record {
  known = inr (inr refl);
  few = omega arith;
  there = has;
  base = new_project depth;
  begins = fresh_begins rate block_size depth;
  told = refl;
}

-- no point of it names a block
no_names : (rate block_size depth : ℕ) (c : Files) (id : ℕ) → HasLog (form_3 0) (fresh rate block_size depth) c
    → Names c id → ⊥
no_names rate block_size depth c id has names =
    let kept : names.kept ≡ new_project depth =
    same_saved c names.form (form_3 0) names.log (fresh rate block_size depth) names.kept (new_project depth)
    names.stands (new_stands rate block_size depth c has) in
    contains_none names.block (rw kept at names.named)

no_project_names : (c : Files) (id : ℕ) → HasNone c → Names c id → ⊥
no_project_names c id none names =
    none_log c names.form names.log names.stands.known names.stands.few names.stands.there none

pub not_journal : (file : ℕ) → IsTrue (is_foreign file) → 2 ≤ file
not_journal zero foreign = let no : false ≡ true = foreign in absurd cc
not_journal (suc zero) foreign = let no : false ≡ true = foreign in absurd cc
not_journal (suc (suc file)) foreign = omega arith

not_first : (file : ℕ) → 2 ≤ file → file ≢ 0
not_first file high = λ e. omega (arith, high, e)

-- at any moment no project is there, in either file, or the new one
pub either_none : (files : Files) {P New : Type 0} → P ⊎ (NoProject 0 files ⊎ New) → P ⊎ NoProject 1 files
    → P ⊎ (HasNone files ⊎ New)
either_none files (inl p) other = inl p
either_none files (inr (inr new)) other = inr (inr new)
either_none files (inr (inl none)) (inl p) = inl p
either_none files (inr (inl none)) (inr one) = inr (inl (none, one))

module _ {D : Type 0} (disk : Ghosts D) (old new : D) where
  -- each image now was one before, but for what the calls did
  now_before : {step : Files → Files → Type 0}
      → Follows step (disk.clock old) (disk.clock new) (disk.may_leave old) (disk.may_leave new)
      → (c : Files) → disk.may_leave new (disk.clock new) c → disk.may_leave new (disk.clock old) c
  now_before follows c now =
      follows.fewer (disk.clock old) (disk.clock new) c follows.later (upto_refl (disk.clock new)) now

  -- calls that write nothing
  pub still_honest : Follows StaysStep (disk.clock old) (disk.clock new) (disk.may_leave old) (disk.may_leave new)
      → disk.keeps_model new ≡ disk.keeps_model old → IsHonest disk old → IsHonest disk new
  still_honest follows model honest =
      let back : (c : Files) → disk.may_leave new (disk.clock new) c → disk.may_leave old (disk.clock old) c =
      λ c now. let d = follows.from c (now_before follows c now) in rw d.2 d.1 in
      record {
        model = rw model honest.model;
        foreign = λ c now. honest.foreign c (back c now);
        whole = λ c now. honest.whole c (back c now);
        same = λ c nc d nd. honest.same c (back c nc) d (back d nd);
      }

  -- a creation
  pub made_honest : (rate block_size depth : ℕ)
      → Follows (SameElsewhere 0) (disk.clock old) (disk.clock new) (disk.may_leave old) (disk.may_leave new)
      → disk.keeps_model new ≡ disk.keeps_model old
      → ((c : Files) → disk.may_leave new (disk.clock old) c → disk.may_leave old (disk.clock old) c
      ⊎ (HasNone c ⊎ HasLog (form_3 0) (fresh rate block_size depth) c))
      → IsHonest disk old → IsHonest disk new
  made_honest rate block_size depth follows model any honest =
      let since = now_before follows in
      let none : (c : Files) → (id : ℕ) → Names c id → HasNone c ⊎ HasLog (form_3 0) (fresh rate block_size depth) c
      → ⊥ =
      λ c id names. ⊎_elim (λ none. no_project_names c id none names)
      (λ has. no_names rate block_size depth c id has names) in
      record {
        model = rw model honest.model;
        foreign = λ c now file has foreign.
            let d = follows.from c (since c now) in
            honest.foreign d.0 d.1 file (rw (d.2 file (not_first file (not_journal file foreign))) at has) foreign;
        whole = λ c now. elim (any c (since c now)) [
          | inl early ↦ honest.whole c early
          | inr (inl none) ↦ inl none
          | inr (inr has) ↦ inr (new_opened rate block_size depth, keeps_new rate block_size depth c has)
        ];
        same = λ c nc d nd id p q. elim (any c (since c nc)) [
          | inl oc ↦ elim (any d (since d nd))
              [ inl od ↦ honest.same c oc d od id p q | inr other ↦ absurd (none d id q other) ]
          | inr other ↦ absurd (none c id p other)
        ];
      }

-- calls that write nothing, and then a creation
pub any_moment_both : {D : Type 0} (disk : Ghosts D) (rate block_size depth : ℕ) (old mid new : D)
    → Follows StaysStep (disk.clock old) (disk.clock mid) (disk.may_leave old) (disk.may_leave mid)
    → Follows (SameElsewhere 0) (disk.clock mid) (disk.clock new) (disk.may_leave mid) (disk.may_leave new)
    → ((c : Files) → disk.may_leave new (disk.clock mid) c → disk.may_leave mid (disk.clock mid) c
    ⊎ (HasNone c ⊎ HasLog (form_3 0) (fresh rate block_size depth) c))
    → (c : Files) → disk.may_leave new (disk.clock old) c → disk.may_leave old (disk.clock old) c
    ⊎ (HasNone c ⊎ Keeps c (new_opened rate block_size depth))
any_moment_both disk rate block_size depth old mid new f g any c since =
    elim (g.added (disk.clock old) c f.later since) [
      | inl early ↦ inl (back early)
      | inr late ↦ elim (any c late) [
        | inl m ↦ inl (back (f.fewer (disk.clock old) (disk.clock mid) c f.later (upto_refl (disk.clock mid)) m))
        | inr (inl none) ↦ inr (inl none)
        | inr (inr has) ↦ inr (inr (keeps_new rate block_size depth c has))
      ]
    ]
  where
    back : disk.may_leave mid (disk.clock old) c → disk.may_leave old (disk.clock old) c
    back m = let d = f.from c m in rw d.2 d.1

-- after it each image keeps the new project
pub made_done : {D T : Type 0} (disk : Ghosts D) (rate block_size depth : ℕ) (new : D) (r : Result T OpenFault)
    → OnOk r (IsAt (form_3 0) disk new 80 (fresh rate block_size depth))
    → OnOk r (Keeps (disk.reads new) (new_opened rate block_size depth)
    × EachNow disk new (λ c. Keeps c (new_opened rate block_size depth)))
made_done disk rate block_size depth new (Err e) here = tt
made_done disk rate block_size depth new (Ok x) here = (
  keeps_new rate block_size depth (disk.reads new)
      (record { front = here.front; spelled = here.spelled; shut = here.read; newest = here.newest }),
  λ c now. keeps_new rate block_size depth c (each_has here c now),
)

-- a creation that is refused after calls that write nothing
pub left_turn : {D T : Type 0} (disk : Ghosts D) (old mid new : D) (r : Result T OpenFault) → Kept disk old mid
    → LeavesRefused disk mid new r → LeavesRefused disk old new r
left_turn disk old mid new (Ok x) kept left = tt
left_turn disk old mid new (Err OpenFault.DiskFault) kept left = tt
left_turn disk old mid new _ kept left = kept_turn kept left

pub none_there : {T : Type 0} (files : Files) (r : Result T OpenFault) → HasNone files → HasNoForeign files r
    → Creates files r
none_there files (Ok x) none has = (none, has)
none_there files (Err OpenFault.DiskFault) none has = tt
none_there files (Err OpenFault.NoMemory) none has = tt
none_there files (Err (OpenFault.Foreign file)) none has = (none, has)
none_there files _ none has = absurd has
