-- Counts of faults along a run.
use Rattle.studio_seats.proofs.Common.{◌≡◌, ◌⊎◌, inl, inr, ℕ, ◌≤◌, IsTrue, None, List, [], ◌∷◌}
use Rattle.studio_seats.proofs.Common.{Result, Ok, Err, arith, IfErr, Answers, Run, outside, result_of, Reply, Call}
use Rattle.studio_seats.proofs.Common.{Entry, SoundMove, Refusal, Each, Ghosts, reply_of, studio_of, carried_is}
use Rattle.studio_seats.proofs.Common.{IsServed, Deed, entries_of, origin, VaultGhosts, Studio}
use Rattle.pcm_base.specs.Run.{Breaks, ChangeFailed, ReadFailed, may_change}
use Rattle.pcm_base.specs.{Causes.Rose}
use Rattle.studio_seats.specs.Faults.{AreServed, DesksServe, IsCalm, Serves}
use Rattle.studio_seats.proofs.{Grown.leads, TestFaults.served_test, TestFaults.tested}

-- ---- one step

-- the counts fall never, and where none rises the store caused no refusal
record Went (t u : Studio) (c : Call) (what : Result Reply Refusal) : Type 0 where
  reads : t.read_faults ≤ u.read_faults
  changes : t.change_faults ≤ u.change_faults
  stays : t.stopped ≡ None → IsCalm t u → u.stopped ≡ None
  served : t.stopped ≡ None → IsCalm t u → IfErr what (IsServed c)

-- the counts and whether it goes on are as before
still : (t u : Studio) (c : Call) (what : Result Reply Refusal) → u.read_faults ≡ t.read_faults
    → u.change_faults ≡ t.change_faults
    → (t.stopped ≡ None → u.stopped ≡ None) → (t.stopped ≡ None → IfErr what (IsServed c)) → Went t u c what
still t u c what reads changes stays served = record {
  reads = omega (arith, reads);
  changes = omega (arith, changes);
  stays = λ going calm. stays going;
  served = λ going calm. served going;
}

same : (t u : Studio) (c : Call) (what : Result Reply Refusal) → u ≡ t
    → (t.stopped ≡ None → IfErr what (IsServed c)) → Went t u c what
same t u c what is served = still t u c what (rw is) (rw is) (λ going. rw is going) served

failed : (t u : Studio) (c : Call) → ReadFailed t u ⊎ (IsTrue (may_change c) × ChangeFailed t u)
    → Went t u c (Err Refusal.DiskFault)
failed t u c (inl read) = record {
  reads = read.later;
  changes = omega (arith, read.changes);
  stays = λ is calm. absurd (calm.reads read.rose);
  served = λ is calm. absurd (calm.reads read.rose);
}
failed t u c (inr (may, change)) = record {
  reads = omega (arith, change.reads);
  changes = change.later;
  stays = λ is calm. absurd (calm.changes change.rose);
  served = λ is calm. absurd (calm.changes change.rose);
}

broken : (t u : Studio) (c : Call) (sound : SoundMove) (why : Refusal) → Breaks t c sound why u
    → Went t u c (Err why)
broken t u c sound (Refusal.Damaged file at want have) h =
    still t u c (Err (Refusal.Damaged file at want have)) h.reads h.changes (λ going. h.stopped) (λ going. tt)
broken t u c sound Refusal.DiskFault h = failed t u c h.cause
broken t u c sound Refusal.VaultFault h =
    still t u c (Err Refusal.VaultFault) h.1.reads h.1.changes (λ going. h.1.stopped) (λ going. h.0)
broken t u c sound Refusal.NoMemory h = same t u c (Err Refusal.NoMemory) h.same (λ going. tt)
broken t u c sound why h = absurd h

went : (t u : Studio) (c : Call) (sound : SoundMove) (what : Result Reply Refusal) → Answers t c sound what u
    → Went t u c what
went t u c sound (Ok r) h =
    let is = carried_is t u c sound r h in
    still t u c (Ok r) (rw is) (rw is) (λ going. rw is going) (λ going. tt)
went t u c sound (Err why) (inl h) = same t u c (Err why) h.same
    (λ going. served_test t.stopped c why going (rw h.first at (tested (outside t sound) t c h.blocks h.len)))
went t u c sound (Err why) (inr (inl left)) = same t u c (Err why) left.same (λ going. rw left.reason tt)
went t u c sound (Err why) (inr (inr h)) = broken t u c sound why h

-- ---- a run

later : (t u : Studio) (es : List Entry) → Run t es u
    → (t.read_faults ≤ u.read_faults) × (t.change_faults ≤ u.change_faults)
later t u [] run = rw run (omega arith, omega arith)
later t u (e ∷ es) run =
    let first = went t run.0 e.call e.sound (result_of e.reply) run.1 in
    let rest = later run.0 u es run.2 in
    (omega (arith, first.reads, rest.0), omega (arith, first.changes, rest.1))

-- a count that rose in a part of a run rose in all of it
pub rose_first : (a b c : ℕ) → b ≤ c → Rose a b → Rose a c
rose_first a b c le rose = omega (arith, le, rose)

pub rose_last : (a b c : ℕ) → a ≤ b → Rose b c → Rose a c
rose_last a b c le rose = omega (arith, le, rose)

pub faults_are_counted : (t u : Studio) (es : List Entry) → Run t es u → t.stopped ≡ None → IsCalm t u
    → Serves t u es
faults_are_counted t u [] run is calm = record { going = rw run is; served = tt }
faults_are_counted t u (e ∷ es) run is calm =
    let mid = run.0 in
    let first = went t mid e.call e.sound (result_of e.reply) run.1 in
    let after = later mid u es run.2 in
    let begins : IsCalm t mid = record {
      reads = λ rose. calm.reads (rose_first t.read_faults mid.read_faults u.read_faults after.0 rose);
      changes = λ rose. calm.changes (rose_first t.change_faults mid.change_faults u.change_faults after.1 rose);
    } in
    let ends : IsCalm mid u = record {
      reads = λ rose. calm.reads (rose_last t.read_faults mid.read_faults u.read_faults first.reads rose);
      changes = λ rose. calm.changes (rose_last t.change_faults mid.change_faults u.change_faults first.changes rose);
    } in
    let rest = faults_are_counted mid u es run.2 (first.stays is begins) ends in
    record { going = rest.going; served = (first.served is begins, rest.served) }

-- ---- the deeds of a desk

deed_served : (c : Call) (what : Result Reply Refusal) → IfErr (result_of (reply_of what)) (IsServed c)
    → IfErr what (IsServed c)
deed_served c (Ok r) served = tt
deed_served c (Err why) served = served

deeds_served : (ds : List Deed) → AreServed (entries_of ds) → Each (λ d. IfErr d.what (IsServed d.call)) ds
deeds_served [] served = tt
deeds_served (d ∷ ds) served = (deed_served d.call d.what served.0, deeds_served ds served.1)

pub desks_serve : {D V : Type 0} (disk : Ghosts D) (vaults : VaultGhosts V) → DesksServe disk vaults
desks_serve disk vaults start now deeds stands told held is calm =
    let led = leads (origin disk vaults start) now deeds stands in
    let serves = faults_are_counted (studio_of disk start) (studio_of disk now) (entries_of deeds) (led.run told held)
    is calm in
    record { going = serves.going; served = deeds_served deeds serves.served; unharmed = led.whole told held }
