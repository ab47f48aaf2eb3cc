-- The status 4 comes only where a device failed, or for `try`.
use Rattle.session_run.proofs.Common.{◌≡◌, ◌⊎◌, inl, inr, ⊎_elim, refl, sym, ◌∙◌, subst, ℕ, ◌<◌, ◌≤◌, arith, Bool, true}
use Rattle.session_run.proofs.Common.{false, ◌||◌, nat_lt, List, Option, Some, None, Result, Ok, Err, ℤ, none-some}
use Rattle.session_run.proofs.Common.{IsSomeAnd, Frame, Rose, fault_sum, Ghosts, Core, OpenFault, Words, Text, words_of}
use Rattle.session_run.proofs.Common.{MicEnd, mic_state, IsStoppedBy, Deed, Stop, Change, change, IsCauseOf}
use Rattle.session_run.proofs.Common.{checked_text, Played, Recorded, PlayOutcome, RecordOutcome, Kinds, Side}
use Rattle.session_run.proofs.Common.{WhereMade, Beside, Does, DoesWords, HasCause, IsTry, OneRose, any_rose, counts}
use Rattle.session_run.proofs.Common.{WritesEnd, mic_failed, speaker_failed, status_of, Handed, Ports, handed, job}
use Rattle.session_run.proofs.Common.{OpensNot, IsDone, IsRefused, call_fault_of, status_of_fault, FaultCounts, Done}
use Rattle.session_run.proofs.Common.{Runs, RunsOn, RunsTo, Prints, Streams}
use Rattle.std.proofs.lemmas.Bool.{ltb-true}
use Rattle.std.specs.Prelude.{if◌then◌else◌, MatchResult}
use Rattle.project_journal.specs.Answer.{HasFault, NoFault}
use Rattle.editor_recovery.specs.{Causes.Causes, Found.Found}
use Rattle.call_words.specs.declared.asked.NewProject.{NewProject}
use Rattle.script_text.specs.Project.{made_text}
use Rattle.session_run.specs.{Last.is_mic_fault, Projects.Checks, Projects.Lists, Projects.Makes, Streams.Output}
use Rattle.edit_ports.specs.declared.sink.Sink as sink
use Rattle.edit_ports.specs.declared.source.Source as source
use Rattle.editor_recovery.specs.declared.fault.OpenFault.TheVariants as fault
use Rattle.call_words.specs.declared.asked.Words.TheVariants as words
use Rattle.recorder_threads.specs.declared.microphone.MicEnd.TheVariants as mic_end
use Rattle.script_reader.specs.declared.stop.Stop.TheVariants as stop
use Rattle.desk_session.specs.declared.side.Side.TheVariants as side

-- ---- counts

rose_of : (old new : ℕ) → nat_lt old new ≡ true → Rose old new
rose_of old new is = let less : old < new = ltb-true _ _ is in omega arith

either : (a b : Bool) → (a || b) ≡ true → (a ≡ true) ⊎ (b ≡ true)
either true b is = inl refl
either false b is = inr is

-- a count is higher than before, or one of the rest is
rise : (old new : ℕ) {rest : Bool} {Rest : Type 0} → (rest ≡ true → Rest) → (nat_lt old new || rest) ≡ true
    → Rose old new ⊎ Rest
rise old new {rest} next is =
    ⊎_elim (λ h. inl (rose_of old new h)) (λ h. inr (next h)) (either (nat_lt old new) rest is)

pub one_rose : (old new : FaultCounts) → any_rose old new ≡ true → OneRose old new
one_rose old new = rise old.script new.script (rise old.out new.out (rise old.store new.store
    (rise old.vault new.vault (rise old.mic new.mic (rose_of old.speaker new.speaker)))))

-- that of a disk: a read or a change of it failed
disk_rose : {D : Type 0} (disk : Ghosts D) (old new : D) → HasFault disk old new
    → Rose (fault_sum (disk.read_fault_count old) (disk.change_fault_count old))
    (fault_sum (disk.read_fault_count new) (disk.change_fault_count new))
disk_rose disk old new h =
    let reads = h.later_reads in
    let changes = h.later_changes in
    ⊎_elim (λ (r : Rose (disk.read_fault_count old) (disk.read_fault_count new)). omega arith)
    (λ (r : Rose (disk.change_fault_count old) (disk.change_fault_count new)). omega arith) h.rose

-- ---- a project that was not opened, made or checked

-- the status of a fault is 4 only for that of the disk
refused_rose : {D : Type 0} (T : Type 0) (disk : Ghosts D) (old new : D) (f : OpenFault)
    → Causes {T = T} disk old new (Err f) → status_of_fault (call_fault_of f) ≡ 4 → HasFault disk old new
refused_rose T disk old new fault.DiskFault cause is = cause
refused_rose _ disk old new _ cause is = absurd (omega (arith, is))

-- a fault after the opening is one since before it
after_opening : {D : Type 0} (disk : Ghosts D) (store old new : D) → NoFault disk store old → HasFault disk old new
    → HasFault disk store new
after_opening disk store old new none h =
    let reads = none.same_read_faults in
    let changes = none.same_change_faults in record {
      rose = ⊎_elim (λ (r : Rose (disk.read_fault_count old) (disk.read_fault_count new)).
          inl (subst (λ (n : ℕ). Rose n (disk.read_fault_count new)) reads r))
          (λ (r : Rose (disk.change_fault_count old) (disk.change_fault_count new)).
          inr (subst (λ (n : ℕ). Rose n (disk.change_fault_count new)) changes r)) h.rose;
      later_reads = subst (λ (n : ℕ). n ≤ disk.read_fault_count new) reads h.later_reads;
      later_changes = subst (λ (n : ℕ). n ≤ disk.change_fault_count new) changes h.later_changes;
    }

-- ---- a session

pub out_stays : (s : Stop) (w : Output) (text : List ℕ) → WritesEnd s w text → s ≡ stop.OutFault
    → w.faults.now ≡ w.faults.before
out_stays stop.End w text h is = cc
out_stays stop.Limit w text h is = cc
out_stays stop.SourceFault w text h is = cc
out_stays stop.OutFault w text h is = h.1

-- what gives the status 4: what stopped the script, or a fault beside it
abbrev Four : Stop → Bool → Type 0
Four stop.End failed = failed ≡ true
Four stop.Limit failed = failed ≡ true
Four stop.SourceFault failed = Unit {0}
Four stop.OutFault failed = Unit {0}

four_of : (s : Stop) (failed refused : Bool) → status_of s failed refused ≡ 4 → Four s failed
four_of stop.End true refused is = refl
four_of stop.End false true is = absurd (omega (arith, is))
four_of stop.End false false is = absurd (omega (arith, is))
four_of stop.Limit true refused is = refl
four_of stop.Limit false refused is = absurd (omega (arith, is))
four_of stop.SourceFault failed refused is = tt
four_of stop.OutFault failed refused is = tt

mic_ended : (end : MicEnd) (bytes : List ℕ) {M : Type 0} (mics : source.Ghosts M) (m : Change M)
    → IsStoppedBy end bytes (mic_state mics m.before) (mic_state mics m.now) → is_mic_fault end ≡ true
    → Rose (mics.fault_count m.before) (mics.fault_count m.now)
mic_ended mic_end.End bytes mics m h is = cc
mic_ended mic_end.Fault bytes mics m h is = h.1
mic_ended mic_end.Limit bytes mics m h is = cc

mic_rose : {M : Type 0} (mics : source.Ghosts M) (m : Change M) (made : Side) (kept : Option RecordOutcome)
    (pieces : ℕ → Change (List (List ℤ × ℕ))) (spent : Bool) (own : List Deed)
    → WhereMade made (λ tag. IsSomeAnd kept (Recorded mics m (pieces tag) spent own))
    ((kept ≡ None) × (m.now ≡ m.before))
    → mic_failed kept ≡ true → Rose (mics.fault_count m.before) (mics.fault_count m.now)
mic_rose mics m made None pieces spent own h is = cc
mic_rose mics m side.NotAsked (Some kept) pieces spent own h is = absurd (none-some _ (sym h.0))
mic_rose mics m (side.Made tag) (Some kept) pieces spent own h is =
    mic_ended kept.end h.is.bytes mics m h.is.stopped is
mic_rose mics m (side.Refused why) (Some kept) pieces spent own h is = absurd (none-some _ (sym h.0))

speaker_rose : {P : Type 0} (speakers : sink.Ghosts P) (p : Change P) (made : Side)
    (heard : Option PlayOutcome) (shows : ℕ → List Frame → Type 0) (spent : Bool) (player : ℕ) (own : List Deed)
    → WhereMade made (λ pin. IsSomeAnd heard (Played speakers p (shows pin) pin spent player own))
    ((heard ≡ None) × (p.now ≡ p.before))
    → speaker_failed heard ≡ true → Rose (speakers.fault_count p.before) (speakers.fault_count p.now)
speaker_rose speakers p made None shows spent player own h is = cc
speaker_rose speakers p side.NotAsked (Some heard) shows spent player own h is = absurd (none-some _ (sym h.0))
speaker_rose speakers p (side.Made pin) (Some heard) shows spent player own h is = h.is.writes.cause is
speaker_rose speakers p (side.Refused why) (Some heard) shows spent player own h is = absurd (none-some _ (sym h.0))

module _ {A O D V M P : Type 0} (sources : source.Ghosts A) (sinks : sink.Ghosts O) (k : Kinds D V M P)
    (script : Change A) (out : Change O) (store : Change D) (vault : Change V) (mic : Change M) (speaker : Change P) where
  abbrev old : FaultCounts
  old = counts sources sinks k script.before out.before store.before vault.before mic.before speaker.before

  abbrev new : FaultCounts
  new = counts sources sinks k script.now out.now store.now vault.now mic.now speaker.now

  abbrev given : Handed D V M P
  given = handed sources sinks script out store.before vault mic speaker

  abbrev ports : Ports V M P
  ports = given.ports

  abbrev said : Streams
  said = ports.streams

  failed : (core : Change (Core D)) (beside : Beside) (r : RunsOn k core (job ports beside))
      → (mic_failed r.out.kept || speaker_failed r.out.heard) ≡ true → OneRose old new
  failed core beside r is = ⊎_elim
      (λ h. inr (inr (inr (inr (inl (mic_rose k.mics mic r.out.opened.recording r.out.kept _ _ _ r.session.recorded h))))))
      (λ h. inr (inr (inr (inr (inr
      (speaker_rose k.speakers speaker r.out.opened.pin r.out.heard _ _ _ _ r.session.played h))))))
      (either (mic_failed r.out.kept) (speaker_failed r.out.heard) is)

  store_rose : HasFault k.disk store.before store.now → OneRose old new
  store_rose h = inr (inr (inl (disk_rose k.disk store.before store.now h)))

  -- what stopped a session of these devices, or a fault beside it
  stop_rose : (core : Change (Core D)) (beside : Beside) (r : RunsOn k core (job ports beside)) (s : Stop)
      → IsCauseOf s (change old.script new.script) (change old.out r.faults)
      → (s ≡ stop.OutFault → new.out ≡ r.faults)
      → Four s (mic_failed r.out.kept || speaker_failed r.out.heard) → OneRose old new
  stop_rose core beside r stop.End cause same four = failed core beside r four
  stop_rose core beside r stop.Limit cause same four = failed core beside r four
  stop_rose core beside r stop.SourceFault cause same four = inl cause.1
  stop_rose core beside r stop.OutFault cause same four =
      inr (inl (subst (λ (n : ℕ). Rose old.out n) (sym (same refl)) cause.2))

  refused : (T : Type 0) (f : OpenFault) (done : Done D) → done.status ≡ status_of_fault (call_fault_of f)
      → Causes {T = T} k.disk store.before store.now (Err f) → done.status ≡ 4 → OneRose old new
  refused T f done status cause is =
      store_rose (refused_rose T k.disk store.before store.now f cause (sym status ∙ is))

  ran : (start final : Core D) (beside : Beside) (done : Done D) → RunsTo k (change start final) (job ports beside) done
      → done.status ≡ 4 → OneRose old new
  ran start final beside done r is =
      stop_rose (change start final) beside r.ran r.ran.out.told.stop r.ran.cause
      (out_stays r.ran.out.told.stop _ _ r.ran.ended)
      (four_of r.ran.out.told.stop (mic_failed r.ran.out.kept || speaker_failed r.ran.out.heard) _
      (sym r.status_is ∙ is))

  -- a call that ended so has another status
  other : (n : ℕ) (done : Done D) → done.status ≡ n → (n ≡ 4 → ⊥) → done.status ≡ 4 → OneRose old new
  other n done status differs is = absurd (differs (sym status ∙ is))

  runs : (beside : Beside) (done : Done D) → Runs k store.before (job ports beside) done → store.now ≡ done.store
      → done.status ≡ 4 → OneRose old new
  runs beside done (inl (start, opens, (final, at, inl r))) same is = ran start final beside done r is
  runs beside done (inl (start, opens, (final, at, inr w))) same is =
      other 5 done w.refused.done_is.status_is (λ e. omega (arith, e)) is
  runs beside done (inr (f, looks, refusal, unread, idle, vault_)) same is =
      refused Found f done refusal.done_is.status_is
      (subst (λ (z : D). Causes {T = Found} k.disk store.before z (Err f)) (sym same) looks.cause) is

  makes : (project : NewProject) (done : Done D) → Makes k.disk project store.before said done → store.now ≡ done.store
      → done.status ≡ 4 → OneRose old new
  makes project done h same is = by h.answer h.created.cause h.said
    where
      by : (answer : Result (Unit {0}) OpenFault) → Causes {T = Unit {0}} k.disk store.before done.store answer
          → MatchResult answer (λ _. Prints said made_text × IsDone 0 done)
          (λ f. IsRefused (call_fault_of f) said done) → OneRose old new
      by (Ok _) cause h = other 0 done h.1.status_is (λ e. omega (arith, e)) is
      by (Err f) cause h = refused (Unit {0}) f done h.done_is.status_is
          (subst (λ (z : D). Causes {T = Unit {0}} k.disk store.before z (Err f)) (sym same) cause) is

  opens_not : (done : Done D) → OpensNot k.disk store.before said done → store.now ≡ done.store → done.status ≡ 4
      → OneRose old new
  opens_not done (f, looks, refusal) same is = refused Found f done refusal.done_is.status_is
      (subst (λ (z : D). Causes {T = Found} k.disk store.before z (Err f)) (sym same) looks.cause) is

  lists : (done : Done D) → Lists k.disk store.before said done → store.now ≡ done.store → done.status ≡ 4
      → OneRose old new
  lists done (inl (start, opens, at, inl listed)) same is = other 0 done listed.status (λ e. omega (arith, e)) is
  lists done (inl (start, opens, at, inr refusal)) same is =
      other 5 done refusal.done_is.status_is (λ e. omega (arith, e)) is
  lists done (inr h) same is = opens_not done h same is

  checks : (done : Done D) → Checks k.disk store.before said done → store.now ≡ done.store → done.status ≡ 4
      → OneRose old new
  checks done (inl h) same is = by h.answer h.checks.cause h.said
    where
      by : (answer : Result ℕ OpenFault) → Causes {T = ℕ} k.disk h.start.store h.final.store answer
          → MatchResult answer (λ n. Prints said (checked_text n h.start.commit_number) × IsDone 0 done)
          (λ f. IsRefused (call_fault_of f) said done) → OneRose old new
      by (Ok n) cause h = other 0 done h.1.status_is (λ e. omega (arith, e)) is
      by (Err f) cause r = store_rose (after_opening k.disk store.before h.start.store store.now h.opens.looks.cause
          (subst (λ (z : D). HasFault k.disk h.start.store z) (sym (same ∙ h.store_is))
          (refused_rose ℕ k.disk h.start.store h.final.store f cause (sym r.done_is.status_is ∙ is))))
  checks done (inr h) same is = opens_not done h same is

  -- whatever the words ask for
  pub does_four : {R : Type 0} (ram : Ghosts R) (words_ : Option Words) (done : Done D)
      → DoesWords (record { ram = ram; kinds = k }) words_ given done → store.now ≡ done.store → done.status ≡ 4
      → OneRose old new ⊎ IsTry words_
  does_four ram None done does same is =
      inl (other 2 done does.0.0.done_is.status_is (λ e. omega (arith, e)) is)
  does_four ram (Some (words.New project)) done does same is = inl (makes project done does.0 same is)
  does_four ram (Some (words.Run records plays)) done does same is =
      inl (runs (record { records = records; plays = plays }) done does same is)
  does_four ram (Some words.Try) done does same is = inr tt
  does_four ram (Some words.List) done does same is = inl (lists done does.0 same is)
  does_four ram (Some words.Check) done does same is = inl (checks done does.0 same is)
  does_four ram (Some (words.Gen number lines)) done (inl g, at, left) same is =
      inl (other 0 done g.done_is.status_is (λ e. omega (arith, e)) is)
  does_four ram (Some (words.Gen number lines)) done (inr refusal, at, left) same is =
      inl (other 5 done refusal.done_is.status_is (λ e. omega (arith, e)) is)

  -- the call's status
  pub four_only : {R : Type 0} (ram : Ghosts R) (texts : List Text) (done : Done D)
      → Does (record { ram = ram; kinds = k }) texts given done → store.now ≡ done.store
      → (status : ℕ) → status ≡ (if any_rose old new then 4 else done.status)
      → HasCause (words_of texts) old new status
  four_only ram texts done does same status is four = by (any_rose old new) refl is does
    where
      by : (b : Bool) → any_rose old new ≡ b → status ≡ (if b then 4 else done.status)
          → Does (record { ram = ram; kinds = k }) texts given done → OneRose old new ⊎ IsTry (words_of texts)
      by true rose is does = inl (one_rose old new rose)
      by false rose is (inl does) = does_four ram (words_of texts) done does same (sym is ∙ four)
      by false rose is (inr h) =
          inl (other 5 done h.1.0.done_is.status_is (λ e. omega (arith, e)) (sym is ∙ four))
