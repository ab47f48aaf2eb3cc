-- A list of deeds that is one longer.
use Rattle.studio_seats.proofs.Common.{◌≡◌, ◌⊎◌, inl, inr, refl, sym, ap, ◌∙◌, subst, ℕ, IsSome, Option, Some, None}
use Rattle.studio_seats.proofs.Common.{List, [], ◌∷◌, ◌++◌, append_assoc, Result, Err, append-nil, none-some, IfErr}
use Rattle.studio_seats.proofs.Common.{Answers, Step, name_in, Reply, Refused, Call, Entry, Refusal, Ghosts, IsHeld}
use Rattle.studio_seats.proofs.Common.{IsStudio, shown, studio_of, Took, freeing, silent, reply_of, Core, lasts_took}
use Rattle.studio_seats.proofs.Common.{Each-append, Deed, deed, entry_of, entries_of, number_after, raised_by, AllTell}
use Rattle.studio_seats.proofs.Common.{Chain, Does, Origin, StandsFor, VaultGhosts, Studio}
use Rattle.disk_model.specs.{Disk.Files, MomentLaws.upto_refl, MomentLaws.upto_trans}
use Rattle.disk_model.proofs.Moments.{each_on}
use Rattle.project_journal.specs.Gate.{EachNow, EachSince}
use Rattle.record_body.specs.Saved.{Keeps}
use Rattle.editor_state.specs.Took.{exchange_of}
use Rattle.editor_state.specs.{Events.KeepsPrefix, Left.Left, Left.Stops}
use Rattle.editor_state.proofs.Calls.RunEntries.{flies, prefix_more, run_more, step_of}
use Rattle.editor_state.proofs.{Images.ImageProjects.keeps_now, Refusals.IntactFiles.held_undamaged}
use Rattle.pin_turn.proofs.Sums.{Each-left, Each-right}
use Rattle.studio_seats.specs.Leads.{HadTurn, IsUnharmed, Leads, StopsInFlight}
use Rattle.studio_seats.specs.Stands.{AreTold}
use Rattle.studio_seats.proofs.{Refused.number_raised, Refused.stopped_not, Refused.stopped_shown, TestFaults.had_turn}

-- ---- lists

pub entries_append : (ds es : List Deed) → entries_of (ds ++ es) ≡ entries_of ds ++ entries_of es
entries_append [] es = refl
entries_append (d ∷ ds) es = ap (λ (z : List Entry). entry_of d ∷ z) (entries_append ds es)

pub number_append : (n : ℕ) (ds es : List Deed) → number_after n (ds ++ es) ≡ number_after (number_after n ds) es
number_append n [] es = refl
number_append n (d ∷ ds) es = number_append (raised_by d n) ds es

-- where all vaults tell, they do for each deed
pub all_told : {V : Type 0} (vaults : VaultGhosts V) (deeds : List Deed) → AllTell vaults → AreTold vaults deeds
all_told vaults [] tell = tt
all_told vaults (d ∷ ds) tell = (λ some. tell, all_told vaults ds tell)

-- ---- one entry more

flight_more : (t : Studio) (es : List Entry) (e : Entry) (c : Files) → StopsInFlight t es c
    → StopsInFlight t (es ++ e ∷ []) c
flight_more t es e c h = record {
  front = h.front;
  last = h.last;
  back = h.back ++ e ∷ [];
  cut = ap (λ (z : List Entry). z ++ e ∷ []) h.cut ∙ append_assoc h.front (h.last ∷ h.back) (e ∷ []);
  reached = h.reached;
  run = h.run;
  going = h.going;
  next = h.next;
  step = h.step;
  stops = h.stops;
  fault = h.fault;
  flight = h.flight;
}

-- ---- one deed

-- a call that names no sound
pub does_silent : {D : Type 0} {actor : ℕ} (disk : Ghosts D) (told : Type 0) (old : Core D) (call : Call)
    (what : Result Reply Refusal) (removed : List ℕ) (new : Core D) → name_in call ≡ None
    → Took disk old (freeing call what removed) new → Does disk told old (deed actor call what silent) new
does_silent disk told old call what removed new none took = record {
  removed = removed;
  took = λ may. took;
  imported = λ name is. absurd (none-some name (sym none ∙ ap name_in is));
  lasts = lasts_took disk old (freeing call what removed) new took;
}

-- where the disk held the studio, no call returns a damaged file
unharmed : {D : Type 0} (disk : Ghosts D) (old new : Core D) (what : Result Reply Refusal) → IsHeld disk old
    → IfErr what (Left disk old new) → IfErr what IsUnharmed
unharmed disk old new (Err (Refusal.Damaged file at want have)) held left =
    absurd (held_undamaged disk old new (Refusal.Damaged file at want have) held left)
unharmed disk old new _ held left = tt

-- a call that stopped the studio returned that the disk failed
failed : {D : Type 0} (disk : Ghosts D) (old new : Core D) (what : Result Reply Refusal) → old.stopped ≡ None
    → IsSome new.stopped → Stops disk old what new → reply_of what ≡ Refused Refusal.DiskFault
failed disk old new what still some (inl same) = absurd (stopped_not new.stopped some (same.0 ∙ still))
failed disk old new what still some (inr stops) = ap reply_of stops.2

-- ---- what follows of one deed more

module _ {D V : Type 0} (o : Origin D V) (old new : Core D) (deeds : List Deed) (was : Leads o old deeds) (d : Deed)
    (does : Does o.disk (AllTell o.vaults) old d new) where
  open o use {disk, start}

  abbrev told : Type 0
  told = AreTold o.vaults (deeds ++ d ∷ [])

  abbrev t : Studio
  t = studio_of disk start

  abbrev all : List Entry
  all = entries_of deeds ++ entry_of d ∷ []

  before : told → AreTold o.vaults deeds
  before tell = Each-left (λ (z : Deed). IsSome (name_in z.call) → AllTell o.vaults) deeds (d ∷ []) tell

  took : told → Took disk old (exchange_of d.call d.sound d.what does.removed) new
  took tell = does.took (Each-right (λ (z : Deed). IsSome (name_in z.call) → AllTell o.vaults) deeds (d ∷ []) tell).0

  -- the disk held the studio before it
  kept : told → IsHeld disk start → IsHeld disk old
  kept tell held = was.held (before tell) held

  answers : told → IsHeld disk start → Answers (studio_of disk old) d.call d.sound d.what (studio_of disk new)
  answers tell held = (took tell).step (kept tell held)

  step : told → IsHeld disk start → Step (studio_of disk old) d.call d.sound (entry_of d).reply (studio_of disk new)
  step tell held = step_of (studio_of disk old) (studio_of disk new) d.call d.sound d.what (answers tell held)

  -- ---- at any moment

  first : told → start.stopped ≡ None → IsHeld disk start → EachSince disk start.store old.store (KeepsPrefix t all)
  first tell going held c since =
      prefix_more t (entries_of deeds) (entry_of d) c (was.any_moment (before tell) going held c since)

  -- while the call is under way
  second : told → old.stopped ≡ None → IsHeld disk start → EachSince disk old.store new.store (KeepsPrefix t all)
  second tell still held c since = record {
    front = entries_of deeds;
    back = entry_of d ∷ [];
    cut = refl;
    reached = studio_of disk old;
    run = was.run (before tell) held;
    keeps = flies disk old new (exchange_of d.call d.sound d.what does.removed) (took tell) still (kept tell held) c
        since;
  }

  -- a studio that had stopped asks nothing more of the disk
  stays : (o : Option ℕ) → old.stopped ≡ o → told → start.stopped ≡ None → IsHeld disk start
      → EachSince disk start.store new.store (KeepsPrefix t all)
  stays None still tell going held =
      each_on (KeepsPrefix t all) (disk.clock start.store) (took tell).changed.images was.later
      (first tell going held) (second tell still held)
  stays (Some faults) stopped tell going held = rw (does.lasts.rests (rw stopped refl)) (first tell going held)

  -- ---- from now on, where it has stopped

  abbrev Ends : Core D → Files → Type 0
  Ends s c = Keeps c (shown (studio_of disk s)) ⊎ StopsInFlight t all c

  -- this call stopped it
  stops : told → old.stopped ≡ None → IsSome new.stopped → IsHeld disk start → EachNow disk new.store (Ends new)
  stops tell still some held c now =
      let images = (took tell).changed.images in
      let since = images.fewer (disk.clock old.store) (disk.clock new.store) c images.later (upto_refl _) now in
      let same = stopped_shown (studio_of disk old) (studio_of disk new) d.call d.sound d.what (answers tell held) still
      some in
      elim ((took tell).any_moment still (kept tell held) c since) [
        | inl keeps ↦ inl (subst (Keeps c) (sym same) keeps)
        | inr flight ↦ inr record {
          front = entries_of deeds;
          last = entry_of d;
          back = [];
          cut = refl;
          reached = studio_of disk old;
          run = was.run (before tell) held;
          going = still;
          next = studio_of disk new;
          step = step tell held;
          stops = some;
          fault = failed disk old new d.what still some (took tell).stops;
          flight = flight;
        }
      ]

  -- an earlier one did
  stopped_still : told → start.stopped ≡ None → IsSome old.stopped → IsHeld disk start
      → EachNow disk old.store (Ends old)
  stopped_still tell going some held c now = elim (was.stopped (before tell) going some held c now)
      [ inl keeps ↦ inl keeps | inr flight ↦ inr (flight_more t (entries_of deeds) (entry_of d) c flight) ]

  ends : (o : Option ℕ) → old.stopped ≡ o → told → start.stopped ≡ None → IsSome new.stopped → IsHeld disk start
      → EachNow disk new.store (Ends new)
  ends None still tell going some held = stops tell still some held
  ends (Some faults) stopped tell going some held =
      let some_old : IsSome old.stopped = rw stopped refl in
      subst (λ (z : Core D). EachNow disk z.store (Ends z)) (sym (does.lasts.rests some_old))
      (stopped_still tell going some_old held)

  more : entries_of (deeds ++ d ∷ []) ≡ all
  more = entries_append deeds (d ∷ [])

  -- ---- all of it

  led_on : Leads o new (deeds ++ d ∷ [])
  led_on = record {
    studio = does.lasts.studio;
    number = does.lasts.number ∙ number_raised d.what d.call old.commit_number ∙ ap (raised_by d) was.number
        ∙ sym (number_append start.commit_number deeds (d ∷ []));
    later = upto_trans (disk.clock start.store) (disk.clock old.store) (disk.clock new.store) was.later
        does.lasts.changed.images.later;
    held = λ tell held. (took tell).held (kept tell held);
    run = λ tell held. rw more (run_more t (studio_of disk old) (studio_of disk new) (entries_of deeds) (entry_of d)
        (was.run (before tell) held) (step tell held));
    whole = λ tell held. Each-append (λ (z : Deed). IfErr z.what IsUnharmed) deeds (d ∷ [])
        (was.whole (before tell) held) (unharmed disk old new d.what (kept tell held) does.lasts.left, tt);
    turns = λ tell held. Each-append HadTurn deeds (d ∷ []) (was.turns (before tell) held)
        (had_turn (studio_of disk old) (studio_of disk new) d.call d.sound d.what (answers tell held), tt);
    any_moment = λ tell going held. rw more (stays old.stopped refl tell going held);
    going = λ tell still held. (took tell).now still (kept tell held);
    stopped = λ tell going some held. rw more (ends old.stopped refl tell going some held);
  }

-- no deed leads nowhere
led_none : {D V : Type 0} (o : Origin D V) → IsStudio o.disk o.start → Leads o o.start []
led_none o is = record {
  studio = is;
  number = refl;
  later = upto_refl (o.disk.clock o.start.store);
  held = λ tell held. held;
  run = λ tell held. refl;
  whole = λ tell held. tt;
  turns = λ tell held. tt;
  any_moment = λ tell going held c since. record {
    front = [];
    back = [];
    cut = refl;
    reached = studio_of o.disk o.start;
    run = refl;
    keeps = inl (keeps_now o.disk o.start is.journal.among going held c since);
  };
  going = λ tell still held c now. keeps_now o.disk o.start is.journal.among still held c now;
  stopped = λ tell going some held c now. absurd (stopped_not o.start.stopped some going);
}

-- the deeds after some
led_by : {D V : Type 0} (o : Origin D V) (old : Core D) (front back : List Deed) (new : Core D) → Leads o old front
    → Chain o.disk o.vaults old back new → Leads o new (front ++ back)
led_by o old front [] new was is = rw (is, append-nil) was
led_by o old front (d ∷ back) new was chain = rw append_assoc at
    (led_by o chain.0 (front ++ d ∷ []) back new (led_on o old chain.0 front was d chain.1) chain.2)

-- what follows of the deeds for which a studio stands
pub leads : {D V : Type 0} (o : Origin D V) (now : Core D) (deeds : List Deed) → StandsFor o now deeds
    → Leads o now deeds
leads o now deeds stands = led_by o o.start [] deeds now (led_none o stands.began) stands.chain
