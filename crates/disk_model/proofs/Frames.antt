-- Calls of a store in turn, by what each leaves of it.
use Rattle.std.proofs.Common.{inl, inr, ⊎_elim, IsSome, ◌∙◌, sym, subst, refl, arith}
use Rattle.std.specs.Prelude.{IsTrue}
use Rattle.disk_model.specs.{Moment.Moment, Moment.IsUpTo, Disk.Files, Disk.Follows, Disk.StaysStep, Room.Room}
use Rattle.disk_model.specs.{Room.IsWithin, Room.together, Frames.asked, Frames.Kept, Frames.Changed}
use Rattle.disk_model.specs.{declared.store.Store.Ghosts}
use Rattle.disk_model.proofs.Moments.{wider, in_turn, follows_nothing}
use Rattle.disk_model.proofs.Rooms.{within_refl, stays_refl, stays_same, stays_trans, stays_some, within_trans}
use Rattle.disk_model.proofs.Rooms.{spent_on}

-- of a store whose images since a later moment are fewer, as the law `may_fewer` says
abbrev pub Fewer : {D : Type 0} → Ghosts D → D → Type 0
Fewer disk store = (t u : Moment) (c : Files) → IsUpTo t u → IsUpTo u (disk.clock store) → disk.may_leave store u c
    → disk.may_leave store t c

stays_turn : {before mid now : Moment} {past middle since : Moment → Files → Type 0}
    → Follows StaysStep before mid past middle → Follows StaysStep mid now middle since
    → Follows StaysStep before now past since
stays_turn f g = in_turn (λ d c e. e) (λ d e c one two. two ∙ one) f g

-- reads in turn
pub kept_turn : {D : Type 0} {disk : Ghosts D} {old mid new : D} → Kept disk old mid → Kept disk mid new
    → Kept disk old new
kept_turn {disk = disk} f g = record {
  same_tells = g.same_tells ∙ f.same_tells;
  same_reads = g.same_reads ∙ f.same_reads;
  same_model = g.same_model ∙ f.same_model;
  same_clock = g.same_clock ∙ f.same_clock;
  same_images = stays_turn f.same_images g.same_images;
  same_faults = g.same_faults ∙ f.same_faults;
  same_calls = g.same_calls ∙ f.same_calls;
  same_bytes = g.same_bytes ∙ f.same_bytes;
  same_absent = g.same_absent ∙ f.same_absent;
  same_room = g.same_room ∙ f.same_room;
  unfailing = λ some. g.unfailing (subst IsSome (sym f.same_room) some) ∙ f.unfailing some;
}

-- a store that reports its bytes does so after them, and did before
pub tells_on : {D : Type 0} {disk : Ghosts D} {old new : D} → Kept disk old new → IsTrue (disk.tells old)
    → IsTrue (disk.tells new)
tells_on kept told = subst IsTrue (sym kept.same_tells) told

pub tells_back : {D : Type 0} {disk : Ghosts D} {old new : D} → Kept disk old new → IsTrue (disk.tells new)
    → IsTrue (disk.tells old)
tells_back kept told = subst IsTrue kept.same_tells told

-- no call at all
pub kept_none : {D : Type 0} {disk : Ghosts D} (store : D) → Fewer disk store → Kept disk store store
kept_none store fewer = record {
  same_tells = refl;
  same_reads = refl;
  same_model = refl;
  same_clock = refl;
  same_images = follows_nothing (λ c. refl) fewer;
  same_faults = refl;
  same_calls = refl;
  same_bytes = refl;
  same_absent = refl;
  same_room = refl;
  unfailing = λ some. refl;
}

-- calls in turn
pub changed_turn : {D : Type 0} {disk : Ghosts D} {step after both : Files → Files → Type 0} {one two much : Room}
    {old mid new : D}
    → ((d c : Files) → step d c → both d c) → ((d e c : Files) → step d e → after e c → both d c)
    → IsWithin (together one two) much
    → Changed disk step one old mid → Changed disk after two mid new → Changed disk both much old new
changed_turn {disk = disk} {one = one} {two = two} {much = much} {old = old} {mid = mid} {new = new} first trans fits f
    g = record {
      tells = g.tells ∙ f.tells;
      model = g.model ∙ f.model;
      reads = λ told. trans (disk.reads old) (disk.reads mid) (disk.reads new) (f.reads told)
          (g.reads (subst IsTrue (sym f.tells) told));
      images = in_turn first trans f.images g.images;
      later = within_trans (asked disk old) (asked disk mid) (asked disk new) f.later g.later;
      files = λ told.
          let still : IsTrue (disk.tells mid) = subst IsTrue (sym f.tells) told in
          omega (arith, fits.files, f.files told, g.files still);
      bytes = omega (arith, fits.bytes, f.bytes, g.bytes);
      calls = omega (arith, fits.calls, f.calls, g.calls);
      room = stays_trans (disk.room old) (disk.room mid) (disk.room new) f.room g.room;
      spent = ⊎_elim
          (λ same. ⊎_elim
          (λ still. inl (still ∙ same))
          (λ spent. inr (spent_on (disk.room old) (disk.room mid) (asked disk new) (asked disk new) f.room
          (within_refl (asked disk new)) spent))
          g.spent)
          (λ spent. inr (spent_on (disk.room old) (disk.room old) (asked disk mid) (asked disk new)
          (stays_refl (disk.room old)) g.later spent))
          f.spent;
      unfailing = λ some. g.unfailing (stays_some (disk.room old) (disk.room mid) f.room some) ∙ f.unfailing some;
    }

-- the same said by a wider step and more
pub changed_wider : {D : Type 0} {disk : Ghosts D} {step wide : Files → Files → Type 0} {less much : Room} {old new : D}
    → ((d c : Files) → step d c → wide d c) → IsWithin less much → Changed disk step less old new
    → Changed disk wide much old new
changed_wider {disk = disk} {less = less} {much = much} {old = old} {new = new} w fits f = record {
  tells = f.tells;
  model = f.model;
  reads = λ told. w (disk.reads old) (disk.reads new) (f.reads told);
  images = wider w f.images;
  later = f.later;
  files = λ told. omega (arith, fits.files, f.files told);
  bytes = omega (arith, fits.bytes, f.bytes);
  calls = omega (arith, fits.calls, f.calls);
  room = f.room;
  spent = f.spent;
  unfailing = f.unfailing;
}

-- no call at all
pub changed_none : {D : Type 0} {disk : Ghosts D} {step : Files → Files → Type 0} {much : Room} (store : D)
    → ((c : Files) → step c c) → Fewer disk store → Changed disk step much store store
changed_none {disk = disk} {much = much} store same fewer = record {
  tells = refl;
  model = refl;
  reads = λ told. same (disk.reads store);
  images = follows_nothing same fewer;
  later = within_refl (asked disk store);
  files = λ told. omega arith;
  bytes = omega arith;
  calls = omega arith;
  room = stays_refl (disk.room store);
  spent = inl refl;
  unfailing = λ some. refl;
}

-- reads are calls that do nothing and ask nothing
pub changed_kept : {D : Type 0} {disk : Ghosts D} {step : Files → Files → Type 0} {much : Room} {old new : D}
    → ((c : Files) → step c c) → Kept disk old new → Changed disk step much old new
changed_kept {disk = disk} {step = step} {much = much} {old = old} {new = new} same f = record {
  tells = f.same_tells;
  model = f.same_model;
  reads = λ told. subst (step (disk.reads old)) (sym f.same_reads) (same (disk.reads old));
  images = wider (λ d c stays. subst (step d) (sym stays) (same d)) f.same_images;
  later = record {
    files = omega (arith, f.same_absent);
    bytes = omega (arith, f.same_bytes);
    calls = omega (arith, f.same_calls);
  };
  files = λ told. omega (arith, f.same_absent);
  bytes = omega (arith, f.same_bytes);
  calls = omega (arith, f.same_calls);
  room = stays_same (disk.room old) (disk.room new) f.same_room;
  spent = inl f.same_faults;
  unfailing = f.unfailing;
}

-- a sync, or any calls that do nothing, after others
pub changed_then_stays : {D : Type 0} {disk : Ghosts D} {step : Files → Files → Type 0} {one two much : Room}
    {old mid new : D}
    → IsWithin (together one two) much → Changed disk step one old mid → Changed disk StaysStep two mid new
    → Changed disk step much old new
changed_then_stays {step = step} fits f g =
    changed_turn (λ d c s. s) (λ d e c s same. subst (step d) (sym same) s) fits f g
