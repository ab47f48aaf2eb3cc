-- Blocks of a studio that are read one after another.
use Rattle.editor_recovery.proofs.Common.{◌≡◌, ◌∙◌, refl, sym, ap, subst, ℕ, zero, suc, ◌+◌, ◌≤◌, ◌<◌, ℤ, inl, inr}
use Rattle.editor_recovery.proofs.Common.{List, [], ◌∷◌, length, take, get_or, Some, None, Result, Ok, Err, arith}
use Rattle.editor_recovery.proofs.Common.{All-contains, All-contains_itself, All-from_recursion, All-get_or}
use Rattle.editor_recovery.proofs.Common.{recursion_from_All, cases_Bool, ltb-false, ltb-true, length-map, Contains}
use Rattle.editor_recovery.proofs.Common.{IfOk, nat_lt, All, AllByRecursion, BlockRef, Files, Kept, Ghosts}
use Rattle.editor_recovery.proofs.Common.{kept_none, kept_turn, blocks, IsWhole, BlockFault, history_blocks}
use Rattle.editor_recovery.proofs.Common.{some_is, Core, IsHeld, IsStudio, ids_of, AreListed, HaveOneLength, OpenFault}
use Rattle.editor_recovery.proofs.Common.{ChecksStudio, IsTrue}
use Rattle.disk_model.proofs.Frames.{tells_on, Fewer}
use Rattle.sample_block.specs.{Sources.AllWhole}
use Rattle.editor_views.specs.Scans.{BlockScanned, ScansBlock}
use Rattle.editor_state.proofs.Calls.SameStores.{rests_held, rests_keeps, rests_studio}
use Rattle.editor_recovery.specs.Checking.{AllScanned, ChecksAll, IsCountOf, ScansAll}
use Rattle.editor_recovery.proofs.Counted.{no_fault}
use Rattle.editor_recovery.proofs.CheckAnswers.{Tells, before, cause_told, id_there, known, of_id, valid_told}

-- these blocks are whole, and nothing changed
pub record SoFar {D : Type 0} (disk : Ghosts D) (old : Core D) (bs : List BlockRef) (now : Core D) : Type 0 where
  pub same : now ≡ record old { store = now.store }
  pub kept : Kept disk old.store now.store
  pub counted : disk.read_fault_count now.store ≡ disk.read_fault_count old.store
  pub whole : IsTrue (disk.tells old.store) → AllWhole (disk.reads old.store) bs

-- one more of a list
all_more : (P : BlockRef → Type 0) (bs : List BlockRef) (i : ℕ) (d : BlockRef) → i < length bs → P (get_or bs i d)
    → AllByRecursion P (take i bs) → AllByRecursion P (take (suc i) bs)
all_more P [] i d lt here all = absurd (omega (arith, lt))
all_more P (x ∷ bs) zero d lt here all = (here, tt)
all_more P (x ∷ bs) (suc i) d lt here all = (all.0, all_more P bs i d (omega (arith, lt)) here all.1)

one_default : (bs : List BlockRef) (i : ℕ) (c d : BlockRef) → i < length bs → get_or bs i c ≡ get_or bs i d
one_default [] i c d lt = absurd (omega (arith, lt))
one_default (x ∷ bs) zero c d lt = refl
one_default (x ∷ bs) (suc i) c d lt = one_default bs i c d (omega (arith, lt))

module _ {D : Type 0} (disk : Ghosts D) (old : Core D) (is : IsStudio disk old) (going : old.stopped ≡ None) where
  pub far_none : Fewer disk old.store → SoFar disk old [] old
  far_none fewer = record { same = refl; kept = kept_none old.store fewer; counted = refl; whole = λ tells. tt }

  module _ (bs : List BlockRef) (now : Core D) (far : SoFar disk old bs now) where
    pub far_studio : IsStudio disk now
    far_studio = rw far.same (rests_studio disk old is now.store far.kept)

    far_held : IsHeld disk old → IsHeld disk now
    far_held held = rw far.same (rests_held disk old is now.store far.kept held)

    pub far_named : (all : List BlockRef) (i : ℕ) (d : BlockRef) → All (Contains (history_blocks old.history)) all
        → i < length all
        → Contains (history_blocks now.history) (get_or all i d)
    far_named all i d named lt = rw far.same (All-get_or (Contains (history_blocks old.history)) all i d lt named)

    -- a turn that changed nothing
    far_same : (next : Core D) → next ≡ record now { store = next.store } → next ≡ record old { store = next.store }
    far_same next e = e ∙ ap (λ (s : Core D). record s { store = next.store }) far.same

    pub far_all : {T : Type 0} (done : T) → ScansAll disk old bs (Ok done) now
    far_all done = record {
      scanned = far.whole;
      counted = far.counted;
      valid = λ held. tt;
      same = far.same;
      kept = far.kept;
      studio = far_studio;
      held = far_held;
      any_moment = λ held. rests_keeps disk old is now.store far.kept going held;
    }

  module _ (all : List BlockRef) (i : ℕ) (lt : i < length all) (now : Core D) (far : SoFar disk old (take i all) now)
      (d : BlockRef) (next : Core D) where
    abbrev b : BlockRef
    b = get_or all i d

    told : {T : Type 0} (r : Result T BlockFault) → ScansBlock disk now b r next → IsTrue (disk.tells old.store)
        → BlockScanned (disk.reads old.store) b r
    told r scans tells = rw far.kept.same_reads at (scans.scanned (tells_on far.kept tells))

    -- one block more is whole
    pub far_more : {T : Type 0} (done : T) → ScansBlock disk now b (Ok done) next
        → SoFar disk old (take (i + 1) all) next
    far_more done scans =
        let e : suc i ≡ i + 1 = omega arith in
        record {
          same = far_same (take i all) now far next scans.same;
          kept = kept_turn far.kept scans.kept;
          counted = scans.counted ∙ far.counted;
          whole = λ tells. subst (λ (n : ℕ). AllWhole (disk.reads old.store) (take n all)) e
              (all_more (IsWhole (disk.reads old.store)) all i d lt (told (Ok done) scans tells) (far.whole tells));
        }

    -- or it is not
    pub far_ends : {T : Type 0} (why : BlockFault) → ScansBlock {T = Unit {0}} disk now b (Err why) next
        → ScansAll {T = T} disk old all (Err why) next
    far_ends {T = T} why scans =
        let kept = kept_turn far.kept scans.kept in
        let same = far_same (take i all) now far next scans.same in
        let here : get_or all i b ≡ b = one_default all i b d lt in
        record {
          scanned = λ tells. (i, b, lt, here, far.whole tells, told (Err why) scans tells);
          counted = rw far.counted at scans.counted;
          valid = λ held. scans.valid (far_held (take i all) now far held);
          same = same;
          kept = kept;
          studio = rw same (rests_studio disk old is next.store kept);
          held = λ held. rw same (rests_held disk old is next.store kept held);
          any_moment = λ held. rests_keeps disk old is next.store kept going held;
        }

-- ---- all the blocks that points name

module _ {D : Type 0} (disk : Ghosts D) (old : Core D) (listed : List BlockRef)
    (are : AreListed (history_blocks old.history) listed) where
  abbrev bs : List BlockRef
  bs = history_blocks old.history

  pub all_named : All (Contains bs) listed
  all_named k d lt = (are.same (get_or listed k d)).0 (All-contains_itself listed k d lt)

  -- as many ids as the list has, where none has two lengths
  one_count : (n : ℕ) → n ≡ length listed → HaveOneLength bs → IsCountOf bs n
  one_count n is one = (
    ids_of listed,
    record {
      rising = are.once one;
      each = λ id. (
        λ has. let b = of_id listed id has in subst (Contains (ids_of bs)) b.2 (id_there bs b.0 ((are.same b.0).0 b.1)),
        λ has. let b = of_id bs id has in subst (Contains (ids_of listed)) b.2
            (id_there listed b.0 ((are.same b.0).1 b.1)),
      );
    },
    is ∙ sym (length-map listed (λ (b : BlockRef). b.id)),
  )

  -- whole blocks have one length for each id
  one_whole : (files : Files) → AllWhole files bs → HaveOneLength bs
  one_whole files whole a b ha hb same =
      let at : (x : BlockRef) → Contains bs x
      → IsWhole files x = λ x h. All-contains (IsWhole files) bs x (All-from_recursion (IsWhole files) bs whole) h in
      let wa = at a ha in
      let wb = at b hb in
      let e : Some wa.0 ≡ Some wb.0 = sym wa.1 ∙ ap (blocks files) same ∙ wb.1 in
      sym wa.2 ∙ ap (λ (xs : List ℤ). length xs) (some_is wa.0 wb.0 e) ∙ wb.2

  whole_all : (files : Files) → AllWhole files listed → AllWhole files bs
  whole_all files whole = recursion_from_All (IsWhole files) bs (λ k d lt.
      let b = get_or bs k d in
      All-contains (IsWhole files) listed b (All-from_recursion (IsWhole files) listed whole)
      ((are.same b).1 (All-contains_itself bs k d lt)))

  -- a block of a lower id stands before
  lower_whole : (files : Files) (k : ℕ) (b other : BlockRef) → k < length listed → get_or listed k b ≡ b
      → AllWhole files (take k listed)
      → Contains bs other → other.id < b.id → IsWhole files other
  lower_whole files k b other lt here whole has low =
      let there = (are.same other).1 has in
      let j = there.0 in
      let at : get_or listed j other ≡ other = there.2 in
      let jb : get_or listed j b ≡ other = one_default listed j b other there.1 ∙ at in
      elim (cases_Bool (nat_lt j k)) [
        | inl t ↦ before (IsWhole files) listed k j other (ltb-true j k t) there.1 at whole
        | inr f ↦
            let le = ltb-false j k f in
            let up : (get_or listed k b).id ≤ (get_or listed j b).id = are.rising k j b le there.1 in
            absurd (omega (arith, rw (here, jb) at up, low))
      ]

  checks_all : {T : Type 0} (files : Files) (r : Result T BlockFault) (told : Result ℕ OpenFault)
      → AllScanned files listed r
      → Tells r (length listed) told → ChecksAll files bs told
  checks_all files (Ok done) told scanned is =
      let whole = whole_all files scanned in
      rw is (whole, one_count (length listed) refl (one_whole files whole))
  checks_all files (Err BlockFault.DiskFault) told scanned is = rw is tt
  checks_all files (Err (BlockFault.Damaged file found)) told scanned is =
      let k = scanned.0 in
      let b = scanned.1 in
      rw is (record {
        block = b;
        named = (are.same b).0 (k, scanned.2, scanned.3);
        differs = scanned.5;
        lower = λ other has low. lower_whole files k b other scanned.2 scanned.3 scanned.4 has low;
      })

  counts_all : {T : Type 0} (r : Result T BlockFault) (told : Result ℕ OpenFault) → Tells r (length listed) told
      → HaveOneLength bs → IfOk told (IsCountOf bs)
  counts_all (Ok done) told is one = rw is (one_count (length listed) refl one)
  counts_all (Err why) told is one = rw is tt

  pub checks_studio : {T : Type 0} (r : Result T BlockFault) (told : Result ℕ OpenFault) (new : Core D)
      → Tells r (length listed) told
      → ScansAll disk old listed r new → ChecksStudio disk old told new
  checks_studio r told new is scans = record {
    tests = λ tells. checks_all (disk.reads old.store) r told (scans.scanned tells) is;
    faults = known r told (length listed) is;
    count = counts_all r told is;
    valid = λ held. valid_told r told (length listed) is (scans.valid held);
    cause = cause_told disk old.store new.store r told (length listed) is scans.kept scans.counted;
    same = scans.same;
    kept = scans.kept;
    studio = scans.studio;
    held = scans.held;
    any_moment = scans.any_moment;
  }

-- there was no memory for the list
pub checks_none : {D : Type 0} (disk : Ghosts D) (old : Core D) → IsStudio disk old → old.stopped ≡ None
    → Fewer disk old.store
    → ChecksStudio disk old (Err OpenFault.NoMemory) old
checks_none disk old is going fewer =
    let kept = kept_none old.store fewer in
    record {
      tests = λ tells. tt;
      faults = tt;
      count = λ one. tt;
      valid = λ held. tt;
      cause = no_fault disk old.store;
      same = refl;
      kept = kept;
      studio = is;
      held = λ held. held;
      any_moment = λ held. rests_keeps disk old is old.store kept going held;
    }
