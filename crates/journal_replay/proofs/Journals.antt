-- A fold of records as they are read.
use Rattle.journal_replay.proofs.Common.{◌≡◌, ℕ, List, [], ◌∷◌, ◌++◌, map, Option, Some, None, Ok, Err, refl, sym, ap}
use Rattle.journal_replay.proofs.Common.{subst, ◌∙◌, arith, inl, Result, AllByRecursion, option_or, Ghosts, IsReading}
use Rattle.journal_replay.proofs.Common.{IsLater, Goes, contents, last_record, reader_form, NoFault, Base, Damaged}
use Rattle.journal_replay.proofs.Common.{JournalFault, Reader, Shut, form_of, Contents, body_at, log_of, form_known}
use Rattle.journal_replay.proofs.Common.{Begins, BeginsBy, Saved, LeadIn, new_project, version_of, IsValidTagged}
use Rattle.journal_replay.proofs.Common.{saved_of, HasLayoutNumbers, IsBrought, Project, base_by, base_of, points_fault}
use Rattle.journal_replay.proofs.Common.{first_fault_in, DrawsFew, ReadsOn}
use Rattle.project_journal.specs.{declared.records.Next.TheVariants.Early}
use Rattle.project_journal.proofs.{Begun.continued}
use Rattle.journal_replay.specs.Folds.{FoldsOne, FoldsStored, Leads}
use Rattle.journal_replay.specs.{Faults.journal_fault}
use Rattle.journal_replay.proofs.Stepping.{came_none, came_more, came_all, came_fault, valid_next, IsStep, SoFar}
use Rattle.journal_replay.proofs.{Based.brought_valid, Few.few_done}
use Rattle.project_journal.specs.declared.fault.JournalFault.TheVariants as journal

-- what a header brings does not look at the records
begins_other : (a b : Contents) (k : Saved) → a.points ≡ b.points → a.base ≡ b.base → a.depth ≡ b.depth
    → a.block_size ≡ b.block_size → Begins (log_of a) k → Begins (log_of b) k
begins_other a b k points base depth size is = by_points a.points points is
  where
    by_points : (ps : List (List ℕ)) → ps ≡ b.points → BeginsBy ps (log_of a) k → Begins (log_of b) k
    by_points [] same begins =
        subst (λ (ps : List (List ℕ)). BeginsBy ps (log_of b) k) same (begins ∙ ap new_project depth)
    by_points (p ∷ ps) same begins = subst (λ (qs : List (List ℕ)). BeginsBy qs (log_of b) k) same (record {
      points = sym points ∙ begins.points;
      cursor = begins.cursor ∙ ap (λ (x : Base). x.cursor) base;
      depth = begins.depth ∙ depth;
      next_block = begins.next_block ∙ ap (λ (x : Base). x.next_block) base;
      next_track = begins.next_track ∙ ap (λ (x : Base). x.next_track) base;
      commit = begins.commit ∙ ap (λ (x : Base). x.commit) base;
      valid = subst (λ (m : ℕ). AllByRecursion (IsValidTagged m k.next_block k.next_track k.commit) k.history.points)
          size begins.valid;
      unnumbered = begins.unnumbered;
    })

-- how many bytes a header of this version has before its points
abbrev size_of : ℕ → ℕ
size_of version = (form_of version 0).header_size

-- the version of its form
abbrev pub version_at : ℕ → ℕ
version_at version = version_of (form_of version 0)

-- what is found of points and records does not depend on who says the numbers
record Agrees (points : List (List ℕ)) (records : List (ℕ × List ℕ)) (o : Option Damaged) (m : ℕ) (b : Base) (depth : ℕ)
    (version : ℕ) : Type 0 where
  none : points_fault m b (size_of version) points ≡ None
  fault : first_fault_in (version_at version) m (base_by points depth b) records ≡ o

agrees_as : (points : List (List ℕ)) (records : List (ℕ × List ℕ)) (o : Option Damaged) (m n : ℕ) (b c : Base)
    (d e v w : ℕ) → m ≡ n → b ≡ c → d ≡ e → v ≡ w → Agrees points records o m b d v → Agrees points records o n c e w
agrees_as points records o m n b c d e v w p q r s =
    λ a. subst (Agrees points records o n c e) s (subst (λ (x : ℕ). Agrees points records o n c x v) r
    (subst (λ (x : Base). Agrees points records o n x d v) q (subst (λ (x : ℕ). Agrees points records o x b d v) p a)))

-- a journal whose points have no fault has that of its records, or ends early
fault_is : (m version : ℕ) (j : Contents) (o : Option Damaged)
    → Agrees j.points j.records o j.block_size j.base j.depth version
    → journal_fault (form_of version 0) j ≡ option_or o j.early
fault_is m version j o a =
    ap (λ (x : Option Damaged). option_or x
    (option_or (first_fault_in (version_at version) j.block_size (base_of j) j.records) j.early)) a.none
    ∙ ap (λ (x : Option Damaged). option_or x j.early) a.fault

-- one record more
pub step_of : (version v m : ℕ) (now next : Saved) (file : ℕ) (r : ℕ × List ℕ) → version ≡ v
    → FoldsOne {T = Unit {0}} version m now file r next (Ok tt) → IsStep v m now r next
step_of version v m now next file r same one =
    let here = subst (λ (k : ℕ). FoldsOne {T = Unit {0}} k m now file r next (Ok tt)) same one in
    record { none = here.0; one = here.1; is = here.2 }

pub fault_of : (version v m : ℕ) (now next : Saved) (file : ℕ) (r : ℕ × List ℕ) (e : JournalFault) → version ≡ v
    → FoldsOne {T = Unit {0}} version m now file r next (Err e) → FoldsOne {T = Unit {0}} v m now file r next (Err e)
fault_of version v m now next file r e same one =
    subst (λ (k : ℕ). FoldsOne {T = Unit {0}} k m now file r next (Err e)) same one

module _ {D : Type 0} (disk : Ghosts D) where
  pub so_none : (store : D) (reader : Reader) (version m : ℕ) (now : Saved) → m ≡ reader.block_size
      → (brought : IsBrought disk store m reader now) → SoFar disk store reader version m brought.points now now
  so_none store reader version m now size brought = record {
    records = [];
    reading = brought.reading;
    came = came_none version m now now refl;
    valid = brought_valid disk store m reader now brought size;
  }

  -- The records that were read, after a header that brings a project, were folded into that.
  pub record FoldedSoFar (begun : D) (start : Reader) (store : D) (reader : Reader) (version m : ℕ) (first now : Saved)
      : Type 0 where
    pub brought : IsBrought disk begun m start first
    pub so : SoFar disk store reader version m brought.points first now

  -- one record more was read, and folded
  pub so_more : (store new : D) (old reader : Reader) (version m : ℕ) (points : List (List ℕ)) (first now next : Saved)
      → (so : SoFar disk store old version m points first now)
      → IsReading disk new reader points (so.records ++ last_record reader ∷ [])
      → IsStep version m now (last_record reader) next → SoFar disk new reader version m points first next
  so_more store new old reader version m points first now next so reading step = record {
    records = so.records ++ last_record reader ∷ [];
    reading = reading;
    came = came_more version m first now next so.records (last_record reader) so.came step;
    valid = valid_next version m now next (last_record reader) step so.valid;
  }

  module _ (begun : D) (start : Reader) (m : ℕ) (first : Saved) (brought : IsBrought disk begun m start first)
      (size : m ≡ start.block_size) (new : D) (reader : Reader) (later : IsLater start reader) where
    abbrev points : List (List ℕ)
    points = brought.points

    -- that of the journal
    abbrev version : ℕ
    version = version_of (reader_form start)

    same_version : version_of (reader_form start) ≡ version_of (reader_form reader)
    same_version = sym (ap version_at later.version)

    -- the records that were folded, in the numbers of the reader
    found : (records : List (ℕ × List ℕ)) (o : Option Damaged)
        → first_fault_in version m first records ≡ o
        → Agrees points records o reader.block_size reader.base reader.depth reader.version
    found records o fault = agrees_as points records o m reader.block_size start.base reader.base start.depth reader.depth
        start.version reader.version (size ∙ sym later.block_size) (sym later.base) (sym later.depth)
        (sym later.version)
        (record {
          none = brought.none;
          fault = ap (λ (k : Saved). first_fault_in version m k records) (sym brought.is) ∙ fault;
        })

    base_is : first ≡ base_by points reader.depth reader.base
    base_is = brought.is ∙ ap (λ (d : ℕ). base_by points d start.base) (sym later.depth)
        ∙ ap (base_by points reader.depth) (sym later.base)

    -- the records end at a gate that is 0
    pub so_done : (store : D) (old : Reader) (p : Project) → (so : SoFar disk store old version m points first (saved_of p))
        → HasLayoutNumbers p → DrawsFew p.numbered.next old → IsLater old reader
        → Goes disk new reader points so.records Shut → Leads disk new reader p
    so_done store old p so numbers few on stored =
        let j = contents reader points so.records None in
        let all = came_all version m first (saved_of p) so.records so.came in
        let v = version_of (reader_form reader) in
        let led : LeadIn v reader.block_size first (map body_at so.records) (saved_of p) =
        subst (λ (n : ℕ). LeadIn n reader.block_size first (map body_at so.records) (saved_of p)) same_version
        (subst (λ (k : ℕ). LeadIn version k first (map body_at so.records) (saved_of p))
        (size ∙ sym later.block_size) all.1) in
        record {
          journal = j;
          stored = stored;
          rate = refl;
          block_size = refl;
          base = refl;
          end = refl;
          fault = fault_is m reader.version j None (found so.records None all.0);
          early = refl;
          begins = subst (Begins (log_of j)) base_is (begins_other (contents start points [] None) j first refl
              (sym later.base) (sym later.depth) (sym later.block_size) brought.begins);
          leads = subst (λ (k : Saved). LeadIn v reader.block_size k (map body_at so.records) (saved_of p)) base_is led;
          numbers = numbers;
          few = few_done disk store new old reader points so.records p.numbered.next on so.reading stored few;
        }

    -- or with the file
    pub so_early : (store : D) (old : Reader) (now : Saved) (d : Damaged) → (so : SoFar disk store old version m points first now)
        → Goes disk new reader points so.records (Early d)
        → FoldsStored disk new reader (Err (journal.Damaged reader.window.file d.at d.want d.have))
    so_early store old now d so stored = (
      contents reader points so.records (Some d),
      stored,
      refl,
      fault_is m reader.version (contents reader points so.records (Some d)) None
          (found so.records None (came_all version m first now so.records so.came).0),
    )

    -- or a record has a fault
    pub so_fault : (store : D) (old : Reader) (now next : Saved) (e : JournalFault)
        → (so : SoFar disk store old version m points first now)
        → IsReading disk new reader points (so.records ++ last_record reader ∷ [])
        → FoldsOne {T = Unit {0}} version m now reader.window.file (last_record reader) next (Err e)
        → FoldsStored disk new reader (Err e)
    so_fault store old now next journal.DiskFault so reading one = tt
    so_fault store old now next journal.NoMemory so reading one = tt
    so_fault store old now next journal.Absent so reading one = one
    so_fault store old now next journal.Exists so reading one = one
    so_fault store old now next (journal.SpaceSpent have need) so reading one = one
    so_fault store old now next (journal.Damaged file at want have) so reading one =
        let d : Damaged = record { at = at; want = want; have = have } in
        let r = last_record reader in
        let all = continued (reader_form reader) reading.bytes (contents reader points (so.records ++ r ∷ []) None)
        reading.begun in
        let j = all.whole in
        let fault : first_fault_in version m first ((so.records ++ r ∷ []) ++ all.more) ≡ Some d =
        came_fault version m first now so.records all.more r d so.came one.1 in
        let here : Agrees points ((so.records ++ r ∷ []) ++ all.more) (Some d) j.block_size j.base j.depth reader.version =
        agrees_as points ((so.records ++ r ∷ []) ++ all.more) (Some d) reader.block_size j.block_size reader.base j.base
        reader.depth j.depth reader.version reader.version (sym all.numbers.block_size) (sym all.numbers.base)
        (sym all.numbers.depth) refl
        (found ((so.records ++ r ∷ []) ++ all.more) (Some d) fault) in
        let told : Agrees j.points j.records (Some d) j.block_size j.base j.depth reader.version =
        subst (λ (ps : List (List ℕ)). Agrees ps j.records (Some d) j.block_size j.base j.depth reader.version)
        (sym all.points)
        (subst (λ (rs : List (ℕ × List ℕ)). Agrees points rs (Some d) j.block_size j.base j.depth reader.version)
        (sym all.records) here) in (
          j,
          record {
            known = form_known reader.version reader.window.file;
            among = reading.among;
            bytes = reading.bytes;
            few = reading.few;
            read = inl all.is;
            told = λ tells. let t = reading.told tells in (t.same, t.project);
          },
          one.0,
          fault_is m reader.version j (Some d) told,
        )

  -- calls that counted no fault
  pub none_here : (store : D) → NoFault disk store store
  none_here store = record { same_read_faults = refl; same_change_faults = refl }

  pub none_turn : (old mid new : D) → NoFault disk old mid → NoFault disk mid new → NoFault disk old new
  none_turn old mid new f g = record {
    same_read_faults = g.same_read_faults ∙ f.same_read_faults;
    same_change_faults = g.same_change_faults ∙ f.same_change_faults;
  }

-- a reader that read on
pub later_none : (r : Reader) → IsLater r r
later_none r = record {
  file = refl;
  version = refl;
  base = refl;
  rate = refl;
  block_size = refl;
  depth = refl;
  size = omega arith;
}

pub later_turn : (a b c : Reader) → IsLater a b → IsLater b c → IsLater a c
later_turn a b c f g = record {
  file = g.file ∙ f.file;
  version = g.version ∙ f.version;
  base = g.base ∙ f.base;
  rate = g.rate ∙ f.rate;
  block_size = g.block_size ∙ f.block_size;
  depth = g.depth ∙ f.depth;
  size = omega (arith, f.size, g.size);
}

-- whatever was found, of the same journal
pub later_on : {T : Type 0} (a b : Reader) (r : Result T JournalFault) → IsLater a b → ReadsOn a b r
later_on a b (Ok x) later = later
later_on a b (Err (journal.Damaged file at want have)) later = later
later_on a b (Err journal.DiskFault) later = tt
later_on a b (Err journal.NoMemory) later = tt
later_on a b (Err journal.Absent) later = tt
later_on a b (Err journal.Exists) later = tt
later_on a b (Err (journal.SpaceSpent have need)) later = tt
