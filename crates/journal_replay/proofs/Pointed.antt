-- The points of a header as they are read.
use Rattle.journal_replay.proofs.Common.{◌≡◌, ℕ, ◌+◌, ◌<◌, ◌≤◌, List, [], ◌∷◌, ◌++◌, length, map, Option, Some, None}
use Rattle.journal_replay.proofs.Common.{Ok, Err, inl, inr, Result, refl, sym, ap, subst, ◌∙◌, arith, append_assoc}
use Rattle.journal_replay.proofs.Common.{length-append, append-nil, length-map, AllByRecursion, option_or, Ghosts}
use Rattle.journal_replay.proofs.Common.{History, IsHeading, IsLater, contents, last_record, reader_form, Base, Damaged}
use Rattle.journal_replay.proofs.Common.{JournalFault, Reader, first_failed, form_of, points_size, HasBase, form_known}
use Rattle.journal_replay.proofs.Common.{Track, point_bytes, version_of, point_at, IsValidTagged, HasPoints, MetOne}
use Rattle.journal_replay.proofs.Common.{ReadsOn, TellsPoint, base_of, point_before, points_fault, first_fault_in}
use Rattle.std.proofs.lemmas.List.{map-append}
use Rattle.project_journal.specs.{Header.IsFormat}
use Rattle.project_journal.proofs.Headed.{headed_base, headed_counts, headed_end, headed_format}
use Rattle.project_journal.proofs.{AnyFormats.HasCounts, Readings.heading_stored, Readings.last_long}
use Rattle.record_body.specs.{PointTests.point_tests}
use Rattle.journal_replay.specs.Heads.{BringsPoints, FailsPoint, HasFault, ReadsPoint, TakesPoint, last_tests}
use Rattle.project_journal.specs.declared.fault.JournalFault.TheVariants as journal

-- what a reader met, and what it says
pub takes : {D : Type 0} (disk : Ghosts D) (store : D) (m : ℕ) (r : Reader) (points : List (List ℕ))
    (result : Result (List Track × ℕ) JournalFault) → MetOne disk store r points → ReadsPoint m r result
    → TakesPoint disk store m r points result
takes disk store m r points (Ok p) met reads = (met, reads)
takes disk store m r points (Err (journal.Damaged file at want have)) met reads = (reads.0, inr (met, reads.1))
takes disk store m r points (Err journal.DiskFault) met reads = tt
takes disk store m r points (Err journal.NoMemory) met reads = tt
takes disk store m r points (Err journal.Absent) met reads = reads
takes disk store m r points (Err journal.Exists) met reads = reads
takes disk store m r points (Err (journal.SpaceSpent have need)) met reads = reads

pub size_more : (points : List (List ℕ)) (point : List ℕ)
    → points_size (points ++ point ∷ []) ≡ points_size points + (4 + length point)
size_more [] point = omega arith
size_more (p ∷ ps) point = omega (arith, size_more ps point)

-- where a reader stands among the points
pub heading_at : {D : Type 0} (disk : Ghosts D) (store : D) (r : Reader) (points : List (List ℕ))
    → IsHeading disk store r points → r.at ≡ (reader_form r).header_size + points_size points
heading_at disk store r points is = headed_end (reader_form r) is.bytes (contents r points [] None) is.headed

-- How far the points were read: none of them has a fault.
pub record PointsSoFar {D : Type 0} (disk : Ghosts D) (store : D) (r : Reader) (m size : ℕ) (b : Base)
    (ps : List (List Track × ℕ)) : Type 0 where
  pub points : List (List ℕ)
  pub heading : IsHeading disk store r points
  pub header : (reader_form r).header_size ≡ size
  pub base : r.base ≡ b
  pub told : ps ≡ map point_at points
  pub spelled : points ≡ map point_bytes ps
  pub valid : AllByRecursion (IsValidTagged m b.next_block b.next_track b.commit) ps
  pub left : (more : List (List ℕ))
      → points_fault m b size (points ++ more) ≡ points_fault m b (size + points_size points) more

pub points_none : {D : Type 0} (disk : Ghosts D) (store : D) (r : Reader) (m : ℕ) → IsHeading disk store r []
    → PointsSoFar disk store r m (reader_form r).header_size r.base []
points_none disk store r m is = record {
  points = [];
  heading = is;
  header = refl;
  base = refl;
  told = refl;
  spelled = refl;
  valid = tt;
  left = λ more.
      let size = (reader_form r).header_size in
      ap (λ (n : ℕ). points_fault m r.base n more) (let n : size ≡ size + 0 = omega arith in n);
}

valid_more : (P : List Track × ℕ → Type 0) (ps : List (List Track × ℕ)) (p : List Track × ℕ) → AllByRecursion P ps → P p
    → AllByRecursion P (ps ++ p ∷ [])
valid_more P [] p all one = (one, tt)
valid_more P (x ∷ ps) p all one = (all.0, valid_more P ps p all.1 one)

-- the place of the point that was met
met_at : {D : Type 0} (disk : Ghosts D) (store : D) (r : Reader) (points : List (List ℕ)) → MetOne disk store r points
    → (last_record r).0 ≡ (reader_form r).header_size + points_size points + 4
met_at disk store r points met =
    let at = heading_at disk store r (points ++ (last_record r).1 ∷ []) met in
    omega (arith, at, size_more points (last_record r).1, last_long r met.placed)

last_as : (m : ℕ) (r : Reader) (at : ℕ) (b : Base) → (last_record r).0 ≡ at → r.base ≡ b
    → last_tests m r ≡ point_tests m (point_before b at) (last_record r).1
last_as m r at b place base =
    ap (λ (x : Base). point_tests m (point_before x (last_record r).0) (last_record r).1) base
    ∙ ap (λ (n : ℕ). point_tests m (point_before b n) (last_record r).1) place

module _ {D : Type 0} (disk : Ghosts D) (old new : D) (was r : Reader) (m size : ℕ) (b : Base)
    (ps : List (List Track × ℕ)) (so : PointsSoFar disk old was m size b ps) (later : IsLater was r) where
  abbrev points : List (List ℕ)
  points = so.points

  header : (reader_form r).header_size ≡ size
  header = ap (λ (v : ℕ). (form_of v 0).header_size) later.version ∙ so.header

  base : r.base ≡ b
  base = later.base ∙ so.base

  place : MetOne disk new r points → (last_record r).0 ≡ size + points_size points + 4
  place met = met_at disk new r points met ∙ ap (λ (n : ℕ). n + points_size points + 4) header

  tests_are : (met : MetOne disk new r points)
      → last_tests m r ≡ point_tests m (point_before b (size + points_size points + 4)) (last_record r).1
  tests_are met = last_as m r (size + points_size points + 4) b (place met) base

  -- one more, without a fault
  pub points_more : (p : List Track × ℕ) → MetOne disk new r points → TellsPoint m r p
      → PointsSoFar disk new r m size b (ps ++ p ∷ [])
  points_more p met tells =
      let x = (last_record r).1 in
      record {
        points = points ++ x ∷ [];
        heading = met;
        header = header;
        base = base;
        told = ap (λ (l : List (List Track × ℕ)). l ++ p ∷ []) so.told
            ∙ ap (λ (y : List Track × ℕ). map point_at points ++ y ∷ []) tells.is
            ∙ sym (map-append point_at points (x ∷ []));
        spelled = ap (λ (l : List (List ℕ)). l ++ x ∷ []) so.spelled
            ∙ ap (λ (y : List ℕ). map point_bytes ps ++ y ∷ []) (sym tells.spelled)
            ∙ sym (map-append point_bytes ps (p ∷ []));
        valid = valid_more (IsValidTagged m b.next_block b.next_track b.commit) ps p so.valid
            (subst (λ (c : Base). IsValidTagged m c.next_block c.next_track c.commit p) base tells.valid);
        left = λ more.
            ap (points_fault m b size) (append_assoc points (x ∷ []) more) ∙ so.left (x ∷ more)
            ∙ ap (λ (o : Option Damaged). option_or o (points_fault m b (size + points_size points + 4 + length x) more))
            (ap first_failed (sym (tests_are met)) ∙ tells.none)
            ∙ ap (λ (n : ℕ). points_fault m b n more)
            (let n : size + points_size points + 4 + length x ≡ size + points_size (points ++ x ∷ []) =
            omega (arith, size_more points x) in n);
      }

  -- or it has one, and that is the journal's
  pub points_fail : (file : ℕ) (d : Damaged) → m ≡ r.block_size → length points < r.base.count → file ≡ r.window.file
      → FailsPoint disk new m r points d → HasFault disk new (reader_form r) file d
  points_fail file d size_is fewer same (inl cut) =
      let none : points_fault r.block_size r.base (reader_form r).header_size points ≡ None = none_here in (
        contents r points [] (Some d),
        cut,
        same,
        ap (λ (o : Option Damaged). option_or o (Some d)) none,
      )
    where
      none_here : points_fault r.block_size r.base (reader_form r).header_size points ≡ None
      none_here =
          ap (λ (n : ℕ). points_fault n r.base (reader_form r).header_size points) (sym size_is)
          ∙ ap (λ (c : Base). points_fault m c (reader_form r).header_size points) base
          ∙ ap (λ (n : ℕ). points_fault m b n points) header
          ∙ ap (points_fault m b size) (sym (append-nil points)) ∙ so.left []
  points_fail file d size_is fewer same (inr bad) =
      let x = (last_record r).1 in
      let on = heading_stored disk new r (points ++ x ∷ []) bad.0
      (omega (arith, fewer, length-append points (x ∷ []))) in
      let j = on.whole in
      let fails : first_failed (point_tests m (point_before b (size + points_size points + 4)) x) ≡ Some d =
      ap first_failed (sym (tests_are bad.0)) ∙ bad.1 in
      let there : points_fault m b size ((points ++ x ∷ []) ++ on.more) ≡ Some d =
      ap (points_fault m b size) (append_assoc points (x ∷ []) on.more) ∙ so.left (x ∷ on.more)
      ∙ ap (λ (o : Option Damaged). option_or o (points_fault m b (size + points_size points + 4 + length x) on.more))
      fails in
      let told : points_fault j.block_size j.base (reader_form r).header_size j.points ≡ Some d =
      ap (λ (n : ℕ). points_fault n j.base (reader_form r).header_size j.points) (on.block_size ∙ sym size_is)
      ∙ ap (λ (c : Base). points_fault m c (reader_form r).header_size j.points) (on.base ∙ base)
      ∙ ap (λ (n : ℕ). points_fault m b n j.points) header ∙ ap (points_fault m b size) on.points_are ∙ there in (
        j,
        on.stored,
        same,
        ap (λ (o : Option Damaged). option_or o
            (option_or (first_fault_in (version_of (reader_form r)) j.block_size (base_of j) j.records) j.early)) told,
      )

-- what comes of a point that was not read
pub points_err : {D : Type 0} (disk : Ghosts D) (old new : D) (was r : Reader) (m size : ℕ) (b : Base)
    (ps : List (List Track × ℕ)) (so : PointsSoFar disk old was m size b ps) (e : JournalFault) → m ≡ was.block_size
    → length so.points < was.base.count → ReadsOn {T = List Track × ℕ} was r (Err e)
    → TakesPoint disk new m r so.points (Err e) → BringsPoints disk new m r (Err e)
points_err disk old new was r m size b ps so (journal.Damaged file at want have) block_size fewer later takes =
    points_fail disk old new was r m size b ps so later file (record { at = at; want = want; have = have })
    (block_size ∙ sym later.block_size) (omega (arith, fewer, ap (λ (c : Base). c.count) later.base)) takes.0 takes.1
points_err disk old new was r m size b ps so journal.DiskFault block_size fewer later takes = tt
points_err disk old new was r m size b ps so journal.NoMemory block_size fewer later takes = tt
points_err disk old new was r m size b ps so journal.Absent block_size fewer later takes = takes
points_err disk old new was r m size b ps so journal.Exists block_size fewer later takes = takes
points_err disk old new was r m size b ps so (journal.SpaceSpent have need) block_size fewer later takes = takes

-- the same of the first point
pub points_first : {D : Type 0} (disk : Ghosts D) (old new : D) (was r : Reader) (m : ℕ) → IsHeading disk old was []
    → IsLater was r → (p : List Track × ℕ) → MetOne disk new r [] → TellsPoint m r p
    → PointsSoFar disk new r m (reader_form was).header_size was.base (p ∷ [])
unfolding points_none
points_first disk old new was r m is later p met tells =
    points_more disk old new was r m (reader_form was).header_size was.base [] (points_none disk old was m is) later p met
    tells

pub points_err_first : {D : Type 0} (disk : Ghosts D) (old new : D) (was r : Reader) (m : ℕ) → IsHeading disk old was []
    → (e : JournalFault) → m ≡ was.block_size → 1 ≤ was.base.count → ReadsOn {T = List Track × ℕ} was r (Err e)
    → TakesPoint disk new m r [] (Err e) → BringsPoints disk new m r (Err e)
unfolding points_none
points_err_first disk old new was r m is e size some later takes =
    points_err disk old new was r m (reader_form was).header_size was.base [] (points_none disk old was m is) e size
    (omega (arith, some)) later takes

pub points_count : {D : Type 0} (disk : Ghosts D) (store : D) (r : Reader) (m size : ℕ) (b : Base)
    (ps : List (List Track × ℕ)) → (so : PointsSoFar disk store r m size b ps) → length so.points ≡ length ps
points_count disk store r m size b ps so = ap length so.spelled ∙ length-map ps point_bytes

-- all of them
pub points_all : {D : Type 0} (disk : Ghosts D) (store : D) (r : Reader) (m size : ℕ) (b : Base)
    (h : History (List Track)) → PointsSoFar disk store r m size b h.points → length h.points ≡ r.base.count
    → h.cursor ≡ r.base.cursor → h.depth ≡ r.depth → HasPoints disk store m r h
points_all disk store r m size b h so count cursor depth = record {
  points = so.points;
  heading = so.heading;
  all = ap length so.spelled ∙ length-map h.points point_bytes ∙ count;
  none = ap (λ (c : Base). points_fault m c (reader_form r).header_size so.points) so.base
      ∙ ap (λ (n : ℕ). points_fault m b n so.points) so.header
      ∙ ap (points_fault m b size) (sym (append-nil so.points)) ∙ so.left [];
  told = so.told;
  spelled = so.spelled;
  valid = subst (λ (c : Base). AllByRecursion (IsValidTagged m c.next_block c.next_track c.commit) h.points)
      (sym so.base) so.valid;
  cursor = cursor;
  depth = depth;
}

-- the numbers of its header
pub heading_counts : {D : Type 0} (disk : Ghosts D) (store : D) (r : Reader) (points : List (List ℕ))
    → IsHeading disk store r points → HasCounts r.depth r.base
heading_counts disk store r points is = headed_counts (reader_form r) is.bytes (contents r points [] None)
    (form_known r.version r.window.file) is.headed

pub heading_format : {D : Type 0} (disk : Ghosts D) (store : D) (r : Reader) (points : List (List ℕ))
    → IsHeading disk store r points → IsFormat r.rate r.block_size r.depth
heading_format disk store r points is = headed_format (reader_form r) is.bytes (contents r points [] None)
    (form_known r.version r.window.file) is.headed

pub heading_base : {D : Type 0} (disk : Ghosts D) (store : D) (r : Reader) (points : List (List ℕ))
    → IsHeading disk store r points → HasBase r.base
heading_base disk store r points is = headed_base (reader_form r) is.bytes (contents r points [] None)
    (form_known r.version r.window.file) is.headed
