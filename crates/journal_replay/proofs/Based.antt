-- The project that a header brings is valid.
use Rattle.journal_replay.proofs.Common.{◌≡◌, ◌≤◌, ℕ, List, [], ◌∷◌, None, length, map, refl, sym, ap, subst, arith}
use Rattle.journal_replay.proofs.Common.{Result, Ok, Err, MatchResult, AllByRecursion, History, Ghosts, IsHeading}
use Rattle.journal_replay.proofs.Common.{contents, reader_form, Base, JournalFault, Reader, Log, log_of, HasBase}
use Rattle.journal_replay.proofs.Common.{form_known, BeginsBy, IsHeaderBase, Saved, new_project, point_at, point_count}
use Rattle.journal_replay.proofs.Common.{IsValidTagged, Track, AreUnnumbered, tracks_unnumbered, saved_of, IsBrought}
use Rattle.journal_replay.proofs.Common.{IsValid, base_by, HasPoints, Project}
use Rattle.std.proofs.lemmas.List.Elements.{All-from_recursion}
use Rattle.project_journal.proofs.{AnyFormats.base_valid, Readings.heading_read}
use Rattle.record_body.proofs.{SavedBounds.new_valid}
use Rattle.journal_replay.specs.Folds.{Brings}
use Rattle.project_journal.specs.declared.fault.JournalFault.TheVariants as journal

headed_valid : (log : Log) (base : Saved) → HasBase log.base → IsHeaderBase log base → IsValid log.block_size base
headed_valid log base bounds told = record {
  points = All-from_recursion (IsValidTagged log.block_size base.next_block base.next_track base.commit)
      base.history.points told.valid;
  depth_is = refl;
  commit_is = refl;
  block_least = omega (arith, told.next_block, bounds.block_least);
  block_most = omega (arith, told.next_block, bounds.block_most);
  track_least = omega (arith, told.next_track, bounds.track_least);
  track_most = omega (arith, told.next_track, bounds.track_most);
}

pub begun_valid : (points : List (List ℕ)) (log : Log) (base : Saved) → HasBase log.base → BeginsBy points log base
    → IsValid log.block_size base
begun_valid [] log base bounds begins =
    subst (IsValid log.block_size) (sym begins) (new_valid log.block_size log.depth)
begun_valid (point ∷ points) log base bounds begins = headed_valid log base bounds begins

pub begun_depth : (points : List (List ℕ)) (log : Log) (base : Saved) → BeginsBy points log base
    → base.history.depth ≡ log.depth
begun_depth [] log base begins = ap (λ (k : Saved). k.history.depth) begins
begun_depth (point ∷ points) log base begins = begins.depth

pub brought_valid : {D : Type 0} (disk : Ghosts D) (store : D) (m : ℕ) (r : Reader) (now : Saved)
    → IsBrought disk store m r now → m ≡ r.block_size → IsValid m now
brought_valid disk store m r now brought size =
    let log = log_of (contents r brought.points [] None) in
    let spelled = brought.reading.begun.spelled in
    let bounds : HasBase log.base = subst HasBase spelled.header.base
    (base_valid (reader_form r) spelled.head (form_known r.version r.window.file) spelled.header.valid) in
    subst (λ (n : ℕ). IsValid n now) (sym size) (begun_valid brought.points log now bounds brought.begins)

-- where a header has no points, a project without commits
pub brought_none : {D : Type 0} (disk : Ghosts D) (store : D) (m : ℕ) (r : Reader) (now : Saved)
    → IsHeading disk store r [] → r.base.count ≡ 0 → now ≡ new_project r.depth → IsBrought disk store m r now
brought_none disk store m r now heading none is = record {
  points = [];
  reading = heading_read disk store r [] heading (sym none);
  none = refl;
  is = is;
  begins = is;
}

-- what the bytes of points say has no numbers
points_unnumbered : (ps : List (List ℕ))
    → AllByRecursion (λ (p : List Track × ℕ). AreUnnumbered p.0) (map point_at ps)
points_unnumbered [] = tt
points_unnumbered (p ∷ ps) = (tracks_unnumbered (point_count p) 12 p, points_unnumbered ps)

module _ {D : Type 0} (disk : Ghosts D) (store : D) (m : ℕ) (r : Reader) (h : History (List Track))
    (has : HasPoints disk store m r h) where
  -- the points, with the other numbers of the header
  abbrev told : Saved
  told = record {
    history = h;
    next_block = r.base.next_block;
    next_track = r.base.next_track;
    commit = r.base.commit;
  }

  diff_is : (ps : List (List ℕ)) → 1 ≤ length ps → h.points ≡ map point_at ps → told ≡ base_by ps r.depth r.base
  diff_is [] some same = absurd (omega (arith, some))
  diff_is (p ∷ ps) some same = λ i. record {
    history = record { points = same i; cursor = has.cursor i; depth = has.depth i };
    next_block = r.base.next_block;
    next_track = r.base.next_track;
    commit = r.base.commit;
  }

  is_told : m ≡ r.block_size → IsHeaderBase (log_of (contents r has.points [] None)) told
  is_told size = record {
    points = has.spelled;
    cursor = has.cursor;
    depth = has.depth;
    next_block = refl;
    next_track = refl;
    commit = refl;
    valid = subst (λ (n : ℕ). AllByRecursion (IsValidTagged n r.base.next_block r.base.next_track r.base.commit) h.points)
        size has.valid;
    unnumbered = subst (AllByRecursion (λ (p : List Track × ℕ). AreUnnumbered p.0)) (sym has.told)
        (points_unnumbered has.points);
  }

  begins_headed : (ps : List (List ℕ)) (log : Log) → 1 ≤ length ps → IsHeaderBase log told → BeginsBy ps log told
  begins_headed [] log some is = absurd (omega (arith, some))
  begins_headed (p ∷ ps) log some is = is

  -- else its points
  pub brought_headed : 1 ≤ r.base.count → m ≡ r.block_size → IsBrought disk store m r told
  brought_headed some size =
      let there : 1 ≤ length has.points = omega (arith, some, has.all) in
      record {
        points = has.points;
        reading = heading_read disk store r has.points has.heading has.all;
        none = has.none;
        is = diff_is has.points there has.told;
        begins = begins_headed has.points (log_of (contents r has.points [] None)) there (is_told size);
      }

pub brings_headed : {D : Type 0} (disk : Ghosts D) (store : D) (m : ℕ) (r : Reader) (h : History (List Track)) (b : Base)
    → b ≡ r.base → HasPoints disk store m r h → 1 ≤ r.base.count → m ≡ r.block_size → IsBrought disk store m r (record {
      history = h;
      next_block = b.next_block;
      next_track = b.next_track;
      commit = b.commit;
    })
brings_headed disk store m r h b same has some size = subst (λ (c : Base). IsBrought disk store m r (record {
  history = h;
  next_block = c.next_block;
  next_track = c.next_track;
  commit = c.commit;
})) (sym same) (brought_headed disk store m r h has some size)

pub brings_none : {D : Type 0} (disk : Ghosts D) (store : D) (m : ℕ) (r : Reader) (result : Result Project JournalFault)
    → IsHeading disk store r [] → r.base.count ≡ 0
    → MatchResult result (λ p. saved_of p ≡ new_project r.depth) (λ e. e ≡ journal.NoMemory)
    → Brings disk store m r result
brings_none disk store m r (Ok p) heading none is = brought_none disk store m r (saved_of p) heading none is
brings_none disk store m r (Err e) heading none is =
    subst (λ (x : JournalFault). Brings disk store m r (Err x)) (sym is) tt
