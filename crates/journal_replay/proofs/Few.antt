-- For each number of a layout that is drawn the journal has 9 bytes.
use Rattle.journal_replay.proofs.Common.{◌≡◌, ℕ, ◌+◌, ◌*◌, ◌≤◌, ◌^◌, List, [], ◌∷◌, ◌++◌, length, map, None, Result, Ok}
use Rattle.journal_replay.proofs.Common.{Err, refl, ap, ◌∙◌, arith, length-append, IfOk, AllByRecursion, Ghosts, Log}
use Rattle.journal_replay.proofs.Common.{body_at, log_of, points_size, Base, JournalFault, Reader, Shut, Form, form_of}
use Rattle.journal_replay.proofs.Common.{Goes, IsHeading, IsLater, IsPlaced, IsReading, contents, last_record}
use Rattle.journal_replay.proofs.Common.{reader_form, Track, Project, DrawsFew, MetOne, TellsPoint}
use Rattle.std.specs.{List.flat_map}
use Rattle.project_journal.specs.Journal.{Entry, IsEntry, IsLog, body_of, entry}
use Rattle.project_journal.proofs.{Bases.length-head, Found.read_whole}
use Rattle.record_body.proofs.NineBytes.{point_nine}
use Rattle.journal_replay.proofs.Pointed.{heading_at, size_more}

-- ---- how many bytes a journal has

-- records, each with its gate and the length of its body
abbrev pub records_size : List (List ℕ) → ℕ
records_size [] = 0
records_size (body ∷ bodies) = 5 + length body + records_size bodies

entries_size : (es : List Entry) → AllByRecursion IsEntry es
    → length (flat_map entry es) ≡ records_size (map body_of es)
entries_size [] all = refl
entries_size (e ∷ es) all = omega (
  arith,
  length-append (entry e) (flat_map entry es),
  length-append e.size e.body,
  all.0.size,
  entries_size es all.1,
)

log_size : (form : Form) (front : List ℕ) (log : Log) → IsLog form front log
    → length front ≡ form.header_size + points_size log.points + records_size log.bodies
log_size form front log is = omega (
  arith,
  ap length is.parts,
  length-append is.head (flat_map entry is.entries),
  length-head form is.head log is.header,
  entries_size is.entries is.each,
  ap records_size is.bodies,
)

records_more : (records : List (ℕ × List ℕ)) (r : ℕ × List ℕ)
    → records_size (map body_at (records ++ r ∷ [])) ≡ records_size (map body_at records) + (5 + length r.1)
records_more [] r = omega arith
records_more (x ∷ records) r = omega (arith, records_more records r)

-- a reader that read on is one of the same form and of as many points
same_header : (old new : Reader) → IsLater old new → (reader_form new).header_size ≡ (reader_form old).header_size
same_header old new later = ap (λ (v : ℕ). (form_of v 0).header_size) later.version

same_count : (old new : Reader) → IsLater old new → new.base.count ≡ old.base.count
same_count old new later = ap (λ (b : Base). b.count) later.base

-- One point of a header more: where the reader stands then, and how many tracks it met.
pub record PointSize (r : Reader) (points : List (List ℕ)) (many : ℕ) : Type 0 where
  pub at : r.at ≡ (reader_form r).header_size + points_size points + (4 + length (last_record r).1)
  pub nine : 12 + 9 * many ≤ length (last_record r).1

module _ {D : Type 0} (disk : Ghosts D) where
  -- ---- the points of a header

  pub point_size : (store : D) (r : Reader) (points : List (List ℕ)) (m : ℕ) (p : List Track × ℕ)
      → MetOne disk store r points → TellsPoint m r p → PointSize r points (length p.0)
  point_size store r points m p met tells = record {
    at = omega (
      arith,
      heading_at disk store r (points ++ (last_record r).1 ∷ []) met,
      size_more points (last_record r).1,
    );
    nine = omega (arith, point_nine p, ap length tells.spelled);
  }

  -- none was drawn where the header has no points
  pub none_draw : (store : D) (r : Reader) (result : Result Project JournalFault) → IsHeading disk store r []
      → r.base.count ≡ 0 → IfOk result (λ p. p.numbered.next ≤ 1) → IfOk result (λ p. DrawsFew p.numbered.next r)
  none_draw store r (Ok p) heading none first =
      omega (arith, heading_at disk store r [] heading, none, first)
  none_draw store r (Err e) heading none first = tt

  -- ---- the records

  reading_at : (store : D) (r : Reader) (points : List (List ℕ)) (records : List (ℕ × List ℕ))
      → IsReading disk store r points records
      → r.at ≡ (reader_form r).header_size + points_size points + records_size (map body_at records)
  reading_at store r points records is = is.begun.place
      ∙ log_size (reader_form r) is.begun.front (log_of (contents r points records None)) is.begun.spelled

  shut_at : (store : D) (r : Reader) (points : List (List ℕ)) (records : List (ℕ × List ℕ))
      → Goes disk store r points records Shut
      → r.at ≡ (reader_form r).header_size + points_size points + records_size (map body_at records)
  shut_at store r points records stored =
      let j = contents r points records None in
      let is = read_whole (reader_form r) stored.bytes j stored.read refl in
      is.place ∙ log_size (reader_form r) is.front (log_of j) is.spelled

  -- one record more
  pub few_more : (store after : D) (old new : Reader) (points : List (List ℕ)) (records : List (ℕ × List ℕ))
      (was next : ℕ) → IsLater old new → IsReading disk store old points records
      → IsReading disk after new points (records ++ last_record new ∷ [])
      → 9 * next ≤ 9 * was + length (last_record new).1 → DrawsFew was old → DrawsFew next new
  few_more store after old new points records was next later reading more drawn few = omega (
    arith,
    few,
    drawn,
    reading_at store old points records reading,
    reading_at after new points (records ++ last_record new ∷ []) more,
    records_more records (last_record new),
    same_header old new later,
    same_count old new later,
  )

  -- and none
  pub few_done : (store after : D) (old new : Reader) (points : List (List ℕ)) (records : List (ℕ × List ℕ)) (next : ℕ)
      → IsLater old new → IsReading disk store old points records → Goes disk after new points records Shut
      → DrawsFew next old → DrawsFew next new
  few_done store after old new points records next later reading shut few = omega (
    arith,
    few,
    reading_at store old points records reading,
    shut_at after new points records shut,
    same_header old new later,
    same_count old new later,
  )

-- so numbers are left for a record, as long as the journal may have its place
pub few_most : (r : Reader) (next : ℕ) → IsPlaced r → DrawsFew next r → next ≤ 2 ^ 62
few_most r next placed few =
    omega (arith, few, placed.held.within, placed.held.inside, placed.held.bound)
