-- A header of version 3 as it is written.
use Rattle.project_journal.proofs.Common.{drop, ◌≡◌, ◌≢◌, ℕ, ◌^◌, ◌<◌, None, List, [], ◌∷◌, ◌++◌}
use Rattle.project_journal.proofs.Common.{length, map, refl, sym, ◌∙◌, ap, arith, append-nil}
use Rattle.project_journal.proofs.Common.{length-map, flat_map, AllByRecursion, little_number}
use Rattle.project_journal.proofs.Common.{little_bytes, little_number-reads_back, IsFormat, first_failed}
use Rattle.project_journal.proofs.Common.{base_fields, form_3, wide_header_tests, Log, Row, row, bytes_in}
use Rattle.project_journal.proofs.Common.{IsRow, IsHeader, header_row, IsText, field, Base}
use Rattle.project_journal.specs.Header.{IsBase, number_tests, base_tests_in, wide_tests_in}
use Rattle.project_journal.specs.Packing.{sized, AreShort}
use Rattle.project_journal.proofs.{Formats.pass_all, Parses.base_same}

row_of : List ℕ → Row
row_of point = record { size = little_bytes 4 (length point); bytes = point }

rows_bytes : (points : List (List ℕ)) → flat_map sized points ≡ flat_map row (map row_of points)
unfolding row_of
rows_bytes [] = refl
rows_bytes (p ∷ ps) = ap (λ (l : List ℕ). sized p ++ l) (rows_bytes ps)

rows_each : (points : List (List ℕ)) → AreShort points → AllByRecursion IsRow (map row_of points)
unfolding row_of
rows_each [] short = tt
rows_each (p ∷ ps) short = (
  record {
    size = refl;
    bytes = ap (λ (l : List ℕ). little_number 4 l) (sym (append-nil (little_bytes 4 (length p))))
        ∙ little_number-reads_back 4 (length p) [] short.0;
  },
  rows_each ps short.1,
)

rows_points : (points : List (List ℕ)) → map bytes_in (map row_of points) ≡ points
unfolding row_of
rows_points [] = refl
rows_points (p ∷ ps) = ap (λ (l : List (List ℕ)). p ∷ l) (rows_points ps)

module _ (log : Log) (gate : ℕ) (format : IsFormat log.rate log.block_size log.depth) (rate_fits : log.rate < 2 ^ 32)
    (is : IsBase log.depth log.base) where
  abbrev b : Base
  b = log.base

  abbrev head : List ℕ
  head = gate ∷ header_row log

  rate_is : field 9 4 head ≡ log.rate
  rate_is = little_number-reads_back 4 log.rate (drop 13 head) rate_fits

  size_is : field 13 4 head ≡ log.block_size
  size_is = little_number-reads_back 4 log.block_size (drop 17 head) (omega (arith, format.block_most))

  depth_is : field 17 4 head ≡ log.depth
  depth_is = little_number-reads_back 4 log.depth (drop 21 head) (omega (arith, format.depth_most))

  generation_is : field 21 8 head ≡ b.generation
  generation_is = little_number-reads_back 8 b.generation (drop 29 head) (omega (arith, is.generation))

  commit_is : field 29 8 head ≡ b.commit
  commit_is = little_number-reads_back 8 b.commit (drop 37 head) (omega (arith, is.commit))

  block_is : field 37 8 head ≡ b.next_block
  block_is = little_number-reads_back 8 b.next_block (drop 45 head) (omega (arith, is.block_most))

  track_is : field 45 8 head ≡ b.next_track
  track_is = little_number-reads_back 8 b.next_track (drop 53 head) (omega (arith, is.track_most))

  count_is : field 53 4 head ≡ b.count
  count_is = little_number-reads_back 4 b.count (drop 57 head) (omega (arith, is.few, format.depth_most))

  cursor_is : field 57 4 head ≡ b.cursor
  cursor_is = little_number-reads_back 4 b.cursor (drop 61 head) (omega (arith, is.current, is.few, format.depth_most))

  base_is : base_fields head ≡ b
  base_is = base_same (base_fields head) b generation_is commit_is block_is track_is count_is cursor_is

  -- no test fails, where each field has its nearest value
  head_valid : first_failed (wide_header_tests head) ≡ None
  unfolding number_tests base_tests_in wide_tests_in
  head_valid = pass_all (wide_header_tests head) (omega (
    arith,
    format,
    is,
    rate_is,
    size_is,
    depth_is,
    generation_is,
    commit_is,
    block_is,
    track_is,
    count_is,
    cursor_is,
  ))

  written_header : (file : ℕ) → gate ≢ 0 → length log.points ≡ log.base.count → AreShort log.points
      → IsHeader (form_3 file) head log
  written_header file not_shut many short = record {
    rows = map row_of log.points;
    least = omega arith;
    parts = rows_bytes log.points;
    each = rows_each log.points short;
    points = rows_points log.points;
    count = length-map log.points row_of ∙ many;
    base = base_is;
    gate = not_shut;
    valid = head_valid;
    rate = rate_is;
    block_size = size_is;
    depth = depth_is;
  }

-- a log without records, written after a gate
pub text_is : (log : Log) (text : List ℕ) → text ≡ header_row log ++ 0 ∷ [] → log.bodies ≡ []
    → IsFormat log.rate log.block_size log.depth → log.rate < 2 ^ 32 → IsBase log.depth log.base
    → length log.points ≡ log.base.count → AreShort log.points → IsText text log
text_is log text is none format rate_fits base many short = record {
  header = header_row log;
  parts = is;
  none = none;
  spelled = λ file gate not_shut. written_header log gate format rate_fits base file not_shut many short;
}
