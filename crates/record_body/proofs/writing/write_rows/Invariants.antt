-- The blocks of the rows so far are written, and there is room for those that are left.
use Rattle.record_body.proofs.Common.{◌≡◌, ◌+◌, ◌*◌, ◌≤◌, ◌++◌, length, take, drop, flat_map, block_bytes}
use Rattle.block_sequence.specs.Rows.{flat}
use Rattle.record_body.proofs.writing.write_rows.Given as goal

abbrev pub invariant-loop-row : goal.invariant-loop-row
invariant-loop-row l = record {
  written : take l.at l.out ++ flat_map block_bytes (drop l.left (flat (drop l.row-index l.rows)))
      ≡ flat_map block_bytes (drop l.skip (flat l.rows));
  within : l.left ≤ length (flat (drop l.row-index l.rows));
  room : l.at + 12 * length (flat (drop l.row-index l.rows)) ≡ length l.out + 12 * l.left;
}
