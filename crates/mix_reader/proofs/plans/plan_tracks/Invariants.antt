-- The tracks after it are planned.
use Rattle.mix_reader.proofs.Common.{◌≡◌, ◌≤◌, ◌<◌, ◌+◌, ◌*◌, length, drop, Ok, point_blocks, SameCache, Reads, heard_count}
use Rattle.mix_reader.proofs.Common.{HasHeard}
use Rattle.std.specs.Prelude.{Contains}
use Rattle.disk_model.specs.Parts.{AreParts}
use Rattle.pcm_base.specs.declared.block.BlockRef.{BlockRef}
use Rattle.mix_reader.specs.Plans.{ArePlans}
use Rattle.mix_reader.proofs.plans.plan_tracks.Given as goal

abbrev pub invariant-rows : goal.invariant-rows
invariant-rows g l = record {
  within : l.i ≤ length l.point;
  size : length l.parts ≡ 128;
  place : l.end + heard_count (drop l.i l.point) * l.len ≡ heard_count l.point * l.len;
  reads : Reads (point_blocks l.point) l.fn.reader l.reader (Ok (tt {0}));
  hit : HasHeard l.fn.reader.cache l.from (l.from + l.len) l.point
      → (l.reader.store ≡ l.fn.reader.store) × SameCache l.fn.reader.cache l.reader.cache × (l.most ≡ 0);
  among : 0 < l.most → (b : BlockRef) × Contains (point_blocks l.point) b;
  parts : AreParts l.end l.room (drop (2 * l.i) l.parts);
  plans : ArePlans l.from l.len (drop l.i l.point) (drop (2 * l.i) l.parts);
}

abbrev pub decreases-rows : goal.decreases-rows
decreases-rows g l = l.i
