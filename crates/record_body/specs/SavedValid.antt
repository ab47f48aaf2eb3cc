-- What holds of each project to which records lead.
use Rattle.std.specs.{Prelude.◌≡◌, Prelude.ℕ, Prelude.◌≤◌, List.All}
use Rattle.pcm_base.specs.declared.limits.TheConstants.{COUNTER_LIMIT, FIRST_BLOCK}
pub use Rattle.record_body.specs.Valid.{IsValidPoint, IsValidTagged}
use Rattle.record_body.specs.Saved.{Saved}

-- after this many records, at this depth
pub record IsValidSaved (m depth count : ℕ) (k : Saved) : Type 0 where
  pub points : All (IsValidTagged m k.next_block k.next_track k.commit) k.history.points
  pub depth_is : k.history.depth ≡ depth
  pub commit_is : k.commit ≡ count
  pub block_least : FIRST_BLOCK ≤ k.next_block
  pub block_most : k.next_block ≤ COUNTER_LIMIT
  pub track_least : 1 ≤ k.next_track
  pub track_most : k.next_track ≤ COUNTER_LIMIT
