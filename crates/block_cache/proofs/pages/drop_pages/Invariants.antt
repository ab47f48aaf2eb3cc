use Rattle.block_cache.proofs.Common.{◌≡◌, length, Contains}
use Rattle.std.proofs.Common.{◌≢◌}
use Rattle.block_cache.specs.declared.keys.PageKey.{PageKey as key_of}
use Rattle.block_cache.proofs.pages.drop_pages.Given as goal

abbrev pub invariant-keys : goal.invariant-keys
invariant-keys g l = record {
  same_cap : l.pages.cap ≡ l.initial.pages.cap;
  fewer : (e : key_of × g.row.V.Denot) → Contains l.pages.entries e → Contains l.initial.pages.entries e;
  others : (e : key_of × g.row.V.Denot) → Contains l.initial.pages.entries e → e.0.id ≢ l.id
      → Contains l.pages.entries e;
}

abbrev pub decreases-keys : goal.decreases-keys
decreases-keys g l = length l.pages.entries
