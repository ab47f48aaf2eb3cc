-- The bytes of a track by what is chosen for it.
use Rattle.record_body.proofs.Common.{◌≡◌, ◌+◌, List, ◌++◌, length, ap, arith, Track, Change, change_of, change_bytes}
use Rattle.record_body.proofs.Common.{diff_bytes, little_bytes, track_of}
use Rattle.record_body.specs.declared.changes.Choice.{Choice}
use Rattle.record_body.specs.Choices.{change_by}

pub diff_told : (current : List Track) (t : Track) (c : Choice) → change_by t c ≡ change_of (track_of t.id current) t
    → little_bytes 8 t.id ++ change_bytes (change_by t c) ≡ diff_bytes current t
diff_told current t c is = ap (λ (k : Change). little_bytes 8 t.id ++ change_bytes k) is

pub diff_size : (current : List Track) (t : Track) (c : Choice) → change_by t c ≡ change_of (track_of t.id current) t
    → 8 + length (change_bytes (change_by t c)) ≡ length (diff_bytes current t)
diff_size current t c is = omega (arith, ap (λ (k : Change). length (change_bytes k)) is)
