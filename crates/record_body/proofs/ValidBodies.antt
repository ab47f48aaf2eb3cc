-- Where all tests pass, what the bytes say is valid.
use Rattle.record_body.proofs.Common.{◌≡◌, ℕ, zero, suc, ◌+◌, ◌-◌, ◌^◌, ◌≤◌, ◌<◌, ◌==◌, if◌then◌else◌}
use Rattle.record_body.proofs.Common.{slice_index, nat_lt, Bool, true, false, None, List, length, refl, arith}
use Rattle.record_body.proofs.Common.{lt-ltb, NoneEmpty, AllFull, IsHalfFull, block_lens, blocks_len}
use Rattle.record_body.proofs.Common.{BlockRef, AreClips, AllHalfFull, end_of, field, first_failed, block_at, blocks_at}
use Rattle.record_body.proofs.Common.{lens_at, block_count, clip_end_at, clip_size, clips_at, clip_count, track_at}
use Rattle.record_body.proofs.Common.{track_size, tracks_at, track_count, edit_at, body_at, AllGiven, AllClipsGiven}
use Rattle.record_body.proofs.Common.{IsValidTrack, AllValidTracks, IsValidBody, Edit, Undo, Redo, Purge, least_len}
use Rattle.record_body.proofs.Common.{block_tests, blocks_tests, clip_tests, clips_tests}
use Rattle.record_body.proofs.Common.{settings_tests, track_tests, tracks_tests, head_tests, edit_tests, limits_at}
use Rattle.record_body.proofs.Common.{body_tests, Limits, Before, Track, AreUnnumbered, AreAbove, IsBytes, Pass}
use Rattle.record_body.proofs.Common.{all_pass}
use Rattle.record_body.proofs.{Sizes.length-tracks_at, Numbers.field_small, Passing.pass_parts}

-- a block in its bounds
pub record Bounded (l : Limits) (several : Bool) (before : ℕ) (b : BlockRef) : Type 0 where
  pub given : (16 ≤ b.id) × (b.id < l.next_block)
  pub near : b.len ≤ 2 ^ 32 - before
  pub some : 1 ≤ b.len
  pub fits : b.len ≤ l.block_size
  pub full : least_len l.block_size several ≤ b.len

pub bounded : (l : Limits) (several : Bool) (before at : ℕ) (bytes : List ℕ)
    → Pass (block_tests l several before at bytes)
    → Bounded l several before (block_at at bytes)
bounded l several before at bytes pass = search arith

pub same_lens : (count at : ℕ) (bytes : List ℕ) → lens_at count at bytes ≡ blocks_len (blocks_at count at bytes)
same_lens zero at bytes = refl
same_lens (suc count) at bytes = omega (arith, same_lens count (at + 12) bytes)

-- blocks that are given, and end in reach of the longest track
pub valid_blocks : (l : Limits) (several : Bool) (count before at : ℕ) (bytes : List ℕ) → before ≤ 2 ^ 32
    → Pass (blocks_tests l several count before at bytes)
    → AllGiven l.next_block (blocks_at count at bytes) × NoneEmpty (blocks_at count at bytes)
    × (before + lens_at count at bytes ≤ 2 ^ 32)
valid_blocks l several zero before at bytes h e = (tt, tt, omega (arith, h))
valid_blocks l several (suc count) before at bytes h e =
    search (arith, valid_blocks l several count (before + field (at + 8) 4 bytes) (at + 12) bytes, pass_parts, bounded)

pub full_blocks : (l : Limits) (count before at : ℕ) (bytes : List ℕ) → Pass (blocks_tests l true count before at bytes)
    → AllFull l.block_size (block_lens (blocks_at count at bytes))
full_blocks l zero before at bytes e = tt
full_blocks l (suc count) before at bytes e =
    let p = pass_parts (block_tests l true before at bytes) _ e in
    let b = bounded l true before at bytes p.0 in
    ((omega (arith, b.full), b.fits), full_blocks l count (before + field (at + 8) 4 bytes) (at + 12) bytes p.1)

pub half_full : (l : Limits) (count before at : ℕ) (bytes : List ℕ)
    → Pass (blocks_tests l (nat_lt 1 count) count before at bytes)
    → IsHalfFull l.block_size (block_lens (blocks_at count at bytes))
half_full l zero before at bytes e = tt
half_full l (suc zero) before at bytes e = search (arith, pass_parts, bounded)
half_full l (suc (suc count)) before at bytes e = search (arith, full_blocks, lt-ltb)

-- a clip in its bounds
pub record ValidClip (l : Limits) (from at : ℕ) (bytes : List ℕ) : Type 0 where
  pub later : from ≤ field at 8 bytes
  pub near : field at 8 bytes ≤ 2 ^ 32
  pub end : clip_end_at at bytes ≤ 2 ^ 32
  pub given : AllGiven l.next_block (blocks_at (block_count at bytes) (at + 12) bytes)
  pub none_empty : NoneEmpty (blocks_at (block_count at bytes) (at + 12) bytes)
  pub some : 0 < blocks_len (blocks_at (block_count at bytes) (at + 12) bytes)
  pub half_full : IsHalfFull l.block_size (block_lens (blocks_at (block_count at bytes) (at + 12) bytes))

some_samples : (count at : ℕ) (bytes : List ℕ) → 1 ≤ count → NoneEmpty (blocks_at count at bytes)
    → 0 < blocks_len (blocks_at count at bytes)
some_samples zero at bytes p h = absurd (omega (arith, p))
some_samples (suc count) at bytes p h = omega (arith, h.0)

pub valid_clip : (l : Limits) (from at : ℕ) (bytes : List ℕ) → Pass (clip_tests l from at bytes)
    → ValidClip l from at bytes
valid_clip l from at bytes e = search (arith, pass_parts, valid_blocks, some_samples, half_full)

-- clips that stand apart, after a clip that ended at a cell
pub valid_clips : (l : Limits) (count from end at : ℕ) (bytes : List ℕ) → end ≤ 2 ^ 32
    → Pass (clips_tests l count from at bytes)
    → AreClips from (clips_at count at bytes) × (end_of end (clips_at count at bytes) ≤ 2 ^ 32)
    × AllHalfFull l.block_size (clips_at count at bytes) × AllClipsGiven l.next_block (clips_at count at bytes)
valid_clips l zero from end at bytes h e = (tt, h, tt, tt)
valid_clips l (suc count) from end at bytes h e =
    search (
      arith,
      valid_clips l count (clip_end_at at bytes + 1) (clip_end_at at bytes) (at + clip_size at bytes) bytes,
      pass_parts,
      valid_clip,
      same_lens,
    )

-- the id of a track in its bounds
pub track_id : (l : Limits) (from at : ℕ) (bytes : List ℕ) → Pass (track_tests l from at bytes)
    → (1 ≤ field at 8 bytes) × (from ≤ field at 8 bytes) × (field at 8 bytes < l.next_track)
track_id l from at bytes pass = search (arith, pass_parts)

valid_track : (l : Limits) (from at : ℕ) (bytes : List ℕ) → Pass (track_tests l from at bytes)
    → IsValidTrack l.block_size l.next_block l.next_track (track_at at bytes)
valid_track l from at bytes pass =
    let p = pass_parts (settings_tests l from at bytes) (clips_tests l (clip_count at bytes) 0 (at + 18) bytes) pass in
    let clips = valid_clips l (clip_count at bytes) 0 0 (at + 18) bytes (omega arith) p.1 in
    record {
      given = (track_id l from at bytes pass).2;
      gain = omega (arith, p.0.1.1.1.0);
      layout = record { apart = clips.0; few = clips.1 };
      half_full = clips.2;
      blocks = clips.3;
    }

-- tracks whose ids rise from a number that the first reaches
pub valid_tracks : (l : Limits) (count low from at : ℕ) (bytes : List ℕ) → ((id : ℕ) → 1 ≤ id → from ≤ id → low ≤ id)
    → Pass (tracks_tests l count from at bytes)
    → AreAbove low (tracks_at count at bytes)
    × AllValidTracks l.block_size l.next_block l.next_track (tracks_at count at bytes)
valid_tracks l zero low from at bytes reaches pass = (tt, tt)
valid_tracks l (suc count) low from at bytes reaches pass =
    let next = field at 8 bytes + 1 in
    let p =
    pass_parts (track_tests l from at bytes) (tracks_tests l count next (at + track_size at bytes) bytes) pass in
    let id = track_id l from at bytes p.0 in
    let rest = valid_tracks l count next next (at + track_size at bytes) bytes (λ id one le. le) p.1 in
    ((reaches (field at 8 bytes) id.0 id.1, rest.0), (valid_track l from at bytes p.0, rest.1))

pub few_tracks : (b : Before) (bytes : List ℕ) → Pass (head_tests b bytes) → track_count bytes ≤ 64
few_tracks b bytes pass = omega (arith, pass.1.1.1.1.1.1.1.0)

pub few_told : (b : Before) (bytes : List ℕ) → first_failed (head_tests b bytes) ≡ None → track_count bytes ≤ 64
few_told b bytes none = few_tracks b bytes (all_pass (head_tests b bytes) none)

-- what bytes say has no numbers
pub tracks_unnumbered : (count at : ℕ) (bytes : List ℕ) → AreUnnumbered (tracks_at count at bytes)
tracks_unnumbered zero at bytes = tt
tracks_unnumbered (suc count) at bytes = (refl, tracks_unnumbered count (at + track_size at bytes) bytes)

-- an edit whose fields in front pass, of valid tracks
pub valid_edit_of : (m : ℕ) (b : Before) (bytes : List ℕ) (ts : List Track) → IsBytes bytes → Pass (head_tests b bytes)
    → length ts ≡ track_count bytes → AreAbove 1 ts → AllValidTracks m (field 9 8 bytes) (field 17 8 bytes) ts
    → AreUnnumbered ts → IsValidBody m b (Edit (field 1 8 bytes) (field 9 8 bytes) (field 17 8 bytes) ts)
valid_edit_of m b bytes ts fit head count rising valid none =
    search (arith, field_small 1 8 bytes fit, few_tracks b bytes head)

valid_edit : (m : ℕ) (b : Before) (bytes : List ℕ) → IsBytes bytes → Pass (edit_tests m b bytes)
    → IsValidBody m b (edit_at bytes)
valid_edit m b bytes fit pass =
    let l = limits_at m b bytes in
    let n = track_count bytes in
    let p = pass_parts (head_tests b bytes) (tracks_tests l n 0 29 bytes) pass in
    let all = valid_tracks l n 1 0 29 bytes (λ id one le. one) p.1 in
    valid_edit_of m b bytes (tracks_at n 29 bytes) fit p.0 (length-tracks_at bytes n 29) all.0 all.1
    (tracks_unnumbered n 29 bytes)

valid_other : (two three : Bool) (n m : ℕ) (b : Before) → n < 2 ^ 64
    → IsValidBody m b (if two then Undo else if three then Redo else Purge n)
valid_other true three n m b h = tt
valid_other false true n m b h = tt
valid_other false false n m b h = h

pub valid_body : (m : ℕ) (b : Before) (bytes : List ℕ) → IsBytes bytes → Pass (body_tests m b bytes)
    → IsValidBody m b (body_at bytes)
valid_body m b bytes fit pass =
    search (
      arith,
      valid_edit m b bytes fit,
      valid_other (slice_index bytes 0 == 2) (slice_index bytes 0 == 3) (field 1 8 bytes) m b,
      field_small 1 8 bytes fit,
    )
