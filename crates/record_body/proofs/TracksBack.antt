-- Tracks that meet their bounds pass their tests and are read back.
use Rattle.record_body.proofs.Common.{◌≡◌, ℕ, ◌+◌, ◌^◌, ◌≤◌, ◌<◌, Bool, true, false, List, [], ◌∷◌, ◌++◌, length, drop}
use Rattle.record_body.proofs.Common.{slice_index, nat_lt, refl, arith, append_assoc}
use Rattle.record_body.proofs.Common.{length-append, flat_map, little_bytes, Side, Clip, field, Track, Limits}
use Rattle.record_body.proofs.Common.{side_of, clip_count, track_at, track_size, tracks_at, tracks_size}
use Rattle.record_body.proofs.Common.{clip_bytes, side_byte, mute_byte, track_bytes, how_tests, id_tests, whole_tests}
use Rattle.record_body.proofs.Common.{track_tests, tracks_tests, heard_bytes}
use Rattle.record_body.proofs.FieldsBack.{NoneFails, both_pass, byte_there, least_passes, most_passes, no_test}
use Rattle.record_body.proofs.FieldsBack.{number_there, past}
use Rattle.record_body.proofs.ClipsBack.{AreGoodClips, AreNarrow, has_clips}
use Rattle.pcm_base.specs.declared.sound.Side.TheVariants as side

-- a track that meets its bounds, whose id is no lower than a number
pub record IsGoodTrack (l : Limits) (from : ℕ) (t : Track) : Type 0 where
  pub some : 1 ≤ t.id
  pub above : from ≤ t.id
  pub given : t.id < l.next_track
  pub gain : t.gain ≤ 1048576
  pub number : t.number ≡ 0
  pub few : length t.layout < 2 ^ 32
  pub clips : AreGoodClips l 0 t.layout

abbrev pub AreGoodTracks : Limits → ℕ → List Track → Type 0
AreGoodTracks l from [] = Unit {0}
AreGoodTracks l from (t ∷ ts) = IsGoodTrack l from t × AreGoodTracks l (t.id + 1) ts

-- what stands after the id of a track
pub record HasHeard (t : Track) (at : ℕ) (bytes rest : List ℕ) : Type 0 where
  pub gain : field (at + 8) 4 bytes ≡ t.gain
  pub side : slice_index bytes (at + 12) ≡ side_byte t.side
  pub mute : slice_index bytes (at + 13) ≡ mute_byte t.mute
  pub count : clip_count at bytes ≡ length t.layout
  pub clips : drop (at + 18) bytes ≡ flat_map clip_bytes t.layout ++ rest

pub has_heard : (l : Limits) (from : ℕ) (t : Track) (at : ℕ) (bytes rest : List ℕ) → IsGoodTrack l from t
    → drop (at + 8) bytes ≡ heard_bytes t ++ rest → HasHeard t at bytes rest
has_heard l from t at bytes rest good e =
    let all = flat_map clip_bytes t.layout ++ rest in
    let counted = little_bytes 4 (length t.layout) ++ all in
    let muted = mute_byte t.mute ∷ counted in
    search (
      arith,
      past (at + 8) (at + 12) bytes (little_bytes 4 t.gain),
      past (at + 12) (at + 13) bytes (side_byte t.side ∷ []) muted,
      past (at + 13) (at + 14) bytes (mute_byte t.mute ∷ []) counted,
      past (at + 14) (at + 18) bytes (little_bytes 4 (length t.layout)) all,
      number_there 4 t.gain (at + 8) bytes,
      number_there 4 (length t.layout) (at + 14) bytes all,
      byte_there (side_byte t.side) (at + 12) bytes muted,
      byte_there (mute_byte t.mute) (at + 13) bytes counted,
    )

record HasTrack (t : Track) (at : ℕ) (bytes rest : List ℕ) : Type 0 where
  id : field at 8 bytes ≡ t.id
  heard : HasHeard t at bytes rest

has_track : (l : Limits) (from : ℕ) (t : Track) (at : ℕ) (bytes rest : List ℕ) → AreNarrow l → IsGoodTrack l from t
    → drop at bytes ≡ track_bytes t ++ rest → HasTrack t at bytes rest
has_track l from t at bytes rest narrow good e = record {
  id = number_there 8 t.id at bytes (heard_bytes t ++ rest) e (omega (arith, narrow.tracks, good.given));
  heard = has_heard l from t at bytes rest good (past at (at + 8) bytes (little_bytes 8 t.id) (heard_bytes t ++ rest) e
      refl);
}

pub side_back : (s : Side) → side_of (side_byte s) ≡ s
side_back side.Both = refl
side_back side.Left = refl
side_back side.Right = refl

pub side_most : (s : Side) → side_byte s ≤ 2
side_most side.Both = omega arith
side_most side.Left = omega arith
side_most side.Right = omega arith

pub mute_back : (mute : Bool) → nat_lt 0 (mute_byte mute) ≡ mute
mute_back true = refl
mute_back false = refl

pub mute_most : (mute : Bool) → mute_byte mute ≤ 1
mute_most true = omega arith
mute_most false = omega arith

record IsTrackThere (t : Track) (at : ℕ) (bytes rest : List ℕ) : Type 0 where
  track : track_at at bytes ≡ t
  size : track_size at bytes ≡ length (track_bytes t)
  left : drop (at + track_size at bytes) bytes ≡ rest

same_track : (id gain : ℕ) (side : Side) (mute : Bool) (number : ℕ) (layout : List Clip) (t : Track) → id ≡ t.id
    → gain ≡ t.gain → side ≡ t.side → mute ≡ t.mute → number ≡ t.number → layout ≡ t.layout
    → record { id = id; gain = gain; side = side; mute = mute; number = number; layout = layout } ≡ t
same_track id gain side mute number layout t a b c d e f = rw (a, b, c, d, e, f) refl

track_there : (l : Limits) (from : ℕ) (t : Track) (at : ℕ) (bytes rest : List ℕ) → AreNarrow l → IsGoodTrack l from t
    → drop at bytes ≡ track_bytes t ++ rest → HasTrack t at bytes rest → IsTrackThere t at bytes rest
track_there l from t at bytes rest narrow good e has =
    search (
      arith,
      has_clips l 0 t.layout (at + 18) bytes rest narrow good.clips has.heard.clips,
      same_track,
      side_back t.side,
      mute_back t.mute,
      past at (at + track_size at bytes) bytes (track_bytes t) rest e,
    )

pub whole_pass : (l : Limits) (from : ℕ) (t : Track) (at : ℕ) (bytes rest : List ℕ) → AreNarrow l → IsGoodTrack l from t
    → HasHeard t at bytes rest → NoneFails (whole_tests l at bytes)
whole_pass l from t at bytes rest narrow good has =
    search (
      arith,
      most_passes,
      side_most t.side,
      mute_most t.mute,
      has_clips l 0 t.layout (at + 18) bytes rest narrow good.clips has.clips,
      both_pass (how_tests l at bytes),
    )

track_passes : (l : Limits) (from : ℕ) (t : Track) (at : ℕ) (bytes rest : List ℕ) → AreNarrow l → IsGoodTrack l from t
    → HasTrack t at bytes rest → NoneFails (track_tests l from at bytes)
track_passes l from t at bytes rest narrow good has =
    search (
      arith,
      least_passes,
      most_passes,
      both_pass (id_tests l from at bytes) (whole_tests l at bytes),
      whole_pass l from t at bytes rest narrow good has.heard,
    )

-- tracks where their bytes stand, which pass
pub record HasTracks (l : Limits) (from : ℕ) (ts : List Track) (at : ℕ) (bytes : List ℕ) : Type 0 where
  pub tracks : tracks_at (length ts) at bytes ≡ ts
  pub size : tracks_size (length ts) at bytes ≡ length (flat_map track_bytes ts)
  pub passes : NoneFails (tracks_tests l (length ts) from at bytes)

pub has_tracks : (l : Limits) (from : ℕ) (ts : List Track) (at : ℕ) (bytes rest : List ℕ) → AreNarrow l
    → AreGoodTracks l from ts → drop at bytes ≡ flat_map track_bytes ts ++ rest → HasTracks l from ts at bytes
has_tracks l from [] at bytes rest narrow good e = record { tracks = refl; size = refl; passes = no_test }
has_tracks l from (t ∷ ts) at bytes rest narrow good e =
    search (
      arith,
      has_tracks l (t.id + 1) ts (at + track_size at bytes) bytes rest narrow good.1,
      append_assoc (track_bytes t) (flat_map track_bytes ts) rest,
      has_track l from t at bytes,
      track_there l from t at bytes,
      length-append (track_bytes t) (flat_map track_bytes ts),
      both_pass (track_tests l from at bytes),
      track_passes l from t at bytes,
    )
