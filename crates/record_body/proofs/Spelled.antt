-- What was read from bytes is spelled as these bytes.
use Rattle.record_body.proofs.Common.{◌≡◌, ℕ, zero, suc, ◌+◌, ◌*◌, ◌<◌, ◌≤◌, min, List, [], ◌∷◌, ◌++◌, length, drop}
use Rattle.record_body.proofs.Common.{refl, sym, ap, ◌∙◌, arith, slice_index, append_assoc, Bool, true, false, ◌==◌}
use Rattle.record_body.proofs.Common.{if◌then◌else◌, None, nat_lt, ◌⊎◌, eq-eqb, drop_more, drop_all}
use Rattle.record_body.proofs.Common.{flat_map, little_bytes, field, first_failed, Undo, Redo, Purge, block_bytes}
use Rattle.record_body.proofs.Common.{clip_bytes, side_byte, mute_byte, track_bytes, spelling, block_at, blocks_at}
use Rattle.record_body.proofs.Common.{block_count, clip_at, clip_size, clips_at, clips_size, side_of, clip_count}
use Rattle.record_body.proofs.Common.{track_at, track_size, tracks_at, tracks_size, track_count, edit_at, body_at}
use Rattle.record_body.proofs.Common.{track_tests, tracks_tests, settings_tests, clips_tests, head_tests, edit_tests}
use Rattle.record_body.proofs.Common.{limits_at, body_tests, Limits, Before, Body, asked_length, IsBytes-drop, IsBytes}
use Rattle.record_body.proofs.Common.{all_pass, Pass}
use Rattle.std.proofs.Common.{max, append-nil}
use Rattle.std.proofs.lemmas.Bool.{cond-true}
use Rattle.std.proofs.lemmas.List.{drop-drop, length-drop}
use Rattle.record_body.proofs.Sizes.{length-blocks_at, length-clips_at, length-tracks_at}
use Rattle.record_body.proofs.{Numbers.number_back, Passing.pass_parts, Reaching.edit_size}

-- These bytes stand from one place up to another.
pub record Stands (part : List ℕ) (at end : ℕ) (bytes : List ℕ) : Type 0 where
  pub same : part ++ drop end bytes ≡ drop at bytes

module _ (bytes : List ℕ) where
  -- no bytes at all
  pub nothing : (at : ℕ) → Stands [] at at bytes
  nothing at = record { same = refl }

  -- the same place, said in another way
  pub ends : {part : List ℕ} {at end : ℕ} (other : ℕ) → end ≡ other → Stands part at end bytes
      → Stands part at other bytes
  ends {part} {at} {end} other e s = record { same = ap (λ (n : ℕ). part ++ drop n bytes) (sym e) ∙ s.same }

  -- one part after another
  pub joined : {part more : List ℕ} {at between end : ℕ} → Stands part at between bytes → Stands more between end bytes
      → Stands (part ++ more) at end bytes
  joined {part} {more} {at} {between} {end} s t = search (arith, append_assoc)

  -- all of them
  pub whole : (part : List ℕ) → Stands part 0 (length bytes) bytes → part ≡ bytes
  whole part s = search (arith, append-nil, drop_all)

  pub byte_stands : (at byte : ℕ) → at + 1 ≤ length bytes → byte ≡ slice_index bytes at
      → Stands (byte ∷ []) at (at + 1) bytes
  byte_stands at byte le is = search (arith, drop_more)

  pub field_stands : IsBytes bytes → (at n value : ℕ) → at + n ≤ length bytes → value ≡ field at n bytes
      → Stands (little_bytes n value) at (at + n) bytes
  field_stands fit at n value le is =
      search (
        arith,
        drop-drop n at bytes,
        number_back n (drop at bytes) (IsBytes-drop at bytes fit),
        length-drop at bytes,
      )

-- ---- clips

module _ (bytes : List ℕ) (fit : IsBytes bytes) where
  block_stands : (at : ℕ) → at + 12 ≤ length bytes → Stands (block_bytes (block_at at bytes)) at (at + 12) bytes
  block_stands at le =
      ends bytes (at + 12) (omega arith)
      (joined bytes (field_stands bytes fit at 8 (field at 8 bytes) (omega arith) refl)
      (field_stands bytes fit (at + 8) 4 (field (at + 8) 4 bytes) (omega arith) refl))

  blocks_stand : (count at : ℕ) → at + 12 * count ≤ length bytes
      → Stands (flat_map block_bytes (blocks_at count at bytes)) at (at + 12 * count) bytes
  blocks_stand zero at le = ends bytes (at + 12 * 0) (omega arith) (nothing bytes at)
  blocks_stand (suc count) at le = search (arith, blocks_stand count (at + 12), ends, joined, block_stands)

  clip_stands : (at : ℕ) → at + clip_size at bytes ≤ length bytes
      → Stands (clip_bytes (clip_at at bytes)) at (at + clip_size at bytes) bytes
  clip_stands at le =
      let start = field_stands bytes fit at 8 (field at 8 bytes) (omega arith) refl in
      let count = field_stands bytes fit (at + 8) 4 (length (blocks_at (block_count at bytes) (at + 12) bytes))
      (omega arith) (length-blocks_at bytes (block_count at bytes) (at + 12)) in
      let blocks = blocks_stand (block_count at bytes) (at + 12) (omega arith) in
      ends bytes (at + clip_size at bytes) (omega arith)
      (joined bytes start (joined bytes (ends bytes (at + 12) (omega arith) count) blocks))

  clips_stand : (count at : ℕ) → at + clips_size count at bytes ≤ length bytes
      → Stands (flat_map clip_bytes (clips_at count at bytes)) at (at + clips_size count at bytes) bytes
  clips_stand zero at le = ends bytes (at + 0) (omega arith) (nothing bytes at)
  clips_stand (suc count) at le =
      ends bytes (at + clips_size (suc count) at bytes) (omega arith)
      (joined bytes (clip_stands at (omega arith)) (clips_stand count (at + clip_size at bytes) (omega arith)))

-- ---- tests

-- a byte that its test lets through is the one that is written for it
side_back : (byte : ℕ) → min 2 byte ≡ byte → side_byte (side_of byte) ≡ byte
side_back zero e = refl
side_back (suc zero) e = refl
side_back (suc (suc zero)) e = refl
side_back (suc (suc (suc byte))) e = absurd (omega arith)

mute_back : (byte : ℕ) → min 1 byte ≡ byte → mute_byte (nat_lt 0 byte) ≡ byte
mute_back zero e = refl
mute_back (suc zero) e = refl
mute_back (suc (suc byte)) e = absurd (omega arith)

-- ---- tracks

module _ (bytes : List ℕ) (fit : IsBytes bytes) where
  settings_pass : (l : Limits) (from at : ℕ) → Pass (settings_tests l from at bytes)
      → (side_byte (side_of (slice_index bytes (at + 12))) ≡ slice_index bytes (at + 12))
      × (mute_byte (nat_lt 0 (slice_index bytes (at + 13))) ≡ slice_index bytes (at + 13))
  settings_pass l from at pass = search (arith, side_back, mute_back)

  track_stands : (l : Limits) (from at : ℕ) → Pass (track_tests l from at bytes)
      → at + track_size at bytes ≤ length bytes
      → Stands (track_bytes (track_at at bytes)) at (at + track_size at bytes) bytes
  track_stands l from at pass le =
      let settings = settings_pass l from at (pass_parts (settings_tests l from at bytes)
      (clips_tests l (clip_count at bytes) 0 (at + 18) bytes) pass).0 in
      let id = field_stands bytes fit at 8 (field at 8 bytes) (omega arith) refl in
      let gain = field_stands bytes fit (at + 8) 4 (field (at + 8) 4 bytes) (omega arith) refl in
      let side =
      byte_stands bytes (at + 12) (side_byte (side_of (slice_index bytes (at + 12)))) (omega arith) settings.0 in
      let mute =
      byte_stands bytes (at + 13) (mute_byte (nat_lt 0 (slice_index bytes (at + 13)))) (omega arith) settings.1 in
      let count = field_stands bytes fit (at + 14) 4 (length (clips_at (clip_count at bytes) (at + 18) bytes))
      (omega arith) (length-clips_at bytes (clip_count at bytes) (at + 18)) in
      let clips = clips_stand bytes fit (clip_count at bytes) (at + 18) (omega arith) in
      ends bytes (at + track_size at bytes) (omega arith)
      (joined bytes id
      (joined bytes (ends bytes (at + 12) (omega arith) gain)
      (joined bytes (ends bytes (at + 13) (omega arith) side)
      (joined bytes (ends bytes (at + 14) (omega arith) mute)
      (joined bytes (ends bytes (at + 18) (omega arith) count) clips)))))

  pub tracks_stand : (l : Limits) (count from at : ℕ) → Pass (tracks_tests l count from at bytes)
      → at + tracks_size count at bytes ≤ length bytes
      → Stands (flat_map track_bytes (tracks_at count at bytes)) at (at + tracks_size count at bytes) bytes
  tracks_stand l zero from at pass le = ends bytes (at + 0) (omega arith) (nothing bytes at)
  tracks_stand l (suc count) from at pass le =
      let parts = pass_parts (track_tests l from at bytes)
      (tracks_tests l count (field at 8 bytes + 1) (at + track_size at bytes) bytes) pass in
      ends bytes (at + tracks_size (suc count) at bytes) (omega arith)
      (joined bytes (track_stands l from at parts.0 (omega arith))
      (tracks_stand l count (field at 8 bytes + 1) (at + track_size at bytes) parts.1 (omega arith)))

-- ---- kinds

-- the kinds that have no widths
asked_other : (bytes : List ℕ) (kind : ℕ) → slice_index bytes 0 ≡ kind → 2 ≤ kind → kind ≤ 4
    → asked_length bytes ≡ (if kind == 4 then 9 else 1)
asked_other [] kind e least most = absurd (omega arith)
asked_other (first ∷ rest) zero e least most = absurd (omega arith)
asked_other (first ∷ rest) (suc zero) e least most = absurd (omega arith)
asked_other (first ∷ rest) (suc (suc zero)) e least most = rw e refl
asked_other (first ∷ rest) (suc (suc (suc zero))) e least most = rw e refl
asked_other (first ∷ rest) (suc (suc (suc (suc zero)))) e least most = rw e refl
asked_other (first ∷ rest) (suc (suc (suc (suc (suc kind))))) e least most = absurd (omega arith)

-- ---- bodies

-- what the bytes say, by their first
said_by : ℕ → List ℕ → Body
said_by kind bytes =
    if kind == 1 then edit_at bytes else if kind == 2 then Undo else if kind == 3 then Redo else Purge (field 1 8 bytes)

body_is : (bytes : List ℕ) (kind : ℕ) → slice_index bytes 0 ≡ kind → body_at bytes ≡ said_by kind bytes
unfolding said_by
body_is bytes kind e = ap (λ (k : ℕ). said_by k bytes) e

then_part : {A : Type 0} (P : A → Type 0) (b : Bool) (x y : A) → b ≡ true → P (if b then x else y) → P x
then_part P true x y e p = p
then_part P false x y e p = absurd cc

kinds : (kind : ℕ) → max 1 (min 4 kind) ≡ kind → (kind ≡ 1) ⊎ ((2 ≤ kind) × (kind ≤ 4))
kinds kind e = search arith

edit_spelled : (m : ℕ) (b : Before) (bytes : List ℕ) → IsBytes bytes → slice_index bytes 0 ≡ 1
    → asked_length bytes ≡ length bytes → Pass (edit_tests m b bytes)
    → spelling (edit_at bytes) ≡ bytes
edit_spelled m b bytes fit e asked pass =
    let size = edit_size bytes e asked in
    let tests =
    (pass_parts (head_tests b bytes) (tracks_tests (limits_at m b bytes) (track_count bytes) 0 29 bytes) pass).1 in
    let kind = byte_stands bytes 0 1 (omega arith) (sym e) in
    let tag = field_stands bytes fit 1 8 (field 1 8 bytes) (omega arith) refl in
    let next_block = field_stands bytes fit 9 8 (field 9 8 bytes) (omega arith) refl in
    let next_track = field_stands bytes fit 17 8 (field 17 8 bytes) (omega arith) refl in
    let count = field_stands bytes fit 25 4 (length (tracks_at (track_count bytes) 29 bytes)) (omega arith)
    (length-tracks_at bytes (track_count bytes) 29) in
    let tracks = tracks_stand bytes fit (limits_at m b bytes) (track_count bytes) 0 29 tests (omega arith) in
    whole bytes (spelling (edit_at bytes))
    (ends bytes (length bytes) size
    (joined bytes kind
    (joined bytes tag (joined bytes next_block (joined bytes next_track (joined bytes count tracks))))))

other_spelled : (bytes : List ℕ) (kind : ℕ) → IsBytes bytes → slice_index bytes 0 ≡ kind → 2 ≤ kind → kind ≤ 4
    → asked_length bytes ≡ length bytes
    → spelling (body_at bytes) ≡ bytes
unfolding said_by
other_spelled bytes zero fit e least most asked = absurd (omega arith)
other_spelled bytes (suc zero) fit e least most asked = absurd (omega arith)
other_spelled bytes (suc (suc zero)) fit e least most asked =
    search (arith, asked_other, body_is, whole, ends, byte_stands)
other_spelled bytes (suc (suc (suc zero))) fit e least most asked =
    search (arith, asked_other, body_is, whole, ends, byte_stands)
other_spelled bytes (suc (suc (suc (suc zero)))) fit e least most asked =
    let size : length bytes ≡ 9 = sym asked ∙ asked_other bytes 4 e least most in
    let kind = byte_stands bytes 0 4 (omega (arith, size)) (sym e) in
    let count = field_stands bytes fit 1 8 (field 1 8 bytes) (omega (arith, size)) refl in
    ap spelling (body_is bytes 4 e) ∙ whole bytes (4 ∷ little_bytes 8 (field 1 8 bytes))
    (ends bytes (length bytes) (omega (arith, size)) (joined bytes kind count))
other_spelled bytes (suc (suc (suc (suc (suc kind))))) fit e least most asked = absurd (omega arith)

-- bytes whose tests all pass are the spelling of what they say
pub spelled : (m : ℕ) (b : Before) (bytes : List ℕ) → ((i : ℕ) → slice_index bytes i < 256)
    → first_failed (body_tests m b bytes) ≡ None → spelling (body_at bytes) ≡ bytes
spelled m b bytes below none =
    search (
      arith,
      all_pass (body_tests m b bytes) none,
      kinds (slice_index bytes 0) (all_pass (body_tests m b bytes) none).1.0,
      cond-true (slice_index bytes 0 == 1) (edit_at bytes),
      eq-eqb (slice_index bytes 0) 1,
      edit_spelled m b bytes,
      then_part Pass (slice_index bytes 0 == 1) (edit_tests m b bytes) [],
      other_spelled bytes (slice_index bytes 0),
    )
