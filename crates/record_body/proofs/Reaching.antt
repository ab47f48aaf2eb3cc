-- Where fields of some widths end.
use Rattle.record_body.proofs.Common.{◌≡◌, ℕ, zero, suc, ◌+◌, ◌-◌, ◌*◌, ◌≤◌, ◌<◌, List, [], ◌∷◌, ◌++◌, length}
use Rattle.record_body.proofs.Common.{refl, sym, ap, ◌∙◌, arith, Result, Ok, Err, slice_index}
use Rattle.record_body.proofs.Common.{le-leb, field, block_count, clip_size, clips_size, clip_count}
use Rattle.record_body.proofs.Common.{track_size, tracks_size, track_count, blocks_widths, clip_widths, clips_widths}
use Rattle.record_body.proofs.Common.{track_widths, tracks_widths, edit_widths, total_width, reach, asked_length}
use Rattle.record_body.proofs.Common.{Reaches}
use Rattle.std.proofs.lemmas.Bool.{leb-true, leb-false}
use Rattle.record_body.specs.declared.measuring.PastEnd.{PastEnd}

pub total_width-append : (xs ys : List ℕ) → total_width (xs ++ ys) ≡ total_width xs + total_width ys
total_width-append [] ys = omega arith
total_width-append (x ∷ xs) ys = omega (arith, total_width-append xs ys)

-- fields that fit are passed over
pub reach_fits : (len at : ℕ) (ws rest : List ℕ) → at + total_width ws ≤ len
    → reach len at (ws ++ rest) ≡ reach len (at + total_width ws) rest
reach_fits len at [] rest h = ap (λ n. reach len n rest) (omega arith)
reach_fits len at (w ∷ ws) rest h = search (arith, reach_fits len (at + w) ws rest (omega (arith, h)), le-leb)

-- after a field that does not fit nothing counts
pub reach_past : (len at : ℕ) (ws rest : List ℕ) → at ≤ len → len < reach len at ws
    → reach len at (ws ++ rest) ≡ reach len at ws
reach_past len at [] rest a h = absurd (omega (arith, a, h))
reach_past len at (w ∷ ws) rest a h = search (arith, reach_past len (at + w) ws rest, leb-true)

-- fields that all fit
pub reach_whole : (len at : ℕ) (ws : List ℕ) → at + total_width ws ≤ len → reach len at ws ≡ at + total_width ws
reach_whole len at [] h = omega arith
reach_whole len at (w ∷ ws) h = search (arith, reach_whole len (at + w) ws (omega (arith, h)), le-leb)

-- a body that is as long as is asked has all its fields
pub reach_all : (len at : ℕ) (ws : List ℕ) → reach len at ws ≤ len → at + total_width ws ≡ reach len at ws
reach_all len at [] h = omega arith
reach_all len at (w ∷ ws) h = search (arith, reach_all len (at + w) ws, leb-false)

-- the same of what stands after some fields
pub reaches_on : (len at mid : ℕ) (ws rest : List ℕ) (r : Result ℕ PastEnd) → mid ≡ at + total_width ws → mid ≤ len
    → Reaches len mid rest r → Reaches len at (ws ++ rest) r
reaches_on len at mid ws rest (Ok end) e h x = (omega (arith, x.0, e, total_width-append ws rest), x.1)
reaches_on len at mid ws rest (Err past) e h x = search (arith, reach_fits)

-- the same where the last of these fields says how many parts stand after them
pub counted_on : (bytes ws : List ℕ) (rest : ℕ → ℕ → List ℕ) (at place to mid n : ℕ) (r : Result ℕ PastEnd)
    → place + 4 ≡ to → to ≡ at + total_width ws → mid ≡ at + total_width ws → mid ≤ length bytes
    → n ≡ field (mid - 4) 4 bytes → Reaches (length bytes) mid (rest n mid) r
    → Reaches (length bytes) at (ws ++ rest (field place 4 bytes) to) r
counted_on bytes ws rest at place to mid n r four is ends within count h = search (arith, reaches_on)

-- where all fields fit that are asked for
pub asked_end : (len at end asked : ℕ) (ws : List ℕ) → asked ≡ reach len at ws
    → (end ≡ at + total_width ws) × (end ≤ len) → end ≡ asked
asked_end len at end asked ws is fit = fit.0 ∙ sym (is ∙ reach_whole len at ws (omega (arith, fit.0, fit.1)))

-- Parts that stand one after another: those so far fit, and the widths of those that are left end where all of them do.
pub record PartsFit (widths : ℕ → ℕ → List ℕ) (len at count end left : ℕ) : Type 0 where
  pub within : end ≤ len
  pub sum : end + total_width (widths left end) ≡ at + total_width (widths count at)
  pub ends : reach len end (widths left end) ≡ reach len at (widths count at)

-- each with the widths of its fields
module _ (widths : ℕ → ℕ → List ℕ) (one : List ℕ) (len at count end : ℕ) where
  -- a field of the next part does not fit
  pub next_past : (rest : ℕ → List ℕ) (left past : ℕ) → 0 < left → ((n : ℕ) → widths (suc n) end ≡ one ++ rest n)
      → PartsFit widths len at count end left → (past ≡ reach len end one) × (len < past)
      → (past ≡ reach len at (widths count at)) × (len < past)
  next_past rest zero past some more fit p = absurd (omega (arith, some))
  next_past rest (suc n) past some more fit p = search (arith, reach_past)

  -- it fits
  pub next_fits : (left next k : ℕ) → 0 < left → k ≡ left - 1 → ((n : ℕ) → widths (suc n) end ≡ one ++ widths n next)
      → PartsFit widths len at count end left → (next ≡ end + total_width one) × (next ≤ len)
      → PartsFit widths len at count next k
  next_fits zero next k some less more fit p = absurd (omega (arith, some))
  next_fits (suc n) next k some less more fit p = search (arith, total_width-append, reach_fits)

-- where none is left
pub all_fit : (widths : ℕ → ℕ → List ℕ) (len at count end left : ℕ) → left ≡ 0 → widths 0 end ≡ []
    → PartsFit widths len at count end left → (end ≡ at + total_width (widths count at)) × (end ≤ len)
all_fit widths len at count end left none zero_widths fit = search arith

pub sum_blocks : (count : ℕ) → total_width (blocks_widths count) ≡ 12 * count
sum_blocks zero = refl
sum_blocks (suc count) = omega (arith, sum_blocks count)

pub sum_clip : (at : ℕ) (bytes : List ℕ) → total_width (clip_widths at bytes) ≡ clip_size at bytes
sum_clip at bytes = omega (arith, sum_blocks (block_count at bytes))

pub sum_clips : (count at : ℕ) (bytes : List ℕ) → total_width (clips_widths count at bytes) ≡ clips_size count at bytes
sum_clips zero at bytes = refl
sum_clips (suc count) at bytes =
    search (arith, sum_clips count (at + clip_size at bytes) bytes, total_width-append, sum_clip)

pub sum_track : (at : ℕ) (bytes : List ℕ) → total_width (track_widths at bytes) ≡ track_size at bytes
sum_track at bytes = omega (arith, sum_clips (clip_count at bytes) (at + 18) bytes)

pub sum_tracks : (count at : ℕ) (bytes : List ℕ)
    → total_width (tracks_widths count at bytes) ≡ tracks_size count at bytes
sum_tracks zero at bytes = refl
sum_tracks (suc count) at bytes =
    search (arith, sum_tracks count (at + track_size at bytes) bytes, total_width-append, sum_track)

-- after this many blocks one field of the next does not fit
pub blocks_past : (len at whole count : ℕ) (r : Result ℕ PastEnd) → whole < count → at + 12 * whole ≤ len
    → len < at + 12 * whole + 12
    → Reaches len (at + 12 * whole) (8 ∷ 4 ∷ []) r → Reaches len at (blocks_widths count) r
blocks_past len at whole count (Ok end) p h q x = absurd (omega (arith, x.0, x.1, q))
blocks_past len at zero zero (Err past) p h q x = absurd (omega (arith, p))
blocks_past len at zero (suc count) (Err past) p h q x = search (arith, reach_past)
blocks_past len at (suc whole) zero (Err past) p h q x = absurd (omega (arith, p))
blocks_past len at (suc whole) (suc count) (Err past) p h q x =
    search (arith, blocks_past len (at + 12) whole count (Err past), reach_fits)

-- parts whose sizes are counted together: the first is within all, and those after it end where all do
module _ (sizes : ℕ → ℕ → ℕ) (size at next : ℕ) (more : (j : ℕ) → sizes (suc j) at ≡ size + sizes j (at + size)) where
  pub first_within : (n : ℕ) → 0 < n → at + size ≤ at + sizes n at
  first_within zero some = absurd (omega (arith, some))
  first_within (suc n) some = omega (arith, more n)

  pub parts_behind : (n k : ℕ) → 0 < n → k ≡ n - 1 → at + size ≡ next → next + sizes k next ≡ at + sizes n at
  parts_behind zero k some less ends = absurd (omega (arith, some))
  parts_behind (suc n) k some less ends = search arith

pub sum_edit : (bytes : List ℕ) → total_width (edit_widths bytes) ≡ 29 + tracks_size (track_count bytes) 29 bytes
sum_edit bytes = omega (arith, sum_tracks (track_count bytes) 29 bytes)

-- what is asked of an edit
pub asked_edit : (bytes : List ℕ) → slice_index bytes 0 ≡ 1
    → asked_length bytes ≡ reach (length bytes) 0 (edit_widths bytes)
asked_edit [] e = absurd (omega (arith, e))
asked_edit (kind ∷ rest) e = rw e refl

-- an edit that is as long as is asked has all its tracks
pub edit_size : (bytes : List ℕ) → slice_index bytes 0 ≡ 1 → asked_length bytes ≡ length bytes
    → 29 + tracks_size (track_count bytes) 29 bytes ≡ length bytes
edit_size bytes kind e = search (arith, asked_edit, reach_all, sum_edit)
