-- The samples and clips of a strip's cells, counted item by item.
use Rattle.clip_track.proofs.Common.{◌≡◌, ℕ, zero, suc, ◌+◌, ◌-◌, ◌<◌, ℤ, Bool, true, false, List, [], ◌∷◌, ◌++◌}
use Rattle.clip_track.proofs.Common.{length, map, replicate, refl, sym, ap, ap₂, ◌∙◌, append_assoc, arith}
use Rattle.clip_track.proofs.Common.{if◌then◌else◌, sub-zero, Sources, piece_len, samples_of, Cell, BlockRef}
use Rattle.clip_track.proofs.Common.{blocks_len, length-samples, Gap, Sound, strip_cells, gap_items, AreItems, clip_end}
use Rattle.clip_track.proofs.Common.{items_from, layout_cells, sound_items, AreClips, Item, Clip}
use Rattle.pcm_base.specs.Sizes.{sample_count, clip_starts, clip_count}
use Rattle.clip_track.specs.{Counts.clips_len}
use Rattle.clip_track.proofs.Layouts.{strip_cells-items, AreItems-items}
use Rattle.pcm_base.specs.declared.sound.Cell.TheVariants as cell

abbrev pub item_samples : List Item → ℕ
item_samples [] = 0
item_samples (Gap n ∷ xs) = item_samples xs
item_samples (Sound p ∷ xs) = piece_len p + item_samples xs

-- the pieces that have no piece directly before them
abbrev pub item_starts : Bool → List Item → ℕ
item_starts after [] = 0
item_starts after (Gap n ∷ xs) = item_starts false xs
item_starts after (Sound p ∷ xs) = (if after then 0 else 1) + item_starts true xs

samples_past_gaps : (n : ℕ) (cells : List Cell) → sample_count (replicate n cell.Gap ++ cells) ≡ sample_count cells
samples_past_gaps zero cells = refl
samples_past_gaps (suc n) cells = samples_past_gaps n cells

samples_past : (ss : List ℤ) (cells : List Cell)
    → sample_count (map cell.Sample ss ++ cells) ≡ length ss + sample_count cells
samples_past [] cells = omega arith
samples_past (s ∷ ss) cells = omega (arith, samples_past ss cells)

pub sample_count-strip : (src : Sources) (xs : List Item) → sample_count (strip_cells src xs) ≡ item_samples xs
sample_count-strip src [] = refl
sample_count-strip src (Gap n ∷ xs) = samples_past_gaps n (strip_cells src xs) ∙ sample_count-strip src xs
sample_count-strip src (Sound p ∷ xs) =
    samples_past (samples_of src p) (strip_cells src xs) ∙ ap₂ ◌+◌ (length-samples src p) (sample_count-strip src xs)

starts_past_gaps : (b : Bool) (n : ℕ) (cells : List Cell) → 0 < n
    → clip_starts b (replicate n cell.Gap ++ cells) ≡ clip_starts false cells
starts_past_gaps b zero cells h = absurd (omega arith)
starts_past_gaps b (suc zero) cells h = refl
starts_past_gaps b (suc (suc n)) cells h = starts_past_gaps false (suc n) cells (omega arith)

starts_past : (b : Bool) (ss : List ℤ) (cells : List Cell) → 0 < length ss
    → clip_starts b (map cell.Sample ss ++ cells) ≡ (if b then 0 else 1) + clip_starts true cells
starts_past b [] cells h = absurd (omega arith)
starts_past b (s ∷ []) cells h = refl
starts_past b (s ∷ t ∷ ss) cells h =
    ap (λ n. (if b then 0 else 1) + n) (starts_past true (t ∷ ss) cells (omega arith) ∙ omega arith)

pub clip_starts-strip : (src : Sources) (b : Bool) (xs : List Item) → AreItems xs
    → clip_starts b (strip_cells src xs) ≡ item_starts b xs
clip_starts-strip src b [] v = refl
clip_starts-strip src b (Gap n ∷ xs) v =
    starts_past_gaps b n (strip_cells src xs) v.0 ∙ clip_starts-strip src false xs v.1
clip_starts-strip src b (Sound p ∷ xs) v =
    starts_past b (samples_of src p) (strip_cells src xs) (omega (arith, length-samples src p, v.0.0))
    ∙ ap (λ n. (if b then 0 else 1) + n) (clip_starts-strip src true xs v.1)

-- a layout has as many clips as runs of samples, and as many samples as its blocks
item_samples-append : (xs ys : List Item) → item_samples (xs ++ ys) ≡ item_samples xs + item_samples ys
item_samples-append [] ys = omega arith
item_samples-append (Gap n ∷ xs) ys = item_samples-append xs ys
item_samples-append (Sound p ∷ xs) ys = omega (arith, item_samples-append xs ys)

gap_samples : (n : ℕ) → item_samples (gap_items n) ≡ 0
gap_samples zero = refl
gap_samples (suc n) = refl

sound_samples : (bs : List BlockRef) → item_samples (sound_items bs) ≡ blocks_len bs
sound_samples [] = refl
sound_samples (b ∷ bs) = omega (arith, sub-zero b.len, sound_samples bs)

samples_from : (at : ℕ) (cs : List Clip) → item_samples (items_from at cs) ≡ clips_len cs
samples_from at [] = refl
samples_from at (c ∷ cs) = omega (
  arith,
  item_samples-append (gap_items (c.start - at) ++ sound_items c.blocks) (items_from (clip_end c) cs),
  item_samples-append (gap_items (c.start - at)) (sound_items c.blocks),
  gap_samples (c.start - at),
  sound_samples c.blocks,
  samples_from (clip_end c) cs,
)

pub sample_count-layout : (src : Sources) (cs : List Clip) → sample_count (layout_cells src cs) ≡ clips_len cs
sample_count-layout src cs =
    ap sample_count (sym (strip_cells-items src 0 cs)) ∙ sample_count-strip src (items_from 0 cs) ∙ samples_from 0 cs

-- blocks one after another are one run
starts_on : (bs : List BlockRef) (xs : List Item) → item_starts true (sound_items bs ++ xs) ≡ item_starts true xs
starts_on [] xs = refl
starts_on (b ∷ bs) xs = omega (arith, starts_on bs xs)

starts_sound : (bs : List BlockRef) (xs : List Item) → 0 < blocks_len bs
    → item_starts false (sound_items bs ++ xs) ≡ 1 + item_starts true xs
starts_sound [] xs some = absurd (omega (arith, some))
starts_sound (b ∷ bs) xs some = omega (arith, starts_on bs xs)

starts_gap : (after : Bool) (n : ℕ) (xs : List Item) → 0 < n
    → item_starts after (gap_items n ++ xs) ≡ item_starts false xs
starts_gap after zero xs some = absurd (omega (arith, some))
starts_gap after (suc n) xs some = refl

starts_behind : (at : ℕ) (cs : List Clip) → AreClips (at + 1) cs → item_starts true (items_from at cs) ≡ length cs
starts_behind at [] apart = refl
starts_behind at (c ∷ cs) apart =
    let rest = items_from (clip_end c) cs in
    ap (item_starts true) (append_assoc (gap_items (c.start - at)) (sound_items c.blocks) rest)
    ∙ starts_gap true (c.start - at) (sound_items c.blocks ++ rest) (omega (arith, apart.0))
    ∙ starts_sound c.blocks rest apart.1
    ∙ omega (arith, starts_behind (clip_end c) cs apart.3)

starts_first : (n : ℕ) (xs : List Item) → item_starts false (gap_items n ++ xs) ≡ item_starts false xs
starts_first zero xs = refl
starts_first (suc n) xs = refl

starts_layout : (cs : List Clip) → AreClips 0 cs → item_starts false (items_from 0 cs) ≡ length cs
starts_layout [] apart = refl
starts_layout (c ∷ cs) apart =
    let rest = items_from (clip_end c) cs in
    ap (item_starts false) (append_assoc (gap_items (c.start - 0)) (sound_items c.blocks) rest)
    ∙ starts_first (c.start - 0) (sound_items c.blocks ++ rest)
    ∙ starts_sound c.blocks rest apart.1
    ∙ omega (arith, starts_behind (clip_end c) cs apart.3)

pub clip_count-layout : (src : Sources) (cs : List Clip) → AreClips 0 cs → clip_count (layout_cells src cs) ≡ length cs
clip_count-layout src cs apart =
    ap clip_count (sym (strip_cells-items src 0 cs))
    ∙ clip_starts-strip src false (items_from 0 cs) (AreItems-items 0 0 cs apart) ∙ starts_layout cs apart
