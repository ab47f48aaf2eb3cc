-- Blocks by their ids.
use Rattle.edit_ops.proofs.Common.{◌≡◌, ℕ, suc, inl, inr, ◌+◌, ◌-◌, ◌<◌, ◌≤◌, List, [], ◌∷◌, ◌++◌, length, map}
use Rattle.edit_ops.proofs.Common.{replicate, refl, sym, ap, ap₂, subst, ◌∙◌, arith, length-append, IsHalfFull}
use Rattle.edit_ops.proofs.Common.{BlockRef, Sources, stretch, parts, sizes, all_laid_samples, AllMade, added}
use Rattle.edit_ops.proofs.Common.{made_count, AllLaidFrom, Laid, Keep, Make, Contains, end_of, AllHalfFull}
use Rattle.edit_ops.proofs.Common.{layout_blocks, AreWritten, named, new_blocks, next_after, ClipsFrom, laid_len}
use Rattle.edit_ops.proofs.Common.{laid_end, laid_cells, AreLaidClips, clips_new_blocks, made_clips, LaidClip, NewBlock}
use Rattle.pcm_base.specs.Blocks.{AllFull, block_lens, blocks_len, block_samples, NoneEmpty}
use Rattle.clip_track.specs.Clips.{cells_from, AreClips, IsLayout}
use Rattle.edit_ops.specs.Plans.{AreNew, AllNewFrom, AreOldOrNew}
use Rattle.edit_ops.specs.LaidClips.{named_clips, clips_next, count_laid}
use Rattle.pcm_base.specs.declared.sound.Cell.TheVariants as cell

-- each clip by itself
abbrev pub AllLaid : ℕ → List LaidClip → Type 0
AllLaid m [] = Unit {0}
AllLaid m (c ∷ cs) = IsHalfFull m (sizes c.laid.items) × (laid_len c ≤ 4294967296) × AllLaid m cs

pub lens_named : (next : ℕ) (ls : List Laid) → block_lens (named next ls) ≡ sizes ls
lens_named next [] = refl
lens_named next (Keep b ∷ ls) = ap (λ ns. b.len ∷ ns) (lens_named next ls)
lens_named next (Make ps n ∷ ls) = ap (λ ns. n ∷ ns) (lens_named (next + 1) ls)

pub added_lens : (bs : List BlockRef) → blocks_len bs ≡ added (block_lens bs)
added_lens [] = refl
added_lens (b ∷ bs) = ap (λ n. b.len + n) (added_lens bs)

pub len_named : (next : ℕ) (ls : List Laid) → blocks_len (named next ls) ≡ added (sizes ls)
len_named next ls = added_lens (named next ls) ∙ ap added (lens_named next ls)

none_empty_full : (m : ℕ) (bs : List BlockRef) → 0 < m → AllFull m (block_lens bs) → NoneEmpty bs
none_empty_full m [] a h = tt
none_empty_full m (b ∷ bs) a h = (omega (arith, h.0), none_empty_full m bs a h.1)

pub none_empty : (m : ℕ) (bs : List BlockRef) → 0 < m → IsHalfFull m (block_lens bs) → NoneEmpty bs
none_empty m [] a h = tt
none_empty m (b ∷ []) a h = (h.0, tt)
none_empty m (b ∷ c ∷ bs) a h = none_empty_full m (b ∷ c ∷ bs) a h

pub half_full_named : (m next : ℕ) (ls : List Laid) → IsHalfFull m (sizes ls)
    → IsHalfFull m (block_lens (named next ls))
half_full_named m next ls h = let P : List ℕ → Type 0 = IsHalfFull m in subst P (sym (lens_named next ls)) h

count_full : (m : ℕ) (ns : List ℕ) → 0 < m → AllFull m ns → length ns ≤ added ns
count_full m [] a h = omega arith
count_full m (n ∷ ns) a h = omega (arith, h.0, count_full m ns a h.1)

count_half : (m : ℕ) (ns : List ℕ) → 0 < m → IsHalfFull m ns → length ns ≤ added ns
count_half m [] a h = omega arith
count_half m (n ∷ []) a h = omega (arith, h.0)
count_half m (n ∷ k ∷ ns) a h = count_full m (n ∷ k ∷ ns) a h

pub length-sizes : (ls : List Laid) → length (sizes ls) ≡ length ls
length-sizes [] = refl
length-sizes (l ∷ ls) = ap suc (length-sizes ls)

-- there are no more blocks than samples
pub count_laid_le : (m at from : ℕ) (cs : List LaidClip) → 0 < m → at ≤ from → AreLaidClips m from cs
    → at + count_laid cs ≤ laid_end at cs
count_laid_le m at from [] a l h = omega arith
count_laid_le m at from (c ∷ cs) a l h =
    omega (
      arith,
      count_half m (sizes c.laid.items) a h.3,
      length-sizes c.laid.items,
      h.0,
      count_laid_le m (c.start + laid_len c) (c.start + laid_len c + 1) cs a (omega arith) h.4,
    )

pub next_after_le : (next : ℕ) (ls : List Laid) → next_after next ls ≤ next + length ls
next_after_le next [] = omega arith
next_after_le next (Keep b ∷ ls) = omega (arith, next_after_le next ls)
next_after_le next (Make ps n ∷ ls) = omega (arith, next_after_le (next + 1) ls)

laid_ends_later : (m at from : ℕ) (cs : List LaidClip) → at ≤ from → AreLaidClips m from cs → at ≤ laid_end at cs
laid_ends_later m at from [] h a = omega arith
laid_ends_later m at from (c ∷ cs) h a =
    omega (arith, a.0, laid_ends_later m (c.start + laid_len c) (c.start + laid_len c + 1) cs (omega arith) a.4)

pub AllLaid-from : (m at from : ℕ) (cs : List LaidClip) → AreLaidClips m from cs → laid_end at cs ≤ 4294967296
    → AllLaid m cs
AllLaid-from m at from [] a h = tt
AllLaid-from m at from (c ∷ cs) a h = (
  a.3,
  omega (arith, laid_ends_later m (c.start + laid_len c) (c.start + laid_len c + 1) cs (omega arith) a.4),
  AllLaid-from m (c.start + laid_len c) (c.start + laid_len c + 1) cs a.4 h,
)

pub end_named : (at next : ℕ) (cs : List LaidClip) → end_of at (named_clips next cs) ≡ laid_end at cs
end_named at next [] = refl
end_named at next (c ∷ cs) =
    ap (λ n. end_of (c.start + n) (named_clips (next_after next c.laid.items) cs)) (len_named next c.laid.items)
    ∙ end_named (c.start + laid_len c) (next_after next c.laid.items) cs

pub AreClips-named : (m from next : ℕ) (cs : List LaidClip) → 0 < m → AreLaidClips m from cs
    → AreClips from (named_clips next cs)
AreClips-named m from next [] h a = tt
AreClips-named m from next (c ∷ cs) h a =
    let e = len_named next c.laid.items in
    let P : ℕ → Type 0 = λ n. AreClips (c.start + n + 1) (named_clips (next_after next c.laid.items) cs) in (
      a.0,
      omega (arith, e, a.1),
      none_empty m (named next c.laid.items) h (half_full_named m next c.laid.items a.3),
      subst P (sym e) (AreClips-named m (c.start + laid_len c + 1) (next_after next c.laid.items) cs h a.4),
    )

pub IsLayout-named : (m next : ℕ) (cs : List LaidClip) → 0 < m → AreLaidClips m 0 cs → laid_end 0 cs ≤ 4294967296
    → IsLayout (named_clips next cs)
IsLayout-named m next cs h a k =
    record { apart = AreClips-named m 0 next cs h a; few = omega (arith, end_named 0 next cs) }

pub AllHalfFull-named : (m from next : ℕ) (cs : List LaidClip) → AreLaidClips m from cs
    → AllHalfFull m (named_clips next cs)
AllHalfFull-named m from next [] a = tt
AllHalfFull-named m from next (c ∷ cs) a = (
  half_full_named m next c.laid.items a.3,
  AllHalfFull-named m (c.start + laid_len c + 1) (next_after next c.laid.items) cs a.4,
)

-- what is written to the new blocks is what is laid out
AreWritten-parts : (src : Sources) (ks bs : List NewBlock) → AreWritten src (ks ++ bs)
    → AreWritten src ks × AreWritten src bs
AreWritten-parts src [] bs h = (tt, h)
AreWritten-parts src (a ∷ ks) bs h = let r = AreWritten-parts src ks bs h.1 in ((h.0, r.0), r.1)

samples_named : (src : Sources) (next : ℕ) (ls : List Laid) → AreWritten src (new_blocks next ls)
    → block_samples src (named next ls) ≡ all_laid_samples src ls
samples_named src next [] h = refl
samples_named src next (Keep b ∷ ls) h = ap (λ xs. stretch (src.block b.id) 0 b.len ++ xs) (samples_named src next ls h)
samples_named src next (Make ps n ∷ ls) h = ap₂ ◌++◌ h.0 (samples_named src (next + 1) ls h.1)

pub cells_named : (src : Sources) (at next : ℕ) (cs : List LaidClip) → AreWritten src (clips_new_blocks next cs)
    → cells_from src at (named_clips next cs) ≡ laid_cells src at cs
cells_named src at next [] h = refl
cells_named src at next (c ∷ cs) h =
    let w =
    AreWritten-parts src (new_blocks next c.laid.items) (clips_new_blocks (next_after next c.laid.items) cs) h in
    ap₂ (λ xs ys. replicate (c.start - at) cell.Gap ++ map cell.Sample xs ++ ys)
    (samples_named src next c.laid.items w.0)
    (ap (λ n. cells_from src (c.start + n) (named_clips (next_after next c.laid.items) cs))
    (len_named next c.laid.items)
    ∙ cells_named src (c.start + laid_len c) (next_after next c.laid.items) cs w.1)

-- the new blocks' ids
pub next_counts : (next : ℕ) (ls : List Laid) → next_after next ls ≡ next + length (new_blocks next ls)
next_counts next [] = omega arith
next_counts next (Keep b ∷ ls) = next_counts next ls
next_counts next (Make ps n ∷ ls) = omega (arith, next_counts (next + 1) ls)

pub clips_next_counts : (next : ℕ) (cs : List LaidClip) → clips_next next cs ≡ next + length (clips_new_blocks next cs)
clips_next_counts next [] = omega arith
clips_next_counts next (c ∷ cs) = omega (
  arith,
  length-append (new_blocks next c.laid.items) (clips_new_blocks (next_after next c.laid.items) cs),
  next_counts next c.laid.items,
  clips_next_counts (next_after next c.laid.items) cs,
)

pub AreNew-append : (m next : ℕ) (ks bs : List NewBlock) → AreNew m next ks → AreNew m (next + length ks) bs
    → AreNew m next (ks ++ bs)
AreNew-append m next [] bs a b = let P : ℕ → Type 0 = λ n. AreNew m n bs in subst P (omega arith) b
AreNew-append m next (x ∷ ks) bs a b =
    let P : ℕ → Type 0 = λ n. AreNew m n bs in
    (a.0, a.1, a.2, a.3, a.4, AreNew-append m (next + 1) ks bs a.5 (subst P (omega arith) b))

-- each size is within a block
abbrev AllWithin : ℕ → List ℕ → Type 0
AllWithin m [] = Unit {0}
AllWithin m (n ∷ ns) = ((0 < n) × (n ≤ m)) × AllWithin m ns

within_full : (m : ℕ) (ns : List ℕ) → 0 < m → AllFull m ns → AllWithin m ns
within_full m [] a h = tt
within_full m (n ∷ ns) a h = ((omega (arith, h.0), h.0.1), within_full m ns a h.1)

within_half : (m : ℕ) (ns : List ℕ) → 0 < m → IsHalfFull m ns → AllWithin m ns
within_half m [] a h = tt
within_half m (n ∷ []) a h = (h, tt)
within_half m (n ∷ k ∷ ns) a h = within_full m (n ∷ k ∷ ns) a h

AreNew-laid : (m next : ℕ) (ls : List Laid) → AllMade m ls → AllWithin m (sizes ls) → AreNew m next (new_blocks next ls)
AreNew-laid m next [] a w = tt
AreNew-laid m next (Keep b ∷ ls) a w = AreNew-laid m next ls a.1 w.1
AreNew-laid m next (Make ps n ∷ ls) a w = (refl, w.0.0, w.0.1, a.0.2, a.0.0, AreNew-laid m (next + 1) ls a.1 w.1)

pub AreNew-clips : (m from next : ℕ) (cs : List LaidClip) → 0 < m → AreLaidClips m from cs
    → AreNew m next (clips_new_blocks next cs)
AreNew-clips m from next [] s a = tt
AreNew-clips m from next (c ∷ cs) s a =
    let P : ℕ → Type 0 = λ n. AreNew m n (clips_new_blocks (next_after next c.laid.items) cs) in
    AreNew-append m next (new_blocks next c.laid.items) _
    (AreNew-laid m next c.laid.items a.2 (within_half m (sizes c.laid.items) s a.3))
    (subst P (next_counts next c.laid.items)
    (AreNew-clips m (c.start + laid_len c + 1) (next_after next c.laid.items) cs s a.4))

-- the new blocks' pieces
AllNewFrom-append : (old : List BlockRef) (count : ℕ) (ks bs : List NewBlock) → AllNewFrom old count ks
    → AllNewFrom old count bs → AllNewFrom old count (ks ++ bs)
AllNewFrom-append old count [] bs a b = b
AllNewFrom-append old count (x ∷ ks) bs a b = (a.0, AllNewFrom-append old count ks bs a.1 b)

AllNewFrom-laid : (old : List BlockRef) (count next : ℕ) (ls : List Laid) → AllLaidFrom old count ls
    → AllNewFrom old count (new_blocks next ls)
AllNewFrom-laid old count next [] f = tt
AllNewFrom-laid old count next (Keep b ∷ ls) f = AllNewFrom-laid old count next ls f.1
AllNewFrom-laid old count next (Make ps n ∷ ls) f = (f.0, AllNewFrom-laid old count (next + 1) ls f.1)

pub AllNewFrom-clips : (old : List BlockRef) (count next : ℕ) (cs : List LaidClip) → ClipsFrom old count cs
    → AllNewFrom old count (clips_new_blocks next cs)
AllNewFrom-clips old count next [] f = tt
AllNewFrom-clips old count next (c ∷ cs) f =
    AllNewFrom-append old count (new_blocks next c.laid.items) _ (AllNewFrom-laid old count next c.laid.items f.0)
    (AllNewFrom-clips old count (next_after next c.laid.items) cs f.1)

-- the blocks in order
old_first : (old bs : List BlockRef) (b : BlockRef) (ns : List NewBlock) → Contains old b → AreOldOrNew old bs ns
    → AreOldOrNew old (b ∷ bs) ns
old_first old bs b [] h k = (h, k)
old_first old bs b (n ∷ ns) h k = inl (h, k)

pub old_or_new_append : (old bs cs : List BlockRef) (ks ns : List NewBlock) → AreOldOrNew old bs ks → AreOldOrNew old cs ns
    → AreOldOrNew old (bs ++ cs) (ks ++ ns)
old_or_new_append old [] cs [] ns h k = k
old_or_new_append old [] cs (x ∷ ks) ns h k = absurd h
old_or_new_append old (b ∷ bs) cs [] ns h k =
    old_first old (bs ++ cs) b ns h.0 (old_or_new_append old bs cs [] ns h.1 k)
old_or_new_append old (b ∷ bs) cs (x ∷ ks) ns h k = elim h [
  | inl o ↦ inl (o.0, old_or_new_append old bs cs (x ∷ ks) ns o.1 k)
  | inr o ↦ inr (o.0, old_or_new_append old bs cs ks ns o.1 k)
]

old_or_new_laid : (old : List BlockRef) (count next : ℕ) (ls : List Laid) → AllLaidFrom old count ls
    → AreOldOrNew old (named next ls) (new_blocks next ls)
old_or_new_laid old count next [] f = tt
old_or_new_laid old count next (Keep b ∷ ls) f =
    old_first old (named next ls) b (new_blocks next ls) f.0 (old_or_new_laid old count next ls f.1)
old_or_new_laid old count next (Make ps n ∷ ls) f = inr (refl, old_or_new_laid old count (next + 1) ls f.1)

pub old_or_new_clips : (old : List BlockRef) (count next : ℕ) (cs : List LaidClip) → ClipsFrom old count cs
    → AreOldOrNew old (layout_blocks (named_clips next cs)) (clips_new_blocks next cs)
old_or_new_clips old count next [] f = tt
old_or_new_clips old count next (c ∷ cs) f =
    old_or_new_append old
    (named next c.laid.items) _ (new_blocks next c.laid.items) _ (old_or_new_laid old count next c.laid.items f.0)
    (old_or_new_clips old count (next_after next c.laid.items) cs f.1)

count_new : (next : ℕ) (ls : List Laid) → length (new_blocks next ls) ≡ made_count (parts ls)
count_new next [] = refl
count_new next (Keep b ∷ ls) = count_new next ls
count_new next (Make ps n ∷ ls) = omega (arith, count_new (next + 1) ls)

pub count_clips_new : (next : ℕ) (cs : List LaidClip) → length (clips_new_blocks next cs) ≡ made_clips cs
count_clips_new next [] = refl
count_clips_new next (c ∷ cs) =
    length-append (new_blocks next c.laid.items) (clips_new_blocks (next_after next c.laid.items) cs)
    ∙ ap₂ ◌+◌ (count_new next c.laid.items) (count_clips_new (next_after next c.laid.items) cs)
