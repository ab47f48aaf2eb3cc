-- Lemmas on clips that are laid out.
use Rattle.edit_ops.proofs.Common.{◌≡◌, ℕ, zero, suc, ◌+◌, ◌-◌, ◌<◌, ◌≤◌, ℤ, pos, List, [], ◌∷◌, ◌++◌, length, map}
use Rattle.edit_ops.proofs.Common.{replicate, refl, sym, ap, ap₂, ◌∙◌, append_assoc, arith, length-append, append-nil}
use Rattle.edit_ops.proofs.Common.{Sources, stretch, all_samples, Cell, trimmed, Piece, BlockRef, IsHalfFull}
use Rattle.edit_ops.proofs.Common.{length-all_samples, added, made_count, AllShort, Keep, Make, parts, sizes}
use Rattle.edit_ops.proofs.Common.{all_laid_samples, AllMade, AllLaidFrom, Laid, LaidClip, ClipsFrom, laid_len}
use Rattle.edit_ops.proofs.Common.{laid_end, laid_cells, AreLaidClips, made_clips}
use Rattle.pcm_base.specs.{Cells.joined}
use Rattle.pcm_base.proofs.Pieces.{length-stretch}
use Rattle.model_laws.proofs.Trimming.{trimmed-gaps, trimmed-samples}
use Rattle.edit_ops.specs.LaidClips.{laid_next}
use Rattle.pcm_base.specs.declared.sound.Cell.TheVariants as cell

pub length-all_laid : (m : ℕ) (src : Sources) (ls : List Laid) → AllMade m ls
    → length (all_laid_samples src ls) ≡ added (sizes ls)
length-all_laid m src [] a = refl
length-all_laid m src (Keep b ∷ ls) a =
    length-append (stretch (src.block b.id) 0 b.len) (all_laid_samples src ls)
    ∙ ap₂ ◌+◌ (length-stretch (src.block b.id) 0 b.len) (length-all_laid m src ls a.1)
length-all_laid m src (Make ps n ∷ ls) a =
    length-append (all_samples src ps) (all_laid_samples src ls)
    ∙ ap₂ ◌+◌ (length-all_samples src ps ∙ a.0.2) (length-all_laid m src ls a.1)

abbrev pub silent : Sources
silent = record { block = λ i j. pos 0; given = λ j. pos 0 }

pub laid_end-push : (at : ℕ) (cs : List LaidClip) (c : LaidClip) → laid_end at (cs ++ c ∷ []) ≡ c.start + laid_len c
laid_end-push at [] c = refl
laid_end-push at (d ∷ cs) c = laid_end-push (d.start + laid_len d) cs c

pub laid_next-push : (at : ℕ) (cs : List LaidClip) (c : LaidClip)
    → laid_next at (cs ++ c ∷ []) ≡ c.start + laid_len c + 1
laid_next-push at [] c = refl
laid_next-push at (d ∷ cs) c = laid_next-push (d.start + laid_len d + 1) cs c

pub laid_cells-push : (src : Sources) (at : ℕ) (cs : List LaidClip) (c : LaidClip)
    → laid_cells src at (cs ++ c ∷ []) ≡ laid_cells src at cs ++ replicate (c.start - laid_end at cs) cell.Gap
    ++ map cell.Sample (all_laid_samples src c.laid.items)
laid_cells-push src at [] c = append-nil _
laid_cells-push src at (d ∷ cs) c =
    let front = replicate (d.start - at) cell.Gap ++ map cell.Sample (all_laid_samples src d.laid.items) in
    let gap = replicate (c.start - laid_end (d.start + laid_len d) cs) cell.Gap in
    let rest = laid_cells src (d.start + laid_len d) cs in
    let last = map cell.Sample (all_laid_samples src c.laid.items) in
    ap (λ xs. front ++ xs) (laid_cells-push src (d.start + laid_len d) cs c)
    ∙ sym (append_assoc front (rest ++ gap) last)
    ∙ ap (λ xs. xs ++ last) (sym (append_assoc front rest gap))

pub AreLaidClips-push : (m from : ℕ) (cs : List LaidClip) (c : LaidClip)
    → AreLaidClips m from cs → laid_next from cs ≤ c.start → 0 < laid_len c → AllMade m c.laid.items
    → IsHalfFull m (sizes c.laid.items)
    → AreLaidClips m from (cs ++ c ∷ [])
AreLaidClips-push m from [] c a l s k h = (l, s, k, h, tt)
AreLaidClips-push m from (d ∷ cs) c a l s k h =
    (a.0, a.1, a.2, a.3, AreLaidClips-push m (d.start + laid_len d + 1) cs c a.4 l s k h)

pub end_before_next : (at from : ℕ) (cs : List LaidClip) → at ≤ from → laid_end at cs ≤ laid_next from cs
end_before_next at from [] h = h
end_before_next at from (c ∷ cs) h = end_before_next (c.start + laid_len c) (c.start + laid_len c + 1) cs (omega arith)

-- a clip, and what is kept after it
trimmed-gap_clip : (g : ℕ) (s : ℤ) (ys : List Cell) → trimmed (cell.Sample s ∷ ys) ≡ cell.Sample s ∷ ys
    → trimmed (replicate g cell.Gap ++ cell.Sample s ∷ ys) ≡ replicate g cell.Gap ++ cell.Sample s ∷ ys
trimmed-gap_clip zero s ys e = e
trimmed-gap_clip (suc zero) s ys e = ap (joined cell.Gap) e
trimmed-gap_clip (suc (suc g)) s ys e = ap (joined cell.Gap) (trimmed-gap_clip (suc g) s ys e)

pub trimmed-clip : (g : ℕ) (ss : List ℤ) (rest : List Cell) → 0 < length ss → trimmed rest ≡ rest
    → trimmed (replicate g cell.Gap ++ map cell.Sample ss ++ rest) ≡ replicate g cell.Gap ++ map cell.Sample ss ++ rest
trimmed-clip g [] rest h e = absurd (omega arith)
trimmed-clip g (s ∷ ss) rest h e =
    let a = append_assoc (replicate g cell.Gap) (map cell.Sample (s ∷ ss)) rest in
    ap trimmed a ∙ trimmed-gap_clip g s (map cell.Sample ss ++ rest) (trimmed-samples (s ∷ ss) rest e) ∙ sym a

pub trimmed-laid : (m : ℕ) (src : Sources) (at from : ℕ) (cs : List LaidClip) → AreLaidClips m from cs
    → trimmed (laid_cells src at cs) ≡ laid_cells src at cs
trimmed-laid m src at from [] a = refl
trimmed-laid m src at from (c ∷ cs) a =
    trimmed-clip (c.start - at) (all_laid_samples src c.laid.items) (laid_cells src (c.start + laid_len c) cs)
    (omega (arith, length-all_laid m src c.laid.items a.2, a.1))
    (trimmed-laid m src (c.start + laid_len c) (c.start + laid_len c + 1) cs a.4)

-- a clip is laid out after others
pub closed_cells : (src : Sources) (out : List LaidClip) (c : LaidClip) (size : ℕ) (samples : List ℤ)
    → laid_len c ≡ size → all_laid_samples src c.laid.items ≡ samples
    → laid_cells src 0 (out ++ c ∷ []) ++ replicate (c.start + size - laid_end 0 (out ++ c ∷ [])) cell.Gap
    ≡ laid_cells src 0 out ++ replicate (c.start - laid_end 0 out) cell.Gap ++ map cell.Sample samples
closed_cells src out c size samples e f =
    let z : c.start + size - laid_end 0 (out ++ c ∷ []) ≡ 0 = omega (arith, laid_end-push 0 out c, e) in
    ap (λ n. laid_cells src 0 (out ++ c ∷ []) ++ replicate n cell.Gap) z
    ∙ append-nil (laid_cells src 0 (out ++ c ∷ []))
    ∙ laid_cells-push src 0 out c
    ∙ ap (λ ss. laid_cells src 0 out ++ replicate (c.start - laid_end 0 out) cell.Gap ++ map cell.Sample ss) f

-- all clips are laid out, and gaps are left
pub ended_cells : (m : ℕ) (src : Sources) (cs : List LaidClip) (k : ℕ) (all : List Cell) → AreLaidClips m 0 cs
    → laid_cells src 0 cs ++ replicate k cell.Gap ≡ all
    → laid_cells src 0 cs ≡ trimmed all
ended_cells m src cs k all a e =
    sym (trimmed-laid m src 0 0 cs a) ∙ sym (trimmed-gaps (laid_cells src 0 cs) k) ∙ ap trimmed e

pub made_clips-push : (cs : List LaidClip) (c : LaidClip)
    → made_clips (cs ++ c ∷ []) ≡ made_clips cs + made_count (parts c.laid.items)
made_clips-push [] c = omega arith
made_clips-push (d ∷ cs) c = omega (arith, made_clips-push cs c)

pub AllShort-append : (m : ℕ) (ps qs : List Piece) → AllShort m ps → AllShort m qs → AllShort m (ps ++ qs)
AllShort-append m [] qs a b = b
AllShort-append m (p ∷ ps) qs a b = (a.0, AllShort-append m ps qs a.1 b)

pub ClipsFrom-push : (old : List BlockRef) (count : ℕ) (cs : List LaidClip) (c : LaidClip) → ClipsFrom old count cs
    → AllLaidFrom old count c.laid.items → ClipsFrom old count (cs ++ c ∷ [])
ClipsFrom-push old count [] c a b = (b, tt)
ClipsFrom-push old count (d ∷ cs) c a b = (a.0, ClipsFrom-push old count cs c a.1 b)
