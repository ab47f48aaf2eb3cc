-- Lemmas on the clips of a strip.
use Rattle.clip_track.proofs.Common.{◌≡◌, ℕ, ◌+◌, ◌-◌, ◌<◌, ◌≤◌, ℤ, List, [], ◌∷◌, ◌++◌, map, replicate, refl, sym, ap}
use Rattle.clip_track.proofs.Common.{◌∙◌, append_assoc, arith, append-nil, map-append, Sources, total, all_samples}
use Rattle.clip_track.proofs.Common.{samples_of, AllValid, Cell, Piece, StripClip, clips_end, clips_cells}
use Rattle.std.proofs.lemmas.List.{replicate-append-replicate}
use Rattle.pcm_base.proofs.Pieces.{all_samples-append}
use Rattle.clip_track.specs.StripClips.{strip_clip_end, next_start, AreStripClips}
use Rattle.pcm_base.specs.declared.sound.Cell.TheVariants as cell

pub clips_end-push : (at : ℕ) (cs : List StripClip) (c : StripClip) → clips_end at (cs ++ c ∷ []) ≡ strip_clip_end c
clips_end-push at [] c = refl
clips_end-push at (d ∷ cs) c = clips_end-push (strip_clip_end d) cs c

pub next_start-push : (at : ℕ) (cs : List StripClip) (c : StripClip)
    → next_start at (cs ++ c ∷ []) ≡ strip_clip_end c + 1
next_start-push at [] c = refl
next_start-push at (d ∷ cs) c = next_start-push (strip_clip_end d + 1) cs c

pub clips_cells-push : (src : Sources) (at : ℕ) (cs : List StripClip) (c : StripClip)
    → clips_cells src at (cs ++ c ∷ []) ≡ clips_cells src at cs ++ replicate (c.start - clips_end at cs) cell.Gap
    ++ map cell.Sample (all_samples src c.pieces)
clips_cells-push src at [] c = append-nil _
clips_cells-push src at (d ∷ cs) c =
    let front = replicate (d.start - at) cell.Gap ++ map cell.Sample (all_samples src d.pieces) in
    let gap = replicate (c.start - clips_end (strip_clip_end d) cs) cell.Gap in
    let rest = clips_cells src (strip_clip_end d) cs in
    let last = map cell.Sample (all_samples src c.pieces) in
    ap (λ xs. front ++ xs) (clips_cells-push src (strip_clip_end d) cs c)
    ∙ sym (append_assoc front (rest ++ gap) last)
    ∙ ap (λ xs. xs ++ last) (sym (append_assoc front rest gap))

pub end_before_next : (at from : ℕ) (cs : List StripClip) → at ≤ from → clips_end at cs ≤ next_start from cs
end_before_next at from [] h = h
end_before_next at from (c ∷ cs) h = end_before_next (strip_clip_end c) (strip_clip_end c + 1) cs (omega arith)

-- a clip is laid out after others
pub closed_cells : (src : Sources) (out : List StripClip) (c : StripClip) (size : ℕ) (samples : List ℤ)
    → total c.pieces ≡ size → all_samples src c.pieces ≡ samples
    → clips_cells src 0 (out ++ c ∷ []) ++ replicate (c.start + size - clips_end 0 (out ++ c ∷ [])) cell.Gap
    ≡ clips_cells src 0 out ++ replicate (c.start - clips_end 0 out) cell.Gap ++ map cell.Sample samples
closed_cells src out c size samples e f =
    let z : c.start + size - clips_end 0 (out ++ c ∷ []) ≡ 0 = omega (arith, clips_end-push 0 out c, e) in
    ap (λ n. clips_cells src 0 (out ++ c ∷ []) ++ replicate n cell.Gap) z
    ∙ append-nil (clips_cells src 0 (out ++ c ∷ []))
    ∙ clips_cells-push src 0 out c
    ∙ ap (λ ss. clips_cells src 0 out ++ replicate (c.start - clips_end 0 out) cell.Gap ++ map cell.Sample ss) f

pub gap_cells : (before : List Cell) (e k n : ℕ) (so_far rest all : List Cell) → k ≡ e + n
    → before ++ replicate e cell.Gap ≡ so_far
    → so_far ++ (replicate n cell.Gap ++ rest) ≡ all → before ++ replicate k cell.Gap ++ [] ++ rest ≡ all
gap_cells before e k n so_far rest all d f g =
    ap (λ xs. xs ++ rest) (append-nil (before ++ replicate k cell.Gap)
    ∙ ap (λ i. before ++ replicate i cell.Gap) d
    ∙ ap (λ xs. before ++ xs) (sym (replicate-append-replicate e n cell.Gap))
    ∙ sym (append_assoc before (replicate e cell.Gap) (replicate n cell.Gap))
    ∙ ap (λ xs. xs ++ replicate n cell.Gap) f)
    ∙ append_assoc so_far (replicate n cell.Gap) rest
    ∙ g

pub sound_cells : (src : Sources) (before : List Cell) (held : List Piece) (p : Piece) (rest all : List Cell)
    → before ++ map cell.Sample (all_samples src held) ++ (map cell.Sample (samples_of src p) ++ rest) ≡ all
    → before ++ map cell.Sample (all_samples src (held ++ p ∷ [])) ++ rest ≡ all
sound_cells src before held p rest all e =
    ap (λ ss. before ++ map cell.Sample ss ++ rest)
    (all_samples-append src held (p ∷ []) ∙ ap (λ ss. all_samples src held ++ ss) (append-nil (samples_of src p)))
    ∙ ap (λ xs. before ++ xs ++ rest) (map-append cell.Sample (all_samples src held) (samples_of src p))
    ∙ ap (λ xs. xs ++ rest)
    (sym (append_assoc before (map cell.Sample (all_samples src held)) (map cell.Sample (samples_of src p))))
    ∙ append_assoc (before ++ map cell.Sample (all_samples src held)) (map cell.Sample (samples_of src p)) rest
    ∙ e

pub AreStripClips-push : (from : ℕ) (cs : List StripClip) (c : StripClip)
    → AreStripClips from cs → next_start from cs ≤ c.start → 0 < total c.pieces → AllValid c.pieces
    → AreStripClips from (cs ++ c ∷ [])
AreStripClips-push from [] c a l s k = (l, s, k, tt)
AreStripClips-push from (d ∷ cs) c a l s k = (a.0, a.1, a.2, AreStripClips-push (strip_clip_end d + 1) cs c a.3 l s k)
