-- Clips that are added to others, where those that touch become one.
use Rattle.edit_ops.proofs.Common.{◌≡◌, ℕ, ◌+◌, ◌-◌, ◌<◌, ◌≤◌, inl, inr, List, [], ◌∷◌, ◌++◌, length, map, replicate, refl}
use Rattle.edit_ops.proofs.Common.{sym, ap, ap₂, subst, ◌∙◌, append_assoc, append-nil, arith, BlockRef, Clip, Cell}
use Rattle.edit_ops.proofs.Common.{AllHalfFull, IsHalfFull, Sources, stretch, cases_lt, clip_end, end_of, layout_blocks, trimmed, continued}
use Rattle.edit_ops.proofs.Common.{length-append, length-replicate}
use Rattle.edit_ops.proofs.CellLists.{continued_same}
use Rattle.std.proofs.lemmas.Bool.{cases_eq, eq-eqb, ne_eqb}
use Rattle.std.proofs.lemmas.List.{map-append, replicate-append-replicate}
use Rattle.pcm_base.specs.Blocks.{NoneEmpty, block_lens, block_samples, blocks_len}
use Rattle.pcm_base.specs.Cells.{joined}
use Rattle.model_laws.proofs.Trimming.{trimmed-gaps}
use Rattle.clip_track.specs.Clips.{AreClips, cells_from}
use Rattle.clip_track.proofs.Layouts.{AreClips-earlier}
use Rattle.edit_ops.specs.Joins.{clip_of, joined_clips}
use Rattle.edit_ops.proofs.WindowBlocks.{NoneEmpty-append, len_append}
use Rattle.pcm_base.specs.declared.sound.Cell.TheVariants as cell

-- ---- samples of blocks
pub samples_append : (src : Sources) (xs ys : List BlockRef)
    → block_samples src (xs ++ ys) ≡ block_samples src xs ++ block_samples src ys
samples_append src [] ys = refl
samples_append src (b ∷ xs) ys =
    ap (λ ss. stretch (src.block b.id) 0 b.len ++ ss) (samples_append src xs ys)
    ∙ sym (append_assoc (stretch (src.block b.id) 0 b.len) (block_samples src xs) (block_samples src ys))

-- ---- the two cases
pub clips_touch : (c d : Clip) (ds : List Clip) → clip_end c ≡ d.start
    → joined_clips c (d ∷ ds) ≡ joined_clips (record { start = c.start; blocks = c.blocks ++ d.blocks }) ds
clips_touch c d ds h = rw (eq-eqb (clip_end c) d.start h) refl

pub clips_apart : (c d : Clip) (ds : List Clip) → (clip_end c ≡ d.start → ⊥)
    → joined_clips c (d ∷ ds) ≡ clip_of c.start c.blocks ++ joined_clips d ds
clips_apart c d ds h = rw (ne_eqb (clip_end c) d.start h) refl

-- clips that may touch, and have no blocks
abbrev pub AreLoose : ℕ → List Clip → Type 0
AreLoose from [] = Unit {0}
AreLoose from (c ∷ cs) = (from ≤ c.start) × NoneEmpty c.blocks × AreLoose (clip_end c) cs

pub loose_then : (at from : ℕ) (cs : List Clip) (d : Clip) → at ≤ from → AreClips from cs → end_of at cs ≤ d.start
    → NoneEmpty d.blocks → AreLoose at (cs ++ d ∷ [])
loose_then at from [] d l h e n = (e, n, tt)
loose_then at from (c ∷ cs) d l h e n =
    (omega (arith, l, h.0), h.2, loose_then (clip_end c) (clip_end c + 1) cs d (omega arith) h.3 e n)

long_gap : (src : Sources) (at : ℕ) (c : Clip) (es : List Clip) → c.start - at ≤ length (cells_from src at (c ∷ es))
long_gap src at c es =
    let gap = replicate (c.start - at) cell.Gap in
    let sound = map cell.Sample (block_samples src c.blocks) in
    omega (
      arith,
      length-append (gap ++ sound) (cells_from src (clip_end c) es),
      length-append gap sound,
      length-replicate {A = Cell} (c.start - at) cell.Gap,
    )

-- ---- blocks as a clip, where there are any
pub of_blocks : (s : ℕ) (bs : List BlockRef) (es : List Clip) → layout_blocks (clip_of s bs ++ es) ≡ bs ++ layout_blocks es
of_blocks s [] es = refl
of_blocks s (b ∷ bs) es = refl

pub of_some : (s : ℕ) (bs : List BlockRef) → 0 < blocks_len bs → clip_of s bs ≡ record { start = s; blocks = bs } ∷ []
of_some s [] h = absurd (omega (arith, h))
of_some s (b ∷ bs) h = refl

pub of_any : (s : ℕ) (bs : List BlockRef) → 0 < length bs → clip_of s bs ≡ record { start = s; blocks = bs } ∷ []
of_any s [] h = absurd (omega (arith, h))
of_any s (b ∷ bs) h = refl

pub of_none : (s : ℕ) (bs : List BlockRef) → length bs ≡ 0 → clip_of s bs ≡ []
of_none s [] h = refl
of_none s (b ∷ bs) h = absurd (omega (arith, h))

of_apart : (from s : ℕ) (bs : List BlockRef) (es : List Clip) → from ≤ s → NoneEmpty bs
    → AreClips (s + blocks_len bs + 1) es → AreClips from (clip_of s bs ++ es)
of_apart from s [] es l n h = AreClips-earlier from (s + 0 + 1) es (omega (arith, l)) h
of_apart from s (b ∷ bs) es l n h = (l, omega (arith, n.0), n, h)

of_end : (at s : ℕ) (bs : List BlockRef) (es : List Clip) → at ≤ s
    → end_of at (clip_of s bs ++ es) ≤ end_of (s + blocks_len bs) es
of_end at s [] [] l = omega (arith, l)
of_end at s [] (e ∷ es) l = omega arith
of_end at s (b ∷ bs) es l = omega arith

of_half_full : (m s : ℕ) (bs : List BlockRef) (es : List Clip) → IsHalfFull m (block_lens bs) → AllHalfFull m es
    → AllHalfFull m (clip_of s bs ++ es)
of_half_full m s [] es h k = k
of_half_full m s (b ∷ bs) es h k = (h, k)

-- one without blocks is a gap
pub of_exact : (src : Sources) (at s : ℕ) (bs : List BlockRef) (es : List Clip) → at ≤ s → AreClips (s + blocks_len bs) es
    → cells_from src at (record { start = s; blocks = bs } ∷ es)
    ≡ continued (s - at) (cells_from src at (clip_of s bs ++ es))
of_exact src at s [] [] l h =
    let gap = replicate (s - at) cell.Gap in
    let n : s - at ≡ s - at - 0 = omega arith in
    append-nil (gap ++ []) ∙ append-nil gap ∙ ap (λ (k : ℕ). replicate k cell.Gap) n
of_exact src at s [] (e ∷ es) l h =
    let gap = replicate (s - at) cell.Gap in
    let more = e.start - (s + 0) in
    let here = replicate more cell.Gap in
    let sound = map cell.Sample (block_samples src e.blocks) in
    let rest = cells_from src (clip_end e) es in
    let n : s - at + more ≡ e.start - at = omega (arith, l, h.0) in
    ap (λ (cs : List Cell). cs ++ (here ++ sound ++ rest)) (append-nil gap)
    ∙ sym (append_assoc gap (here ++ sound) rest)
    ∙ ap (λ (cs : List Cell). cs ++ rest) (sym (append_assoc gap here sound))
    ∙ ap (λ (cs : List Cell). cs ++ sound ++ rest) (replicate-append-replicate (s - at) more cell.Gap)
    ∙ ap (λ (k : ℕ). replicate k cell.Gap ++ sound ++ rest) n
    ∙ sym (continued_same (s - at) (cells_from src at (e ∷ es)) (omega (arith, long_gap src at e es, n)))
of_exact src at s (b ∷ bs) es l h =
    let c : Clip = record { start = s; blocks = b ∷ bs } in
    sym (continued_same (s - at) (cells_from src at (c ∷ es)) (omega (arith, long_gap src at c es)))

-- which counts where others follow
of_cells : (src : Sources) (at s : ℕ) (bs : List BlockRef) (es : List Clip) → at ≤ s → AreClips (s + blocks_len bs) es
    → trimmed (cells_from src at (clip_of s bs ++ es))
    ≡ trimmed (cells_from src at (record { start = s; blocks = bs } ∷ es))
of_cells src at s bs es l h =
    let cells = cells_from src at (clip_of s bs ++ es) in
    sym (trimmed-gaps cells (s - at - length cells)) ∙ sym (ap trimmed (of_exact src at s bs es l h))

pub trimmed_after : (xs ys zs : List Cell) → trimmed ys ≡ trimmed zs → trimmed (xs ++ ys) ≡ trimmed (xs ++ zs)
trimmed_after [] ys zs e = e
trimmed_after (x ∷ xs) ys zs e = ap (joined x) (trimmed_after xs ys zs e)

-- ---- clips that are added
abbrev pub with_blocks : Clip → Clip → Clip
with_blocks c d = record { start = c.start; blocks = c.blocks ++ d.blocks }

pub longer : (c d : Clip) → clip_end c ≡ d.start → clip_end (with_blocks c d) ≡ clip_end d
longer c d t = omega (arith, len_append c.blocks d.blocks, t)

pub joined_blocks : (c : Clip) (ds es : List Clip)
    → layout_blocks (joined_clips c ds ++ es) ≡ c.blocks ++ layout_blocks (ds ++ es)
joined_blocks c [] es = of_blocks c.start c.blocks es
joined_blocks c (d ∷ ds) es = elim (cases_eq (clip_end c) d.start) [
  | inl t ↦
      ap (λ (xs : List Clip). layout_blocks (xs ++ es)) (clips_touch c d ds t)
      ∙ joined_blocks (with_blocks c d) ds es
      ∙ append_assoc c.blocks d.blocks (layout_blocks (ds ++ es))
  | inr f ↦
      ap (λ (xs : List Clip). layout_blocks (xs ++ es)) (clips_apart c d ds f)
      ∙ ap layout_blocks (append_assoc (clip_of c.start c.blocks) (joined_clips d ds) es)
      ∙ of_blocks c.start c.blocks (joined_clips d ds ++ es)
      ∙ ap (λ (bs : List BlockRef). c.blocks ++ bs) (joined_blocks d ds es)
]

pub joined_apart : (from : ℕ) (c : Clip) (ds es : List Clip) → from ≤ c.start → NoneEmpty c.blocks
    → AreLoose (clip_end c) ds → AreClips (end_of (clip_end c) ds + 1) es → AreClips from (joined_clips c ds ++ es)
joined_apart from c [] es l n h k = of_apart from c.start c.blocks es l n k
joined_apart from c (d ∷ ds) es l n h k = elim (cases_eq (clip_end c) d.start) [
  | inl t ↦
      let P : List Clip → Type 0 = λ xs. AreClips from (xs ++ es) in
      let L : ℕ → Type 0 = λ i. AreLoose i ds in
      let E : ℕ → Type 0 = λ i. AreClips (end_of i ds + 1) es in
      let e = sym (longer c d t) in
      subst P (sym (clips_touch c d ds t)) (joined_apart from (with_blocks c d) ds es l
      (NoneEmpty-append c.blocks d.blocks n h.1) (subst L e h.2) (subst E e k))
  | inr f ↦
      let P : List Clip → Type 0 = λ xs. AreClips from xs in
      let all : joined_clips c (d ∷ ds) ++ es ≡ clip_of c.start c.blocks ++ (joined_clips d ds ++ es) =
      ap (λ (xs : List Clip). xs ++ es) (clips_apart c d ds f)
      ∙ append_assoc (clip_of c.start c.blocks) (joined_clips d ds) es in
      subst P (sym all) (of_apart from c.start c.blocks (joined_clips d ds ++ es) l n
      (joined_apart (clip_end c + 1) d ds es (after_end (clip_end c) d.start h.0 f) h.1 h.2 k))
]
  where
    after_end : (i k : ℕ) → i ≤ k → (i ≡ k → ⊥) → i + 1 ≤ k
    after_end i k l f = elim (cases_lt i k) [
      | inl lt ↦ omega (arith, lt)
      | inr ge ↦ absurd (f (omega (arith, l, ge)))
    ]

pub joined_end : (at : ℕ) (c : Clip) (ds es : List Clip) → at ≤ c.start → AreLoose (clip_end c) ds
    → end_of at (joined_clips c ds ++ es) ≤ end_of (end_of (clip_end c) ds) es
joined_end at c [] es l h = of_end at c.start c.blocks es l
joined_end at c (d ∷ ds) es l h = elim (cases_eq (clip_end c) d.start) [
  | inl t ↦
      let L : ℕ → Type 0 = λ i. AreLoose i ds in
      let e = longer c d t in
      omega (
        arith,
        ap (λ (xs : List Clip). end_of at (xs ++ es)) (clips_touch c d ds t),
        joined_end at (with_blocks c d) ds es l (subst L (sym e) h.2),
        ap (λ (i : ℕ). end_of (end_of i ds) es) e,
      )
  | inr f ↦
      omega (
        arith,
        ap (λ (xs : List Clip). end_of at (xs ++ es)) (clips_apart c d ds f),
        ap (end_of at) (append_assoc (clip_of c.start c.blocks) (joined_clips d ds) es),
        of_end at c.start c.blocks (joined_clips d ds ++ es) l,
        joined_end (clip_end c) d ds es h.0 h.2,
      )
]

pub joined_cells : (src : Sources) (at : ℕ) (c : Clip) (ds es : List Clip) → at ≤ c.start → NoneEmpty c.blocks
    → AreLoose (clip_end c) ds → AreClips (end_of (clip_end c) ds + 1) es
    → trimmed (cells_from src at (joined_clips c ds ++ es)) ≡ trimmed (cells_from src at (c ∷ (ds ++ es)))
joined_cells src at c [] es l n h k =
    of_cells src at c.start c.blocks es l (AreClips-earlier (clip_end c) (clip_end c + 1) es (omega arith) k)
joined_cells src at c (d ∷ ds) es l n h k = elim (cases_eq (clip_end c) d.start) [
  | inl t ↦
      let L : ℕ → Type 0 = λ i. AreLoose i ds in
      let E : ℕ → Type 0 = λ i. AreClips (end_of i ds + 1) es in
      let e = longer c d t in
      ap (λ (xs : List Clip). trimmed (cells_from src at (xs ++ es))) (clips_touch c d ds t)
      ∙ joined_cells src at (with_blocks c d) ds es l (NoneEmpty-append c.blocks d.blocks n h.1) (subst L (sym e) h.2)
      (subst E (sym e) k)
      ∙ ap trimmed (cells_touch src at c d (ds ++ es) t)
  | inr f ↦
      let rest = joined_clips d ds ++ es in
      let gap = replicate (c.start - at) cell.Gap ++ map cell.Sample (block_samples src c.blocks) in
      ap (λ (xs : List Clip). trimmed (cells_from src at (xs ++ es))) (clips_apart c d ds f)
      ∙ ap (λ (xs : List Clip). trimmed (cells_from src at xs)) (append_assoc (clip_of c.start c.blocks) (joined_clips d ds) es)
      ∙ of_cells src at c.start c.blocks rest l (joined_apart (clip_end c) d ds es h.0 h.1 h.2 k)
      ∙ trimmed_after gap (cells_from src (clip_end c) rest) (cells_from src (clip_end c) (d ∷ (ds ++ es)))
      (joined_cells src (clip_end c) d ds es h.0 h.1 h.2 k)
]
  where
    cells_touch : (src : Sources) (at : ℕ) (c d : Clip) (rest : List Clip) → clip_end c ≡ d.start
        → cells_from src at (with_blocks c d ∷ rest) ≡ cells_from src at (c ∷ (d ∷ rest))
    cells_touch src at c d rest t =
        let gap = replicate (c.start - at) cell.Gap in
        let xs = map cell.Sample (block_samples src c.blocks) in
        let ys = map cell.Sample (block_samples src d.blocks) in
        let zs = cells_from src (clip_end d) rest in
        let none : d.start - clip_end c ≡ 0 = omega (arith, t) in
        ap₂ (λ (ss : List Cell) (i : ℕ). gap ++ ss ++ cells_from src i rest)
        (ap (map cell.Sample) (samples_append src c.blocks d.blocks)
        ∙ map-append cell.Sample (block_samples src c.blocks) (block_samples src d.blocks)) (longer c d t)
        ∙ ap (λ (ss : List Cell). ss ++ zs) (sym (append_assoc gap xs ys))
        ∙ append_assoc (gap ++ xs) ys zs
        ∙ ap (λ (k : ℕ). gap ++ xs ++ (replicate k cell.Gap ++ ys ++ zs)) (sym none)

-- after others
pub apart_next : (cs : List Clip) (c d : Clip) (es : List Clip) → (clip_end c ≡ d.start → ⊥)
    → cs ++ joined_clips c [] ++ joined_clips d es ≡ cs ++ joined_clips c (d ∷ es)
apart_next cs c d es f =
    append_assoc cs (clip_of c.start c.blocks) (joined_clips d es)
    ∙ ap (λ (xs : List Clip). cs ++ xs) (sym (clips_apart c d es f))

pub touch_next : (cs : List Clip) (c d : Clip) (es : List Clip) → clip_end c ≡ d.start
    → cs ++ joined_clips (with_blocks c d) es ≡ cs ++ joined_clips c (d ∷ es)
touch_next cs c d es t = ap (λ (xs : List Clip). cs ++ xs) (sym (clips_touch c d es t))

-- ---- half full
pub half_full_append : (m : ℕ) (xs ys : List Clip) → AllHalfFull m xs → AllHalfFull m ys → AllHalfFull m (xs ++ ys)
half_full_append m [] ys h k = k
half_full_append m (x ∷ xs) ys h k = (h.0, half_full_append m xs ys h.1 k)

pub half_full_last : (m s : ℕ) (cs : List Clip) (bs : List BlockRef) → AllHalfFull m cs → IsHalfFull m (block_lens bs)
    → AllHalfFull m (cs ++ clip_of s bs)
half_full_last m s cs bs h k =
    half_full_append m cs (clip_of s bs) h (subst (AllHalfFull m) (append-nil (clip_of s bs)) (of_half_full m s bs [] k tt))
