-- Windows of tracks: the blocks of a clip, and the clips before and after it.
use Rattle.edit_ops.proofs.Common.{◌≡◌, ℕ, ◌+◌, ◌-◌, ◌<◌, ◌≤◌, List, [], ◌∷◌, ◌++◌, length, drop, refl, sym, ap, ap₂, subst}
use Rattle.edit_ops.proofs.Common.{◌∙◌, append-nil, arith, length-append, BlockRef, Clip, AllHalfFull, IsHalfFull, clip_end}
use Rattle.edit_ops.proofs.Common.{end_of, get_or, inl, inr, layout_blocks, append_assoc, length-drop, take, ◌*◌}
use Rattle.std.proofs.lemmas.List.{drop-append-le, drop-drop, drop_more, length-take, take-append-drop}
use Rattle.std.specs.Prelude.{◌⊎◌}
use Rattle.pcm_base.specs.Blocks.{AllFull, NoneEmpty, block_lens, blocks_len}
use Rattle.block_sequence.specs.Rows.{flat, from_to, IsEdge}
use Rattle.block_sequence.proofs.{Appended.from_to_by, FlatRows.flat_split, FromTo.from_to_all}
use Rattle.clip_track.specs.Clips.{AreClips}
use Rattle.clip_track.proofs.Layouts.{AreClips-earlier, ends_later}
use Rattle.edit_ops.specs.Joins.{moved}
use Rattle.edit_ops.specs.Windows.{StartsFit, next_of}

pub len_next : (bs : List BlockRef) (i : ℕ) (d : BlockRef) → i < length bs
    → blocks_len (drop i bs) ≡ (get_or bs i d).len + blocks_len (drop (i + 1) bs)
len_next bs i d h = ap blocks_len (drop_more bs i d h)

-- ---- blocks one after another
pub len_append : (xs ys : List BlockRef) → blocks_len (xs ++ ys) ≡ blocks_len xs + blocks_len ys
len_append [] ys = omega arith
len_append (b ∷ xs) ys = omega (arith, len_append xs ys)

pub len_three : (xs ys zs : List BlockRef) → blocks_len (xs ++ ys ++ zs) ≡ blocks_len xs + blocks_len ys + blocks_len zs
len_three xs ys zs = omega (arith, len_append (xs ++ ys) zs, len_append xs ys)

pub NoneEmpty-append : (xs ys : List BlockRef) → NoneEmpty xs → NoneEmpty ys → NoneEmpty (xs ++ ys)
NoneEmpty-append [] ys a b = b
NoneEmpty-append (x ∷ xs) ys a b = (a.0, NoneEmpty-append xs ys a.1 b)

pub NoneEmpty-parts : (xs ys : List BlockRef) → NoneEmpty (xs ++ ys) → NoneEmpty xs × NoneEmpty ys
NoneEmpty-parts [] ys h = (tt, h)
NoneEmpty-parts (x ∷ xs) ys h = let r = NoneEmpty-parts xs ys h.1 in ((h.0, r.0), r.1)

pub some_len : (bs : List BlockRef) → NoneEmpty bs → 0 < length bs → 0 < blocks_len bs
some_len [] h l = absurd (omega (arith, l))
some_len (b ∷ bs) h l = omega (arith, h.0)

-- ---- blocks of a sequence from one place up to another
pub three_whole : (b e : ℕ) (bs : List BlockRef) → b ≤ e → e ≤ length bs
    → from_to 0 b bs ++ from_to b e bs ++ from_to e (length bs) bs ≡ bs
three_whole b e bs h k =
    ap (λ (xs : List BlockRef). xs ++ from_to e (length bs) bs) (from_to_by 0 b e bs (omega arith) h)
    ∙ from_to_by 0 e (length bs) bs (omega arith) k
    ∙ from_to_all (length bs) bs (omega arith)

pub front_len : (b : ℕ) (bs : List BlockRef) → blocks_len (from_to 0 b bs) + blocks_len (drop b bs) ≡ blocks_len bs
front_len b bs =
    let e : b - 0 ≡ b = omega arith in
    ap (λ n. blocks_len (take n bs) + blocks_len (drop b bs)) e
    ∙ sym (len_append (take b bs) (drop b bs))
    ∙ ap blocks_len (take-append-drop b bs)

pub part_length : (b e : ℕ) (bs : List BlockRef) → b ≤ e → e ≤ length bs → length (from_to b e bs) ≡ e - b
part_length b e bs h k = omega (arith, length-take (e - b) (drop b bs), length-drop b bs, h, k)

-- rows up to an edge and after it
pub edge_room : (rows : List (List BlockRef)) (row at : ℕ) → IsEdge rows row at
    → at + length (flat (drop row rows)) ≡ length (flat rows)
edge_room rows row at e =
    let all = ap length (flat_split rows row) in
    omega (arith, all, length-append (flat (take row rows)) (flat (drop row rows)), e.same_at)

-- blocks that a row begins
pub row_passed : (n k : ℕ) (all row rest : List BlockRef) → drop n all ≡ row ++ rest → k ≤ length row
    → blocks_len (drop (n + k) all) ≡ blocks_len (drop k row) + blocks_len rest
row_passed n k all row rest e h =
    ap blocks_len (sym (drop-drop k n all) ∙ ap (drop k) e ∙ drop-append-le k row rest h)
    ∙ len_append (drop k row) rest

-- ---- full blocks
pub all_full : (m : ℕ) (bs : List BlockRef) → (length bs ≡ 1 → m ≤ 2 * blocks_len bs) → IsHalfFull m (block_lens bs)
    → AllFull m (block_lens bs)
all_full m [] h k = tt
all_full m (b ∷ []) h k = ((omega (arith, h refl), k.1), tt)
all_full m (b ∷ c ∷ bs) h k = k

pub touch_none : (m : ℕ) (xs ys : List BlockRef) → (length xs ≡ 0) ⊎ (length ys ≡ 0) → IsHalfFull m (block_lens xs)
    → IsHalfFull m (block_lens ys) → IsHalfFull m (block_lens (xs ++ ys))
touch_none m [] ys h a b = b
touch_none m (x ∷ xs) [] h a b =
    let H : List BlockRef → Type 0 = λ bs. IsHalfFull m (block_lens bs) in
    subst H (sym (append-nil (x ∷ xs))) a
touch_none m (x ∷ xs) (y ∷ ys) h a b = elim h [
  | inl e ↦ absurd (omega (arith, e))
  | inr e ↦ absurd (omega (arith, e))
]

full_parts : (m : ℕ) (xs ys : List BlockRef) → AllFull m (block_lens (xs ++ ys))
    → AllFull m (block_lens xs) × AllFull m (block_lens ys)
full_parts m [] ys h = (tt, h)
full_parts m (x ∷ xs) ys h = let r = full_parts m xs ys h.1 in ((h.0, r.0), r.1)

pub full_append : (m : ℕ) (xs ys : List BlockRef) → AllFull m (block_lens xs) → AllFull m (block_lens ys)
    → AllFull m (block_lens (xs ++ ys))
full_append m [] ys a b = b
full_append m (x ∷ xs) ys a b = (a.0, full_append m xs ys a.1 b)

pub half_from_full : (m : ℕ) (bs : List BlockRef) → 0 < m → AllFull m (block_lens bs) → IsHalfFull m (block_lens bs)
half_from_full m [] s h = tt
half_from_full m (b ∷ []) s h = (omega (arith, s, h.0.0), h.0.1)
half_from_full m (b ∷ c ∷ bs) s h = h

full_from_half : (m : ℕ) (bs : List BlockRef) → 2 ≤ length bs → IsHalfFull m (block_lens bs)
    → AllFull m (block_lens bs)
full_from_half m [] l h = tt
full_from_half m (b ∷ []) l h = absurd (omega (arith, l))
full_from_half m (b ∷ c ∷ bs) l h = h

full_three : (m : ℕ) (xs ys zs : List BlockRef) → 0 < m → AllFull m (block_lens (xs ++ ys ++ zs))
    → AllFull m (block_lens xs) × IsHalfFull m (block_lens ys) × AllFull m (block_lens zs)
full_three m xs ys zs s h =
    let p = full_parts m (xs ++ ys) zs h in
    let q = full_parts m xs ys p.0 in
    (q.0, half_from_full m ys s q.1, p.1)

-- those before and after the blocks of a window
pub half_three : (m : ℕ) (xs ys zs : List BlockRef) → 0 < m → 0 < length ys → IsHalfFull m (block_lens (xs ++ ys ++ zs))
    → AllFull m (block_lens xs) × IsHalfFull m (block_lens ys) × AllFull m (block_lens zs)
half_three m [] ys [] s l h =
    let H : List BlockRef → Type 0 = λ bs. IsHalfFull m (block_lens bs) in
    (tt, subst H (append-nil ys) h, tt)
half_three m [] ys (z ∷ zs) s l h =
    full_three m [] ys (z ∷ zs) s (full_from_half m (ys ++ z ∷ zs) (omega (arith, l, length-append ys (z ∷ zs))) h)
half_three m (x ∷ xs) ys zs s l h =
    full_three m (x ∷ xs) ys zs s (full_from_half m (x ∷ xs ++ ys ++ zs)
    (omega (arith, l, length-append (x ∷ xs ++ ys) zs, length-append (x ∷ xs) ys)) h)

-- ---- clips one after another
pub end_append : (at : ℕ) (xs ys : List Clip) → end_of at (xs ++ ys) ≡ end_of (end_of at xs) ys
end_append at [] ys = refl
end_append at (x ∷ xs) ys = end_append (clip_end x) xs ys

pub end_more : (at from : ℕ) (cs : List Clip) → at ≤ from → end_of at cs ≤ end_of from cs
end_more at from [] l = l
end_more at from (c ∷ cs) l = omega arith

pub next_end : (from at : ℕ) (cs : List Clip) → 0 < length cs → next_of from cs ≡ end_of at cs + 1
next_end from at [] l = absurd (omega (arith, l))
next_end from at (c ∷ []) l = refl
next_end from at (c ∷ d ∷ cs) l = next_end (clip_end c + 1) (clip_end c) (d ∷ cs) (omega arith)

pub end_before_next : (at from : ℕ) (cs : List Clip) → at ≤ from → end_of at cs ≤ next_of from cs
end_before_next at from [] l = l
end_before_next at from (c ∷ cs) l = end_before_next (clip_end c) (clip_end c + 1) cs (omega arith)

pub apart_append : (from : ℕ) (xs ys : List Clip) → AreClips from xs → AreClips (next_of from xs) ys
    → AreClips from (xs ++ ys)
apart_append from [] ys h k = k
apart_append from (x ∷ xs) ys h k = (h.0, h.1, h.2, apart_append (clip_end x + 1) xs ys h.3 k)

pub apart_parts : (from : ℕ) (xs ys : List Clip) → AreClips from (xs ++ ys)
    → AreClips from xs × AreClips (next_of from xs) ys
apart_parts from [] ys h = (tt, h)
apart_parts from (x ∷ xs) ys h =
    let r = apart_parts (clip_end x + 1) xs ys h.3 in
    ((h.0, h.1, h.2, r.0), r.1)

pub half_full_parts : (m : ℕ) (xs ys : List Clip) → AllHalfFull m (xs ++ ys) → AllHalfFull m xs × AllHalfFull m ys
half_full_parts m [] ys h = (tt, h)
half_full_parts m (x ∷ xs) ys h = let r = half_full_parts m xs ys h.1 in ((h.0, r.0), r.1)

pub blocks_append : (xs ys : List Clip) → layout_blocks (xs ++ ys) ≡ layout_blocks xs ++ layout_blocks ys
blocks_append [] ys = refl
blocks_append (x ∷ xs) ys =
    ap (λ (bs : List BlockRef). x.blocks ++ bs) (blocks_append xs ys)
    ∙ sym (append_assoc x.blocks (layout_blocks xs) (layout_blocks ys))

-- ---- clips that are moved
pub moved_none : (cs : List Clip) → moved 0 0 cs ≡ cs
moved_none [] = refl
moved_none (c ∷ cs) =
    let e : c.start - 0 + 0 ≡ c.start = omega arith in
    ap₂ (λ (n : ℕ) (ds : List Clip). record { start = n; blocks = c.blocks } ∷ ds) e (moved_none cs)

pub moved_apart : (at from to : ℕ) (cs : List Clip) → from ≤ at → AreClips at cs
    → AreClips (at - from + to) (moved from to cs)
moved_apart at from to [] l h = tt
moved_apart at from to (c ∷ cs) l h =
    let e : clip_end c + 1 - from + to ≡ c.start - from + to + blocks_len c.blocks + 1 = omega (arith, l, h.0) in
    let P : ℕ → Type 0 = λ n. AreClips n (moved from to cs) in
    (omega (arith, l, h.0), h.1, h.2, subst P e (moved_apart (clip_end c + 1) from to cs (omega (arith, l, h.0)) h.3))

pub moved_end : (at from to : ℕ) (cs : List Clip) → from ≤ at → AreClips at cs
    → end_of (at - from + to) (moved from to cs) ≡ end_of at cs - from + to
moved_end at from to [] l h = refl
moved_end at from to (c ∷ cs) l h =
    let e : c.start - from + to + blocks_len c.blocks ≡ clip_end c - from + to = omega (arith, l, h.0) in
    ap (λ (n : ℕ). end_of n (moved from to cs)) e
    ∙ moved_end (clip_end c) from to cs (omega (arith, l, h.0))
    (AreClips-earlier (clip_end c) (clip_end c + 1) cs (omega arith) h.3)

pub moved_blocks : (from to : ℕ) (cs : List Clip) → layout_blocks (moved from to cs) ≡ layout_blocks cs
moved_blocks from to [] = refl
moved_blocks from to (c ∷ cs) = ap (λ (bs : List BlockRef). c.blocks ++ bs) (moved_blocks from to cs)

pub moved_half_full : (m from to : ℕ) (cs : List Clip) → AllHalfFull m cs → AllHalfFull m (moved from to cs)
moved_half_full m from to [] h = tt
moved_half_full m from to (c ∷ cs) h = (h.0, moved_half_full m from to cs h.1)

-- none begins too far on
pub starts_fit : (at : ℕ) (cs : List Clip) → AreClips at cs → end_of at cs ≤ 4294967296 → StartsFit cs
starts_fit at [] h k = tt
starts_fit at (c ∷ cs) h k =
    let later = AreClips-earlier (clip_end c) (clip_end c + 1) cs (omega arith) h.3 in
    (omega (arith, ends_later (clip_end c) (clip_end c) cs (omega arith) later, k), starts_fit (clip_end c) cs later k)

pub fits_rest : (xs ys : List Clip) → StartsFit (xs ++ ys) → StartsFit ys
fits_rest [] ys h = h
fits_rest (x ∷ xs) ys h = fits_rest xs ys h.1
