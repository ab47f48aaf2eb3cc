-- Rows, one after another.
use Rattle.std.proofs.Common.{◌≡◌, ℕ, ◌+◌, ◌<◌, ◌≤◌, List, [], ◌∷◌, ◌++◌, length, get_or, take, drop, refl, sym, ap, ◌∙◌}
use Rattle.std.proofs.Common.{arith, append_assoc, length-append}
use Rattle.std.proofs.lemmas.List.{append-nil, drop_more, drop_all, take_more, take_all, take-append-drop, take_at, drop_at}
use Rattle.pcm_base.specs.Pieces.{Sources, stretch}
use Rattle.pcm_base.specs.{declared.block.BlockRef.BlockRef, Blocks.NoneEmpty, Blocks.block_samples, Blocks.blocks_len}
use Rattle.block_sequence.specs.Rows.{flat, IsEdge}

pub blocks_len-append : (bs cs : List BlockRef) → blocks_len (bs ++ cs) ≡ blocks_len bs + blocks_len cs
blocks_len-append [] cs = omega arith
blocks_len-append (b ∷ bs) cs = omega (arith, blocks_len-append bs cs)

pub block_samples-append : (src : Sources) (bs cs : List BlockRef)
    → block_samples src (bs ++ cs) ≡ block_samples src bs ++ block_samples src cs
block_samples-append src [] cs = refl
block_samples-append src (b ∷ bs) cs =
    ap (λ xs. stretch (src.block b.id) 0 b.len ++ xs) (block_samples-append src bs cs)
    ∙ sym (append_assoc (stretch (src.block b.id) 0 b.len) (block_samples src bs) (block_samples src cs))

-- each block has a sample
pub length_few : (bs : List BlockRef) → NoneEmpty bs → length bs ≤ blocks_len bs
length_few [] h = omega arith
length_few (b ∷ bs) h = omega (arith, length_few bs h.1, h.0)

pub flat-append : (rs ss : List (List BlockRef)) → flat (rs ++ ss) ≡ flat rs ++ flat ss
flat-append [] ss = refl
flat-append (r ∷ rs) ss = ap (λ bs. r ++ bs) (flat-append rs ss) ∙ sym (append_assoc r (flat rs) (flat ss))

pub flat_push : (rs : List (List BlockRef)) (r : List BlockRef) → flat (rs ++ r ∷ []) ≡ flat rs ++ r
flat_push rs r = flat-append rs (r ∷ []) ∙ ap (λ bs. flat rs ++ bs) (append-nil r)

pub flat_next : (rs : List (List BlockRef)) (i : ℕ) (d : List BlockRef) → i < length rs
    → flat (drop i rs) ≡ get_or rs i d ++ flat (drop (i + 1) rs)
flat_next rs i d h = ap flat (drop_more rs i d h)

pub flat_end : (rs : List (List BlockRef)) (i : ℕ) → length rs ≤ i → flat (drop i rs) ≡ []
flat_end rs i h = ap flat (drop_all i rs h)

pub flat_count : (rs : List (List BlockRef)) (i : ℕ) (d : List BlockRef) → i < length rs
    → length (flat (drop i rs)) ≡ length (get_or rs i d) + length (flat (drop (i + 1) rs))
flat_count rs i d h = ap length (flat_next rs i d h) ∙ length-append (get_or rs i d) (flat (drop (i + 1) rs))

pub flat_len : (rs : List (List BlockRef)) (i : ℕ) (d : List BlockRef) → i < length rs
    → blocks_len (flat (drop i rs)) ≡ blocks_len (get_or rs i d) + blocks_len (flat (drop (i + 1) rs))
flat_len rs i d h = ap blocks_len (flat_next rs i d h) ∙ blocks_len-append (get_or rs i d) (flat (drop (i + 1) rs))

pub flat_more : (rs : List (List BlockRef)) (i : ℕ) (d : List BlockRef) → i < length rs
    → length (flat (take (i + 1) rs)) ≡ length (flat (take i rs)) + length (get_or rs i d)
flat_more rs i d h =
    ap length (ap flat (take_more rs i d h) ∙ flat_push (take i rs) (get_or rs i d))
    ∙ length-append (flat (take i rs)) (get_or rs i d)

pub flat_split : (rs : List (List BlockRef)) (i : ℕ) → flat (take i rs) ++ flat (drop i rs) ≡ flat rs
flat_split rs i = sym (flat-append (take i rs) (drop i rs)) ∙ ap flat (take-append-drop i rs)

-- an edge is at most as far as all references
pub flat_within : (rs : List (List BlockRef)) (i : ℕ) → length (flat (take i rs)) ≤ length (flat rs)
flat_within rs i =
    let e = ap length (flat_split rs i) in
    omega (arith, e, length-append (flat (take i rs)) (flat (drop i rs)))

pub flat_all : (rs : List (List BlockRef)) (i : ℕ) → length rs ≤ i → length (flat (take i rs)) ≡ length (flat rs)
flat_all rs i h = ap (λ ss. length (flat ss)) (take_all i rs h)

pub edge_front : (rs : List (List BlockRef)) (row at : ℕ) → IsEdge rs row at → flat (take row rs) ≡ take at (flat rs)
edge_front rs row at e =
    sym (ap (take at) (sym (flat_split rs row)) ∙ take_at (flat (take row rs)) (flat (drop row rs)) at e.same_at)

pub edge_back : (rs : List (List BlockRef)) (row at : ℕ) → IsEdge rs row at → flat (drop row rs) ≡ drop at (flat rs)
edge_back rs row at e =
    sym (ap (drop at) (sym (flat_split rs row)) ∙ drop_at (flat (take row rs)) (flat (drop row rs)) at e.same_at)

pub edge_within : (rs : List (List BlockRef)) (row at : ℕ) → IsEdge rs row at → at ≤ length (flat rs)
edge_within rs row at e = omega (arith, flat_within rs row, e.same_at)
