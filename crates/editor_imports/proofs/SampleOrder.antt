-- The parts of what is brought come in order in the plan of new tracks. A plan means the same whichever samples come,
-- so it does for samples that are their own places.
use Rattle.std.proofs.Common.{◌≡◌, ◌≤◌, ◌<◌, ℕ, zero, suc, ◌+◌, ◌-◌, ℤ, pos, Bool, List, [], ◌∷◌, ◌++◌, length, get_or}
use Rattle.std.proofs.Common.{map, replicate, nat_eq, if◌then◌else◌, refl, sym, ap, ap₂, subst, ◌∙◌, arith, ⊎_elim}
use Rattle.std.proofs.Common.{append_assoc, length-append, drop, rules}
use Rattle.std.proofs.{lemmas.Bool.eq-eqb, lemmas.Bool.ne_eqb, lemmas.List.append-nil, Math.Seq.drop-append_seam}
use Rattle.std.specs.Prelude.{Contains}
use Rattle.pcm_base.specs.declared.piece.Piece.TheVariants.{Old, Scaled, Zero, Given}
use Rattle.pcm_base.specs.declared.sound.Cell.TheVariants.{Gap, Sample}
use Rattle.pcm_base.specs.Pieces.{Sources, all_samples, piece_len, samples_of, stretch, total}
use Rattle.pcm_base.specs.{declared.block.BlockRef.BlockRef, declared.piece.Piece.Piece, declared.sound.Cell.Cell}
use Rattle.pcm_base.specs.{Blocks.block_samples, Edits.as_cells}
use Rattle.pcm_base.proofs.Pieces.{drop-stretch, length-all_samples, length-samples, length-stretch, stretch_list}
use Rattle.block_sequence.specs.Origins.{AllFrom, IsFrom}
use Rattle.block_store.specs.Scans.{samples_among}
use Rattle.clip_track.specs.{declared.clips.Clip.Clip, Clips.cells_from, Clips.clip_end, Clips.layout_blocks}
use Rattle.edit_ops.specs.Plans.{AllNewFrom, AreNew, AreOldOrNew, AreWritten, ref_of}
use Rattle.edit_ops.specs.{declared.types.NewBlock.NewBlock, declared.types.Plan.Plan}
use Rattle.block_writer.specs.Brought.{AreInOrder, LiesBetween}
use Rattle.editor_state.specs.{Edits.beside, Made.AllInOrder}
use Rattle.editor_imports.specs.{Imports.AddsChannel, Imports.IsChannelPlan, declared.growing.Growing.Growing}
use Rattle.editor_blocks.proofs.PieceOrder.{order_append}

none_held : {X : Type 0} (x : X) → Contains [] x → ⊥
none_held x has = omega (arith, has.1)

-- ---- blocks that hold what their pieces say

abbrev no_block : ℕ → ℕ → ℤ
no_block id i = pos 0

-- the samples of pieces, as a block
abbrev held : (ℕ → ℤ) → NewBlock → ℕ → ℤ
held given b i = get_or (all_samples (beside no_block given) b.pieces) i (pos 0)

abbrev chosen : Bool → (ℕ → ℤ) → (ℕ → ℤ) → ℕ → ℤ
chosen t f g i = if t then f i else g i

abbrev filled : (ℕ → ℤ) → List NewBlock → ℕ → ℕ → ℤ
filled given [] id = λ i. pos 0
filled given (b ∷ bs) id = chosen (nat_eq id b.id) (held given b) (filled given bs id)

same_piece : (one two : ℕ → ℕ → ℤ) (given : ℕ → ℤ) (count : ℕ) (p : Piece) → IsFrom [] count p
    → samples_of (beside one given) p ≡ samples_of (beside two given) p
same_piece one two given count (Old b from to) of = absurd (none_held b of)
same_piece one two given count (Scaled b from to gain) of = absurd (none_held b of)
same_piece one two given count (Zero len) of = refl
same_piece one two given count (Given from to) of = refl

same_pieces : (one two : ℕ → ℕ → ℤ) (given : ℕ → ℤ) (count : ℕ) (ps : List Piece) → AllFrom [] count ps
    → all_samples (beside one given) ps ≡ all_samples (beside two given) ps
same_pieces one two given count [] of = refl
same_pieces one two given count (p ∷ ps) of = ap₂ (λ (xs ys : List ℤ). xs ++ ys)
    (same_piece one two given count p of.0) (same_pieces one two given count ps of.1)

held_whole : (given : ℕ → ℤ) (b : NewBlock) → total b.pieces ≡ b.len
    → stretch (held given b) 0 b.len ≡ all_samples (beside no_block given) b.pieces
held_whole given b size =
    let xs = all_samples (beside no_block given) b.pieces in
    let long : length xs ≡ b.len = length-all_samples (beside no_block given) b.pieces ∙ size in
    ap (stretch (held given b) 0) (sym long) ∙ stretch_list xs (pos 0)

written_by : (block : ℕ → ℕ → ℤ) (given : ℕ → ℤ) (m next count : ℕ) (bs : List NewBlock) → AreNew m next bs
    → AllNewFrom [] count bs → ((id : ℕ) → next ≤ id → block id ≡ filled given bs id)
    → AreWritten (beside block given) bs
written_by block given m next count [] new of agrees = tt
written_by block given m next count (b ∷ bs) new of agrees =
    let here : block b.id ≡ held given b =
    agrees b.id (omega (arith, new.0))
    ∙ ap (λ (t : Bool). chosen t (held given b) (filled given bs b.id)) (eq-eqb b.id b.id refl) in (
      ap (λ (f : ℕ → ℤ). stretch f 0 b.len) here ∙ held_whole given b new.3
          ∙ same_pieces no_block block given count b.pieces of.0,
      written_by block given m (next + 1) count bs new.5 of.1 (λ id le.
          agrees id (omega (arith, le))
          ∙ ap (λ (t : Bool). chosen t (held given b) (filled given bs id))
          (ne_eqb id b.id (λ same. absurd (omega (arith, le, new.0, same))))),
    )

-- ---- what a layout says

gaps_among : (n : ℕ) (cells : List Cell) → samples_among (replicate n Gap ++ cells) ≡ samples_among cells
gaps_among zero cells = refl
gaps_among (suc n) cells = gaps_among n cells

sounds_among : (xs : List ℤ) (cells : List Cell) → samples_among (map Sample xs ++ cells) ≡ xs ++ samples_among cells
sounds_among [] cells = refl
sounds_among (x ∷ xs) cells = ap (λ (ys : List ℤ). x ∷ ys) (sounds_among xs cells)

all_among : (xs : List ℤ) → samples_among (as_cells xs) ≡ xs
all_among [] = refl
all_among (x ∷ xs) = ap (λ (ys : List ℤ). x ∷ ys) (all_among xs)

blocks_append : (src : Sources) (xs ys : List BlockRef)
    → block_samples src (xs ++ ys) ≡ block_samples src xs ++ block_samples src ys
blocks_append src [] ys = refl
blocks_append src (b ∷ bs) ys =
    ap (λ (zs : List ℤ). stretch (src.block b.id) 0 b.len ++ zs) (blocks_append src bs ys)
    ∙ sym (append_assoc (stretch (src.block b.id) 0 b.len) (block_samples src bs) (block_samples src ys))

layout_among : (src : Sources) (at : ℕ) (cs : List Clip)
    → samples_among (cells_from src at cs) ≡ block_samples src (layout_blocks cs)
layout_among src at [] = refl
layout_among src at (c ∷ cs) =
    ap samples_among (append_assoc (replicate (c.start - at) Gap) (map Sample (block_samples src c.blocks))
    (cells_from src (clip_end c) cs))
    ∙ gaps_among (c.start - at) (map Sample (block_samples src c.blocks) ++ cells_from src (clip_end c) cs)
    ∙ sounds_among (block_samples src c.blocks) (cells_from src (clip_end c) cs)
    ∙ ap (λ (zs : List ℤ). block_samples src c.blocks ++ zs) (layout_among src (clip_end c) cs)
    ∙ sym (blocks_append src c.blocks (layout_blocks cs))

refs_of : (bs : List BlockRef) (ns : List NewBlock) → AreOldOrNew [] bs ns → bs ≡ map ref_of ns
refs_of [] [] h = refl
refs_of [] (n ∷ ns) h = absurd h
refs_of (b ∷ bs) [] h = absurd (none_held b h.0)
refs_of (b ∷ bs) (n ∷ ns) h = ⊎_elim (λ was. absurd (none_held b was.0))
    (λ new. ap₂ (λ (x : BlockRef) (xs : List BlockRef). x ∷ xs) new.0 (refs_of bs ns new.1)) h

-- the samples of new blocks, by their pieces
abbrev made_samples : Sources → List NewBlock → List ℤ
made_samples src [] = []
made_samples src (b ∷ bs) = all_samples src b.pieces ++ made_samples src bs

refs_samples : (src : Sources) (ns : List NewBlock) → AreWritten src ns
    → block_samples src (map ref_of ns) ≡ made_samples src ns
refs_samples src [] written = refl
refs_samples src (n ∷ ns) written =
    ap₂ (λ (xs ys : List ℤ). xs ++ ys) written.0 (refs_samples src ns written.1)

-- ---- samples that are their own places

abbrev own : ℕ → ℤ
own i = pos i

abbrev place_of : ℤ → ℕ
place_of (pos n) = n
place_of z = 0

same_place : (a b : ℕ) → own a ≡ own b → a ≡ b
same_place a b e = ap place_of e

first_of : (f : ℕ → ℤ) (from n : ℕ) (rest : List ℤ) → 0 < n → get_or (stretch f from n ++ rest) 0 (pos 0) ≡ f from
first_of f from zero rest some = absurd (omega (arith, some))
first_of f from (suc n) rest some = refl

-- what is left of a stretch after a list that it begins with
left_of : (f : ℕ → ℤ) (low n : ℕ) (xs rest : List ℤ) → xs ++ rest ≡ stretch f low n
    → (length xs ≤ n) × (rest ≡ stretch f (low + length xs) (n - length xs))
left_of f low n xs rest is =
    let long : length xs + length rest ≡ n = sym (length-append xs rest) ∙ ap length is ∙ length-stretch f low n in
    let few : length xs ≤ n = omega (arith, long) in (
      few,
      sym (drop-append_seam xs rest) ∙ ap (drop (length xs)) is ∙ drop-stretch f low (length xs) n few,
    )

piece_order : (block : ℕ → ℕ → ℤ) (count low n : ℕ) (p : Piece) (rest : List ℤ) → IsFrom [] count p
    → samples_of (beside block own) p ++ rest ≡ stretch own low n → LiesBetween low (low + piece_len p) p
piece_order block count low n (Old b from to) rest of is = tt
piece_order block count low n (Scaled b from to gain) rest of is = tt
piece_order block count low n (Zero len) rest of is = tt
piece_order block count low n (Given from to) rest of is = λ less.
    let some : 0 < to - from = omega (arith, less) in
    let xs = stretch own from (to - from) in
    let few = (left_of own low n xs rest is).0 in
    let long = length-stretch own from (to - from) in
    let all : 0 < n = omega (arith, few, long, some) in
    let same : from ≡ low = same_place from low (sym (first_of own from (to - from) rest some)
    ∙ ap (λ (ys : List ℤ). get_or ys 0 (pos 0)) (is ∙ sym (append-nil (stretch own low n)))
    ∙ first_of own low n [] all) in
    (omega (arith, same), omega (arith, same, less))

pieces_order : (block : ℕ → ℕ → ℤ) (count low n : ℕ) (ps : List Piece) (rest : List ℤ) → AllFrom [] count ps
    → all_samples (beside block own) ps ++ rest ≡ stretch own low n
    → AreInOrder low (low + total ps) ps
pieces_order block count low n [] rest of is = omega arith
pieces_order block count low n (p ∷ ps) rest of is =
    let src = beside block own in
    let one = samples_of src p in
    let more = all_samples src ps in
    let parts : one ++ (more ++ rest) ≡ stretch own low n = sym (append_assoc one more rest) ∙ is in
    let left = left_of own low n one (more ++ rest) parts in
    let long : length one ≡ piece_len p = length-samples src p in
    let mid : ℕ = low + piece_len p in
    let after : more ++ rest ≡ stretch own mid (n - piece_len p) =
    left.1 ∙ ap (λ (k : ℕ). stretch own (low + k) (n - k)) long in
    let end : mid + total ps ≡ low + total (p ∷ ps) = omega arith in (
      mid,
      omega arith,
      piece_order block count low n p (more ++ rest) of.0 parts,
      subst (λ (k : ℕ). AreInOrder mid k ps) end (pieces_order block count mid (n - piece_len p) ps rest of.1 after),
    )

blocks_order : (block : ℕ → ℕ → ℤ) (count low n : ℕ) (bs : List NewBlock) → AllNewFrom [] count bs
    → made_samples (beside block own) bs ≡ stretch own low n → AllInOrder low (low + n) bs
blocks_order block count low n [] of is = omega arith
blocks_order block count low n (b ∷ bs) of is =
    let src = beside block own in
    let one = all_samples src b.pieces in
    let left = left_of own low n one (made_samples src bs) is in
    let long : length one ≡ total b.pieces = length-all_samples src b.pieces in
    let mid : ℕ = low + total b.pieces in
    let after : made_samples src bs ≡ stretch own mid (n - total b.pieces) =
    left.1 ∙ ap (λ (k : ℕ). stretch own (low + k) (n - k)) long in
    let end : mid + (n - total b.pieces) ≡ low + n = omega (arith, left.0, long) in (
      mid,
      pieces_order block count low n b.pieces (made_samples src bs) of.0 is,
      subst (λ (k : ℕ). AllInOrder mid k bs) end (blocks_order block count mid (n - total b.pieces) bs of.1 after),
    )

-- ---- the plan of a channel, and of all

pub channel_order : (from count m next : ℕ) (p : Plan) → IsChannelPlan from count m next p
    → AllInOrder from (from + count) p.makes
channel_order from count m next p is =
    let block : ℕ → ℕ → ℤ = filled own p.makes in
    let src : Sources = beside block own in
    let written : AreWritten src p.makes =
    written_by block own m next (from + count) p.makes is.plan.new is.plan.origin (λ id le. refl) in
    blocks_order block (from + count) from count p.makes is.plan.origin
    (sym (refs_samples src p.makes written)
    ∙ ap (block_samples src) (sym (refs_of (layout_blocks p.layout) p.makes is.plan.blocks))
    ∙ sym (layout_among src 0 p.layout)
    ∙ ap samples_among (is.means src written)
    ∙ all_among (stretch own from count))

pub order_more : (m id count : ℕ) (old new : Growing) → AddsChannel m id count old new
    → AllInOrder 0 old.brought old.makes.items → AllInOrder 0 new.brought new.makes.items
order_more m id count old new adds before = search (rules, order_append, channel_order)
