-- The plan of a new track of this many of the samples that a command brings, from a place among them on.
use Rattle.std.proofs.Common.{◌≡◌, ⊎_elim, inl, inr, refl, sym, ap, ◌∙◌, subst, ℕ, zero, suc, ◌+◌, ◌/◌, ◌^◌, ◌≤◌}
use Rattle.std.proofs.Common.{ℤ, List, [], ◌∷◌, ◌++◌, length, map, arith, rules}
use Rattle.std.proofs.lemmas.List.{append-nil, length-map}
use Rattle.std.specs.List.{AllByRecursion}
use Rattle.pcm_base.specs.declared.piece.Piece.TheVariants.{Old, Scaled, Zero, Given}
use Rattle.pcm_base.specs.Pieces.{AllValid, IsValid, Sources, all_samples, piece_len, samples_of, stretch, total}
use Rattle.pcm_base.specs.{declared.block.BlockRef.BlockRef, declared.piece.Piece.Piece, declared.sound.Cell.Cell}
use Rattle.pcm_base.specs.{declared.sound.Cell.TheVariants.Sample, Cells.trimmed, Edits.as_cells, Edits.inserted}
use Rattle.block_sequence.specs.Origins.{AllFrom, IsFrom}
use Rattle.clip_track.specs.{declared.clips.Clip.Clip, Clips.IsLayout, Clips.layout_blocks, Clips.layout_cells}
use Rattle.edit_ops.specs.Plans.{AllNewFrom, AreNew, AreOldOrNew, AreWritten, IsPlan, Means}
use Rattle.edit_ops.specs.{declared.types.NewBlock.NewBlock, declared.types.Plan.Plan}
use Rattle.editor_state.specs.Edits.{beside}
use Rattle.editor_imports.specs.Imports.{AllFitBehind, FitsBehind, IsChannelPlan, block_behind, piece_behind}
use Rattle.editor_imports.specs.Imports.{track_with}
use Rattle.editor_blocks.proofs.LayoutBlocks.{layout_given}

-- ---- pieces after others

fit_piece : (count skip : ℕ) (p : Piece) → IsFrom [] count p → IsValid p → skip + count ≤ 2 ^ 62 → FitsBehind skip p
fit_piece count skip (Old b from to) of valid few = tt
fit_piece count skip (Scaled b from to gain) of valid few = tt
fit_piece count skip (Zero len) of valid few = tt
fit_piece count skip (Given from to) of valid few = (omega (arith, of, valid, few), omega (arith, of, few))

fit_pieces : (count skip : ℕ) (ps : List Piece) → AllFrom [] count ps → AllValid ps → skip + count ≤ 2 ^ 62
    → AllByRecursion (FitsBehind skip) ps
fit_pieces count skip [] of valid few = tt
fit_pieces count skip (p ∷ ps) of valid few =
    (fit_piece count skip p of.0 valid.0 few, fit_pieces count skip ps of.1 valid.1 few)

pub fit_blocks : (m next count skip : ℕ) (bs : List NewBlock) → AllNewFrom [] count bs → AreNew m next bs
    → skip + count ≤ 2 ^ 62 → AllFitBehind skip bs
fit_blocks m next count skip [] of new few = tt
fit_blocks m next count skip (b ∷ bs) of new few =
    (fit_pieces count skip b.pieces of.0 new.4 few, fit_blocks m (next + 1) count skip bs of.1 new.5 few)

len_behind : (skip : ℕ) (p : Piece) → piece_len (piece_behind skip p) ≡ piece_len p
len_behind skip (Old b from to) = refl
len_behind skip (Scaled b from to gain) = refl
len_behind skip (Zero len) = refl
len_behind skip (Given from to) = omega arith

total_behind : (skip : ℕ) (ps : List Piece) → total (map (piece_behind skip) ps) ≡ total ps
total_behind skip [] = refl
total_behind skip (p ∷ ps) = omega (arith, len_behind skip p, total_behind skip ps)

valid_one : (skip : ℕ) (p : Piece) → IsValid p → IsValid (piece_behind skip p)
valid_one skip (Old b from to) valid = valid
valid_one skip (Scaled b from to gain) valid = valid
valid_one skip (Zero len) valid = tt
valid_one skip (Given from to) valid = omega (arith, valid)

valid_behind : (skip : ℕ) (ps : List Piece) → AllValid ps → AllValid (map (piece_behind skip) ps)
valid_behind skip [] valid = tt
valid_behind skip (p ∷ ps) valid = (valid_one skip p valid.0, valid_behind skip ps valid.1)

from_one : (count skip : ℕ) (p : Piece) → IsFrom [] count p → IsFrom [] (skip + count) (piece_behind skip p)
from_one count skip (Old b from to) of = of
from_one count skip (Scaled b from to gain) of = of
from_one count skip (Zero len) of = tt
from_one count skip (Given from to) of = omega (arith, of)

from_behind : (count skip : ℕ) (ps : List Piece) → AllFrom [] count ps
    → AllFrom [] (skip + count) (map (piece_behind skip) ps)
from_behind count skip [] of = tt
from_behind count skip (p ∷ ps) of = (from_one count skip p of.0, from_behind count skip ps of.1)

new_behind : (m next skip : ℕ) (bs : List NewBlock) → AreNew m next bs → AreNew m next (map (block_behind skip) bs)
new_behind m next skip [] new = tt
new_behind m next skip (b ∷ bs) new = (
  new.0,
  new.1,
  new.2,
  total_behind skip b.pieces ∙ new.3,
  valid_behind skip b.pieces new.4,
  new_behind m (next + 1) skip bs new.5,
)

origin_behind : (count skip : ℕ) (bs : List NewBlock) → AllNewFrom [] count bs
    → AllNewFrom [] (skip + count) (map (block_behind skip) bs)
origin_behind count skip [] of = tt
origin_behind count skip (b ∷ bs) of = (from_behind count skip b.pieces of.0, origin_behind count skip bs of.1)

blocks_behind : (skip : ℕ) (old bs : List BlockRef) (ns : List NewBlock) → AreOldOrNew old bs ns
    → AreOldOrNew old bs (map (block_behind skip) ns)
blocks_behind skip old [] [] h = tt
blocks_behind skip old [] (n ∷ ns) h = absurd h
blocks_behind skip old (b ∷ bs) [] h = (h.0, blocks_behind skip old bs [] h.1)
blocks_behind skip old (b ∷ bs) (n ∷ ns) h =
    ⊎_elim (λ was. inl (was.0, blocks_behind skip old bs (n ∷ ns) was.1))
    (λ new. inr (new.0, blocks_behind skip old bs ns new.1)) h

-- ---- what they mean

-- samples from a place on, by their places from there
abbrev pub given_from : ℕ → (ℕ → ℤ) → ℕ → ℤ
given_from skip given i = given (i + skip)

stretch_behind : (given : ℕ → ℤ) (skip from n : ℕ)
    → stretch given (from + skip) n ≡ stretch (given_from skip given) from n
stretch_behind given skip from zero = refl
stretch_behind given skip from (suc n) =
    let next : suc (from + skip) ≡ suc from + skip = omega arith in
    ap (λ (xs : List ℤ). given (from + skip) ∷ xs)
    (ap (λ (k : ℕ). stretch given k n) next ∙ stretch_behind given skip (suc from) n)

samples_behind : (block : ℕ → ℕ → ℤ) (given : ℕ → ℤ) (skip : ℕ) (p : Piece)
    → samples_of (beside block given) (piece_behind skip p) ≡ samples_of (beside block (given_from skip given)) p
samples_behind block given skip (Old b from to) = refl
samples_behind block given skip (Scaled b from to gain) = refl
samples_behind block given skip (Zero len) = refl
samples_behind block given skip (Given from to) = search (rules, stretch_behind)

all_behind : (block : ℕ → ℕ → ℤ) (given : ℕ → ℤ) (skip : ℕ) (ps : List Piece)
    → all_samples (beside block given) (map (piece_behind skip) ps)
    ≡ all_samples (beside block (given_from skip given)) ps
all_behind block given skip [] = refl
all_behind block given skip (p ∷ ps) = λ i. samples_behind block given skip p i ++ all_behind block given skip ps i

written_behind : (block : ℕ → ℕ → ℤ) (given : ℕ → ℤ) (skip : ℕ) (bs : List NewBlock)
    → AreWritten (beside block given) (map (block_behind skip) bs)
    → AreWritten (beside block (given_from skip given)) bs
written_behind block given skip [] h = tt
written_behind block given skip (b ∷ bs) h =
    (h.0 ∙ all_behind block given skip b.pieces, written_behind block given skip bs h.1)

trimmed_cells : (xs : List ℤ) → trimmed (as_cells xs) ≡ as_cells xs
trimmed_cells [] = refl
trimmed_cells (x ∷ xs) = ap (λ (cells : List Cell). Sample x ∷ cells) (trimmed_cells xs)

inserted_first : (xs : List ℤ) → inserted 0 (as_cells xs) [] ≡ as_cells xs
inserted_first xs = ap trimmed (append-nil (as_cells xs)) ∙ trimmed_cells xs

-- ---- the plan

abbrev pub MeansInserted : ℕ → Plan → Type 0
MeansInserted count p = Means (λ src. inserted 0 (as_cells (stretch src.given 0 count))) [] p

pub channel_means : (from count : ℕ) (p : Plan) → MeansInserted count p → (src : Sources)
    → AreWritten src (map (block_behind from) p.makes)
    → layout_cells src p.layout ≡ as_cells (stretch src.given from count)
channel_means from count p means src written =
    let block = src.block in
    let given = src.given in
    let first = given_from from given in
    let t = track_with 1 0 p.layout in
    let same : layout_cells src p.layout ≡ layout_cells (beside block first) p.layout =
    sym (layout_given block given t) ∙ layout_given block first t in
    let at : 0 + from ≡ from = omega arith in
    same ∙ means (beside block first) (written_behind block given from p.makes written)
    ∙ inserted_first (stretch first 0 count)
    ∙ ap as_cells (sym (stretch_behind given from 0 count) ∙ ap (λ (k : ℕ). stretch given k count) at)

-- a plan with its blocks moved
abbrev pub plan_behind : Plan → List NewBlock → Plan
plan_behind p bs = record p { makes = bs }

pub channel_plan : (from count m next : ℕ) (was : Plan) (moved : List NewBlock) → IsLayout was.layout
    → IsPlan (record { block_size = m; next = next }) [] count was → MeansInserted count was
    → length was.makes ≤ 8 + count / m → moved ≡ map (block_behind from) was.makes
    → IsChannelPlan from count m next (plan_behind was moved)
channel_plan from count m next was moved laid is means few same =
    let layout = was.layout in
    let makes = was.makes in
    let now : List NewBlock → Plan = plan_behind was in
    subst (λ (bs : List NewBlock). IsChannelPlan from count m next (now bs)) (sym same) (record {
      plan = record {
        half_full = is.half_full;
        new = new_behind m next from makes is.new;
        origin = origin_behind count from makes is.origin;
        blocks = blocks_behind from [] (layout_blocks layout) makes is.blocks;
        next_id = omega (arith, is.next_id, length-map makes (block_behind from));
      };
      means = channel_means from count was means;
      few = omega (arith, few, length-map makes (block_behind from));
      layout = laid;
    })
