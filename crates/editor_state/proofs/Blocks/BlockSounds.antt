-- What blocks mean where their files are the same.
use Rattle.editor_state.proofs.Common.{◌≡◌, ◌∙◌, refl, ap, ℕ, zero, suc, ◌≤◌, pos, List, [], arith, unwrap_or}
use Rattle.editor_state.proofs.Common.{AllByRecursion, History, BlockRef, Project, Sources, Files, SameElsewhere}
use Rattle.editor_state.proofs.Common.{sources_of, IsWhole, AllWhole, Track, meant, meant_history, point_blocks}
use Rattle.editor_state.proofs.Common.{history_blocks, all_append, IsGiven, SameBlocks, rules}
use Rattle.std.proofs.Common.{slice_index_or}
use Rattle.std.specs.{Option.option_and_then}
use Rattle.pcm_base.specs.History.{history_of_one}
use Rattle.pcm_base.specs.{State.first_point}
use Rattle.sample_block.specs.{Blocks.blocks}
use Rattle.project_state.proofs.Meanings.{IsSame, same_meaning}
use Rattle.editor_state.proofs.Lists.{all_so, all_both}

-- the sources have the same samples of the block
abbrev pub SameSound : Sources → Sources → BlockRef → Type 0
SameSound src other b = IsSame other src b

pub same_history : (src other : Sources) (h : History (List Track))
    → AllByRecursion (SameSound src other) (history_blocks h) → meant_history other h ≡ meant_history src h
same_history src other h all = same_meaning other src h all

-- a project is the history of one point
pub same_point : (src other : Sources) (ts : List Track) → AllByRecursion (SameSound src other) (point_blocks ts)
    → meant other ts ≡ meant src ts
same_point src other ts all =
    let one : History (List Track) = history_of_one ts 0 1 in
    ap (λ (h : History Project). first_point h.points)
    (same_history src other one (all_append (SameSound src other) (point_blocks ts) [] all tt))

-- a block of a file that is the same is the same
pub same_block : (files other : Files) (id : ℕ) → other id ≡ files id → blocks other id ≡ blocks files id
same_block files other id same = search (rules, option_and_then)

pub same_sound : (files other : Files) (b : BlockRef) → other b.id ≡ files b.id
    → SameSound (sources_of files) (sources_of other) b
same_sound files other b same = search (rules, same_block, slice_index_or)

pub same_whole : (files other : Files) (b : BlockRef) → other b.id ≡ files b.id → IsWhole files b → IsWhole other b
same_whole files other b same h = (h.0, same_block files other b.id same ∙ h.1, h.2)

-- the same of all of them
pub all_sound : (files other : Files) (bs : List BlockRef) → SameBlocks bs files other
    → AllByRecursion (SameSound (sources_of files) (sources_of other)) bs
all_sound files other bs = search (rules, all_so, same_sound)

pub all_whole : (files other : Files) (bs : List BlockRef) → SameBlocks bs files other → AllWhole files bs
    → AllWhole other bs
all_whole files other bs = search (rules, all_both, same_whole)

-- blocks have ids from 16 on, so no change of a journal touches them
blocks_elsewhere : (file : ℕ) (files other : Files) → file ≤ 1 → SameElsewhere file files other → (id : ℕ)
    → blocks other id ≡ blocks files id
blocks_elsewhere file files other few same zero = refl
blocks_elsewhere file files other few same (suc zero) = refl
blocks_elsewhere file files other few same (suc (suc n)) = search (rules, same_block)

pub sources_elsewhere : (file : ℕ) (files other : Files) → file ≤ 1 → SameElsewhere file files other
    → sources_of other ≡ sources_of files
sources_elsewhere file files other few same =
    λ i. record {
      block = λ id k. slice_index_or (unwrap_or (blocks_elsewhere file files other few same id i) []) k (pos 0);
      given = λ _. pos 0;
    }

pub file_elsewhere : (file : ℕ) (files other : Files) → file ≤ 1 → SameElsewhere file files other → (id : ℕ)
    → 16 ≤ id → other id ≡ files id
file_elsewhere file files other few same id least = same id (λ e. absurd (omega (arith, e, least, few)))

pub blocks_same : (file : ℕ) (files other : Files) (next : ℕ) (bs : List BlockRef) → file ≤ 1
    → SameElsewhere file files other
    → AllByRecursion (λ (b : BlockRef). IsGiven next b.id) bs → SameBlocks bs files other
blocks_same file files other next bs few same = search (rules, all_so, file_elsewhere)

pub trans_same : (files mid other : Files) (bs : List BlockRef) → SameBlocks bs files mid → SameBlocks bs mid other
    → SameBlocks bs files other
trans_same files mid other bs = search (rules, all_both)
