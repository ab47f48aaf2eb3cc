-- What the plan of an edit promises.
use Rattle.std.specs.Prelude.{◌≡◌, ℕ, ◌+◌, ◌<◌, ◌≤◌, ◌⊎◌, List, [], ◌∷◌, length, Contains, Option, None, Some, Result}
use Rattle.std.specs.Prelude.{MatchResult}
use Rattle.pcm_base.specs.Pieces.{Sources, stretch, total, all_samples, AllValid}
use Rattle.pcm_base.specs.{declared.refusal.Refusal.Refusal, declared.refusal.Refusal.TheVariants.NoMemory}
use Rattle.pcm_base.specs.{declared.block.BlockRef.BlockRef, declared.sound.Cell.Cell}
use Rattle.block_sequence.specs.Origins.{AllFrom}
use Rattle.clip_track.specs.{declared.clips.Clip.Clip, Clips.layout_cells, Clips.AllHalfFull, Clips.layout_blocks}
use Rattle.edit_ops.specs.{declared.types.NewBlock.NewBlock, declared.types.Plan.Plan, declared.planner.Planner.Planner}
use Rattle.edit_ops.specs.{declared.planner.RunPlanner.RunPlanner}

-- what is written to the new blocks is what their pieces say
abbrev pub AreWritten : Sources → List NewBlock → Type 0
AreWritten src [] = Unit {0}
AreWritten src (b ∷ bs) = (stretch (src.block b.id) 0 b.len ≡ all_samples src b.pieces) × AreWritten src bs

-- new blocks have the ids from the next one on, 1 to m samples, and pieces of as many
abbrev pub AreNew : ℕ → ℕ → List NewBlock → Type 0
AreNew m next [] = Unit {0}
AreNew m next (b ∷ bs) =
    (b.id ≡ next) × (0 < b.len) × (b.len ≤ m) × (total b.pieces ≡ b.len) × AllValid b.pieces × AreNew m (next + 1) bs

-- their pieces are parts of these blocks, zeros, or parts of this many samples that the command brings
abbrev pub AllNewFrom : List BlockRef → ℕ → List NewBlock → Type 0
AllNewFrom blocks count [] = Unit {0}
AllNewFrom blocks count (b ∷ bs) = AllFrom blocks count b.pieces × AllNewFrom blocks count bs

-- the reference to a new block
abbrev pub ref_of : NewBlock → BlockRef
ref_of b = record { id = b.id; len = b.len }

-- some blocks in order: each is an old one, or the next of the new ones, and all new ones come
abbrev pub AreOldOrNew : List BlockRef → List BlockRef → List NewBlock → Type 0
AreOldOrNew old [] [] = Unit {0}
AreOldOrNew old [] (n ∷ ns) = ⊥
AreOldOrNew old (b ∷ bs) [] = Contains old b × AreOldOrNew old bs []
AreOldOrNew old (b ∷ bs) (n ∷ ns) =
    (Contains old b × AreOldOrNew old bs (n ∷ ns)) ⊎ ((b ≡ ref_of n) × AreOldOrNew old bs ns)

-- where a plan begins: how many samples a block has at most, and the id that the first new block gets
pub record Start : Type 0 where
  pub block_size : ℕ
  pub next : ℕ

abbrev pub start_of : Planner → Start
start_of planner = record { block_size = planner.block_size; next = planner.next }

abbrev pub run_start_of : RunPlanner → Start
run_start_of planner = record { block_size = planner.block_size; next = planner.next }

-- the plan of an edit, of old blocks and this many samples that the command brings
pub record IsPlan (start : Start) (old : List BlockRef) (count : ℕ) (p : Plan) : Type 0 where
  pub half_full : AllHalfFull start.block_size p.layout
  pub new : AreNew start.block_size start.next p.makes
  pub origin : AllNewFrom old count p.makes
  pub blocks : AreOldOrNew old (layout_blocks p.layout) p.makes
  pub next_id : p.next ≡ start.next + length p.makes

-- once its new blocks hold what their pieces say, the new layout means the edit of what the old one meant
abbrev pub Means : (Sources → List Cell → List Cell) → List Clip → Plan → Type 0
Means edit old p = (src : Sources) → AreWritten src p.makes
    → layout_cells src p.layout ≡ edit src (layout_cells src old)

-- a test is passed, or answers its reason
abbrev pub Passes : Option Refusal → Result (Unit {0}) Refusal → Type 0
Passes test result = MatchResult result (λ _. test ≡ None) (λ reason. test ≡ Some reason)

-- an edit is answered where its test passes; else by the test's reason, or for want of memory where it passes
abbrev pub AnswersTest : {A : Type 0} → Option Refusal → Result A Refusal → Type 0
AnswersTest test result =
    MatchResult result (λ _. test ≡ None) (λ e. (test ≡ Some e) ⊎ ((test ≡ None) × (e ≡ NoMemory)))
