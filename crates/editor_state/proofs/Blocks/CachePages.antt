-- The pages that a studio keeps are of blocks that were given, and stay right of its disk.
use Rattle.editor_state.proofs.Common.{ℕ, ◌+◌, ◌≤◌, List, Contains, IsTrue, arith, SameElsewhere, Changed, Room, Ghosts}
use Rattle.editor_state.proofs.Common.{BlockRef, AllPass, Entries, IsGiven, IsStudio, is_given, named_blocks, Core}
use Rattle.editor_state.proofs.Common.{AreAmong, rules}
use Rattle.std.proofs.lemmas.Bool.Decides.{nat_tests}
use Rattle.block_cache.specs.Caches.{IsCacheOf, KeepsCache}
use Rattle.block_cache.proofs.CacheLaws.{keeps_more, keeps_same, same_none}
use Rattle.block_cache.proofs.CarriedLaws.{pass_more, right_on}
use Rattle.project_journal.specs.Packing.{OnlyJournals}
use Rattle.editor_state.specs.Studios.{is_block}
use Rattle.editor_state.proofs.Blocks.BlockLists.{contained}

given_is : (next id : ℕ) → IsTrue (is_given next id) → IsGiven next id
given_is next id h = grind (arith, nat_tests)

is_from : (next id : ℕ) → IsGiven next id → IsTrue (is_given next id)
is_from next id h = grind (arith, nat_tests)

block_least : (id : ℕ) → IsTrue (is_block id) → 16 ≤ id
block_least id h = grind (arith, nat_tests)

block_from : (id : ℕ) → 16 ≤ id → IsTrue (is_block id)
block_from id h = grind (arith, nat_tests)

-- what reads of blocks that the studio names make of its pages
abbrev pub ReadsNamed : {D : Type 0} → Ghosts D → Core D → Entries → Type 0
ReadsNamed disk s cache = KeepsCache (disk.tells s.store) (disk.reads s.store) (named_blocks s) s.cache cache

-- nothing was read, or without them
pub reads_none : {D : Type 0} (disk : Ghosts D) (s : Core D) → ReadsNamed disk s s.cache
reads_none disk s = keeps_same (same_none s.cache)

-- some of these blocks were read
pub reads_among : {D : Type 0} (disk : Ghosts D) (s : Core D) (bs : List BlockRef) (cache : Entries)
    → AreAmong (named_blocks s) bs → KeepsCache (disk.tells s.store) (disk.reads s.store) bs s.cache cache
    → ReadsNamed disk s cache
reads_among disk s bs cache among keeps =
    keeps_more _ _ bs (named_blocks s) _ _ (λ b has. contained (Contains (named_blocks s)) bs b among has) keeps

-- ---- of which blocks they are

-- after reads
pub pages_by_reads : {D : Type 0} (disk : Ghosts D) (s : Core D) → IsStudio disk s → (cache : Entries)
    → ReadsNamed disk s cache → AllPass (is_given s.next_block) cache
pages_by_reads disk s is cache keeps =
    keeps.ids (is_given s.next_block)
    (λ b has. is_from s.next_block b.id
    (contained (λ (d : BlockRef). IsGiven s.next_block d.id) (named_blocks s) b is.ids has)) is.pages

-- after new blocks
pub pages_by_blocks : (next n : ℕ) (c : Entries) → AllPass (is_given next) c → AllPass (is_given (next + n)) c
pages_by_blocks next n c pass = search (rules, pass_more, given_is, is_from)

-- of blocks alone
pub pages_of_blocks : (next : ℕ) (c : Entries) → AllPass (is_given next) c → AllPass is_block c
pages_of_blocks next c pass = search (rules, pass_more, block_from, given_is)

-- ---- they stay right

module _ {D : Type 0} (disk : Ghosts D) (much : Room) (was now : D) (c : Entries) where
  -- after a record of the journal
  pub right_by_record : (file : ℕ) → file ≤ 1 → Changed disk (SameElsewhere file) much was now → AllPass is_block c
      → (IsTrue (disk.tells was) → IsCacheOf (disk.reads was) c) → IsTrue (disk.tells now)
      → IsCacheOf (disk.reads now) c
  right_by_record file few changed pass right =
      right_on disk is_block (SameElsewhere file) much was now c changed
      (λ files other same id block. same id (λ e. omega (arith, block_least id block, e, few))) pass right

  -- after a packed journal
  pub right_by_packing : (file : ℕ) → file ≤ 1 → Changed disk (OnlyJournals file) much was now → AllPass is_block c
      → (IsTrue (disk.tells was) → IsCacheOf (disk.reads was) c) → IsTrue (disk.tells now)
      → IsCacheOf (disk.reads now) c
  right_by_packing file few changed pass right =
      right_on disk is_block (OnlyJournals file) much was now c changed
      (λ files other only id block.
      let least = block_least id block in
      only id (λ e. omega (arith, least, e, few)) (λ e. omega (arith, least, e))) pass right

  -- after the next block
  pub right_by_block : (next : ℕ) → Changed disk (SameElsewhere next) much was now → AllPass (is_given next) c
      → (IsTrue (disk.tells was) → IsCacheOf (disk.reads was) c) → IsTrue (disk.tells now)
      → IsCacheOf (disk.reads now) c
  right_by_block next changed pass right =
      right_on disk (is_given next) (SameElsewhere next) much was now c changed
      (λ files other same id given. same id (λ e. omega (arith, (given_is next id given).1, e))) pass right
