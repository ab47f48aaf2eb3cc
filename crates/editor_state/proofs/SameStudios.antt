-- A studio over another store, with other pages and counts, going on or stopped: all else that holds of it stays.
use Rattle.editor_state.proofs.Common.{ℕ, ◌<◌, ◌≤◌, ◌↔◌, IsSome, List, Option, rules, COUNTER_LIMIT, Ghosts, Counts}
use Rattle.editor_state.proofs.Common.{AllPass, Entries, AreCounts, Item, EachNow, Core, form_at, Pin, IsDurable}
use Rattle.editor_state.proofs.Common.{IsGiven, IsStudio, SameBlocks, clip_blocks, is_given, named_blocks}
use Rattle.editor_state.proofs.Common.{studio_tracks}
use Rattle.pcm_base.specs.declared.limits.TheConstants.{FIRST_BLOCK}
use Rattle.project_journal.specs.{Journal.IsAt}
use Rattle.layout_uses.specs.Tallies.{Uses}

module _ {D : Type 0} (disk : Ghosts D) (s : Core D) (is : IsStudio disk s) (store : D) where
  pub studio_with : (cache : Entries) (counts : Counts) (stopped : Option ℕ)
      → AreCounts (studio_tracks s) (clip_blocks s.clipboard) s.uses counts
      → ((id : ℕ) → IsSome (counts id) → IsGiven s.next_block id) → AllPass (is_given s.next_block) cache
      → IsStudio disk (record s { store = store; cache = cache; counts = counts; stopped = stopped })
  studio_with cache counts stopped counted given pages = search rules

  -- the same but for the store, and whether it goes on
  pub studio_over : (stopped : Option ℕ) → IsStudio disk (record s { store = store; stopped = stopped })
  studio_over stopped = studio_with s.cache s.counts stopped is.counted is.given is.pages

-- a studio over another store, by what it names and keeps in memory
abbrev pub over_store : {D : Type 0} → Core D → D → Entries → Option ℕ → (next : ℕ) → Option (List (List Item))
    → List Pin → (next_pin : ℕ) → (uses : Uses) → (counts : Counts) → Core D
over_store s store cache stopped next clip pins next_pin uses counts = record s {
  store = store;
  cache = cache;
  stopped = stopped;
  next_block = next;
  clipboard = clip;
  pins = pins;
  next_pin = next_pin;
  uses = uses;
  counts = counts;
}

-- its journal leads to the same history, where the store still has that journal, and the blocks and files
pub durable_so : {D : Type 0} (disk : Ghosts D) (s : Core D) (store : D) (cache : Entries) (stopped : Option ℕ)
    (next : ℕ) (clip : Option (List (List Item))) (pins : List Pin) (next_pin : ℕ) (uses : Uses)
    (counts : Counts)
    (d : IsDurable disk s) → IsAt (form_at s) disk store s.journal_end d.log → s.next_block ≤ next
    → EachNow disk store
    (SameBlocks (named_blocks (over_store s store cache stopped next clip pins next_pin uses counts)) (disk.reads store))
    → ((id : ℕ) → FIRST_BLOCK ≤ id → id < COUNTER_LIMIT → IsSome (counts id) ↔ IsSome (disk.reads store id))
    → IsDurable disk (over_store s store cache stopped next clip pins next_pin uses counts)
durable_so disk s store cache stopped next clip pins next_pin uses counts d there later blocks files = search rules
