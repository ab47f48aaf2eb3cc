-- How the code carries an edit out, in the words of its laws.
use Rattle.editor_edits.proofs.Common.{◌≡◌, ℕ, suc, ◌+◌, List, [], length, Option, Result, rules, Refusal, History}
use Rattle.editor_edits.proofs.Common.{Counts, Item, Ghosts, NewBlock, Body, Edit, Track, Writing, all_bytes, whole_len}
use Rattle.editor_edits.proofs.Common.{Core, BlockCommit, Carried, TaggedEdit}
use Rattle.layout_uses.specs.Tallies.{Uses}

-- the project that a record tells
abbrev pub body_point : Body → List Track
body_point (Edit tag block track point) = point
body_point body = []

-- what an edit writes, where its records say this next block
abbrev pub writes_with : {D : Type 0} → Core D → TaggedEdit → ℕ → Writing
writes_with s e next = record {
  more = e.more;
  body = Edit e.tag next (s.next_track + e.plan.tracks) e.plan.point;
}

-- the commits of an edit, whose records say this next block
abbrev pub commit_with : {D : Type 0} → Core D → TaggedEdit → List NewBlock → ℕ → BlockCommit
commit_with s e makes next = record {
  makes = makes;
  given = e.given;
  tracks = e.plan.tracks;
  layouts = e.plan.layouts;
  count = suc e.more;
  bodies = all_bytes s (writes_with s e next);
  whole = whole_len s (writes_with s e next);
}

abbrev pub commit_of : {D : Type 0} → Core D → TaggedEdit → BlockCommit
commit_of s e = commit_with s e e.plan.makes (s.next_block + length e.plan.makes)

-- the blocks and the next id as the code has them
pub carried_at : {D : Type 0} (disk : Ghosts D) (s new : Core D) (e : TaggedEdit) (makes : List NewBlock)
    (result : Result (Unit {0}) Refusal) → makes ≡ e.plan.makes → e.plan.next ≡ s.next_block + length e.plan.makes
    → Carried disk s (commit_with s e makes e.plan.next) result new → Carried disk s (commit_of s e) result new
carried_at disk s new e makes result same at carried = search rules

-- the studio after commits of records of this length, by its journal, and by what else is kept of it in memory
abbrev pub added_to : {D : Type 0} → Core D → D → (len commits : ℕ) → Core D
added_to s store len commits = record s {
  store = store;
  journal_end = s.journal_end + 5 + len;
  commit_number = s.commit_number + commits;
}

abbrev pub edited_with : {D : Type 0} → Core D → History (List Track) → Option (List (List Item))
    → (uses : Uses) (counts : Counts) → (next_track next_layout : ℕ) → Core D
edited_with s history clip uses counts next_track next_layout = record s {
  history = history;
  clipboard = clip;
  uses = uses;
  counts = counts;
  next_track = next_track;
  next_layout = next_layout;
}
