-- A studio of valid parts is a studio, and the disk that has what they stand for holds it.
use Rattle.editor_core.proofs.Common.{◌≡◌, sym, ℕ, List, [], ◌∷◌, ◌++◌, arith, subst, append-nil, AllByRecursion}
use Rattle.editor_core.proofs.Common.{BlockRef, History, Ghosts, Clip, layout_blocks, Track, point_blocks}
use Rattle.editor_core.proofs.Common.{IsValidTagged, all_append, AreParts, assembled, Parts, AreDrawn, AreNumbered}
use Rattle.editor_core.proofs.Common.{history_tracks, IsHeld, IsStudio, is_given}
use Rattle.pcm_base.specs.{History.IsHistory}
use Rattle.sample_block.specs.Sources.{IsWhole}
use Rattle.project_state.specs.{Meaning.history_blocks}
use Rattle.record_body.specs.{Valid.AllClipsGiven, Valid.AllGiven, Valid.AllValidTracks}
use Rattle.editor_core.specs.{Parts.HasParts}
use Rattle.block_cache.proofs.CacheLaws.{none_pass}
use Rattle.layout_uses.specs.{Tallies.AreCounts}
use Rattle.editor_state.specs.Studios.{IsGiven}
use Rattle.editor_state.proofs.Lists.{all_joined, all_so}
use Rattle.layout_uses.specs.Tallies.{uses_of}
use Rattle.row_ledger.specs.Lists.{counts_of}

module _ (next : ℕ) where
  abbrev Given : BlockRef → Type 0
  Given b = IsGiven next b.id

  blocks_given : (bs : List BlockRef) → AllGiven next bs → AllByRecursion Given bs
  blocks_given [] all = tt
  blocks_given (b ∷ bs) all = ((all.0, all.1), blocks_given bs all.2)

  clips_given : (cs : List Clip) → AllClipsGiven next cs → AllByRecursion Given (layout_blocks cs)
  clips_given [] all = tt
  clips_given (c ∷ cs) all =
      all_append Given c.blocks (layout_blocks cs) (blocks_given c.blocks all.0) (clips_given cs all.1)

  tracks_given : (m next_track : ℕ) (ts : List Track) → AllValidTracks m next next_track ts
      → AllByRecursion Given (point_blocks ts)
  tracks_given m next_track [] all = tt
  tracks_given m next_track (t ∷ ts) all = all_append Given (layout_blocks t.layout) (point_blocks ts)
      (clips_given t.layout all.0.blocks) (tracks_given m next_track ts all.1)

-- the blocks of valid points were given
pub points_given : (m next next_track commit : ℕ) (h : History (List Track))
    → AllByRecursion (IsValidTagged m next next_track commit) h.points
    → AllByRecursion (λ (b : BlockRef). IsGiven next b.id) (history_blocks h)
points_given m next next_track commit h all =
    let Given : BlockRef → Type 0 = λ b. IsGiven next b.id in
    all_joined Given (λ (q : List Track × ℕ). point_blocks q.0) h.points
    (all_so (IsValidTagged m next next_track commit) (λ (q : List Track × ℕ). AllByRecursion Given (point_blocks q.0))
    (λ q s. tracks_given next m next_track q.0 s.0.valid) h.points all)

pub assembles : {D : Type 0} (disk : Ghosts D) (store : D) (p : Parts) → AreParts p → IsHistory p.history.history
    → IsStudio disk (assembled store p)
assembles disk store p are is =
    let h : History (List Track) = p.history.history in
    let blocks : List BlockRef = history_blocks h in
    let same : history_tracks h ++ [] ≡ history_tracks h = append-nil (history_tracks h) in record {
      format = are.format;
      counters = are.counters;
      journal = are.journal;
      few_points = is.few;
      few_clips = omega arith;
      points = are.points;
      pins = tt;
      numbers = tt;
      clipboard = tt;
      ids = all_append (λ (b : BlockRef). IsGiven p.next_block b.id) blocks []
          (points_given p.block_size p.next_block p.next_track p.commit_number h are.points) tt;
      layouts = omega (arith, are.layouts, are.counters.end_most);
      numbered = subst AreNumbered (sym same) are.numbered;
      drawn = subst (AreDrawn p.next_layout) (sym same) are.drawn;
      counted = subst (λ (ts : List Track). AreCounts ts [] (uses_of p.tally) (counts_of p.tally.ledger))
          (sym same) are.counted;
      given = are.given;
      pages = none_pass (is_given p.next_block) p.pages;
    }

-- where the disk has what they stand for, it has what the studio stands for
pub holds : {D : Type 0} (disk : Ghosts D) (store : D) (p : Parts) → HasParts disk store p
    → IsHeld disk (assembled store p)
holds disk store p has = record {
  tells = has.tells;
  whole = all_append (IsWhole (disk.reads store)) (history_blocks p.history.history) [] has.whole tt;
  durable = λ going. has.durable;
}
