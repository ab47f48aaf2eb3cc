-- What an edit takes out comes into the clipboard, after the point that it records.
use Rattle.editor_edits.proofs.Common.{◌≡◌, sym, ap, ◌∙◌, subst, ℕ, ◌+◌, ◌*◌, ◌^◌, ◌≤◌, ◌<◌, Option, None, List, []}
use Rattle.editor_edits.proofs.Common.{◌∷◌, ◌++◌, length, arith, AllByRecursion, History, BlockRef, Ghosts, Counts}
use Rattle.editor_edits.proofs.Common.{occurrences, count_of, Item, Track, history_blocks, point_blocks, IsValidTagged}
use Rattle.editor_edits.proofs.Common.{history_tracks, Tally, Becomes, IsStudio, clip_blocks, Core, IsPlanned}
use Rattle.editor_edits.proofs.Common.{TaggedEdit, clip_behind, history_behind, batch_of, Making, HasAll, HasIds, Moves}
use Rattle.editor_edits.proofs.Common.{all_so, all_recorded, recorded_depth, recorded_few, CountsAfter}
use Rattle.std.proofs.Common.{◌↔◌, IsSome, Some, length-append, flat_map}
use Rattle.block_ledger.specs.{Counts.IsFreshCount}
use Rattle.layout_uses.specs.Layouts.{numbers_of, track_blocks, used_blocks}
use Rattle.layout_uses.specs.{Tallies.AreCounts}
use Rattle.layout_uses.proofs.Naming.{counts_most}
use Rattle.editor_state.specs.Studios.{ids_of, pin_blocks, pin_tracks, studio_tracks}
use Rattle.editor_state.proofs.Blocks.BlockNumbers.{named_few, named_most, point_few}
use Rattle.editor_state.proofs.Blocks.NamedBlocks.{others_counted, others_moved, tracks_named}
use Rattle.editor_edits.proofs.EditPlans.{clip_there}
use Rattle.editor_commits.proofs.{CurrentProject.counts_then}
use Rattle.layout_uses.specs.{Tallies.Uses, Tallies.uses_of}
use Rattle.editor_state.specs.{Occurrences.MovesSingles, Occurrences.times_named}
use Rattle.editor_state.proofs.Blocks.NamedBlocks.{others_single}
use Rattle.row_ledger.specs.Lists.{counts_of}

pub points_few : (ps : List (List Track × ℕ))
    → AllByRecursion (λ (p : List Track × ℕ). length (point_blocks p.0) ≤ 2 ^ 38) ps
    → length (flat_map (λ (p : List Track × ℕ). point_blocks p.0) ps) ≤ length ps * 2 ^ 38
points_few [] h = omega arith
points_few (p ∷ ps) h = omega (
  arith,
  h.0,
  points_few ps h.1,
  length-append (point_blocks p.0) (flat_map (λ (q : List Track × ℕ). point_blocks q.0) ps),
)

module _ {D : Type 0} (disk : Ghosts D) (s : Core D) (is : IsStudio disk s) (going : s.stopped ≡ None)
    (e : TaggedEdit) (plan : IsPlanned s e) where
  open e use {given, plan.{makes, tracks, point}}

  abbrev clip : Option (List (List Item))
  clip = clip_behind s e.plan

  abbrev h : History (List Track)
  h = history_behind s e

  history_few : length (history_blocks h) ≤ 2 ^ 54
  history_few =
      let Q : List Track × ℕ → Type 0 = λ p. length (point_blocks p.0) ≤ 2 ^ 38 in
      let old = all_so (IsValidTagged s.block_size s.next_block s.next_track s.commit_number) Q
      (λ p k. point_few s.block_size s.next_block s.next_track p.0 k.0) s.history.points is.points in
      let new = point_few s.block_size (s.next_block + length makes) (s.next_track + tracks) point plan.valid in
      omega (
        arith,
        points_few h.points (all_recorded s.history point e.tag Q old new new),
        recorded_few s.history point e.tag,
        recorded_depth s.history point e.tag,
        is.format.depth_most,
      )

  abbrev after : ℕ
  after = s.next_layout + e.plan.layouts

  -- the pins' blocks, and the clipboard's
  abbrev rest : List BlockRef
  rest = pin_blocks s.pins ++ clip_blocks s.clipboard

  -- what the studio with its new blocks counts: a file that was made is counted, and named by nothing
  pub counted_mid : (mid : Core D) → Making disk s (batch_of given makes) (length makes) mid → (tally : Tally)
      → uses_of tally ≡ s.uses → counts_of tally.ledger ≡ mid.counts
      → AreCounts (studio_tracks s) (clip_blocks s.clipboard) (uses_of tally) (counts_of tally.ledger)
  counted_mid mid making tally uses_are counts_are = subst (λ (u : Uses).
      AreCounts (studio_tracks s) (clip_blocks s.clipboard) u (counts_of tally.ledger)) (sym uses_are) (record {
        fresh_uses = is.counted.fresh_uses;
        none_free = is.counted.none_free;
        fresh_counts = subst (IsFreshCount (ids_of (used_blocks (studio_tracks s) ++ clip_blocks s.clipboard)))
            (sym counts_are) (λ id. making.ledger.counts id ∙ is.counted.fresh_counts id);
        listed = is.counted.listed;
        no_other = is.counted.no_other;
        singles = is.counted.singles;
      })

  module _ (mid : Core D) (making : Making disk s (batch_of given makes) (length makes) mid)
      (most : s.next_layout + e.plan.layouts ≤ 2 ^ 62) (tally tally' : Tally)
      (uses_are : uses_of tally ≡ s.uses) (counts_are : counts_of tally.ledger ≡ mid.counts)
      (becomes : Becomes point (history_tracks s.history) (history_tracks h) tally tally') where
    taken_so : CountsAfter s.pins h s.clipboard after (counts_of tally.ledger) (uses_of tally')
        (counts_of tally'.ledger)
    taken_so = counts_then disk s is point after h tally tally' plan.layouts plan.valid.few most
        (counted_mid mid making tally uses_are counts_are) becomes

    pub taken_there : s.next_block + length makes ≤ 2 ^ 62 → HasIds (counts_of tally'.ledger) (clip_blocks clip)
    taken_there fits = λ id some. (taken_so.files id).1 (subst (λ (c : Counts). IsSome (c id)) (sym counts_are)
        (clip_there disk s is going e plan mid making fits id some))

    pub taken_room : (id : ℕ) → occurrences (counts_of tally'.ledger id) < 2 ^ 102
    taken_room id =
        omega (
          arith,
          counts_most (history_tracks h ++ pin_tracks s.pins) (clip_blocks s.clipboard) (uses_of tally')
              (counts_of tally'.ledger) taken_so.counted id,
          named_most id (track_blocks (history_tracks h ++ pin_tracks s.pins) ++ clip_blocks s.clipboard),
          ap length (tracks_named h s.pins (clip_blocks s.clipboard)),
          length-append (history_blocks h) rest,
          history_few,
          length-append (history_blocks s.history) rest,
          named_few disk s is,
        )

    pub taken_named : HasAll (counts_of tally'.ledger) (clip_blocks s.clipboard)
    taken_named = others_counted (history_tracks h ++ pin_tracks s.pins) (clip_blocks s.clipboard)
        (uses_of tally') (counts_of tally'.ledger) taken_so.counted

    pub taken_single : (id : ℕ) → times_named id (clip_blocks s.clipboard) ≤ (uses_of tally').singles id
    taken_single = others_single (history_tracks h ++ pin_tracks s.pins) (clip_blocks s.clipboard)
        (uses_of tally') (counts_of tally'.ledger) taken_so.counted

    module _ (uses : Uses) (last : Counts)
        (takes : Moves (counts_of tally'.ledger) last (clip_blocks s.clipboard) (clip_blocks clip))
        (single : MovesSingles (uses_of tally') uses (clip_blocks s.clipboard) (clip_blocks clip)) where
      pub taken_counted : CountsAfter s.pins h clip after mid.counts uses last
      taken_counted = record {
        layouts = taken_so.layouts;
        numbered = taken_so.numbered;
        drawn = taken_so.drawn;
        counted = others_moved (history_tracks h ++ pin_tracks s.pins) (clip_blocks s.clipboard) (clip_blocks clip)
            (uses_of tally') uses (counts_of tally'.ledger) last taken_so.counted takes single;
        files = λ id. subst (λ (c : Counts). IsSome (last id) ↔ IsSome (c id)) counts_are (
          λ k. (taken_so.files id).0 ((takes.ids id).0 k),
          λ k. (takes.ids id).1 ((taken_so.files id).1 k),
        );
      }
