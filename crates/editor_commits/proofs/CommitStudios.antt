-- The studio that a commit leads to is one, whatever the disk tells; and so is one that a failed change has stopped.
use Rattle.editor_commits.proofs.Common.{rules, ◌≡◌, ◌↔◌, sym, ap, ◌∙◌, subst, ℕ, ◌+◌, ◌^◌, ◌≤◌, List, ◌++◌, length}
use Rattle.editor_commits.proofs.Common.{Option, IsSome, arith, AllByRecursion, BlockRef, History, Ghosts, Counts, Item}
use Rattle.editor_commits.proofs.Common.{Track, history_blocks, IsValidPoint, IsValidTagged, all_append, tagged_more}
use Rattle.editor_commits.proofs.Common.{IsGiven, IsStudio, MayPaste, clip_blocks, named_blocks, pin_blocks, pin_tracks}
use Rattle.editor_commits.proofs.Common.{stopped_by, Core, AreDrawn, AreNumbered, history_tracks, AreCounts, all_left}
use Rattle.editor_commits.proofs.Common.{all_right, all_so, Covers}
use Rattle.project_journal.specs.Header.{IsFormat}
use Rattle.editor_state.specs.{declared.pin.Pin.Pin}
use Rattle.editor_state.proofs.{SameStudios.studio_over}
use Rattle.layout_uses.specs.Tallies.{Uses}

-- The uses of layouts and the counts of blocks for this history and clipboard beside these pins, and the number of the
-- next layout, where the ids are those of these counts.
pub record CountsAfter (pins : List Pin) (h : History (List Track)) (clip : Option (List (List Item))) (next_layout : ℕ)
    (ids : Counts) (uses : Uses) (counts : Counts) : Type 0 where
  pub layouts : next_layout ≤ 2 ^ 62
  pub numbered : AreNumbered (history_tracks h ++ pin_tracks pins)
  pub drawn : AreDrawn next_layout (history_tracks h ++ pin_tracks pins)
  pub counted : AreCounts (history_tracks h ++ pin_tracks pins) (clip_blocks clip) uses counts
  pub files : (id : ℕ) → IsSome (counts id) ↔ IsSome (ids id)

-- A history, a clipboard and a next track to which this many commits of the studio may lead, where these blocks were made
-- for them.
pub record LeadsOn {D : Type 0} (s : Core D) (made : List BlockRef) (h : History (List Track))
    (clip : Option (List (List Item)))
    (track_then count : ℕ) : Type 1 where
  pub given : AllByRecursion (λ (b : BlockRef). IsGiven s.next_block b.id) made
  pub later : s.next_track ≤ track_then
  pub most : track_then ≤ 2 ^ 62
  pub number : s.commit_number + count ≤ 2 ^ 62
  pub covers : Covers (named_blocks s ++ made) h
  pub clip_covers : (P : BlockRef → Type 0) → AllByRecursion P (named_blocks s ++ made)
      → AllByRecursion P (clip_blocks clip)
  pub clip_few : length (clip_blocks clip) ≤ 2 ^ 71
  pub clip_fits : MayPaste s.block_size clip
  pub points : AllByRecursion (IsValidTagged s.block_size s.next_block track_then (s.commit_number + count)) h.points
  pub depth : h.depth ≡ s.history.depth
  pub few : length h.points ≤ h.depth

module _ {D : Type 0} (disk : Ghosts D) (s : Core D) (is : IsStudio disk s) where
  -- one that is stopped
  pub stopped_studio : (store : D) → IsStudio disk (stopped_by disk s store)
  stopped_studio store = studio_over disk s is store (stopped_by disk s store).stopped

  module _ (made : List BlockRef) (h : History (List Track)) (clip : Option (List (List Item))) (track_then : ℕ)
      {count : ℕ} (on : LeadsOn s made h clip track_then count) where
    -- the pins and the clipboard after it
    abbrev rest_then : List BlockRef
    rest_then = pin_blocks s.pins ++ clip_blocks clip

    named_too : (P : BlockRef → Type 0) → AllByRecursion P (named_blocks s ++ made)
        → AllByRecursion P (history_blocks h ++ rest_then)
    named_too P all = search (rules, all_right, all_left, all_append, on.covers, on.clip_covers)

    module _ (store : D) (end : ℕ) (end_most : end ≤ 2 ^ 62) (end_later : s.journal_end ≤ end) (h' : History
        (List Track))
        (uses : Uses) (counts : Counts) (next_track next_layout : ℕ) (moved : h' ≡ h) (tracked : next_track ≡ track_then)
        (after : CountsAfter s.pins h clip next_layout s.counts uses counts) where
      abbrev pub led : Core D
      led = record s {
        store = store;
        journal_end = end;
        commit_number = s.commit_number + count;
        history = h';
        clipboard = clip;
        uses = uses;
        counts = counts;
        next_track = next_track;
        next_layout = next_layout;
      }

      pub named_led : (P : BlockRef → Type 0) → AllByRecursion P (named_blocks s ++ made)
          → AllByRecursion P (named_blocks led)
      named_led P all = search (rules, named_too)

      led_points : AllByRecursion (IsValidTagged s.block_size s.next_block next_track (s.commit_number + count)) h'.points
      led_points = search rules

      -- tracks that pins have were given before
      pin_later : (p : Pin) → IsValidPoint s.block_size s.next_block s.next_track p.point
          → IsValidPoint s.block_size s.next_block next_track p.point
      pin_later p valid =
          (tagged_more s.block_size s.next_block s.next_track 0 s.next_block next_track 0 (p.point, 0) (omega arith)
          (omega (arith, tracked, on.later)) (omega arith) (valid, omega arith)).0

      pub led_studio : IsStudio disk led
      led_studio = record {
        format = subst (λ (n : ℕ). IsFormat s.rate s.block_size n)
            (sym (ap (λ (z : History (List Track)). z.depth) moved ∙ on.depth)) is.format;
        counters = record {
          block_least = is.counters.block_least;
          block_most = is.counters.block_most;
          track_least = omega (arith, is.counters.track_least, tracked, on.later);
          track_most = omega (arith, tracked, on.most);
          pin_least = is.counters.pin_least;
          pin_most = is.counters.pin_most;
          commit_most = omega (arith, on.number);
          end_least = omega (arith, is.counters.end_least, end_later);
          end_most = end_most;
        };
        journal = is.journal;
        few_points = subst (λ (z : History (List Track)). length z.points ≤ z.depth) (sym moved) on.few;
        few_clips = on.clip_few;
        points = led_points;
        pins = all_so (λ (p : Pin). IsValidPoint s.block_size s.next_block s.next_track p.point)
            (λ (p : Pin). IsValidPoint s.block_size s.next_block next_track p.point) pin_later s.pins is.pins;
        numbers = is.numbers;
        clipboard = on.clip_fits;
        ids = named_led (λ (b : BlockRef). IsGiven s.next_block b.id)
            (all_append (λ (b : BlockRef). IsGiven s.next_block b.id) (named_blocks s) made is.ids on.given);
        layouts = after.layouts;
        numbered = subst (λ (z : History (List Track)). AreNumbered (history_tracks z ++ pin_tracks s.pins)) (sym moved)
            after.numbered;
        drawn = subst (λ (z : History (List Track)). AreDrawn next_layout (history_tracks z ++ pin_tracks s.pins))
            (sym moved) after.drawn;
        counted = subst (λ (z : History (List Track)).
            AreCounts (history_tracks z ++ pin_tracks s.pins) (clip_blocks clip) uses counts) (sym moved) after.counted;
        given = λ id some. is.given id ((after.files id).0 some);
        pages = is.pages;
      }
