-- Letting a pin go is a step; and what holds of a pin that is found.
use Rattle.std.proofs.Common.{rules, Contains}
use Rattle.editor_views.proofs.Common.{◌≡◌, refl, sym, ap, ◌∙◌, subst, ℕ, List, ◌∷◌, ◌++◌, Option, Some, None, Ok, Err}
use Rattle.editor_views.proofs.Common.{append_assoc, IsSome, ◌↔◌, arith, AllByRecursion, after, BlockRef}
use Rattle.editor_views.proofs.Common.{Sources, refused_if, outside, Ghosts, Fewer, sources_of, IsWhole, Counts}
use Rattle.editor_views.proofs.Common.{Track, meant, point_blocks, history_blocks, IsValidPoint, all_append}
use Rattle.editor_views.proofs.Common.{PinsRise, IsHeld, IsStudio, pin_at, pin_blocks, pin_tracks, clip_blocks}
use Rattle.editor_views.proofs.Common.{named_blocks, studio_of, studio_tracks, Core, Pin, Took, quietly, silent}
use Rattle.editor_views.proofs.Common.{AreCounts, IsTally, Tally, AreDrawn, AreNumbered, history_tracks, counts_swapped}
use Rattle.editor_views.proofs.Common.{LacksPin, MayFind, renamed, Renames, renamed_took, IsQuiet, quiet_passes}
use Rattle.editor_views.proofs.Common.{carried, room_of, refused_own, all_left, all_right, fits, may_read}
use Rattle.std.specs.{Prelude.is_none}
use Rattle.pcm_base.specs.{declared.answer.Reply.TheVariants.Done, declared.command.Call.TheVariants.Unpin}
use Rattle.sample_block.specs.Sources.{AllNamed, AllWhole}
use Rattle.editor_state.specs.{Edits.AreAmong}
use Rattle.layout_uses.specs.Tallies.{Goes, Has}
use Rattle.layout_uses.proofs.Moves.{drawn_without, numbered_without}
use Rattle.editor_views.specs.Pins.{TakesPin}
use Rattle.editor_state.proofs.{Blocks.BlockLists.among_itself, Blocks.NamedBlocks.tracks_around}
use Rattle.editor_views.proofs.PinNumbers.{rise_less, lacks_none, without_one, found_at, all_but, that_one, blocks_but}
use Rattle.editor_views.proofs.PinNumbers.{blocks_of_one}
use Rattle.pcm_base.specs.declared.refusal.Refusal.TheVariants as refusal
use Rattle.pcm_base.specs.Cells as cells
use Rattle.pcm_base.specs.Studio as model
use Rattle.layout_uses.specs.{Tallies.Uses, Tallies.uses_of}
use Rattle.row_ledger.specs.Lists.{counts_of}

module _ {D : Type 0} (disk : Ghosts D) (s : Core D) (is : IsStudio disk s) (number : ℕ) where
  abbrev src : Sources
  src = sources_of (disk.reads s.store)

  abbrev t : model.Studio
  t = studio_of disk s

  abbrev Valid : Pin → Type 0
  Valid p = IsValidPoint s.block_size s.next_block s.next_track p.point

  pub unpin_quiet : IsQuiet (Unpin number)
  unpin_quiet = search rules

  -- ---- a pin that is found, or not

  pub lacks_own : LacksPin number s.pins
      → refused_if (is_none (t.state.pins number)) (refusal.NoPin number) ≡ Some (refusal.NoPin number)
  lacks_own lacks = ap (λ (o : Option (List cells.Track)). refused_if (is_none o) (refusal.NoPin number))
      (lacks_none src number s.pins lacks)

  module _ (point : List Track) (found : MayFind s.pins number (Some point)) where
    abbrev it : Pin
    it = record { number = number; point = point }

    pub pin_meant : t.state.pins number ≡ Some (meant src point)
    pin_meant = ap (λ (z : List Pin). pin_at src z number) found.2
        ∙ found_at src 1 s.next_pin found.0 found.1 it (subst (PinsRise 1 s.next_pin) found.2 is.numbers)

    pub has_own : refused_if (is_none (t.state.pins number)) (refusal.NoPin number) ≡ None
    has_own = ap (λ (o : Option (List cells.Track)). refused_if (is_none o) (refusal.NoPin number)) pin_meant

    pub pin_may_read : AllNamed (point_blocks point)
    pin_may_read =
        may_read disk s is point (that_one Valid found.0 found.1 it (subst (AllByRecursion Valid) found.2 is.pins))

    -- what holds of all that the studio names holds of what the pin names
    of_pin : (P : BlockRef → Type 0) → AllByRecursion P (named_blocks s) → AllByRecursion P (point_blocks point)
    of_pin P all = search (rules, all_right, all_left, blocks_of_one)

    pub pin_whole : IsHeld disk s → AllWhole (disk.reads s.store) (point_blocks point)
    pin_whole held = of_pin (IsWhole (disk.reads s.store)) held.whole

    pub pin_named : AreAmong (named_blocks s) (point_blocks point)
    pin_named = of_pin (Contains (named_blocks s)) (among_itself (named_blocks s))

  -- ---- one less

  module _ (pins : List Pin) (pin : Pin) (takes : TakesPin s.pins pins number pin) where
    open takes use {front, back}

    rise : PinsRise 1 s.next_pin (front ++ pin ∷ back)
    rise = subst (PinsRise 1 s.next_pin) takes.before is.numbers

    -- the tracks that stay: those in front of it, and those after
    abbrev front_tracks : List Track
    front_tracks = history_tracks s.history ++ pin_tracks front

    abbrev stay : List Track
    stay = front_tracks ++ pin_tracks back

    tracks_before : studio_tracks s ≡ front_tracks ++ (pin.point ++ pin_tracks back)
    tracks_before = search (rules, tracks_around, append_assoc)

    tracks_after : history_tracks s.history ++ pin_tracks pins ≡ stay
    tracks_after = search (rules, tracks_around, append_assoc)

    numbered_before : AreNumbered (front_tracks ++ (pin.point ++ pin_tracks back))
    numbered_before = subst AreNumbered tracks_before is.numbered

    -- its tracks in front
    counted_front : AreCounts (pin.point ++ stay) (clip_blocks s.clipboard) s.uses s.counts
    counted_front = counts_swapped front_tracks pin.point (pin_tracks back) (clip_blocks s.clipboard) s.uses s.counts
        numbered_before
        (subst (λ (ts : List Track). AreCounts ts (clip_blocks s.clipboard) s.uses s.counts) tracks_before is.counted)

    pin_counted : (tally : Tally) → uses_of tally ≡ s.uses → counts_of tally.ledger ≡ s.counts
        → IsTally (pin.point ++ stay) (clip_blocks s.clipboard) tally
    pin_counted tally uses_are counts_are = subst (λ (w : Uses × Counts).
        AreCounts (pin.point ++ stay) (clip_blocks s.clipboard) w.0 w.1)
        (λ i. (sym uses_are i, sym counts_are i)) counted_front

    -- its layouts are used
    pub pin_uses : (tally : Tally) → uses_of tally ≡ s.uses → counts_of tally.ledger ≡ s.counts
        → Has pin.point tally
    pin_uses tally uses_are counts_are = record {
      others = stay;
      blocks = clip_blocks s.clipboard;
      counted = pin_counted tally uses_are counts_are;
    }

    less_all : (P : BlockRef → Type 0) → AllByRecursion P (pin_blocks s.pins) → AllByRecursion P (pin_blocks pins)
    less_all P all = search (rules, blocks_but)

    module _ (tally tally' : Tally) (uses_are : uses_of tally ≡ s.uses)
        (counts_are : counts_of tally.ledger ≡ s.counts) (goes : Goes pin.point tally tally') where
      abbrev uses : Uses
      uses = uses_of tally'

      abbrev counts : Counts
      counts = counts_of tally'.ledger

      abbrev new : Core D
      new = renamed s s.clipboard pins s.next_pin uses counts

      unpin_renames : Renames s s.clipboard pins s.next_pin uses counts
      unpin_renames = record {
        covers = λ P all.
            let rest = all_right P (history_blocks s.history) (pin_blocks s.pins ++ clip_blocks s.clipboard) all in
            all_append P (history_blocks s.history) (pin_blocks pins ++ clip_blocks s.clipboard)
            (all_left P (history_blocks s.history) (pin_blocks s.pins ++ clip_blocks s.clipboard) all)
            (all_append P (pin_blocks pins) (clip_blocks s.clipboard) (less_all P (all_left P (pin_blocks s.pins)
            (clip_blocks s.clipboard) rest)) (all_right P (pin_blocks s.pins) (clip_blocks s.clipboard) rest));
        numbers = subst (PinsRise 1 s.next_pin) (sym takes.after) (rise_less 1 s.next_pin front back pin rise);
        pin_least = is.counters.pin_least;
        pin_most = is.counters.pin_most;
        valid = subst (AllByRecursion Valid) (sym takes.after)
            (all_but Valid front back pin (subst (AllByRecursion Valid) takes.before is.pins));
        few_clips = is.few_clips;
        clip_fits = is.clipboard;
        numbered = subst AreNumbered (sym tracks_after)
            (numbered_without front_tracks pin.point (pin_tracks back) numbered_before);
        drawn = subst (AreDrawn s.next_layout) (sym tracks_after)
            (drawn_without s.next_layout front_tracks pin.point (pin_tracks back)
            (subst (AreDrawn s.next_layout) tracks_before is.drawn));
        counted = subst (λ (ts : List Track). AreCounts ts (clip_blocks s.clipboard) uses counts) (sym tracks_after)
            (goes.counted stay (clip_blocks s.clipboard) (pin_counted tally uses_are counts_are));
        ids = λ id. subst (λ (c : Counts). IsSome (counts id) ↔ IsSome (c id)) counts_are (goes.ids id);
      }

      held_there : MayFind s.pins number (Some pin.point)
      held_there = search (rules, takes.is)

      unpin_state : studio_of disk new ≡ record t { state = after (outside t silent) t.state (Unpin number) }
      unpin_state = search (rules, without_one, rise, takes.is)

      pub unpinned : Fewer disk s.store → Took disk s (quietly (Unpin number) (Ok Done)) new
      unpinned fewer =
          let pin_room = fits s.next_pin 0 (omega (arith, is.counters.pin_most)) in
          let passed = quiet_passes t (Unpin number) unpin_quiet (room_of disk s (Unpin number) is) refl refl
          (has_own pin.point held_there) pin_room in
          renamed_took disk s is s.clipboard pins s.next_pin uses counts unpin_renames
          (Unpin number) unpin_quiet tt tt Done fewer (λ some. refl)
          (λ _. carried t (Unpin number) unpin_quiet (room_of disk s (Unpin number) is) refl Done
          (studio_of disk new) passed refl unpin_state)

  pub unpin_lacks : Fewer disk s.store → LacksPin number s.pins
      → Took disk s (quietly (Unpin number) (Err (refusal.NoPin number))) s
  unpin_lacks fewer lacks = search (rules, refused_own, unpin_quiet, lacks_own)
