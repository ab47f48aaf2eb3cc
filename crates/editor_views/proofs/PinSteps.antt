-- A pin is a step: the current project is named once more.
use Rattle.std.proofs.Common.{rules, ◌^◌}
use Rattle.editor_views.proofs.Common.{◌≡◌, inl, inr, refl, sym, ap, ◌∙◌, subst, ℕ, ◌+◌, ◌<◌, List, [], ◌∷◌, ◌++◌, Some}
use Rattle.editor_views.proofs.Common.{None, Ok, Err, arith, append_assoc, length, IsSome, ◌↔◌, append-nil}
use Rattle.editor_views.proofs.Common.{AllByRecursion, BlockRef, stop_of, after, Ghosts, Fewer, sources_of}
use Rattle.editor_views.proofs.Common.{Counts, Track, history_blocks, current_tracks}
use Rattle.editor_views.proofs.Common.{IsValidPoint, all_append, IsStudio, pin_blocks, pin_tracks, clip_blocks}
use Rattle.editor_views.proofs.Common.{named_blocks, studio_of, studio_tracks, Core, Pin, Took, quietly, silent, Tally}
use Rattle.editor_views.proofs.Common.{AreDrawn, AreNumbered, history_tracks, AreCounts, IsTally, counts_swapped}
use Rattle.editor_views.proofs.Common.{current_valid, current_meant, renamed, Renames, renamed_took, IsQuiet}
use Rattle.editor_views.proofs.Common.{quiet_passes, carried, room_of, refused_stopped, refused_wanting, all_left}
use Rattle.editor_views.proofs.Common.{all_right, fits, stopped_not}
use Rattle.pcm_base.specs.{declared.answer.Reply.TheVariants.Pinned, declared.command.Call.TheVariants.Pin as Keep}
use Rattle.pcm_base.specs.{Pieces.Sources, Run.outside}
use Rattle.layout_uses.specs.{Tallies.Comes}
use Rattle.layout_uses.proofs.Moves.{drawn_swapped, numbered_swapped}
use Rattle.layout_uses.proofs.{Numbers.shared_agree, Putting.same_numbers}
use Rattle.editor_commits.proofs.CurrentProject.{old_names}
use Rattle.editor_state.proofs.Blocks.NamedBlocks.{current_among, tracks_few, tracks_more}
use Rattle.editor_state.proofs.Calls.QuietCalls.{pins_spent, refused_by}
use Rattle.editor_state.proofs.{Refusals.CommitTests.spends}
use Rattle.editor_views.proofs.PinNumbers.{rise_more, with_one, blocks_more}
use Rattle.pcm_base.specs.declared.refusal.Refusal.TheVariants as refusal
use Rattle.pcm_base.specs.Studio as model
use Rattle.layout_uses.specs.{Tallies.Uses, Tallies.uses_of}
use Rattle.row_ledger.specs.Lists.{counts_of}

pub pin_quiet : IsQuiet Keep
pin_quiet = search rules

module _ {D : Type 0} (disk : Ghosts D) (s : Core D) (is : IsStudio disk s) (fewer : Fewer disk s.store) where
  abbrev src : Sources
  src = sources_of (disk.reads s.store)

  abbrev t : model.Studio
  t = studio_of disk s

  abbrev current : List Track
  current = current_tracks s.history

  abbrev one : Pin
  one = record { number = s.next_pin; point = current }

  abbrev pins : List Pin
  pins = s.pins ++ one ∷ []

  pins_all : (P : BlockRef → Type 0) → AllByRecursion P (named_blocks s) → AllByRecursion P (pin_blocks pins)
  pins_all P all = search (rules, all_right, blocks_more, all_append, all_left, old_names)

  -- the tracks of the points, the pins and the new one
  more_tracks : history_tracks s.history ++ pin_tracks pins ≡ studio_tracks s ++ current
  more_tracks = search (rules, tracks_more, append_assoc)

  -- a stretch in front, and after
  swapped : studio_tracks s ++ (current ++ []) ≡ studio_tracks s ++ current
  swapped = ap (λ (ts : List Track). studio_tracks s ++ ts) (append-nil current)

  front_numbered : AreNumbered (current ++ (studio_tracks s ++ []))
  front_numbered = search (rules, append-nil, shared_agree, current_among)

  front_drawn : AreDrawn s.next_layout (current ++ (studio_tracks s ++ []))
  front_drawn = subst (λ (ts : List Track). AreDrawn s.next_layout (current ++ ts)) (sym (append-nil (studio_tracks s)))
      ((same_numbers current s.next_layout).drawn (studio_tracks s) is.drawn (current_among s))

  module _ (tally tally' : Tally) (uses_are : uses_of tally ≡ s.uses) (counts_are : counts_of tally.ledger
      ≡ s.counts)
      (came : Comes current tally tally') (room : s.next_pin < 2 ^ 62) (going : s.stopped ≡ None) where
    abbrev uses : Uses
    uses = uses_of tally'

    abbrev counts : Counts
    counts = counts_of tally'.ledger

    abbrev new : Core D
    new = renamed s s.clipboard pins (s.next_pin + 1) uses counts

    was : IsTally (studio_tracks s) (clip_blocks s.clipboard) tally
    was = subst (λ (w : Uses × Counts). AreCounts (studio_tracks s) (clip_blocks s.clipboard) w.0 w.1)
        (λ i. (sym uses_are i, sym counts_are i)) is.counted

    few : length current + length (studio_tracks s) < 2 ^ 128
    few = omega (arith, tracks_few disk s is, (current_valid disk s is).few)

    counted_front : IsTally (current ++ (studio_tracks s ++ [])) (clip_blocks s.clipboard) tally'
    counted_front = search (rules, append-nil, few, was, came.counted)

    pin_renames : Renames s s.clipboard pins (s.next_pin + 1) uses counts
    pin_renames = record {
      covers = λ P all.
          let rest = all_right P (history_blocks s.history) (pin_blocks s.pins ++ clip_blocks s.clipboard) all in
          all_append P (history_blocks s.history) (pin_blocks pins ++ clip_blocks s.clipboard)
          (all_left P (history_blocks s.history) (pin_blocks s.pins ++ clip_blocks s.clipboard) all)
          (all_append P (pin_blocks pins) (clip_blocks s.clipboard) (pins_all P all)
          (all_right P (pin_blocks s.pins) (clip_blocks s.clipboard) rest));
      numbers = rise_more 1 s.next_pin s.pins current is.numbers is.counters.pin_least;
      pin_least = omega arith;
      pin_most = omega (arith, room);
      valid = all_append (λ (p : Pin). IsValidPoint s.block_size s.next_block s.next_track p.point) s.pins
          (one ∷ []) is.pins (current_valid disk s is, tt);
      few_clips = is.few_clips;
      clip_fits = is.clipboard;
      numbered = subst AreNumbered (swapped ∙ sym more_tracks)
          (numbered_swapped current (studio_tracks s) [] front_numbered);
      drawn = subst (AreDrawn s.next_layout) (swapped ∙ sym more_tracks)
          (drawn_swapped s.next_layout current (studio_tracks s) [] front_drawn);
      counted = subst (λ (ts : List Track). AreCounts ts (clip_blocks s.clipboard) uses counts) (swapped
          ∙ sym more_tracks)
          (counts_swapped current (studio_tracks s) []
          (clip_blocks s.clipboard) uses counts front_numbered counted_front);
      ids = λ id. subst (λ (c : Counts). IsSome (counts id) ↔ IsSome (c id)) counts_are (came.ids id);
    }

    pin_state : studio_of disk new ≡ record t { state = after (outside t silent) t.state Keep }
    pin_state = search (rules, with_one, current_meant)

    pub pinned : Took disk s (quietly Keep (Ok (Pinned s.next_pin))) new
    pinned =
        let passed = quiet_passes t Keep pin_quiet (room_of disk s Keep is) refl (ap stop_of going) refl
        (fits s.next_pin 1 (omega (arith, room))) in
        renamed_took disk s is s.clipboard pins (s.next_pin + 1) uses counts pin_renames Keep pin_quiet tt tt
        (Pinned s.next_pin) fewer (λ some. absurd (stopped_not s.stopped some going))
        (λ _. carried t Keep pin_quiet (room_of disk s Keep is) refl (Pinned s.next_pin)
        (studio_of disk new) passed refl pin_state)

  -- all numbers are given
  pub pin_spent : s.stopped ≡ None → s.next_pin ≡ 2 ^ 62
      → Took disk s (quietly Keep (Err (refusal.SpaceSpent (2 ^ 62) 1))) s
  pin_spent going most =
      let pin = spends s.next_pin 1 (omega (arith, most)) ∙ (λ i. Some (refusal.SpaceSpent (most i) 1)) in
      refused_by disk s Keep pin_quiet tt is fewer (refusal.SpaceSpent (2 ^ 62) 1)
      (pins_spent t Keep pin_quiet (room_of disk s Keep is) refl (refusal.SpaceSpent (2 ^ 62) 1) (ap stop_of going) refl
      pin)
      (inl (inr (inr (inl pin))))

  pub pin_stopped : (faults : ℕ) → s.stopped ≡ Some faults → Took disk s (quietly Keep (Err (refusal.Stopped faults))) s
  pin_stopped faults stopped = refused_stopped disk s Keep pin_quiet tt is fewer faults refl stopped

  -- there was no memory, and the studio is as it was
  pub pin_wanting : (same : Core D) → same ≡ s → Took disk s (quietly Keep (Err refusal.NoMemory)) same
  pin_wanting same e = subst (λ (z : Core D). Took disk s (quietly Keep (Err refusal.NoMemory)) z) (sym e)
      (refused_wanting disk s Keep pin_quiet tt is fewer)
