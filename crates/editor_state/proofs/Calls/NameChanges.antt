-- The studio names other blocks, and does not use the disk.
use Rattle.editor_state.proofs.Common.{◌≡◌, ◌↔◌, inl, refl, ℕ, ◌^◌, ◌≤◌, IsSome, List, ◌++◌, length, Option, Ok, arith}
use Rattle.editor_state.proofs.Common.{AllByRecursion, Reply, BlockRef, Call, CarriesOut, Ghosts, Fewer, changed_none}
use Rattle.editor_state.proofs.Common.{IsWhole, Counts, Item, IsValidPoint, IsGiven, PinsRise, MayPaste, IsHeld}
use Rattle.editor_state.proofs.Common.{IsStudio, studio_of, named_blocks, clip_blocks, pin_tracks, Core, Pin, MayRemove}
use Rattle.editor_state.proofs.Common.{Took, quietly, silent, history_tracks, AreCounts}
use Rattle.layout_uses.specs.{Layouts.AreDrawn, Layouts.AreNumbered, Tallies.Uses}
use Rattle.editor_state.proofs.SameStudios.{durable_so}
use Rattle.editor_state.proofs.Calls.FileRemovals.{PacksNone, RemovesNone, frees_none, ids_still, no_record, none_given}
use Rattle.editor_state.proofs.{Images.ImageProjects.keeps_now, Calls.OtherFiles.others_none}
use Rattle.editor_state.proofs.{Refusals.PurgeNumbers.quiet_purges, Calls.QuietCalls.IsQuiet}

-- another clipboard, other pins, uses and counts
abbrev pub renamed : {D : Type 0} → Core D → Option (List (List Item)) → List Pin → ℕ → Uses → Counts → Core D
renamed s clip pins next_pin uses counts =
    record s { clipboard = clip; pins = pins; next_pin = next_pin; uses = uses; counts = counts }

-- these name no blocks but those that the studio names
pub record Renames {D : Type 0} (s : Core D) (clip : Option (List (List Item))) (pins : List Pin) (next_pin : ℕ)
    (uses : Uses) (counts : Counts) : Type 1 where
  pub covers : (P : BlockRef → Type 0) → AllByRecursion P (named_blocks s)
      → AllByRecursion P (named_blocks (renamed s clip pins next_pin uses counts))
  pub numbers : PinsRise 1 next_pin pins
  pub pin_least : 1 ≤ next_pin
  pub pin_most : next_pin ≤ 2 ^ 62
  pub valid : AllByRecursion (λ (p : Pin). IsValidPoint s.block_size s.next_block s.next_track p.point) pins
  pub few_clips : length (clip_blocks clip) ≤ 2 ^ 71
  pub clip_fits : MayPaste s.block_size clip
  pub numbered : AreNumbered (history_tracks s.history ++ pin_tracks pins)
  pub drawn : AreDrawn s.next_layout (history_tracks s.history ++ pin_tracks pins)
  pub counted : AreCounts (history_tracks s.history ++ pin_tracks pins) (clip_blocks clip) uses counts
  pub ids : (id : ℕ) → IsSome (counts id) ↔ IsSome (s.counts id)

module _ {D : Type 0} (disk : Ghosts D) (s : Core D) (is : IsStudio disk s) (clip : Option (List (List Item)))
    (pins : List Pin) (next_pin : ℕ) (uses : Uses) (counts : Counts) (names : Renames s clip pins next_pin uses counts) where
  abbrev new : Core D
  new = renamed s clip pins next_pin uses counts

  pub renamed_studio : IsStudio disk new
  renamed_studio = record {
    format = is.format;
    counters = record {
      block_least = is.counters.block_least;
      block_most = is.counters.block_most;
      track_least = is.counters.track_least;
      track_most = is.counters.track_most;
      pin_least = names.pin_least;
      pin_most = names.pin_most;
      commit_most = is.counters.commit_most;
      end_least = is.counters.end_least;
      end_most = is.counters.end_most;
    };
    journal = is.journal;
    few_points = is.few_points;
    few_clips = names.few_clips;
    points = is.points;
    pins = names.valid;
    numbers = names.numbers;
    clipboard = names.clip_fits;
    ids = names.covers (λ (b : BlockRef). IsGiven s.next_block b.id) is.ids;
    layouts = is.layouts;
    numbered = names.numbered;
    drawn = names.drawn;
    counted = names.counted;
    given = λ id some. is.given id ((names.ids id).0 some);
    pages = is.pages;
  }

  pub renamed_held : IsHeld disk s → IsHeld disk new
  renamed_held held = record {
    tells = held.tells;
    whole = names.covers (IsWhole (disk.reads s.store)) held.whole;
    durable = λ going.
        let d = held.durable going in
        durable_so disk s s.store s.cache s.stopped s.next_block clip pins next_pin uses counts d d.there (omega arith)
        (λ c now. names.covers (λ b. c b.id ≡ disk.reads s.store b.id) (d.blocks c now)) (λ id least most.
        let was = d.files id least most in
        (λ have. was.0 ((names.ids id).0 have), λ there. (names.ids id).1 (was.1 there)));
  }

  -- `rests` where the studio had stopped
  pub renamed_took : (c : Call) → IsQuiet c → RemovesNone c → PacksNone c → (r : Reply) → Fewer disk s.store
      → (IsSome s.stopped → new ≡ record s { pins = pins; uses = uses; counts = counts })
      → (IsHeld disk s → CarriesOut (studio_of disk s) c silent r (studio_of disk new))
      → Took disk s (quietly c (Ok r)) new
  renamed_took c quiet none plain r fewer rests step = record {
    studio = renamed_studio;
    held = renamed_held;
    step = step;
    any_moment = λ going held f now. inl (keeps_now disk s is.journal.among going held f now);
    refused = λ going held still. tt;
    now = λ going held f now. keeps_now disk s is.journal.among going held f now;
    number = omega (arith, quiet.no_commit);
    rests = rests;
    len = 0;
    needs = λ held. (0, quiet.needs (studio_of disk s));
    records = no_record s (Ok r) new;
    given = none_given (Ok r) s new refl;
    needed = tt;
    changed = changed_none s.store (others_none s.next_block s.next_block (MayRemove c s.counts)) fewer;
    frees = frees_none disk s c (Ok r) new none plain;
    ids = ids_still s new names.ids refl;
    purges = quiet_purges s.history c (Ok r) quiet.no_commit;
    untouched = tt;
    stops = inl (refl, refl);
    left = tt;
  }
