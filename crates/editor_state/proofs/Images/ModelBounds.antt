-- What a studio stands for is within the bounds of the model.
use Rattle.editor_state.proofs.Common.{rules, ◌≡◌, ◌∙◌, ⊎_elim, refl, sym, ap, subst, ℕ, ◌+◌, ◌^◌, ◌≤◌, ◌<◌, ℤ}
use Rattle.editor_state.proofs.Common.{if◌then◌else◌, Option, Some, None, List, [], ◌∷◌, ◌++◌, append_assoc, length}
use Rattle.editor_state.proofs.Common.{map, arith, none-some, same_Some, eqb_tells, All-from_recursion, unwrap_or}
use Rattle.editor_state.proofs.Common.{AllByRecursion, Project, Sources, Ghosts, AreClips, clip_end, Clip, Item}
use Rattle.editor_state.proofs.Common.{strip_cells, Track, meant, IsValidPoint, AllValidTracks, IsStudio, MayPaste}
use Rattle.editor_state.proofs.Common.{PinsRise, clip_cells, pin_at, Core, Pin}
use Rattle.std.proofs.Common.{replicate}
use Rattle.std.proofs.{lemmas.List.length-map}
use Rattle.pcm_base.specs.declared.sound.Cell.TheVariants.{Gap, Sample}
use Rattle.pcm_base.specs.Cells.{trimmed}
use Rattle.pcm_base.specs.{declared.sound.Cell.Cell, History.IsHistory}
use Rattle.block_sequence.proofs.Whole.{length-blocks}
use Rattle.clip_track.specs.Clips.{cells_from}
use Rattle.clip_track.specs.{Items.strip_len}
use Rattle.clip_track.proofs.{Layouts.length-layout, Strips.length-strip_cells}
use Rattle.model_laws.specs.Bounds.{AreRising, IsClipboard, IsPin, IsPoint, IsProject, IsShort, IsTrack, ids_of}
use Rattle.model_laws.proofs.Trimming.{trimmed-sample, trimmed-samples}
use Rattle.project_state.specs.{Meaning.meant_track, Tracks.AreAbove}
use Rattle.record_body.specs.{SavedValid.IsValidTagged}
use Rattle.editor_state.specs.{Bounded.IsBounded}

-- ---- the cells of a layout end with a sample

clip_ends : (gap : ℕ) (ss : List ℤ) (rest : List Cell) → 0 < length ss → trimmed rest ≡ rest
    → trimmed (replicate gap Gap ++ map Sample ss ++ rest) ≡ replicate gap Gap ++ map Sample ss ++ rest
clip_ends gap [] rest some ended = absurd (omega (arith, some))
clip_ends gap (s ∷ ss) rest some ended = search (rules, append_assoc, trimmed-sample, trimmed-samples)

module _ (src : Sources) where
  layout_ends : (at from : ℕ) (cs : List Clip) → AreClips from cs → trimmed (cells_from src at cs) ≡ cells_from src at cs
  layout_ends at from [] clips = refl
  layout_ends at from (c ∷ cs) clips =
      search (rules, clip_ends, length-blocks, layout_ends (clip_end c) (clip_end c + 1) cs clips.3)

  -- ---- projects

  rising : (m block least next : ℕ) (ts : List Track) → AreAbove least ts → AllValidTracks m block next ts
      → AreRising least next (ids_of (meant src ts))
  rising m block least next [] above valid = tt
  rising m block least next (t ∷ ts) above valid =
      (above.0, valid.0.given, rising m block (t.id + 1) next ts above.1 valid.1)

  tracks : (m block next : ℕ) (ts : List Track) → AllValidTracks m block next ts
      → AllByRecursion IsTrack (meant src ts)
  tracks m block next [] valid = tt
  tracks m block next (t ∷ ts) valid =
      search (rules, length-layout, layout_ends, tracks m block next ts valid.1)

  project : (m block next : ℕ) (ts : List Track) → IsValidPoint m block next ts → IsProject next (meant src ts)
  project m block next ts point = record {
    few = omega (arith, point.few, length-map ts (meant_track src));
    rising = rising m block 1 next ts point.rising point.valid;
    tracks = All-from_recursion IsTrack (meant src ts) (tracks m block next ts point.valid);
  }

  points : (m block next commit : ℕ) (ps : List (List Track × ℕ))
      → AllByRecursion (IsValidTagged m block next commit) ps
      → AllByRecursion (IsPoint next commit) (map (λ p. (meant src p.0, p.1)) ps)
  points m block next commit [] all = tt
  points m block next commit (p ∷ ps) all = search (rules, project, points m block next commit ps all.1)

  -- ---- pins and the clipboard

  pins : (m block track pin least : ℕ) (ps : List Pin) → PinsRise least pin ps
      → AllByRecursion (λ (p : Pin). IsValidPoint m block track p.point) ps
      → (n : ℕ) (q : Project) → pin_at src ps n ≡ Some q → IsPin track pin n q
  pins m block track pin least [] rise all n q found = absurd (none-some q found)
  pins m block track pin least (p ∷ ps) rise all n q found = ⊎_elim
      (λ same.
      let it : meant src p.point ≡ q = same_Some (meant src p.point) q
      (sym (ap (λ b. if b then Some (meant src p.point) else pin_at src ps n) same.0) ∙ found) in
      record {
        below = omega (arith, same.1, rise.1);
        project = subst (IsProject track) it (project m block track p.point all.0);
      })
      (λ other.
      pins m block track pin (p.number + 1) ps rise.2 all.1 n q
      (sym (ap (λ b. if b then Some (meant src p.point) else pin_at src ps n) other.0) ∙ found))
      (eqb_tells n p.number)

  strips : (xs : List (List Item)) → AllByRecursion (λ (strip : List Item). strip_len strip ≤ 2 ^ 32) xs
      → AllByRecursion IsShort (map (strip_cells src) xs)
  strips [] all = tt
  strips (x ∷ xs) all = (omega (arith, all.0, length-strip_cells src x), strips xs all.1)

  clipboard : (m : ℕ) (clip : Option (List (List Item))) → MayPaste m clip
      → IsClipboard (unwrap_or (clip_cells src clip) [])
  clipboard m None may = record { few = omega arith; lists = All-from_recursion IsShort [] tt }
  clipboard m (Some xs) may = record {
    few = omega (arith, may.few, length-map xs (strip_cells src));
    lists = All-from_recursion IsShort (map (strip_cells src) xs) (strips xs may.short);
  }

-- ---- the studio

pub bounded : {D : Type 0} (disk : Ghosts D) (s : Core D) → IsStudio disk s → IsHistory s.history → IsBounded disk s
bounded disk s is history src =
    let all : List (Project × ℕ) = map (λ (p : List Track × ℕ). (meant src p.0, p.1)) s.history.points in
    let many : length all ≡ length s.history.points = length-map s.history.points (λ p. (meant src p.0, p.1)) in
    record {
      state = record {
        history = record {
          standing = record {
            current = omega (arith, history.current, many);
            few = omega (arith, history.few, many);
          };
          depth = (is.format.depth_least, is.format.depth_most);
          points = All-from_recursion (IsPoint s.next_track s.commit_number) all
              (points src s.block_size s.next_block s.next_track s.commit_number s.history.points is.points);
        };
        clipboard = clipboard src s.block_size s.clipboard is.clipboard;
        pins = pins src s.block_size s.next_block s.next_track s.next_pin 1 s.pins is.numbers is.pins;
        next_track = (is.counters.track_least, is.counters.track_most);
        next_pin = (is.counters.pin_least, is.counters.pin_most);
        commit = (omega arith, is.counters.commit_most);
      };
      rate = is.format.rate_least;
      block_size = record {
        even = is.format.even;
        least = is.format.block_least;
        most = is.format.block_most;
      };
      next_block = (is.counters.block_least, is.counters.block_most);
      file = is.journal.among;
      version = (is.journal.version_least, is.journal.version_most);
      generation = (omega arith, is.journal.generation_most);
      journal_end = (is.counters.end_least, is.counters.end_most);
      next_layout = (omega arith, is.layouts);
    }
