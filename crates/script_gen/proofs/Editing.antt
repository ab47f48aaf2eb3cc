-- What the state of an editor is after each line of a script.
use Rattle.std.proofs.Common.{◌≡◌, ◌⊎◌, inl, inr, ℕ, ℤ, ◌+◌, ◌-◌, ◌≤◌, ◌<◌, Bool, true, false, List, [], ◌∷◌, ◌++◌, map}
use Rattle.std.proofs.Common.{Option, Some, refl, ap, sym, subst, ◌∙◌, arith}
use Rattle.std.proofs.lemmas.List.Elements.{All-nil}
use Rattle.std.specs.Prelude.{unwrap_or}
use Rattle.pcm_base.specs.Edits.{changed, deleted, gained, inserted, quieted, ramp_of, range_of}
use Rattle.pcm_base.specs.Step.{after_line, copied, new_track, with_project}
use Rattle.pcm_base.specs.{declared.sound.Cell.Cell, Cells.Project, Cells.edited_at, Cells.run_edited, History.History}
use Rattle.pcm_base.specs.{History.edited, Outside.Outside, State.State, State.clip_of, State.current, State.new_state}
use Rattle.script_gen.proofs.Points.{IsLast, IsEdited, current-last, edited-last, last_project, redone-last}
use Rattle.script_gen.proofs.Samples.{HasSamples, IsSample, changed-full, deleted-full, gained-sample, inserted-full}
use Rattle.script_gen.proofs.{Points.undone-last, Samples.quieted-sample, Samples.ramp-full, Samples.range-full}
use Rattle.pcm_base.specs.declared.command.Command.TheVariants as command

-- a project of one track, the first of a project, with this many samples and no gap
pub record HasTrack (len : ℕ) (p : Project) : Type 0 where
  pub cells : List Cell
  pub is : p ≡ new_track 1 cells ∷ []
  pub full : HasSamples len cells

-- the clipboard has one list of this many samples; where the number is 0 nothing is known
abbrev pub HasCopied : ℕ → Option (List (List Cell)) → Type 0
HasCopied copied clip =
    (copied ≡ 0) ⊎ ((xs : List Cell) × (clip ≡ Some (xs ∷ [])) × HasSamples copied xs)

-- An editor in the course of a script: the length of the track, that of the clipboard, and whether a line was undone.
pub record IsAt (len copied : ℕ) (undone : Bool) (s : State) : Type 0 where
  pub next_track : s.next_track ≡ 2
  pub next_pin : s.next_pin ≡ 1
  pub history : IsLast undone s.history
  pub track : HasTrack len (last_project s.history)
  pub clipboard : HasCopied copied s.clipboard

-- its current project, where nothing is undone
pub current-track : (len copied : ℕ) (s : State) → IsAt len copied false s → HasTrack len (current s)
current-track len copied s h =
    subst (HasTrack len) (sym (current-last s h.history)) h.track

-- ---- commits

edited-at : (len new copied : ℕ) (s : State) (p : Project) → IsAt len copied false s → HasTrack new p →
    IsAt new copied false (with_project s p)
edited-at len new copied s p h good =
    let old = h.history in
    let cursor = old.cursor in
    let e : IsEdited p (edited s.history p 0) = edited-last s.history p (omega arith) old.room in
    record {
      next_track = h.next_track;
      next_pin = h.next_pin;
      history = e.last;
      track = subst (HasTrack new) (sym e.is) good;
      clipboard = h.clipboard;
    }

-- one function on the track
function-at : (len new copied : ℕ) (s : State) (f : List Cell → List Cell) → IsAt len copied false s →
    ((cells : List Cell) → HasSamples len cells → HasSamples new (f cells)) →
    IsAt new copied false (with_project s (edited_at 1 f (current s)))
function-at len new copied s f h good =
    let t = current-track len copied s h in
    edited-at len new copied s (edited_at 1 f (current s)) h
    (record { cells = f t.cells; is = ap (edited_at 1 f) t.is; full = good t.cells t.full })

pub ramp-after : (out : Outside) (len copied at n : ℕ) (start step : ℤ) (s : State) → IsAt len copied false s →
    at ≤ len →
    IsAt (len + n) copied false (after_line out s (command.Ramp 1 at n start step))
ramp-after out len copied at n start step s h within =
    function-at len (len + n) copied s (inserted at (ramp_of n start step)) h
    (λ cells full. inserted-full len n at (ramp_of n start step) cells within (ramp-full n start step) full)

pub delete-after : (out : Outside) (len copied from to : ℕ) (s : State) → IsAt len copied false s → from ≤ to →
    to ≤ len →
    IsAt (len - (to - from)) copied false (after_line out s (command.Delete 1 from to))
delete-after out len copied from to s h order within =
    function-at len (len - (to - from)) copied s (deleted from to) h
    (λ cells full. deleted-full len from to cells order within full)

pub gain-after : (out : Outside) (len copied from to gain : ℕ) (s : State) → IsAt len copied false s → from ≤ to →
    to ≤ len →
    IsAt len copied false (after_line out s (command.Gain 1 from to gain))
gain-after out len copied from to gain s h order within =
    function-at len len copied s (changed (gained gain) from to) h
    (λ cells full. changed-full len from to (gained gain) cells (gained-sample gain) order within full)

pub silence-after : (out : Outside) (len copied from to : ℕ) (s : State) → IsAt len copied false s → from ≤ to →
    to ≤ len →
    IsAt len copied false (after_line out s (command.Silence 1 from to))
silence-after out len copied from to s h order within =
    function-at len len copied s (changed quieted from to) h
    (λ cells full. changed-full len from to quieted cells quieted-sample order within full)

-- ---- the clipboard

pub copy-after : (out : Outside) (len old from to : ℕ) (s : State) → IsAt len old false s → from ≤ to → to ≤ len →
    IsAt len (to - from) false (after_line out s (command.Copy 1 1 from to))
copy-after out len old from to s h order within =
    let t = current-track len old s h in
    record {
      next_track = h.next_track;
      next_pin = h.next_pin;
      history = h.history;
      track = h.track;
      clipboard = inr (
        range_of from to t.cells,
        ap (λ (p : Project). Some (copied 1 1 from to p)) t.is,
        range-full len from to t.cells order within t.full,
      );
    }

-- what is pasted, where something was copied
pub record IsPasted (copied : ℕ) (s : State) : Type 0 where
  pub cells : List Cell
  pub is : s.clipboard ≡ Some (cells ∷ [])
  pub full : HasSamples copied cells

pub copied-cells : (len copied : ℕ) (s : State) → IsAt len copied false s → 0 < copied → IsPasted copied s
copied-cells len copied s h some = by h.clipboard
  where
    by : HasCopied copied s.clipboard → IsPasted copied s
    by (inl none) = absurd (omega arith)
    by (inr (xs, is, full)) = record { cells = xs; is = is; full = full }

pub paste-after : (out : Outside) (len copied at : ℕ) (s : State) → IsAt len copied false s → 0 < copied → at ≤ len →
    IsAt (len + copied) copied false (after_line out s (command.Paste 1 at))
paste-after out len copied at s h some within =
    let t = current-track len copied s h in
    let c = copied-cells len copied s h some in
    let p = run_edited 1 (map (inserted at) (clip_of s)) (current s) in
    let clip : p ≡ edited_at 1 (inserted at c.cells) (current s) =
    ap (λ (o : Option (List (List Cell))). run_edited 1 (map (inserted at) (unwrap_or o [])) (current s)) c.is in
    edited-at len (len + copied) copied s p h
    (record {
      cells = inserted at c.cells t.cells;
      is = clip ∙ ap (edited_at 1 (inserted at c.cells)) t.is;
      full = inserted-full len copied at c.cells t.cells within c.full t.full;
    })

-- ---- undo and redo

-- another point of the same history, with the same project
moved-after : (len copied : ℕ) (undone after : Bool) (s : State) (history : History Project) (commit : ℕ)
    → IsAt len copied undone s → IsLast after history → last_project history ≡ last_project s.history
    → IsAt len copied after (record s { history = history; commit = commit })
moved-after len copied undone after s history commit h last same = record {
  next_track = h.next_track;
  next_pin = h.next_pin;
  history = last;
  track = subst (HasTrack len) (sym same) h.track;
  clipboard = h.clipboard;
}

pub undo-after : (out : Outside) (len copied : ℕ) (s : State) → IsAt len copied false s →
    IsAt len copied true (after_line out s command.Undo)
undo-after out len copied s h =
    moved-after len copied false true s _ _ h (undone-last s.history h.history) refl

pub redo-after : (out : Outside) (len copied : ℕ) (s : State) → IsAt len copied true s →
    IsAt len copied false (after_line out s command.Redo)
redo-after out len copied s h =
    moved-after len copied true false s _ _ h (redone-last s.history h.history) refl

-- ---- the first line

pub track-after : (out : Outside) (depth : ℕ) → 2 ≤ depth →
    IsAt 0 0 false (after_line out (new_state depth) command.Track)
track-after out depth room =
    let s = new_state depth in
    let p = current s ++ new_track s.next_track [] ∷ [] in
    let e : IsEdited p (edited s.history p 0) = edited-last s.history p refl room in
    record {
      next_track = refl;
      next_pin = refl;
      history = e.last;
      track = record {
        cells = [];
        is = e.is;
        full = record { samples = All-nil IsSample; length_is = refl };
      };
      clipboard = inl refl;
    }
