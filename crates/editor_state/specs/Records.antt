-- How long the record of a commit is: it says the studio that the commit leads to, in version 2 by the one before.
use Rattle.std.specs.Prelude.{◌≡◌, ◌⊎◌, ℕ, ◌≤◌, List, Result, Ok, Err, true}
use Rattle.pcm_base.specs.{declared.answer.Reply.Reply, declared.refusal.Refusal.Refusal, History.History}
use Rattle.pcm_base.specs.{declared.limits.TheConstants.LONGEST_BODY}
use Rattle.project_journal.specs.Journal.{rows_length}
use Rattle.record_body.specs.{declared.body.Body.Body, Saved.current_tracks}
use Rattle.project_state.specs.declared.track.Track.{Track}
use Rattle.editor_state.specs.{Bodies.Writing, Bodies.bodies_by, Core.Core, Exchanges.may_begin}
use Rattle.record_body.specs.declared.body.Body.TheVariants as body

-- a body says these next ids and this history: an edit its current point, and a move or a purge nothing more
abbrev pub Says : (next_block next_track : ℕ) → History (List Track) → Body → Type 0
Says next_block next_track h (body.Edit tag block track point) =
    (block ≡ next_block) × (track ≡ next_track) × (point ≡ current_tracks h)
Says next_block next_track h body.Undo = Unit {0}
Says next_block next_track h body.Redo = Unit {0}
Says next_block next_track h (body.Purge n) = Unit {0}

-- The length of the records that a call adds: none, or that of a writing whose last body says the studio after it.
-- Where a device refused the call, it is that of a record that a commit may have.
abbrev pub RecordsBy : {D : Type 0} → (version : ℕ) (current : List Track) → Result Reply Refusal → Core D → ℕ → Type 0
RecordsBy version current (Ok r) new len = (len ≡ 0)
    ⊎ ((w : Writing) × (len ≡ rows_length (bodies_by version current w.more w.body))
    × Says new.next_block new.next_track new.history w.body)
RecordsBy version current (Err why) new len = may_begin why ≡ true → len ≤ LONGEST_BODY

abbrev pub Records : {D : Type 0} → Core D → Result Reply Refusal → Core D → ℕ → Type 0
Records old told new len = RecordsBy old.version (current_tracks old.history) told new len
