-- The records of pieces of a recording that come together.
use Rattle.std.specs.Prelude.{ℕ, zero, suc, ◌+◌, List, [], ◌∷◌}
use Rattle.record_body.specs.declared.body.Body.TheVariants.{Edit, Undo, Redo, Purge}
use Rattle.record_body.specs.{declared.body.Body.Body, Changes.spelling_in, Saved.Saved, Saved.after_body}
use Rattle.project_state.specs.declared.track.Track.{Track}

-- what a body says, with this point in the place of its own
abbrev pub with_point : List Track → Body → Body
with_point current (Edit tag next_block next_track point) = Edit tag next_block next_track current
with_point current Undo = Undo
with_point current Redo = Redo
with_point current (Purge n) = Purge n

-- The bodies of records that come together, as the writer spells them by the current point. So many say this point
-- again, and the last one says its own.
abbrev pub bodies_in : ℕ → List Track → ℕ → Body → List (List ℕ)
bodies_in version current zero body = spelling_in version current body ∷ []
bodies_in version current (suc more) body =
    spelling_in version current (with_point current body) ∷ bodies_in version current more body

-- what they lead to: what the last one leads to, and as many commits
abbrev pub after_bodies : Saved → ℕ → Body → Saved
after_bodies k more body = record (after_body k body) { commit = k.commit + suc more }
