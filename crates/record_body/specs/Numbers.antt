-- Bodies without the numbers of layouts, as records and headers say them, and bodies that agree with a point by them.
use Rattle.std.specs.Prelude.{List, map}
use Rattle.clip_track.specs.declared.kept.Kept.{Kept}
use Rattle.project_state.specs.{declared.track.Track.Track, Kept.KeepsTracks, Numbers.AgreeById, Numbers.unnumbered}
use Rattle.record_body.specs.declared.body.Body.{Body}
use Rattle.record_body.specs.declared.body.Body.TheVariants.{Edit, Undo, Redo, Purge}

-- a body whose layouts have no numbers
abbrev pub unnumbered_body : Body → Body
unnumbered_body (Edit tag next_block next_track tracks) = Edit tag next_block next_track (map unnumbered tracks)
unnumbered_body Undo = Undo
unnumbered_body Redo = Redo
unnumbered_body (Purge n) = Purge n

-- so do the tracks of a body
abbrev pub BodyAgrees : List Track → Body → Type 0
BodyAgrees current (Edit tag next_block next_track tracks) = AgreeById current tracks
BodyAgrees current Undo = Unit {0}
BodyAgrees current Redo = Unit {0}
BodyAgrees current (Purge n) = Unit {0}

-- the tracks of a body keep as many blocks of the current ones
abbrev pub BodyKeeps : Kept → List Track → Body → Type 0
BodyKeeps kept current (Edit tag next_block next_track tracks) = KeepsTracks kept current tracks
BodyKeeps kept current Undo = Unit {0}
BodyKeeps kept current Redo = Unit {0}
BodyKeeps kept current (Purge n) = Unit {0}
