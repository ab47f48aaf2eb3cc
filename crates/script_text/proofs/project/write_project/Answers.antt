-- Behind nothing, one line after another.
use Rattle.std.proofs.Common.{[], ◌++◌, codes}
use Rattle.std.specs.List.{flat_map}
use Rattle.script_text.specs.{Text.track_text, Project.shape_text, Project.place_text, Project.project_text}
use Rattle.script_text.proofs.project.write_project.Goals as goal

pub returns-clause-bytes : goal.returns-clause-bytes
returns-clause-bytes g c =
    let start = g.O.Sink.written c.args.out.now in
    let p = c.args.project.now in
    let tracks = c.args.tracks.now in
    let head = shape_text p ++ place_text p in
    let listed = head ++ flat_map track_text tracks in
    let begun = c.put_shape.ensures.bytes start [] (c.new-text.ensures.bytes start) in
    let headed = c.put_place.ensures.bytes start (shape_text p) begun in
    let said = c.put.ensures.bytes start listed (c.put_tracks.ensures.bytes start head headed) in
    c.finish.ensures.bytes start (project_text p tracks) (c.put_end.ensures.bytes start (listed ++ codes "\n") said)

pub returns-clause-cause : goal.returns-clause-cause
returns-clause-cause g c =
    let start = g.O.Sink.fault_count c.args.out.now in
    let headed = c.put_place.ensures.cause start (c.put_shape.ensures.cause start (c.new-text.ensures.cause start)) in
    let said = c.put.ensures.cause start (c.put_tracks.ensures.cause start headed) in
    c.finish.ensures.cause start (c.put_end.ensures.cause start said)
