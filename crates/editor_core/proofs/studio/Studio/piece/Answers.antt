-- A piece of a recording is a step.
use Rattle.editor_core.proofs.Common.{refl, sym, subst, ℕ, brought_count, place_edit, silent}
use Rattle.editor_tracks.specs.TrackEdits.{IsTrackCall, track_command}
use Rattle.editor_tracks.specs.{declared.place.Place.TheVariants.End}
use Rattle.editor_tracks.proofs.InsertLaws.{piece_call}
use Rattle.pcm_base.specs.declared.command.Call.TheVariants as call
use Rattle.block_writer.specs.declared.given.Given.TheVariants as given
use Rattle.editor_core.proofs.studio.Studio.piece.Goals as goal

pub returns-clause-took : goal.returns-clause-took
returns-clause-took g c = c.insert_given.ensures.took (call.Piece c.args.track c.args.tag c.args.samples.now) silent
    (subst (λ (k : ℕ). IsTrackCall (call.Piece c.args.track c.args.tag c.args.samples.now) silent
    (track_command (place_edit End (brought_count (given.Samples c.args.samples))) (given.Samples c.args.samples)
    c.args.track c.args.tag k)) (sym c.later_pieces-more.ensures)
    (piece_call c.args.samples.now (given.Samples c.args.samples) refl refl c.args.track c.args.tag))

pub insert_given-requires-clause-tag : goal.insert_given-requires-clause-tag
insert_given-requires-clause-tag g c = c.requires.tag.1
