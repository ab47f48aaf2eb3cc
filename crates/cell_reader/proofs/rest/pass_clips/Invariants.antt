-- What is left is the rest of the same tracks.
use Rattle.cell_reader.proofs.Common.{List, length, IsRest, IsRestOf}
use Rattle.clip_track.specs.declared.clips.Clip.{Clip as clip_of}
use Rattle.cell_reader.proofs.rest.pass_clips.Given as goal

abbrev pub invariant-clips : goal.invariant-clips
invariant-clips l = record {
  rest : IsRest l.left;
  of : (cs : List clip_of) → IsRestOf l.from cs l.rest → IsRestOf l.from cs l.left;
}

abbrev pub decreases-clips : goal.decreases-clips
decreases-clips l = length l.left.clips.now
