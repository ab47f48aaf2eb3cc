-- What is left is the rest of the same tracks.
use Rattle.cell_reader.proofs.Common.{◌≡◌, List, length, IsRest, IsRestOf}
use Rattle.clip_track.specs.declared.clips.Clip.{Clip as clip_of}
use Rattle.cell_reader.proofs.rest.pass_rows.Given as goal

abbrev pub invariant-rows : goal.invariant-rows
invariant-rows l = record {
  rest : IsRest l.left;
  end : l.left.end ≡ l.rest.end;
  clips : l.left.clips.now ≡ l.rest.clips.now;
  of : (cs : List clip_of) → IsRestOf l.from cs l.rest → IsRestOf l.from cs l.left;
}

abbrev pub decreases-rows : goal.decreases-rows
decreases-rows l = length l.left.rows.now
