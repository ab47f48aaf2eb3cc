-- What is printed of a project as a whole.
use Rattle.std.specs.Prelude.{ℕ, ◌++◌, List, codes, flat_map}
use Rattle.pcm_base.specs.declared.sound.TrackLine.{TrackLine}
use Rattle.script_text.specs.declared.project.ProjectLines.{ProjectLines}
use Rattle.script_text.specs.Text.{with_number, track_text, end_text}

-- the line of a project that was made: it is at commit 0
abbrev pub made_text : List ℕ
made_text = codes "ok 0\n"

-- how many blocks were checked, and the last line
abbrev pub checked_text : ℕ → ℕ → List ℕ
checked_text count commit = codes "checked" ++ with_number count ++ codes "\n" ++ end_text commit

-- the settings that a project was made with
abbrev pub shape_text : ProjectLines → List ℕ
shape_text p = codes "project" ++ with_number p.rate ++ with_number p.block_size ++ with_number p.depth

-- where its history stands, on a line of its own, which begins after the end of another
abbrev pub place_text : ProjectLines → List ℕ
place_text p =
    codes "\ncommit" ++ with_number p.commit ++ codes " points" ++ with_number p.points
    ++ codes " cursor" ++ with_number p.cursor

-- the lines of a project, a line for each of its tracks, and the last line
abbrev pub project_text : ProjectLines → List TrackLine → List ℕ
project_text p tracks = shape_text p ++ place_text p ++ flat_map track_text tracks ++ codes "\n" ++ end_text p.commit
