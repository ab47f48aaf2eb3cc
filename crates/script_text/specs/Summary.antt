-- What is printed of a script that was made from a number, and run.
use Rattle.std.specs.Prelude.{ℕ, ◌++◌, List, codes}
use Rattle.script_text.specs.{declared.summary.Summary.Summary, Text.with_number, Text.column_text}

-- the number and the lines of the script, and the commits that it made
abbrev pub run_text : Summary → List ℕ
run_text s =
    codes "gen" ++ with_number s.number ++ with_number s.lines ++ codes " commits" ++ with_number s.commits

-- what is found at the end, each on a line of its own: the cells of the track, the blocks that are named, and one
-- column of the whole track
abbrev pub found_text : Summary → List ℕ
found_text s =
    codes "\ncells" ++ with_number s.cells ++ codes "\nblocks" ++ with_number s.blocks ++ column_text s.column

-- the four lines
abbrev pub summary_text : Summary → List ℕ
summary_text s = run_text s ++ found_text s ++ codes "\n"
