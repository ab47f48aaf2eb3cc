-- Lines by what they are about.
use Rattle.pcm_base.specs.declared.command.Command.{Command}
use Rattle.pcm_base.specs.Shape.{Shape, PutIn, EditRange, CutRun, CopyRun, PasteRun, shape_of}

abbrev pub IsOfCells : Shape → Type 0
IsOfCells (PutIn id at source) = Unit {0}
IsOfCells (EditRange id from to edit) = Unit {0}
IsOfCells _ = ⊥

-- a line that changes cells of one track
abbrev pub ChangesCells : Command → Type 0
ChangesCells line = IsOfCells (shape_of line)

abbrev pub IsOfRun : Shape → Type 0
IsOfRun (CutRun id n from to removing) = Unit {0}
IsOfRun (CopyRun id n from to) = Unit {0}
IsOfRun (PasteRun id at placing) = Unit {0}
IsOfRun _ = ⊥

-- one that puts cells of a run into the clipboard, or takes them from it
abbrev pub UsesClipboard : Command → Type 0
UsesClipboard line = IsOfRun (shape_of line)
