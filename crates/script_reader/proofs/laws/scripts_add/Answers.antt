-- What a script adds to the list of a desk.
use Rattle.script_reader.proofs.AddedLemmas as added
use Rattle.script_reader.proofs.laws.scripts_add.Goals as goal

pub returns : goal.returns
returns c = added.scripts_add
