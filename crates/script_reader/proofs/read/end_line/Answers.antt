-- The rest of the line, and then its LF.
use Rattle.std.proofs.Common.{◌++◌}
use Rattle.script_reader.proofs.GoingLemmas.{Going-more, Going-lf}
use Rattle.script_reader.proofs.read.end_line.Goals as goal

pub returns-clause-goes : goal.returns-clause-goes
returns-clause-goes g c = λ start read going.
    Going-lf _ _ _ _ c.answer_line.result (read ++ c.args.rest.now)
    (c.answer_line.ensures.printed start) c.answer_line.ensures.cleared
    (Going-more _ _ _ read c.args.rest.now c.requires c.extend.ensures going)
