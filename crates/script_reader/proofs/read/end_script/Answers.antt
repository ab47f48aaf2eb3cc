-- A last line without an LF is a line, where it has a byte.
use Rattle.script_reader.proofs.ReadingLemmas.{Ended-nothing, Ended-line, Ended-fault}
use Rattle.script_reader.proofs.read.end_script.Goals as goal

pub returns-then-is_empty-clause-ended : goal.returns-then-is_empty-clause-ended
returns-then-is_empty-clause-ended g c =
    λ start read going. Ended-nothing _ _ read c.if-is_empty.ensures going

pub returns-in-Ok-clause-ended : goal.returns-in-Ok-clause-ended
returns-in-Ok-clause-ended g c = λ start read going.
    Ended-line _ _ _ read c.if-is_empty.ensures (c.in-Ok.ensures.printed start) going

pub returns-in-Err-clause-ended : goal.returns-in-Err-clause-ended
returns-in-Err-clause-ended g c = λ start read going. Ended-fault _ _ _ c.in-Err.field-0 read
    c.if-is_empty.ensures (c.in-Err.ensures.printed start) going
