-- A silent line changes nothing, another is answered.
use Rattle.std.proofs.Common.{sym}
use Rattle.script_reader.proofs.AnsweringLemmas.{Printed-silent, Printed-answer}
use Rattle.script_reader.proofs.answer.answer_line.Goals as goal

pub returns-then-is_silent_line-clause-printed : goal.returns-then-is_silent_line-clause-printed
returns-then-is_silent_line-clause-printed g c = λ start lines part holds p.
    Printed-silent _ lines part (sym (c.if-is_silent_line.ensures part holds)) p

pub returns-clause-printed : goal.returns-clause-printed
returns-clause-printed g c = λ start lines part holds p.
    Printed-answer _ _ _ _ c.write_answer-written.result lines part c.next_answer-answer.result
    (sym (c.if-is_silent_line.ensures part holds))
    (c.next_answer-answer.ensures.answers part holds) c.write_answer-written.ensures.bytes
    c.next_answer-answer.ensures.no p
