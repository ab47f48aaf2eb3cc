-- One call more, without bytes.
use Rattle.memory_disk.proofs.Common.{arith}
use Rattle.memory_disk.proofs.CallsLemmas.{history_mark, held_mark}
use Rattle.memory_disk.proofs.record.note_mark.Goals as goal

pub returns-clause-ok : goal.returns-clause-ok
returns-clause-ok c = history_mark c.args.row.now c.args.calls.now.items _ _ c.in_ok-push.ensures.items

pub returns-clause-held : goal.returns-clause-held
returns-clause-held c = held_mark _ _ _ _ _ c.in_ok-push.ensures.items (omega arith) c.requires
    (record { within = omega arith; fits = omega arith })
