-- One call more, whose bytes are the newest.
use Rattle.memory_disk.proofs.Common.{length, ap, arith, length-append}
use Rattle.memory_disk.proofs.CallsLemmas.{history_write, held_mark}
use Rattle.memory_disk.proofs.record.note_write.Goals as goal

pub returns-clause-ok : goal.returns-clause-ok
returns-clause-ok c = history_write c.args.row.now.items c.args.bytes.now _ c.args.calls.now.items _ _
    c.in_ok-extend_from_slice.ensures.items c.in_ok-push.ensures.items (omega arith) (omega arith) c.requires.held

pub returns-clause-held : goal.returns-clause-held
returns-clause-held c =
    let longer = ap length c.in_ok-extend_from_slice.ensures.items in
    let size = length-append c.args.row.now.items c.args.bytes.now in
    held_mark (length c.args.row.now.items) _ c.args.calls.now.items _ _ c.in_ok-push.ensures.items
    (omega (arith, longer, size)) c.requires.held (record {
      within = omega (arith, longer, size);
      fits = omega (arith, c.requires.fits);
    })
