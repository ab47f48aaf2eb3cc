-- A write as the window shows it.
use Rattle.memory_disk.proofs.Common.{ℕ, List, sym, subst, ap, ◌∙◌, arith, bytes_of, written, reads_of, IsWindow}
use Rattle.memory_disk.proofs.Windows.{window_written, reads_call}
use Rattle.memory_disk.proofs.replay.show_call.Goals as goal

pub returns-in-Write : goal.returns-in-Write
returns-in-Write c = λ h was.
    let call = c.args.call.now in
    let row = c.args.row.now in
    let e = c.overlay.ensures in
    subst (λ (o : List ℕ). IsWindow o c.args.at c.overlay.new.buf)
    (ap (λ (b : List ℕ). written (bytes_of (reads_of h c.args.file)) call.at b) c.bytes_in.ensures
    ∙ sym (ap bytes_of (reads_call row call h c.args.file c.in-Write.is c.if-call-file.false)))
    (window_written (bytes_of (reads_of h c.args.file)) c.bytes_in.result.now c.args.buf.now c.overlay.new.buf c.args.at
    call.at (omega arith) was e.inside e.before e.after)
