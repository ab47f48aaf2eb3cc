-- A window on all of a file is the file.
use Rattle.memory_disk.proofs.Common.{arith, reads_of, history_of}
use Rattle.memory_disk.proofs.Windows.{window_whole}
use Rattle.memory_disk.proofs.replay.content_of.Goals as goal

pub returns-in_ok-resize-in-Some : goal.returns-in_ok-resize-in-Some
returns-in_ok-resize-in-Some c =
    window_whole (reads_of (history_of c.args.row.now c.args.calls.now) c.args.file)
    c.read_all.new.content.items c.in-Some.size c.in-Some.ensures.size
    (omega (arith, c.read_all.ensures.len, c.in_ok-resize-in-Some.ensures.len)) c.read_all.ensures.shows
