-- The bytes of the frames stand after those before.
use Rattle.player_threads.proofs.PlayLemmas.{Writes-more}
use Rattle.player_threads.proofs.speaker.write_frames.Goals as goal

pub returns-clause-writes : goal.returns-clause-writes
returns-clause-writes g c = λ start done w.
    let a = rw c.put_frames.ensures at c.write_counted-wrote.ensures in
    Writes-more start _ _ _ _ c.write_counted-wrote.result.count
    done c.args.frames.now c.if-progress.false w a.bound a.written a.all a.cause c.saturating_add-progress.ensures
