-- The images after a write.
use Rattle.memory_disk.proofs.Common.{◌∷◌, ap, ◌∙◌, Wrote, Log, Ram}
use Rattle.memory_disk.proofs.Following.{write_same, write_more}
use Rattle.memory_disk.proofs.ram.RamStoreStore.write_at.Goals as goal

pub returns-then-count_write-clause-images : goal.returns-then-count_write-clause-images
returns-then-count_write-clause-images c = write_same _ _ _ _ _ (ap (λ (r : Ram). r.log.history) c.self.view_is)

pub returns-in-Err-clause-images : goal.returns-in-Err-clause-images
returns-in-Err-clause-images c = write_same _ _ _ _ _
    (ap (λ (l : Log). l.history) c.in-Err.ensures.err ∙ ap (λ (r : Ram). r.log.history) c.self.view_is)

pub returns-in-Ok-clause-images : goal.returns-in-Ok-clause-images
returns-in-Ok-clause-images c = write_more c.args.file c.args.at c.args.bytes.now _ _
    (ap (λ (l : Log). l.history) c.in-Ok.ensures.ok
    ∙ ap (λ (r : Ram). Wrote c.args.file c.args.at c.args.bytes.now ∷ r.log.history) c.self.view_is)
