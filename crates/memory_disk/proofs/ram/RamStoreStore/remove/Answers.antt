-- The images after a removal.
use Rattle.memory_disk.proofs.Common.{◌∷◌, ap, ◌∙◌, Removed, Log, Ram}
use Rattle.memory_disk.proofs.Following.{remove_same, remove_more}
use Rattle.memory_disk.proofs.ram.RamStoreStore.remove.Goals as goal

pub returns-then-count_change-clause-images : goal.returns-then-count_change-clause-images
returns-then-count_change-clause-images c = remove_same c.args.file _ _ (ap (λ (r : Ram). r.log.history) c.self.view_is)

pub returns-in-Err-clause-images : goal.returns-in-Err-clause-images
returns-in-Err-clause-images c = remove_same c.args.file _ _
    (ap (λ (l : Log). l.history) c.in-Err.ensures.err ∙ ap (λ (r : Ram). r.log.history) c.self.view_is)

pub returns-in-Ok-clause-images : goal.returns-in-Ok-clause-images
returns-in-Ok-clause-images c = remove_more c.args.file _ _ (ap (λ (l : Log). l.history) c.in-Ok.ensures.ok
    ∙ ap (λ (r : Ram). Removed c.args.file ∷ r.log.history) c.self.view_is)
