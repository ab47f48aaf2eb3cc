-- The images after a sync.
use Rattle.memory_disk.proofs.Common.{◌∷◌, ap, ◌∙◌, Synced, Log, Ram}
use Rattle.memory_disk.proofs.Following.{sync_more}
use Rattle.memory_disk.proofs.ram.RamStoreStore.sync.Goals as goal

pub returns-in-Ok-clause-images : goal.returns-in-Ok-clause-images
returns-in-Ok-clause-images c = sync_more c.args.file _ _ (ap (λ (l : Log). l.history) c.in-Ok.ensures.ok
    ∙ ap (λ (r : Ram). Synced c.args.file ∷ r.log.history) c.self.view_is)
