-- What a call says of its disk makes it honest.
use Rattle.editor_recovery.proofs.StayingHonest.{alone_honest, stays_honest}
use Rattle.editor_recovery.proofs.laws.calls_stay_honest.Goals as goal

pub returns-clause-calls : goal.returns-clause-calls
returns-clause-calls g c = λ old new exchange is held honest took.
    stays_honest g.S.Store old new exchange is held honest took

pub returns-clause-images : goal.returns-clause-images
returns-clause-images g c = λ store files image model alone. alone_honest g.S.Store store files image model alone
