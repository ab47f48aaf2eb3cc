-- The law of the lemmas.
use Rattle.record_body.proofs.Common.{before_of, current_tracks}
use Rattle.record_body.proofs.DiffValid.{delta_valid}
use Rattle.record_body.proofs.laws.what_passes_may_come_next.Goals as goal

pub returns : goal.returns
returns c = λ m k bytes body small valid none says follows. record {
  tests = none;
  says = says;
  valid = delta_valid m (before_of k) k.next_track (current_tracks k.history) bytes body (record { below = small }) valid
      none says;
  follows = follows;
}
