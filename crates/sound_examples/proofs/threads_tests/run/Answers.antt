-- The taker and the giver that come back are those that were handed in.
use Rattle.std.proofs.Common.{ap}
use Rattle.sound_examples.proofs.threads_tests.run.Goals as goal

pub returns-clause-taker : goal.returns-clause-taker
returns-clause-taker g c =
    c.record_and_play.ensures.records.taker_goes c.args.ends.taker (ap (λ t. t.most) c.new-recording.ensures.1)

pub returns-clause-giver : goal.returns-clause-giver
returns-clause-giver g c =
    c.record_and_play.ensures.plays.giver_goes c.args.ends.giver (ap (λ v. v.items.items) c.new-playback.ensures.0)
