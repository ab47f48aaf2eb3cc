-- The giver's seat went on by reads of the pin, and what it shows is the mix of the pin.
use Rattle.std.proofs.Common.{◌≡◌, ◌<◌, List}
use Rattle.pcm_base.specs.declared.sound.Frame.{Frame}
use Rattle.pin_turn.specs.Calls.{known}
use Rattle.studio_seats.specs.{Desks.start_at, Onward.IsReadOf, Onward.Onward, Shows.IsMixOf, Stands.origin}
use Rattle.seat_examples.specs.Jobs.{IsPinOf}
use Rattle.seat_examples.proofs.jobs.play.Given as goal

abbrev pub invariant-reads : goal.invariant-reads
invariant-reads g l = record {
  desk : l.giver.desk.now ≡ l.desk;
  pin : l.giver.pin ≡ l.fn.pin;
  goes : Onward (IsReadOf l.fn.pin) (known l.fn.seat) (known l.giver.seat);
  shows : (all : List Frame)
      → IsMixOf (origin g.S.Store g.V.Vault (start_at l.desk)) (known l.fn.seat).seen l.fn.pin all
      → IsMixOf (origin g.S.Store g.V.Vault (start_at l.giver.desk.now)) (known l.giver.seat).seen l.giver.pin all;
  read : 0 < l.counter → IsPinOf (origin g.S.Store g.V.Vault (start_at l.desk)) (known l.fn.seat) l.fn.pin l.mix;
}
