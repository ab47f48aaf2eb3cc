-- What a pin shows to a seat that has seen it made.
use Rattle.std.specs.Prelude.{◌≡◌, ℕ, List, Some}
use Rattle.pcm_base.specs.declared.sound.Frame.{Frame}
use Rattle.editor_state.specs.Studios.{IsHeld, studio_of}
use Rattle.studio_seats.specs.Stands.{AllTell, Origin}
use Rattle.studio_seats.specs.{declared.deed.Deed.Deed, Deeds.entries_of, Pins.pin_frames}

-- Where vaults tell their bytes and the disk held the studio at the start, these are the frames of the mix of the
-- project that was current where the pin was made.
pub record IsMixOf {D V : Type 0} (o : Origin D V) (seen : List Deed) (pin : ℕ) (all : List Frame) : Type 0 where
  pub told : AllTell o.vaults
  pub held : IsHeld o.disk o.start
  pub frames : pin_frames (studio_of o.disk o.start).rate (studio_of o.disk o.start).state (entries_of seen) pin
      ≡ Some all
