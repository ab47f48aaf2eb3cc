-- Tracks whose layouts have no numbers.
use Rattle.std.proofs.Common.{◌≡◌, refl, sym, List, [], ◌∷◌, map, inl}
use Rattle.project_state.specs.declared.track.Track.{Track}
use Rattle.project_state.specs.Numbers.{AreNewOrCurrent, AreUnnumbered, unnumbered}

-- without its number such a track is the same
pub track_plain : (t : Track) → t.number ≡ 0 → unnumbered t ≡ t
track_plain t none = λ i. record t { number = sym none i }

pub tracks_plain : (ts : List Track) → AreUnnumbered ts → map unnumbered ts ≡ ts
tracks_plain [] plain = refl
tracks_plain (t ∷ ts) plain = λ i. record t { number = sym plain.0 i } ∷ tracks_plain ts plain.1 i

-- each of them is new, whatever the current point is
pub plain_new : (current ts : List Track) → AreUnnumbered ts → AreNewOrCurrent current ts
plain_new current [] plain = tt
plain_new current (t ∷ ts) plain = (inl plain.0, plain_new current ts plain.1)
