-- What contracts see of the two ends.
use Rattle.std.specs.Prelude.{◌≡◌, ℕ, List, [], ◌∷◌, map, Bool, true, false}
use Rattle.std.proofs.Common.{◌∙◌, sym}
use Rattle.pcm_base.specs.declared.sound.Frame.{Frame}
use Rattle.play_ring.specs.declared.ends.Item.TheVariants.{Sound, End}
use Rattle.play_ring.specs.{declared.ends.TheConstants.RING_ITEMS, declared.ends.Item.Item, declared.ends.PlayIn.PlayIn}
use Rattle.play_ring.specs.{declared.ends.PlayOut.PlayOut}
use Rattle.rtrb.specs.Ring as ring

-- every item that was sent, the first first
abbrev pub sent : PlayIn → List Item
sent i = ring.sent i.producer

-- how many slots this end knows to be free
abbrev pub known_free : PlayIn → ℕ
known_free i = ring.known_free i.producer

-- every item that was received
abbrev pub received : PlayOut → List Item
received o = ring.received o.consumer

-- the items that this end has seen in the ring
abbrev pub known_items : PlayOut → List Item
known_items o = ring.known_items o.consumer

-- the two ends are of one ring
abbrev pub IsPair : PlayIn → PlayOut → Type 0
IsPair i o = (ring.producer_capacity i.producer ≡ RING_ITEMS) × ring.IsPair i.producer o.consumer

-- an end is still of its ring
abbrev pub SameIn : PlayIn → PlayIn → Type 0
SameIn a b = ring.SameProducer a.producer b.producer

abbrev pub SameOut : PlayOut → PlayOut → Type 0
SameOut a b = ring.SameConsumer a.consumer b.consumer

-- frames as items
abbrev pub sounds : List Frame → List Item
sounds frames = map Sound frames

-- the end mark, or nothing
abbrev pub end_if : Bool → List Item
end_if true = End ∷ []
end_if false = []

pub SameIn-trans : (a b c : PlayIn) → SameIn a b → SameIn b c → SameIn a c
SameIn-trans a b c p q = ((q.0.0 ∙ p.0.0, q.0.1 ∙ p.0.1, q.0.2 ∙ p.0.2, q.0.3 ∙ p.0.3), q.1 ∙ p.1)

pub SameOut-trans : (a b c : PlayOut) → SameOut a b → SameOut b c → SameOut a c
SameOut-trans a b c p q = ((q.0.0 ∙ p.0.0, q.0.1 ∙ p.0.1, q.0.2 ∙ p.0.2, q.0.3 ∙ p.0.3), q.1 ∙ p.1)

-- ends that are still of their rings are still of one ring
pub IsPair-same : (i i' : PlayIn) (o o' : PlayOut) → IsPair i o → SameIn i i' → SameOut o o' → IsPair i' o'
IsPair-same i i' o o' pair p q = (
  p.1 ∙ pair.0,
  (
    q.0.0 ∙ pair.1.0 ∙ sym p.0.0,
    q.0.1 ∙ pair.1.1 ∙ sym p.0.1,
    q.0.2 ∙ pair.1.2 ∙ sym p.0.2,
    q.0.3 ∙ pair.1.3 ∙ sym p.0.3,
  ),
)
