-- What one step leaves of a pin.
use Rattle.studio_seats.proofs.Common.{◌≡◌, ◌⊎◌, inl, inr, ℕ, ◌<◌, ◌≤◌, Bool, true, false, Some, None}
use Rattle.studio_seats.proofs.Common.{if◌then◌else◌, refl, sym, ap, arith, eq-eqb, Result, Ok, Err}
use Rattle.studio_seats.proofs.Common.{true≢false, Answers, outside, result_of, Reply, Call, SoundMove, Refusal, State}
use Rattle.studio_seats.proofs.Common.{current, carried_is, after_what, makes_pin, Studio}
use Rattle.std.proofs.Common.{ne_eqb}
use Rattle.std.proofs.lemmas.Bool.{eqb-true, eqb-false}
use Rattle.pcm_base.specs.Run.{followed}
use Rattle.pcm_base.specs.{Step.MayAnswer}
use Rattle.model_laws.proofs.Answered.{answered_replied}
use Rattle.studio_seats.specs.Pins.{drops_pin, tells_pin}
use Rattle.studio_seats.proofs.Refused.{refused_same}

pub either_bool : (b : Bool) → (b ≡ true) ⊎ (b ≡ false)
either_bool true = inl refl
either_bool false = inr refl

-- ---- one call, and the pin of a number that was given out before it

module _ (rate : ℕ) (s : State) (p : ℕ) where
  abbrev Same : State → Type 0
  Same u = u.pins p ≡ s.pins p

  -- it stays, unless the call lets it go
  pub stays : (c : Call) (what : Result Reply Refusal) (sound : SoundMove) → p < s.next_pin → drops_pin c what p ≡ false
      → Same (after_what rate s c what sound)
  stays Call.Pin (Ok r) sound low h =
      ap (λ (z : Bool). if z then Some (current s) else s.pins p) (ne_eqb p s.next_pin (λ e. omega arith))
  stays (Call.Unpin q) (Ok r) sound low h =
      ap (λ (z : Bool). if z then None else s.pins p) (ne_eqb p q (λ e. eqb-false q p h (sym e)))
  stays c (Err why) sound low h = refl
  stays _ (Ok r) sound low h = refl

  -- it is gone after a call that lets it go
  goes : (c : Call) (what : Result Reply Refusal) (sound : SoundMove) → drops_pin c what p ≡ true
      → (after_what rate s c what sound).pins p ≡ None
  goes (Call.Unpin q) (Ok r) sound h =
      ap (λ (z : Bool). if z then None else s.pins p) (eq-eqb p q (sym (eqb-true q p h)))
  goes _ _ sound h = absurd (true≢false (sym h))

  pub stays_or_goes : (c : Call) (what : Result Reply Refusal) (sound : SoundMove) → p < s.next_pin
      → Same (after_what rate s c what sound) ⊎ ((after_what rate s c what sound).pins p ≡ None)
  stays_or_goes c what sound low = elim (either_bool (drops_pin c what p))
      [ inl h ↦ inr (goes c what sound h) | inr h ↦ inl (stays c what sound low h) ]

-- the next pin never falls
pub next_grows : (rate : ℕ) (s : State) (c : Call) (what : Result Reply Refusal) (sound : SoundMove)
    → s.next_pin ≤ (after_what rate s c what sound).next_pin
next_grows rate s Call.Pin (Ok r) sound = omega arith
next_grows rate s c (Err why) sound = omega arith
next_grows rate s _ (Ok r) sound = omega arith

-- ---- one step

-- what a step leaves of all that a script can see
pub record Leads (t : Studio) (c : Call) (what : Result Reply Refusal) (sound : SoundMove)
    (u : Studio) : Type 0 where
  pub state : u.state ≡ after_what t.rate t.state c what sound
  pub rate : u.rate ≡ t.rate
  pub tells : (r : Reply) → what ≡ Ok r → MayAnswer (outside t sound) t.state c r

pub leads_of : (t u : Studio) (c : Call) (sound : SoundMove) (what : Result Reply Refusal)
    → Answers t c sound what u → Leads t c what sound u
leads_of t u c sound (Ok r) h = record {
  state = rw (carried_is t u c sound r h)
      (answered_replied r (followed (outside t sound) t c h.blocks h.len h.layout));
  rate = rw (carried_is t u c sound r h);
  tells = λ said same. let one : r ≡ said = cc in rw one at h.answers;
}
leads_of t u c sound (Err why) h =
    let same = refused_same t u c sound why h in
    record { state = same.state; rate = same.rate; tells = λ said e. absurd cc }

-- a reply that tells of a pin is a pin's number
told_pin : (r : Reply) (p : ℕ) → tells_pin r p ≡ true → r ≡ Reply.Pinned p
told_pin (Reply.Pinned q) p h = ap Reply.Pinned (eqb-true q p h)
told_pin _ p h = absurd (true≢false (sym h))

-- a new pin shows the current project
made_at : (t u : Studio) (r : Reply) (sound : SoundMove) (p : ℕ) → r ≡ Reply.Pinned p
    → Leads t Call.Pin (result_of r) sound u
    → (u.state.pins p ≡ Some (current t.state)) × (p < u.state.next_pin)
made_at t u r sound p is leads =
    let ok : result_of r ≡ Ok (Reply.Pinned p) = ap result_of is in
    let same : p ≡ t.state.next_pin = cc (leads.tells (Reply.Pinned p) ok) in
    rw (leads.state, ok) (rw (eq-eqb p t.state.next_pin same), omega (arith, same))

pub made : (t u : Studio) (c : Call) (r : Reply) (sound : SoundMove) (p : ℕ) → makes_pin c r p ≡ true
    → Leads t c (result_of r) sound u
    → (u.state.pins p ≡ Some (current t.state)) × (p < u.state.next_pin)
made t u Call.Pin r sound p h leads = made_at t u r sound p (told_pin r p h) leads
made t u _ r sound p h leads = absurd (true≢false (sym h))

-- its number is the next one
pub made_number : (t u : Studio) (c : Call) (r : Reply) (sound : SoundMove) (p : ℕ) → makes_pin c r p ≡ true
    → Leads t c (result_of r) sound u → p ≡ t.state.next_pin
made_number t u Call.Pin r sound p h leads =
    cc (leads.tells (Reply.Pinned p) (ap result_of (told_pin r p h)))
made_number t u _ r sound p h leads = absurd (true≢false (sym h))
