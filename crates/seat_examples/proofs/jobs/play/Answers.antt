-- One read more.
use Rattle.std.proofs.Common.{rules, ◌≡◌, ◌∙◌, ◌<◌, ℕ, List, Result, refl, sym, ap, subst, take, length, arith}
use Rattle.std.proofs.lemmas.List.{length-take, take_all}
use Rattle.std.specs.Prelude.{IfOk}
use Rattle.pcm_base.specs.{declared.refusal.Refusal.Refusal, declared.sound.Frame.Frame}
use Rattle.pin_turn.specs.Calls.{known}
use Rattle.studio_seats.specs.Onward.{IsReadOf, Onward, worker}
use Rattle.studio_seats.specs.{Desks.IsAt, Desks.start_at, Shows.IsMixOf, Stands.origin}
use Rattle.studio_seats.proofs.{OnwardLemmas.onward_on, OnwardLemmas.onward_self, ReadLemmas.reads_self}
use Rattle.seat_examples.proofs.jobs.play.Goals as goal

-- what was read with room to spare is all that there is
all_read : (all out mix : List Frame) (count room : ℕ) → length mix < room → take count out ≡ mix
    → take count out ≡ take room all → all ≡ mix
all_read all out mix count room spare is given =
    let cut : take room all ≡ mix = sym given ∙ is in
    let len = ap length cut in
    let some = length-take room all in
    sym (take_all room all (omega (arith, len, some, spare))) ∙ cut

pub reads-init : goal.reads-init
reads-init g c =
    let new = c.new-giver in
    let of = new.ensures.of in
    let o = origin g.S.Store g.V.Vault (start_at c.args.desk.now) in
    record {
      desk = of.0;
      pin = of.1;
      goes = subst (Onward (IsReadOf c.args.pin) (known c.args.seat)) (sym new.ensures.seat)
          (onward_self (IsReadOf c.args.pin) (known c.args.seat));
      shows = λ all h.
          subst (λ (d : _). IsMixOf (origin g.S.Store g.V.Vault (start_at d)) (known new.result.seat).seen new.result.pin all)
          (sym of.0)
          (subst (λ (v : _). IsMixOf o v.seen new.result.pin all) (sym new.ensures.seat)
          (subst (λ (p : ℕ). IsMixOf o (known c.args.seat).seen p all) (sym of.1) h));
      read = λ some. absurd (omega (arith, some));
    }

pub returns-then-not-is_mix-clause-same : goal.returns-then-not-is_mix-clause-same
returns-then-not-is_mix-clause-same g c =
    let s = c.reads.giver in
    let on = c.give_frames.ensures.goes s (refl, refl, reads_self s.pin (worker (known s.seat) s.refused)) (omega arith)
    (omega arith) in
    subst (λ (d : _). IsAt d c.into_seat.result) (on.0 ∙ c.reads.invariant.desk) c.into_seat.ensures.at

pub returns-in-Err-clause-same : goal.returns-in-Err-clause-same
returns-in-Err-clause-same g c =
    let s = c.reads.giver in
    let on = c.give_frames.ensures.goes s (refl, refl, reads_self s.pin (worker (known s.seat) s.refused)) (omega arith)
    (omega arith) in
    subst (λ (d : _). IsAt d c.into_seat-in-Err.result) (on.0 ∙ c.reads.invariant.desk) c.into_seat-in-Err.ensures.at

pub returns-then-not-is_mix-clause-goes : goal.returns-then-not-is_mix-clause-goes
returns-then-not-is_mix-clause-goes g c =
    let s = c.reads.giver in
    let here = known c.give_frames.new.self.seat in
    let on = c.give_frames.ensures.goes s (refl, refl, reads_self s.pin (worker (known s.seat) s.refused)) (omega arith)
    (omega arith) in
    let goes = subst (λ (pin : ℕ). Onward (IsReadOf pin) (known s.seat) here) c.reads.invariant.pin on.2.onward in
    subst (Onward (IsReadOf c.args.pin) (known c.args.seat)) (sym c.into_seat.ensures.seat)
    (onward_on (IsReadOf c.args.pin) (known c.args.seat) (known s.seat) here c.reads.invariant.goes goes)

pub returns-in-Err-clause-goes : goal.returns-in-Err-clause-goes
returns-in-Err-clause-goes g c =
    let s = c.reads.giver in
    let here = known c.give_frames.new.self.seat in
    let on = c.give_frames.ensures.goes s (refl, refl, reads_self s.pin (worker (known s.seat) s.refused)) (omega arith)
    (omega arith) in
    let goes = subst (λ (pin : ℕ). Onward (IsReadOf pin) (known s.seat) here) c.reads.invariant.pin on.2.onward in
    subst (Onward (IsReadOf c.args.pin) (known c.args.seat)) (sym c.into_seat-in-Err.ensures.seat)
    (onward_on (IsReadOf c.args.pin) (known c.args.seat) (known s.seat) here c.reads.invariant.goes goes)

pub reads-preserved : goal.reads-preserved
reads-preserved g c =
    let s = c.reads.giver in
    let inv = c.reads.invariant in
    let here = known c.give_frames.new.self.seat in
    let out = c.give_frames.new.out in
    let on = c.give_frames.ensures.goes s (refl, refl, reads_self s.pin (worker (known s.seat) s.refused)) (omega arith)
    (omega arith) in
    let more = subst (λ (pin : ℕ). Onward (IsReadOf pin) (known s.seat) here) inv.pin on.2.onward in
    let shows : List Frame → Type 0 =
    IsMixOf (origin g.S.Store g.V.Vault (start_at s.desk.now)) (known s.seat).seen s.pin in
    let told : ℕ → Type 0 = λ count. (all : List Frame) → shows all → take count out ≡ take 8 all in
    let given = subst (λ (r : Result ℕ Refusal). IfOk r told) c.in-Ok.is c.give_frames.ensures.given in
    let is = c.is_mix.ensures.0 (search (rules, c.if-not-is_mix.false)) in
    record {
      desk = on.0 ∙ inv.desk;
      pin = on.1 ∙ inv.pin;
      goes = onward_on (IsReadOf c.args.pin) (known c.args.seat) (known s.seat) here inv.goes more;
      shows = λ all h. (c.give_frames.ensures.same all).0 (inv.shows all h);
      read = λ some all h.
          let spare : length c.args.mix.now < 8 = omega (arith, c.told-mix) in
          all_read all out c.args.mix.now c.in-Ok.count 8 spare is (given all (inv.shows all h));
    }

pub returns-clause-done : goal.returns-clause-done
returns-clause-done g c = λ done some. c.reads.invariant.read (omega (arith, some, c.reads-test.false))
