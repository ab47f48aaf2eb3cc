-- One number more.
use Rattle.std.proofs.Common.{◌≡◌, ℕ, List, ◌+◌, ◌-◌, [], ◌∷◌, ◌++◌, refl, sym, ap, ◌∙◌, arith, append_assoc}
use Rattle.std.proofs.lemmas.List.{append-nil}
use Rattle.pcm_base.specs.Arithmetic.{counted_from}
use Rattle.pcm_base.proofs.ListFacts.{counted_more}
use Rattle.recorder_threads.proofs.track.list_numbers.Goals as goal

pub numbers-init : goal.numbers-init
numbers-init c = record { items = sym (append-nil _); len = omega arith; capacity = refl }

pub push_reserved-requires : goal.push_reserved-requires
push_reserved-requires c =
    let i = c.numbers.invariant in
    omega (arith, i.len, i.capacity, c.requires.room, c.numbers-test.true)

pub numbers-preserved : goal.numbers-preserved
numbers-preserved c =
    let i = c.numbers.invariant in
    let from : ℕ = c.args.last - c.args.count + 1 in
    let n : c.args.last - (c.args.count - 1 - c.numbers.i) ≡ from + c.numbers.i =
    omega (arith, c.requires.high, c.numbers-test.true) in
    record {
      items = c.push_reserved.ensures.items
          ∙ ap (λ (l : List ℕ). l ++ (c.args.last - (c.args.count - 1 - c.numbers.i)) ∷ []) i.items
          ∙ ap (λ (m : ℕ). (c.args.numbers.now.items ++ counted_from from c.numbers.i) ++ m ∷ []) n
          ∙ append_assoc c.args.numbers.now.items (counted_from from c.numbers.i) ((from + c.numbers.i) ∷ [])
          ∙ ap (λ (l : List ℕ). c.args.numbers.now.items ++ l) (sym (counted_more from c.numbers.i));
      len = omega (arith, c.push_reserved.ensures.len, i.len);
      capacity = c.push_reserved.ensures.capacity ∙ i.capacity;
    }
