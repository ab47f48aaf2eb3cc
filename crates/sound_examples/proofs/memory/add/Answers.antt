-- One chunk more, and those that were added where there is no room.
use Rattle.std.proofs.Common.{◌≡◌, ◌+◌, ◌++◌, ◌∷◌, [], ℤ, List, length, sym, ap, ◌∙◌, arith, rules}
use Rattle.std.proofs.lemmas.List.{length_push, take-map}
use Rattle.pcm_base.specs.Parts.{Part}
use Rattle.edit_ports.specs.Answers.{numbered_pieces}
use Rattle.sound_examples.specs.Memory.{pieces_of}
use Rattle.sound_examples.proofs.Numbers.{added_more}
use Rattle.sound_examples.proofs.memory.add.Goals as goal

pub returns-then-len-most-clause-added : goal.returns-then-len-most-clause-added
returns-then-len-most-clause-added c =
    let h = c.loop-chunk.invariant in
    let old = c.args.taken.now.items in
    rw h.count (h.added ∙ ap (λ (xs : List (List ℤ)). pieces_of old ++ numbered_pieces (length old) xs)
    (sym (take-map (λ (p : Part). p.samples) c.loop-chunk.chunk-index c.args.chunks.now)))

pub returns-then-is_err-clause-added : goal.returns-then-is_err-clause-added
returns-then-is_err-clause-added c =
    let h = c.loop-chunk.invariant in
    let old = c.args.taken.now.items in
    let same : c.push.new.self.items ≡ c.loop-chunk.taken.items = search rules in
    rw same (rw h.count (h.added ∙ ap (λ (xs : List (List ℤ)). pieces_of old ++ numbered_pieces (length old) xs)
    (sym (take-map (λ (p : Part). p.samples) c.loop-chunk.chunk-index c.args.chunks.now))))

pub loop-chunk-preserved : goal.loop-chunk-preserved
loop-chunk-preserved c =
    let i = c.loop-chunk.chunk-index in
    let h = c.loop-chunk.invariant in
    let here = c.loop-chunk.taken.items in
    let x = c.chunk-item.result in
    let pushed : c.push.new.self.items ≡ here ++ (x, length here + 1) ∷ [] = search rules in
    let count = h.count in
    let many = h.many in
    record {
      count = omega (arith, count);
      many = rw pushed (omega (arith, many, length_push here (x, length here + 1)));
      added = rw pushed (added_more here c.args.taken.now.items c.args.chunks.now i x _ c.loop-chunk-test.true
          c.chunk-item.is many h.added);
    }
