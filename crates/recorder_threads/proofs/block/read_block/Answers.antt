-- What one read gave stands after what was read before.
use Rattle.std.proofs.Common.{◌≡◌, ◌<◌, ◌-◌, ℕ, zero, suc, List, length, take, drop, Ok, subst, arith, refl, sym, ◌∙◌}
use Rattle.std.proofs.{lemmas.Grind.common_steps, lemmas.List.length-drop, lemmas.List.length-take}
use Rattle.edit_ports.specs.Told.{Course, Open, Over, after_bytes}
use Rattle.edit_ports.proofs.ToldLaws.{preceded-nil}
use Rattle.recorder_threads.proofs.BlockLemmas.{read-more, read-none}
use Rattle.recorder_threads.proofs.block.read_block.Goals as goal

-- a read that gave bytes leaves more to come, and one that gave none found the end
goes_on : (n : ℕ) → 0 < n → after_bytes (Ok n) ≡ Open
goes_on zero some = absurd (omega (arith, some))
goes_on (suc n) some = refl

is_over : (n : ℕ) → n ≡ 0 → after_bytes (Ok n) ≡ Over
is_over zero none = refl
is_over (suc n) none = absurd (omega (arith, none))

-- there is room for a byte
room : (bytes : List ℕ) (len : ℕ) → len < length bytes → 0 < length (take (length bytes - len) (drop len bytes))
room bytes len free = omega (arith, length-take (length bytes - len) (drop len bytes), length-drop len bytes)

pub loop-len-init : goal.loop-len-init
loop-len-init g c = record { bound = omega arith; goes = λ first h. h; read = sym (preceded-nil _); count = refl }

pub returns-then-count-eq0-clause-read : goal.returns-then-count-eq0-clause-read
returns-then-count-eq0-clause-read g c =
    read-none _ _ _ c.loop-len.bytes c.read.new.buf c.loop-len.len (length c.loop-len.bytes - c.loop-len.len)
    c.in-Ok.count c.if-count-eq0.true (omega arith) c.loop-len.invariant.read c.in-Ok.ensures.bytes

pub returns-then-count-eq0-clause-goes : goal.returns-then-count-eq0-clause-goes
returns-then-count-eq0-clause-goes g c = λ first h.
    subst (λ (r : Course). g.M.Source.follows first r c.read.new.self) (is_over c.in-Ok.count c.if-count-eq0.true)
    (c.in-Ok.ensures.goes first (c.loop-len.invariant.goes first h)
    (room c.loop-len.bytes c.loop-len.len (omega arith)))

pub loop-len-preserved : goal.loop-len-preserved
loop-len-preserved g c = record {
  bound = grind (arith, common_steps);
  goes = λ first h.
      subst (λ (r : Course). g.M.Source.follows first r c.read.new.self) (goes_on c.in-Ok.count (omega arith))
      (c.in-Ok.ensures.goes first (c.loop-len.invariant.goes first h)
      (room c.loop-len.bytes c.loop-len.len (omega arith)));
  read = read-more _ _ _ c.loop-len.bytes c.read.new.buf c.loop-len.len (length c.loop-len.bytes - c.loop-len.len)
      c.in-Ok.count (omega arith) c.in-Ok.ensures.bound c.loop-len.invariant.read c.in-Ok.ensures.bytes;
  count = c.in-Ok.ensures.cause.kept ∙ c.loop-len.invariant.count;
}

pub returns-in-Err-clause-goes : goal.returns-in-Err-clause-goes
returns-in-Err-clause-goes g c = λ first h.
    c.in-Err.ensures.goes first (c.loop-len.invariant.goes first h) (room c.loop-len.bytes c.loop-len.len (omega arith))
