-- The file's own calls, where it is there.
use Rattle.memory_disk.proofs.Common.{◌≡◌, ◌++◌, ◌-◌, ℕ, Option, None, List, length, min, take, drop, refl, sym}
use Rattle.memory_disk.proofs.Common.{ap, ◌∙◌, arith, bytes_of, reads_of, Log}
use Rattle.memory_disk.proofs.ReadChain.{absent_read, reads_seen}
use Rattle.memory_disk.proofs.log.CallLog.read.Goals as goal

pub read_part-requires-clause-head : goal.read_part-requires-clause-head
read_part-requires-clause-head c =
    let found = rw c.deref.ensures.value at c.in-Some.ensures.there.0 in
    rw (c.deref-in-Some-2.ensures.value, c.deref-in-Some.ensures.value, c.deref-in-Some-3.ensures.value)
    (c.self.invariant.indexed.known c.args.file c.in-Some.head found).1

pub returns-in-None-clause-count : goal.returns-in-None-clause-count
returns-in-None-clause-count c =
    let none = rw c.deref.ensures.value at (c.in-None.ensures.absent refl) in
    let absent : reads_of c.args.self.now.history c.args.file ≡ None =
    ap (λ (log : Log). reads_of log.history c.args.file) (sym c.self.view_is)
    ∙ absent_read _ _ _ _ c.self.invariant.indexed c.args.file none in
    omega (arith, ap (λ (o : Option (List ℕ)). length (bytes_of o)) absent)

pub returns-in-Some : goal.returns-in-Some
returns-in-Some c =
    let found = rw c.deref.ensures.value at c.in-Some.ensures.there.0 in
    let same = reads_seen _ _ _ _ _ _ c.deref-in-Some-2.ensures.value c.deref-in-Some.ensures.value
    (c.self.invariant.indexed.known c.args.file c.in-Some.head found).0
    ∙ ap (λ (log : Log). reads_of log.history c.args.file) c.self.view_is in record {
      read =
          c.read_part.ensures.read ∙ ap (λ (o : Option (List ℕ)). take c.read_part.result (drop c.args.at (bytes_of o))
          ++ drop c.read_part.result c.args.buf.now) same;
      count =
          c.read_part.ensures.count
          ∙ ap (λ (o : Option (List ℕ)). min (length c.args.buf.now) (length (bytes_of o) - c.args.at)) same;
    }
