-- One call more, until all are there.
use Rattle.memory_disk.proofs.Common.{◌≡◌, ℕ, length, sym, subst, arith, vec_len, IsIndexed, reads_at, file_at}
use Rattle.memory_disk.proofs.Noted.{indexed_none}
use Rattle.memory_disk.proofs.index.index_of.Goals as goal

pub loop-index-init : goal.loop-index-init
loop-index-init c =
    let none = c.in_ok-index.ensures.none in
    let empty = c.in_ok-index.ensures.empty in
    record {
      bound = omega (arith, empty.1);
      indexed = indexed_none c.args.row.now c.args.calls.now _ _ _ empty.1 none.0 none.1;
    }

pub loop-index-preserved : goal.loop-index-preserved
loop-index-preserved c =
    let more = c.in_ok-note.ensures in
    record {
      bound = omega (arith, more.len);
      indexed = subst (λ (k : ℕ). IsIndexed (reads_at c.args.row.now c.args.calls.now) (file_at c.args.calls.now) k
          c.note.new.self.heads.items c.note.new.self.links.items) (sym more.len) more.indexed;
    }

pub returns-clause-indexed : goal.returns-clause-indexed
returns-clause-indexed c =
    let done = c.loop-index.invariant in
    let all : vec_len c.loop-index.index.links ≡ length c.args.calls.now = omega (arith, done.bound) in
    rw (c.in_ok-reserve_exact.ensures.items, c.in_ok-reserve_exact-2.ensures.items, ← all) done.indexed
