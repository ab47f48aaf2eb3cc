-- One buffer more is read.
use Rattle.cell_reader.proofs.Common.{◌≡◌, ℕ, ◌+◌, ◌*◌, ◌-◌, ◌≤◌, List, ◌++◌, take, drop, map, length, arith, ◌∙◌, ap}
use Rattle.cell_reader.proofs.Common.{sym, subst, refl, length-map, map-append, take-put_mid, Files, bytes_of, Cell}
use Rattle.cell_reader.proofs.Common.{Sample, samples_in, length_samples, reads_none, reads_then, told_on}
use Rattle.std.proofs.{lemmas.Grind.common_steps}
use Rattle.sample_block.proofs.Laws.{samples_more}
use Rattle.cell_reader.proofs.{KeptLaws.samples_part, KeptLaws.hits_none, KeptLaws.hits_then}
use borrow.Rule.Slice.PartMut.{put_mid}
use Rattle.cell_reader.proofs.samples.read_buffers.Goals as goal

buffer_more : (bytes : List ℕ) (from done n m k : ℕ) (out part : List Cell) → done ≤ length out
    → take done out ≡ map Sample (samples_in bytes (16 + 2 * from) done)
    → part ≡ map Sample (samples_in bytes (16 + 2 * (from + done)) m) → m ≡ n
    → take (done + n) (put_mid done k out part) ≡ map Sample (samples_in bytes (16 + 2 * from) (done + n))
buffer_more bytes from done n m k out part le before got size =
    let at : ℕ = 16 + 2 * from in
    let place : 16 + 2 * (from + done) ≡ at + 2 * done = omega arith in
    let here : part ≡ map Sample (samples_in bytes (at + 2 * done) n) =
    got ∙ ap (λ (j : ℕ). map Sample (samples_in bytes (16 + 2 * (from + done)) j)) size
    ∙ ap (λ (j : ℕ). map Sample (samples_in bytes j n)) place in
    let long : length part ≡ n =
    ap length here ∙ length-map (samples_in bytes (at + 2 * done) n) Sample
    ∙ length_samples bytes (at + 2 * done) n in
    take-put_mid done k out part (done + n) (omega (arith, long)) le
    ∙ ap (λ (cs : List Cell). cs ++ part) before
    ∙ ap (λ (cs : List Cell). map Sample (samples_in bytes at done) ++ cs) here
    ∙ sym (map-append Sample (samples_in bytes at done) (samples_in bytes (at + 2 * done) n))
    ∙ ap (map Sample) (sym (samples_more bytes at done n))

pub buffers-init : goal.buffers-init
buffers-init g c = record {
  within = omega arith;
  reads = reads_none tt (g.met.S.Store.may_fewer _);
  hit = hits_none;
  stored = λ told. refl;
}

pub buffers-preserved : goal.buffers-preserved
buffers-preserved g c = record {
  within = grind (arith, common_steps);
  reads = reads_then {x = tt} c.buffers.invariant.reads c.in_default.ensures.reads;
  hit = hits_then (λ has. has) (λ has same. samples_part c.args.reader.now.cache c.buffers.reader.cache c.args.block
      c.args.from (length c.args.out.now) (c.args.from + c.buffers.done)
      (length (take (c.buffers.done + c.min.result - c.buffers.done) (drop c.buffers.done c.buffers.out))) same
      (omega arith) (grind (arith, common_steps)) has) c.buffers.invariant.hit c.in_default.ensures.hit;
  stored = λ told.
      let id = c.args.block.id in
      let still = told_on c.buffers.invariant.reads told in
      let m : ℕ = length (take (c.buffers.done + c.min.result - c.buffers.done) (drop c.buffers.done c.buffers.out)) in
      let bytes : List ℕ = bytes_of (g.S.Store.reads c.args.reader.now.store id) in
      let same : bytes_of (g.S.Store.reads c.buffers.reader.store id) ≡ bytes =
      ap (λ (f : Files). bytes_of (f id)) c.buffers.invariant.reads.kept.same_reads in
      let P : List ℕ → Type 0 =
      λ bs. c.read_buffer.new.out ≡ map Sample (samples_in bs (16 + 2 * (c.args.from + c.buffers.done)) m) in
      buffer_more bytes c.args.from c.buffers.done c.min.result _ _ c.buffers.out c.read_buffer.new.out
      c.buffers.invariant.within
      (c.buffers.invariant.stored told) (subst P same (c.in_default.ensures.stored still))
      (grind (arith, common_steps));
}

pub returns-in-Err-clause-reads : goal.returns-in-Err-clause-reads
returns-in-Err-clause-reads g c = reads_then {x = tt} c.buffers.invariant.reads c.in-Err.ensures.reads

pub returns-in-Err-clause-hit : goal.returns-in-Err-clause-hit
returns-in-Err-clause-hit g c =
    hits_then (λ has. has) (λ has same. samples_part c.args.reader.now.cache c.buffers.reader.cache c.args.block
    c.args.from (length c.args.out.now) (c.args.from + c.buffers.done)
    (length (take (c.buffers.done + c.min.result - c.buffers.done) (drop c.buffers.done c.buffers.out))) same
    (omega arith) (grind (arith, common_steps)) has) c.buffers.invariant.hit c.in-Err.ensures.hit
