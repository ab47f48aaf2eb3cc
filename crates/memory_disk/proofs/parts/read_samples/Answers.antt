-- One buffer more is read.
use Rattle.memory_disk.proofs.Common.{◌≡◌, ◌+◌, ◌-◌, ◌∙◌, ℕ, List, length, take, drop, length-drop, arith, common_steps, ap}
use Rattle.memory_disk.proofs.Common.{bytes_of, reads_of}
use Rattle.std.proofs.Common.{ℤ, ◌*◌}
use Rattle.std.proofs.lemmas.List.{length-take}
use Rattle.disk_model.specs.Parts.{samples_from}
use Rattle.memory_disk.proofs.PartReads.{from_on}
use Rattle.memory_disk.proofs.parts.read_samples.Goals as goal

pub buffers-preserved : goal.buffers-preserved
buffers-preserved c =
    let bytes : List ℕ = bytes_of (reads_of c.args.log.now.history c.args.file) in
    let done : ℕ = c.buffers.done in
    let n : ℕ = c.min.result in
    let k : ℕ = done + n - done in
    let out : List ℤ = c.buffers.out in
    let size : length (take k (drop done out)) ≡ n =
    omega (arith, length-take k (drop done out), length-drop done out, c.min.ensures) in
    let yes = c.if-not-read_buffer.false in
    let got : c.read_buffer.new.out ≡ samples_from bytes (c.args.at + 2 * done) n =
    c.read_buffer.ensures.samples yes ∙ ap (samples_from bytes (c.args.at + 2 * done)) size in
    record {
      within = grind (arith, common_steps);
      there = λ some. omega (arith, c.read_buffer.ensures.there.0 yes, size);
      samples = from_on bytes c.args.at done n k out c.read_buffer.new.out c.buffers.invariant.within
          c.buffers.invariant.samples got;
    }
