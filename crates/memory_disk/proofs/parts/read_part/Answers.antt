-- The samples stand at their place.
use Rattle.memory_disk.proofs.Common.{◌≡◌, ◌+◌, ◌-◌, ◌∙◌, ℕ, List, length, take, drop, length-drop, arith, ap, sym}
use Rattle.memory_disk.proofs.Common.{bytes_of, reads_of, Files}
use Rattle.std.proofs.Common.{ℤ}
use Rattle.std.proofs.lemmas.List.{length-take}
use Rattle.disk_model.specs.declared.parts.Part.{Part}
use Rattle.disk_model.specs.Parts.{part_samples, put_at, samples_from}
use Rattle.disk_model.proofs.Buffers.{length_part, put_mid_at}
use Rattle.memory_disk.proofs.parts.read_part.Goals as goal

pub returns-clause-read : goal.returns-clause-read
returns-clause-read c = λ yes.
    let p : Part = c.args.part.now in
    let out : List ℤ = c.args.out.now in
    let files : Files = reads_of c.args.log.now.history in
    let k : ℕ = p.to + p.len - p.to in
    let same : k ≡ p.len = omega arith in
    let size : length (take k (drop p.to out)) ≡ p.len =
    omega (arith, length-take k (drop p.to out), length-drop p.to out, c.requires.within) in
    let is : c.read_samples.new.out ≡ part_samples files p =
    c.read_samples.ensures.samples yes ∙ ap (samples_from (bytes_of (files p.file)) p.at) size in
    put_mid_at p.to k out c.read_samples.new.out (ap length is ∙ length_part files p ∙ sym same)
    ∙ ap (λ (xs : List ℤ). put_at p.to xs out) is
