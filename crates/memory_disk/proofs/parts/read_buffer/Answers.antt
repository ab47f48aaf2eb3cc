-- The bytes that were read are those of the samples.
use Rattle.memory_disk.proofs.Common.{◌≡◌, ◌-◌, ◌≤◌, ℕ, List, length, take, refl, arith, bytes_of, reads_of}
use Rattle.std.proofs.Common.{◌*◌}
use Rattle.std.proofs.lemmas.List.{length-take}
use Rattle.memory_disk.proofs.PartReads.{buffer_from}
use Rattle.memory_disk.proofs.parts.read_buffer.Goals as goal

pub returns-clause-samples : goal.returns-clause-samples
returns-clause-samples c = λ yes.
    let bytes : List ℕ = bytes_of (reads_of c.args.log.now.history c.args.file) in
    let n : ℕ = length c.args.out.now in
    let size : ℕ = 2 * n in
    let was : List ℕ = take size c.args.buf.now in
    let len : length c.read_i16_into.new.dst ≡ n = omega (arith, c.read_i16_into.auto.dst) in
    let long : length was ≡ size = omega (arith, length-take size c.args.buf.now, c.requires.room) in
    let exact : c.read.result ≡ size = omega (arith, c.read.ensures.count, long) in
    let within : size ≤ length bytes - c.args.at = omega (arith, c.read.ensures.count, long) in
    buffer_from bytes was c.read.new.buf _ c.read_i16_into.new.dst c.args.at n size c.read.result len refl long exact
    within c.read.ensures.read c.read_i16_into.ensures
