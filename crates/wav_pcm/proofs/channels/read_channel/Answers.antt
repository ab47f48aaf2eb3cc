-- One buffer more is read, or it is not whole.
use Rattle.wav_pcm.proofs.Common.{◌≡◌, ◌+◌, ◌-◌, ℕ, List, take, drop, length, arith, ap, sym, ◌∙◌, subst}
use Rattle.wav_pcm.proofs.Common.{length-take-le, take-put_mid, FitsSigned, w16, Sounds, sound_bytes, FitSamples}
use Rattle.wav_pcm.proofs.Common.{IsChannelOf, bytes_of}
use Rattle.std.proofs.lemmas.{List.Elements.All-append}
use Rattle.std.specs.{Prelude.ℤ}
use Rattle.wav_pcm.proofs.ChannelLaws.{bytes_le, part_size, cut_here, channel_joined}
use Rattle.wav_pcm.proofs.channels.read_channel.Goals as goal

pub cut-requires-clause-some : goal.cut-requires-clause-some
cut-requires-clause-some g c =
    let le = bytes_le c.args.of.head c.buffers.done c.min-count.result (length c.args.out.now)
    (omega (arith, c.min-count.ensures, c.buffers.invariant.within)) in
    omega (arith, le, c.if-have-bytes_in.true, c.bytes_in.ensures.value)

pub returns-then-have-bytes_in-clause-refused : goal.returns-then-have-bytes_in-clause-refused
returns-then-have-bytes_in-clause-refused g c = λ told.
    let inv = c.buffers.invariant in
    cut_here c.args.of.head c.args.from c.buffers.done c.min-count.result (length c.args.out.now) c.in-Ok.have
    c.args.of.c (g.V.Vault.holds c.args.vault.now) _ c.args.name.now c.buffers.out c.cut.result inv.same
    (omega (arith, c.buffers.auto.out)) (omega (arith, c.min-count.ensures, inv.within)) (inv.read told)
    (c.in-Ok.ensures.count (inv.tells ∙ told))
    (omega (arith, c.if-have-bytes_in.true, c.bytes_in.ensures.value)) c.cut.ensures.value

pub buffers-preserved : goal.buffers-preserved
buffers-preserved g c =
    let inv = c.buffers.invariant in
    let name = c.args.name.now in
    let head = c.args.of.head in
    let done = c.buffers.done in
    let count = c.min-count.result in
    let out : List ℤ = c.buffers.out in
    let bytes : List ℕ = sound_bytes (g.V.Vault.holds c.args.vault.now name) in
    let part : List ℤ = take (done + count - done) (drop done out) in
    let size = part_size done count out (omega (arith, c.min-count.ensures, c.buffers.auto.out, inv.within)) in
    let new : length c.read_buffer.new.out ≡ count = omega (arith, size, c.read_buffer.auto.out) in
    let front = length-take-le done out (omega (arith, c.buffers.auto.out, inv.within)) in
    let put = take-put_mid done (done + count - done) out c.read_buffer.new.out (done + count) (omega (arith, new))
    (omega (arith, c.buffers.auto.out, inv.within)) in
    let R : Sounds → Type 0 = λ s. c.in-Ok.have ≡ bytes_of head (length part)
    → IsChannelOf head (c.args.from + done) (sound_bytes (s name)) c.args.of.c c.read_buffer.new.out in
    let all = ap (bytes_of head) size in
    let whole : c.in-Ok.have ≡ bytes_of head (length part) =
    omega (arith, c.if-have-bytes_in.false, c.bytes_in.ensures.value, c.in-Ok.ensures.within, all) in
    record {
      within = omega (arith, c.min-count.ensures, inv.within);
      read = λ told. subst (λ (xs : List ℤ). IsChannelOf head c.args.from bytes c.args.of.c xs) (sym put)
          (channel_joined head c.args.from c.args.of.c done count bytes (take done out) c.read_buffer.new.out
          c.requires.channel front new (inv.read told)
          (subst R inv.same (c.in-Ok.ensures.read (inv.tells ∙ told)) whole));
      fit = subst FitSamples (sym put)
          (All-append (λ s. FitsSigned w16 s) (take done out) c.read_buffer.new.out inv.fit (c.in-Ok.ensures.fit whole));
      same = c.in-Ok.ensures.same ∙ inv.same;
      tells = c.in-Ok.ensures.tells ∙ inv.tells;
      faults = c.in-Ok.ensures.faults ∙ inv.faults;
    }
