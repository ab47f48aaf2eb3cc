-- One stretch of a channel more is read.
use Rattle.std.proofs.Common.{◌≡◌, ◌+◌, ◌-◌, ◌/◌, ◌%◌, ℕ, ℤ, Bool, List, take, drop, length, arith, sym, ◌∙◌, subst}
use Rattle.std.proofs.lemmas.List.{length-drop, length-take}
use Rattle.std.proofs.{lemmas.List.Elements.All-append, lemmas.Slice.take-put_mid}
use Rattle.std.specs.{Prelude.IsTrue, Prelude.FitsSigned, Int.w16}
use Rattle.pcm_base.specs.Outside.{Sounds}
use Rattle.edit_ports.specs.Sounds.{sound_bytes}
use Rattle.wav_pcm.specs.Heads.{FitSamples, IsChannelOf, IsCut}
use Rattle.sound_import.proofs.ReaderLaws.{channel_more, never_cut, places}
use Rattle.sound_import.proofs.reader.read_samples.Goals as goal

pub returns-in-Err-clause-whole : goal.returns-in-Err-clause-whole
returns-in-Err-clause-whole g c = λ told there.
    let inv = c.channels.invariant in
    let name = c.args.name.now in
    let head = c.args.head.now in
    let done = c.channels.done in
    let count = c.min-count.result in
    let out : List ℤ = c.channels.out in
    let at : ℕ = (c.args.from + done) % head.frames in
    let part : List ℤ = take (done + count - done) (drop done out) in
    let T : Bool → Type 0 = λ b. IsTrue b in
    let C : Sounds → Type 0 = λ s. IsCut head at (length part) (sound_bytes (s name)) c.in-Err.why in
    let p = places c.args.from done (length c.args.out.now) head.channels head.frames c.requires.within
    (omega (arith, c.channels-test.true)) in
    let size : length part ≡ count = omega (
      arith,
      length-take (done + count - done) (drop done out),
      length-drop done out,
      c.min-count.ensures,
      c.channels.auto.out,
      inv.within,
    ) in
    never_cut head at (length part) (sound_bytes (g.V.Vault.holds c.args.vault.now name)) c.in-Err.why
    (omega (arith, size, c.min-count.ensures, p.2)) there
    (subst C inv.same (c.in-Err.ensures.refused (subst T (sym inv.tells) told)))

pub channels-preserved : goal.channels-preserved
channels-preserved g c =
    let inv = c.channels.invariant in
    let name = c.args.name.now in
    let head = c.args.head.now in
    let done = c.channels.done in
    let count = c.min-count.result in
    let out : List ℤ = c.channels.out in
    let place : ℕ = c.args.from + done in
    let part : List ℤ = take (done + count - done) (drop done out) in
    let T : Bool → Type 0 = λ b. IsTrue b in
    let p = places c.args.from done (length c.args.out.now) head.channels head.frames c.requires.within
    (omega (arith, c.channels-test.true)) in
    let size : length part ≡ count = omega (
      arith,
      length-take (done + count - done) (drop done out),
      length-drop done out,
      c.min-count.ensures,
      c.channels.auto.out,
      inv.within,
    ) in
    let new : length c.read_channel.new.out ≡ count = omega (arith, size, c.read_channel.auto.out) in
    let put = take-put_mid done (done + count - done) out c.read_channel.new.out (done + count) (omega (arith, new))
    (omega (arith, c.channels.auto.out, inv.within)) in
    let R : Sounds → Type 0 = λ s. IsChannelOf head (place % head.frames) (sound_bytes (s name)) (place / head.frames)
    c.read_channel.new.out in
    record {
      within = omega (arith, c.min-count.ensures, inv.within);
      read = λ told there. put
          ∙ channel_more head (sound_bytes (g.V.Vault.holds c.args.vault.now name)) c.args.from done count
          (take done out) c.read_channel.new.out p.1 p.0 (omega (arith, c.min-count.ensures, p.2)) there new
          (inv.read told there) (subst R inv.same (c.in_default.ensures.read (subst T (sym inv.tells) told)));
      fit = subst FitSamples (sym put)
          (All-append (λ s. FitsSigned w16 s) (take done out) c.read_channel.new.out inv.fit c.in_default.ensures.fit);
      same = c.in_default.ensures.same ∙ inv.same;
      tells = c.in_default.ensures.tells ∙ inv.tells;
      faults = c.in_default.ensures.faults ∙ inv.faults;
    }
