-- One buffer more is appended.
use Rattle.wav_pcm.proofs.Common.{◌≡◌, ◌+◌, ◌-◌, ◌++◌, ℕ, take, Some, arith, ap, ◌∙◌, frame_bytes, sound_bytes}
use Rattle.wav_pcm.proofs.GrowLaws.{held_more, held_failed}
use Rattle.wav_pcm.proofs.buffers.append_all.Goals as goal

pub returns-in-Err-clause-failed : goal.returns-in-Err-clause-failed
returns-in-Err-clause-failed g c = λ told there.
    let inv = c.buffers.invariant in
    let name = c.args.name.now in
    held_failed (g.V.Vault.holds c.args.vault.now name) (g.V.Vault.holds c.buffers.vault name)
    (g.V.Vault.holds c.append_buffer.new.vault name) c.buffers.done (c.buffers.done + c.min-count.result - c.buffers.done)
    c.args.frames.now (inv.held told there) (c.in-Err.ensures.failed (inv.tells ∙ told))

pub buffers-preserved : goal.buffers-preserved
buffers-preserved g c =
    let inv = c.buffers.invariant in
    let name = c.args.name.now in
    let done = c.buffers.done in
    let count = c.min-count.result in
    let same : done + (done + count - done) ≡ done + count = omega arith in
    record {
      within = omega (arith, c.min-count.ensures, inv.within);
      held = λ told there.
          held_more (g.V.Vault.holds c.args.vault.now name) (g.V.Vault.holds c.buffers.vault name)
          (g.V.Vault.holds c.append_buffer.new.vault name) done (done + count - done) c.args.frames.now
          (inv.held told there) (c.in-Ok.ensures.appended (inv.tells ∙ told))
          ∙ ap (λ (n : ℕ). Some (sound_bytes (g.V.Vault.holds c.args.vault.now name)
          ++ frame_bytes (take n c.args.frames.now))) same;
      others = λ told other differs. c.in-Ok.ensures.others (inv.tells ∙ told) other differs
          ∙ inv.others told other differs;
      tells = c.in-Ok.ensures.tells ∙ inv.tells;
      faults = c.in-Ok.ensures.cause.kept ∙ inv.faults;
    }
