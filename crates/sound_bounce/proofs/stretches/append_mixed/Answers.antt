-- What was mixed is appended.
use Rattle.sound_bounce.proofs.Common.{◌≡◌, ◌++◌, List, Some, subst, arith, length-take, OnErr, OnOk, Frame}
use Rattle.sound_bounce.proofs.Common.{frame_bytes, MayHaveGrown, sound_bytes, loaded_frames}
use Rattle.sound_bounce.proofs.VaultLemmas.{grown_by}
use Rattle.sound_bounce.proofs.stretches.append_mixed.Goals as goal

pub append_buffer-requires : goal.append_buffer-requires
append_buffer-requires g c =
    omega (
      arith,
      length-take c.args.loaded.now.len c.args.frames.now,
      c.requires.room,
      c.requires.bytes,
    )

pub returns : goal.returns
returns g c =
    let name = c.args.name.now in
    let old = g.V.Vault.holds c.args.vault.now name in
    let new = g.V.Vault.holds c.append_buffer.new.vault name in
    let W : List Frame → Type 0 = λ fs. OnOk c.append_buffer.result (new ≡ Some (sound_bytes old ++ frame_bytes fs)) in
    let F : List Frame → Type 0 = λ fs. OnErr c.append_buffer.result (MayHaveGrown (frame_bytes fs) old new) in
    grown_by g.V.Vault name c.args.vault.now c.append_buffer.new.vault (frame_bytes (loaded_frames c.args.loaded.now))
    c.append_buffer.result
    (λ told. subst W c.requires.mixed (c.append_buffer.ensures.appended told))
    (λ told. subst F c.requires.mixed (c.append_buffer.ensures.failed told))
    c.append_buffer.ensures.others c.append_buffer.ensures.tells c.append_buffer.ensures.cause
