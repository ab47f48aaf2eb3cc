-- The header, and then the frames.
use Rattle.sound_bounce.proofs.Common.{ℕ, Bool, Err, subst, arith, IsTrue, known, views, Files, moved}
use Rattle.sound_bounce.proofs.FileLemmas.{file_done, file_refused, not_begun}
use Rattle.sound_bounce.proofs.VaultLemmas.{there_of}
use Rattle.sound_bounce.proofs.snapshot.write_file.Goals as goal

pub sized-requires : goal.sized-requires
sized-requires g c = omega (arith, c.in-Ok.ensures.fits)

pub write_stretches-requires-clause-few : goal.write_stretches-requires-clause-few
write_stretches-requires-clause-few g c = omega (arith, c.in-Ok.ensures.fits)

pub write_stretches-requires-clause-there : goal.write_stretches-requires-clause-there
write_stretches-requires-clause-there g c = λ _ _ told.
    let mid = g.V.Vault.holds c.start_wav.new.vault c.args.task.now.name.now in
    there_of mid _ (c.in-Ok.ensures.started (subst (λ (b : Bool). IsTrue b) c.start_wav.ensures.tells told))

pub returns-in-Ok-clause-files : goal.returns-in-Ok-clause-files
returns-in-Ok-clause-files g c =
    let rate = c.rate-per_second.result in
    let m = moved g.V.Vault c.args.task.now.name.now c.args.vault.now c.write_stretches.new.vault in
    let F : ℕ → Type 0 = λ n. Files n c.args.mix.pin c.args.task.now.batch c.args.mix.len c.sized.result
    (views (known c.args.seat.now) (known c.write_stretches.new.seat)) m in
    subst F c.rate-per_second.ensures
    (file_done g.V.Vault c.args.task.now.name.now rate c.args.mix.pin c.args.task.now.batch c.args.mix.len (known c.args.seat.now)
    (known c.write_stretches.new.seat) c.args.vault.now c.start_wav.new.vault c.write_stretches.new.vault
    c.in-Ok.ensures.fits c.in-Ok.ensures.started
    (record { others = c.start_wav.ensures.others; tells = c.start_wav.ensures.tells }) c.in-Ok.ensures.faults
    c.write_stretches.result c.sized.result c.sized.ensures c.write_stretches.ensures.loads)

pub returns-in-Err-clause-files : goal.returns-in-Err-clause-files
returns-in-Err-clause-files g c =
    let rate = c.rate-per_second.result in
    let m = moved g.V.Vault c.args.task.now.name.now c.args.vault.now c.start_wav.new.vault in
    let F : ℕ → Type 0 = λ n. Files n c.args.mix.pin c.args.task.now.batch c.args.mix.len (Err c.in-Err.reason)
    (views (known c.args.seat.now) (known c.args.seat.now)) m in
    subst F c.rate-per_second.ensures
    (file_refused g.V.Vault c.args.task.now.name.now rate c.args.mix.pin c.args.task.now.batch c.args.mix.len (known c.args.seat.now)
    c.args.vault.now c.start_wav.new.vault c.in-Err.reason
    (not_begun c.args.mix.len (g.V.Vault.fault_count c.args.vault.now) (g.V.Vault.fault_count c.start_wav.new.vault)
    c.in-Err.reason c.in-Err.ensures.refused c.in-Err.ensures.faults)
    (λ long. (c.start_wav.ensures.long long).1) c.in-Err.ensures.failed c.start_wav.ensures.others
    c.start_wav.ensures.tells)
