-- An export is a step, of which the vault's move is a part.
use Rattle.editor_core.proofs.Common.{◌≡◌, ◌⊎◌, ◌∙◌, inl, inr, refl, sym, ap, subst, ℕ, ◌+◌, List, Some, Ok, Err, arith}
use Rattle.editor_core.proofs.Common.{true≢false, IsOk, after_err, Line, mix_of, IsFaultIn, sources_of, AllNamed}
use Rattle.editor_core.proofs.Common.{AllWhole, Track, meant, point_blocks, current_tracks, HasHeard, IsUndamaged, Took}
use Rattle.editor_core.proofs.Common.{silent, as_reply, with_sound, Lasts, moved_from, IsHeld, core_of, lasts_idle}
use Rattle.editor_core.proofs.Common.{current_may_read, current_named, current_whole}
use Rattle.std.specs.Prelude.{IfErr, IsTrue}
use Rattle.pcm_base.specs.{Wave.wav_text}
use Rattle.disk_model.proofs.Frames.{kept_none}
use Rattle.mix_reader.specs.Tracks.{mix_length_of}
use Rattle.wav_pcm.specs.Written.{MayBegin}
use Rattle.sound_export.specs.Written.{read_part, refusal_of}
use Rattle.sound_export.specs.declared.fault.ExportFault.{ExportFault}
use Rattle.sound_export.specs.declared.fault.ExportFault.TheVariants.{TooLong, Block, VaultFault}
use Rattle.editor_state.specs.{Studios.named_blocks}
use Rattle.editor_state.proofs.Calls.VaultCalls.{lasts_looked}
use Rattle.editor_state.proofs.{Blocks.BlockDamage.part_among}
use Rattle.editor_views.proofs.ExportSteps.{export_failed, export_left, export_len, export_stopped, export_undamaged}
use Rattle.editor_views.proofs.ExportSteps.{exported}
use Rattle.pcm_base.specs.declared.answer.Reply.TheVariants as reply
use Rattle.pcm_base.specs.declared.command.Command.TheVariants as command
use Rattle.pcm_base.specs.declared.refusal.Refusal.TheVariants as refusal
use Rattle.editor_core.proofs.KeptPages.{of_current}
use Rattle.editor_core.proofs.studio.Studio.export.Given.{Over}
use Rattle.editor_core.proofs.studio.Studio.export.Goals.{In_err-bytes}
use Rattle.editor_core.proofs.studio.Studio.export.Goals as goal

-- a damaged file that it met is of a named block
damage_named : (g : Over) (c : In_err-bytes g) → IsTrue (g.S.Store.tells c.args.self.now.reader.store)
    → IfErr (read_part c.in_err-bytes.field-0.0)
    (λ e. IsFaultIn (g.S.Store.reads c.args.self.now.reader.store) (named_blocks (core_of c.args.self.now)) e)
damage_named g c told =
    let s = core_of c.args.self.now in
    let files = g.S.Store.reads s.store in
    let part = read_part c.in_err-bytes.field-0.0 in
    part_among files (named_blocks s) (point_blocks (current_tracks s.history)) part
    (current_named g.S.Store s c.requires)
    (subst (λ (z : List Track). IfErr part (λ e. IsFaultIn files (point_blocks z) e)) c.current_of-point.ensures
    (c.in_err-bytes.ensures.reads.damaged told))

pub returns-in-Some-clause-took : goal.returns-in-Some-clause-took
returns-in-Some-clause-took g c = λ told.
    let s = core_of c.args.self.now in
    let was = g.V.Vault.holds c.args.vault.now c.args.name.now in
    export_stopped g.S.Store s c.requires c.args.name.now (moved_from was was)
    (g.met.S.Store.may_fewer s.store) refl c.in-Some.faults c.in-Some.is

pub returns-in-Some-clause-kept : goal.returns-in-Some-clause-kept
returns-in-Some-clause-kept g c = kept_none _ (g.met.S.Store.may_fewer _)

pub write_sound-requires : goal.write_sound-requires
write_sound-requires g c =
    let s = core_of c.args.self.now in
    record {
      named = subst (λ (z : List Track). AllNamed (point_blocks z)) (sym c.current_of-point.ensures)
          (current_may_read g.S.Store s c.requires);
    }

pub returns-in_err-bytes-clause-took : goal.returns-in_err-bytes-clause-took
returns-in_err-bytes-clause-took g c = λ told.
    let s = core_of c.args.self.now in
    let at = goal.at.returns-in_err-bytes-clause-took g c in
    let cache = c.write_sound.new.reader.cache in
    let reads = c.in_err-bytes.ensures.reads in
    let files = g.S.Store.reads s.store in
    let name = c.args.name.now in
    let was = g.V.Vault.holds c.args.vault.now name in
    let now = g.V.Vault.holds c.write_sound.new.vault name in
    let sound = moved_from was now in
    let point = c.current_of-point.result.now in
    let same = c.current_of-point.ensures in
    let call = Line (command.Export name) in
    let why = c.in_err-bytes.field-0.0 in
    let whole : IsHeld g.S.Store s → AllWhole files (point_blocks point) =
    λ held. subst (λ (z : List Track). AllWhole files (point_blocks z)) (sym same)
    (current_whole g.S.Store s c.requires held) in
    let begun : IsHeld g.S.Store s
    → MayBegin (wav_text (mix_of (meant (sources_of files) (current_tracks s.history))) s.rate) was now =
    λ held. subst (λ (z : List Track). MayBegin (wav_text (mix_of (meant (sources_of files) z)) s.rate) was now) same
    (c.in_err-bytes.ensures.written told held.tells (whole held)) in
    after_err (λ r. Took g.S.Store s (with_sound call sound (as_reply reply.Wrote r))
    (record s { store = c.write_sound.new.reader.store; cache = cache; block_size = c.write_sound.new.self })) _
    c.from_residual.result c.from_residual.ensures.1
    (subst (λ (m : ℕ). Took g.S.Store s (with_sound call sound (Err (refusal_of why)))
    (record s { store = c.write_sound.new.reader.store; cache = cache; block_size = m }))
    (sym c.write_sound.ensures.same)
    (export_failed g.S.Store s c.requires name sound c.in_default.is c.write_sound.new.reader.store reads.kept cache
    (of_current g.S.Store s c.requires cache point same reads.cache) why (mix_length_of point)
    (ap mix_length_of same ∙ export_len g.S.Store s c.requires name sound) c.in_err-bytes.ensures.fits reads.faults
    (c.in_err-bytes.ensures.untouched told) begun (damage_named g at.In_err-bytes)))

pub returns-in_err-bytes-clause-valid : goal.returns-in_err-bytes-clause-valid
returns-in_err-bytes-clause-valid g c = λ held.
    let s = core_of c.args.self.now in
    let files = g.S.Store.reads s.store in
    let whole = subst (λ (z : List Track). AllWhole files (point_blocks z)) (sym c.current_of-point.ensures)
    (current_whole g.S.Store s c.requires held) in
    after_err (λ r. IfErr r IsUndamaged) _ c.from_residual.result c.from_residual.ensures.1
    (export_undamaged c.in_err-bytes.field-0.0 (c.in_err-bytes.ensures.valid held.tells whole))

pub returns-clause-took : goal.returns-clause-took
returns-clause-took g c = λ told.
    let s = core_of c.args.self.now in
    let cache = c.write_sound.new.reader.cache in
    let fine = c.in_ok-bytes.ensures in
    let files = g.S.Store.reads s.store in
    let name = c.args.name.now in
    let sound = moved_from (g.V.Vault.holds c.args.vault.now name) (g.V.Vault.holds c.write_sound.new.vault name) in
    let point = c.current_of-point.result.now in
    let same = c.current_of-point.ensures in
    let whole : IsHeld g.S.Store s → AllWhole files (point_blocks point) =
    λ held. subst (λ (z : List Track). AllWhole files (point_blocks z)) (sym same)
    (current_whole g.S.Store s c.requires held) in
    subst (λ (m : ℕ). Took g.S.Store s
    (with_sound (Line (command.Export name)) sound (Ok (reply.Wrote c.in_ok-bytes.bytes)))
    (record s { store = c.write_sound.new.reader.store; cache = cache; block_size = m }))
    (sym c.write_sound.ensures.same)
    (exported g.S.Store s c.requires name sound c.in_default.is c.write_sound.new.reader.store fine.reads.kept cache
    (of_current g.S.Store s c.requires cache point same fine.reads.cache) c.in_ok-bytes.bytes
    (mix_length_of point) (ap mix_length_of same ∙ export_len g.S.Store s c.requires name sound) fine.fits fine.len
    fine.reads.faults
    (λ held. fine.written told held.tells (whole held)
    ∙ ap (λ (z : List Track). Some (wav_text (mix_of (meant (sources_of files) z)) s.rate)) same))

pub returns-in-Some-clause-lasts : goal.returns-in-Some-clause-lasts
returns-in-Some-clause-lasts g c = λ sound.
    lasts_idle g.S.Store (core_of c.args.self.now) c.requires (g.met.S.Store.may_fewer c.args.self.now.reader.store)
    (Line (command.Export c.args.name.now)) tt sound (refusal.Stopped c.in-Some.faults) tt tt

pub returns-in_err-bytes-clause-lasts : goal.returns-in_err-bytes-clause-lasts
returns-in_err-bytes-clause-lasts g c = λ sound.
    let s = core_of c.args.self.now in
    let at = goal.at.returns-in_err-bytes-clause-lasts g c in
    let cache = c.write_sound.new.reader.cache in
    let reads = c.in_err-bytes.ensures.reads in
    let keeps = of_current g.S.Store s c.requires cache c.current_of-point.result.now c.current_of-point.ensures
    reads.cache in
    let call = Line (command.Export c.args.name.now) in
    let why = c.in_err-bytes.field-0.0 in
    after_err (λ r. Lasts g.S.Store s (with_sound call sound (as_reply reply.Wrote r))
    (record s { store = c.write_sound.new.reader.store; cache = cache; block_size = c.write_sound.new.self })) _
    c.from_residual.result c.from_residual.ensures.1
    (subst (λ (m : ℕ). Lasts g.S.Store s (with_sound call sound (Err (refusal_of why)))
    (record s { store = c.write_sound.new.reader.store; cache = cache; block_size = m }))
    (sym c.write_sound.ensures.same)
    (lasts_looked g.S.Store s c.requires call tt tt sound c.in_default.is c.write_sound.new.reader.store
    reads.kept cache keeps (Err (refusal_of why)) tt refl
    (export_left g.S.Store s c.requires c.args.name.now silent c.in_default.is c.write_sound.new.reader.store
    reads.kept cache keeps why reads.faults (damage_named g at.In_err-bytes))))

pub returns-clause-lasts : goal.returns-clause-lasts
returns-clause-lasts g c = λ sound.
    let s = core_of c.args.self.now in
    let cache = c.write_sound.new.reader.cache in
    let reads = c.in_ok-bytes.ensures.reads in
    let same : s.commit_number ≡ s.commit_number + 0 = omega arith in
    let call = Line (command.Export c.args.name.now) in
    let told = Ok (reply.Wrote c.in_ok-bytes.bytes) in
    subst (λ (m : ℕ). Lasts g.S.Store s (with_sound call sound told)
    (record s { store = c.write_sound.new.reader.store; cache = cache; block_size = m }))
    (sym c.write_sound.ensures.same)
    (lasts_looked g.S.Store s c.requires call tt tt sound c.in_default.is c.write_sound.new.reader.store reads.kept
    cache (of_current g.S.Store s c.requires cache c.current_of-point.result.now c.current_of-point.ensures reads.cache)
    told tt same tt)

-- what is at fault where it is not the disk
unread_fault : (why : ExportFault) → IsOk (read_part why)
    → (refusal_of why ≡ refusal.VaultFault) ⊎ ((frames : ℕ) × (refusal_of why ≡ refusal.TooLong frames))
unread_fault (TooLong frames) is = inr (frames, refl)
unread_fault (Block why) is = absurd (true≢false (sym is))
unread_fault VaultFault is = inl refl

pub returns-in_err-bytes-clause-hit : goal.returns-in_err-bytes-clause-hit
returns-in_err-bytes-clause-hit g c = λ going has.
    let cache = c.args.self.now.reader.cache in
    let kept = c.in_err-bytes.ensures.hit (subst (λ (z : List Track). HasHeard cache 0 (mix_length_of z) z)
    (sym c.current_of-point.ensures) has) in (
      after_err (λ r. IfErr r (λ why. (why ≡ refusal.VaultFault) ⊎ ((frames : ℕ) × (why ≡ refusal.TooLong frames)))) _
          c.from_residual.result c.from_residual.ensures.1 (unread_fault c.in_err-bytes.field-0.0 kept.0),
      kept.1,
      kept.2,
    )

pub returns-clause-hit : goal.returns-clause-hit
returns-clause-hit g c = λ going has.
    let cache = c.args.self.now.reader.cache in
    let kept = c.in_ok-bytes.ensures.hit (subst (λ (z : List Track). HasHeard cache 0 (mix_length_of z) z)
    (sym c.current_of-point.ensures) has) in
    (tt, kept.1, kept.2)
