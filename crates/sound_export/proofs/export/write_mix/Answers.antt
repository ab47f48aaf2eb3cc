-- The head, and then the frames.
use Rattle.std.proofs.Common.{◌≡◌, ℕ, ◌++◌, Bool, List, length, Some, sym, ap, subst, ◌∙◌, arith, Result}
use Rattle.std.proofs.lemmas.Result.{err_from_is_err_and}
use Rattle.std.specs.Prelude.{IsTrue}
use Rattle.pcm_base.proofs.Exits.{exit_err}
use Rattle.block_store.specs.declared.fault.BlockFault.{BlockFault}
use Rattle.pcm_base.specs.{declared.sound.Frame.Frame, Mix.mix_of, Recordings.frame_bytes}
use Rattle.edit_ports.specs.Sounds.{sound_bytes}
use Rattle.project_state.specs.Meaning.{meant, point_blocks}
use Rattle.cell_reader.specs.Stored.{stored_of}
use Rattle.wav_pcm.specs.{Wavs.wav_head, Written.MayBegin}
use Rattle.block_cache.specs.Readers.{Reads}
use Rattle.block_cache.proofs.ReaderLaws.{reads_none}
use Rattle.mix_reader.specs.Tracks.{mix_length_of}
use Rattle.mix_reader.proofs.TrackLaws.{stored_whole}
use Rattle.wav_pcm.proofs.GrowLaws.{begun_more, begun_front}
use Rattle.sound_export.proofs.GrowLaws.{length_mix, whole_text, device_fits, no_damage, start_long, start_counted}
use Rattle.sound_export.proofs.GrowLaws.{start_read, start_valid}
use Rattle.sound_export.specs.Written.{IsLengthFault}
use Rattle.sound_export.proofs.export.write_mix.Goals as goal

pub returns-in_err-append_mix-clause-whole : goal.returns-in_err-append_mix-clause-whole
returns-in_err-append_mix-clause-whole g c =
    λ whole. stored_whole (g.S.Store.reads c.args.reader.now.store) c.args.point.now whole

pub returns-in_err-append_mix-clause-failed : goal.returns-in_err-append_mix-clause-failed
returns-in_err-append_mix-clause-failed g c = λ told mine.
    let src = stored_of (g.S.Store.reads c.args.reader.now.store) in
    let mix : List Frame = mix_of (meant src c.args.point.now) in
    let name = c.args.name.now in
    let old = g.V.Vault.holds c.args.vault.now name in
    let mid = g.V.Vault.holds c.start_wav.new.vault name in
    let new = g.V.Vault.holds c.append_mix.new.vault name in
    let len : c.mix_len-len.result ≡ length mix =
    sym (length_mix (meant src c.args.point.now) ∙ c.mix_len-len.ensures.frames src) in
    let still : IsTrue (g.V.Vault.tells c.start_wav.new.vault) =
    subst (λ (b : Bool). IsTrue b) (sym c.start_wav.ensures.tells) told in
    let M : List ℕ → Type 0 = λ text. MayBegin text old new in
    let p = err_from_is_err_and c.from_residual.result c.from_residual.ensures.1 in
    rw p.1
    (subst M (whole_text mix c.args.rate c.mix_len-len.result len)
    (begun_more old mid new (wav_head c.mix_len-len.result c.args.rate) (frame_bytes mix)
    (c.in_default.ensures.started told) (c.in_err-append_mix.ensures.failed still mine)))

pub returns-in_err-append_mix-clause-long : goal.returns-in_err-append_mix-clause-long
returns-in_err-append_mix-clause-long g c =
    rw (exit_err c.from_residual.result c.from_residual.ensures.1)
    (device_fits (mix_length_of c.args.point.now) _
    (omega (arith, c.mix_len-len.ensures.value, c.in_default.ensures.fits)) c.in_err-append_mix.ensures.device)

pub returns-in_err-append_mix-clause-valid : goal.returns-in_err-append_mix-clause-valid
returns-in_err-append_mix-clause-valid g c = λ mine whole.
    rw (exit_err c.from_residual.result c.from_residual.ensures.1)
    (no_damage (g.S.Store.reads c.args.reader.now.store) (point_blocks c.args.point.now) _ whole
    (c.in_err-append_mix.ensures.reads.damaged mine))

pub returns-clause-whole : goal.returns-clause-whole
returns-clause-whole g c = λ whole. stored_whole (g.S.Store.reads c.args.reader.now.store) c.args.point.now whole

pub returns-clause-written : goal.returns-clause-written
returns-clause-written g c = λ told mine.
    let src = stored_of (g.S.Store.reads c.args.reader.now.store) in
    let mix : List Frame = mix_of (meant src c.args.point.now) in
    let len : c.mix_len-len.result ≡ length mix =
    sym (length_mix (meant src c.args.point.now) ∙ c.mix_len-len.ensures.frames src) in
    let still : IsTrue (g.V.Vault.tells c.start_wav.new.vault) =
    subst (λ (b : Bool). IsTrue b) (sym c.start_wav.ensures.tells) told in
    c.in_ok-append_mix.ensures.appended still mine
    ∙ ap (λ o. Some (sound_bytes o ++ frame_bytes mix)) (c.in_default.ensures.started told)
    ∙ ap Some (whole_text mix c.args.rate c.mix_len-len.result len)

pub returns-in-Err-clause-whole : goal.returns-in-Err-clause-whole
returns-in-Err-clause-whole g c = λ whole. stored_whole (g.S.Store.reads c.args.reader.now.store) c.args.point.now whole

pub returns-in-Err-clause-failed : goal.returns-in-Err-clause-failed
returns-in-Err-clause-failed g c = λ told mine.
    let src = stored_of (g.S.Store.reads c.args.reader.now.store) in
    let mix : List Frame = mix_of (meant src c.args.point.now) in
    let name = c.args.name.now in
    let old = g.V.Vault.holds c.args.vault.now name in
    let new = g.V.Vault.holds c.start_wav.new.vault name in
    let len : c.mix_len-len.result ≡ length mix =
    sym (length_mix (meant src c.args.point.now) ∙ c.mix_len-len.ensures.frames src) in
    let M : List ℕ → Type 0 = λ text. MayBegin text old new in
    subst M (whole_text mix c.args.rate c.mix_len-len.result len)
    (begun_front old new (wav_head c.mix_len-len.result c.args.rate) (frame_bytes mix) (c.in-Err.ensures.failed told))

pub returns-in-Err-clause-long : goal.returns-in-Err-clause-long
returns-in-Err-clause-long g c =
    let L : ℕ → Type 0 = λ n. IsLengthFault n c.start_fault.result in
    subst L c.mix_len-len.ensures.value
    (start_long c.mix_len-len.result c.in-Err.why c.start_fault.result c.in-Err.ensures.refused c.start_fault.ensures)

-- nothing was read
pub returns-in-Err-clause-reads : goal.returns-in-Err-clause-reads
returns-in-Err-clause-reads g c =
    subst (λ (r : Result (Unit {0}) BlockFault).
    Reads (point_blocks c.args.point.now) c.args.reader.now c.args.reader.now r)
    (sym (start_read c.in-Err.why c.start_fault.result c.start_fault.ensures))
    (reads_none tt (g.met.S.Store.may_fewer _))

pub returns-in_err-append_mix-clause-reads : goal.returns-in_err-append_mix-clause-reads
returns-in_err-append_mix-clause-reads g c =
    rw (exit_err c.from_residual.result c.from_residual.ensures.1) c.in_err-append_mix.ensures.reads

pub returns-clause-reads : goal.returns-clause-reads
returns-clause-reads g c = c.in_ok-append_mix.ensures.reads

pub returns-in-Err-clause-faults : goal.returns-in-Err-clause-faults
returns-in-Err-clause-faults g c =
    start_counted (g.V.Vault.fault_count c.args.vault.now)
    (g.V.Vault.fault_count c.start_wav.new.vault) c.mix_len-len.result c.in-Err.why c.start_fault.result
    c.in-Err.ensures.refused c.in-Err.ensures.faults c.start_fault.ensures

pub returns-in-Err-clause-valid : goal.returns-in-Err-clause-valid
returns-in-Err-clause-valid g c = λ mine whole. start_valid c.in-Err.why c.start_fault.result c.start_fault.ensures

pub returns-in_err-append_mix-clause-hit : goal.returns-in_err-append_mix-clause-hit
returns-in_err-append_mix-clause-hit g c =
    rw (exit_err c.from_residual.result c.from_residual.ensures.1) c.in_err-append_mix.ensures.hit
