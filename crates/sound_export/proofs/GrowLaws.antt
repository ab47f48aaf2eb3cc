-- How long a mix is, its text, and what is at fault where it is not written.
use Rattle.std.proofs.Common.{◌≡◌, ℕ, zero, suc, ◌+◌, List, ◌++◌, length, Option, Some, refl, sym, ap, subst, ◌∙◌, Ok}
use Rattle.std.proofs.Common.{arith}
use Rattle.std.proofs.lemmas.List.{length-map}
use Rattle.std.specs.Prelude.{IfErr}
use Rattle.disk_model.specs.Disk.{Files}
use Rattle.pcm_base.specs.Mix.{mix_of, mix_length, frame_at}
use Rattle.pcm_base.specs.{declared.block.BlockRef.BlockRef, declared.sound.Frame.Frame, Arithmetic.counted_from}
use Rattle.pcm_base.specs.{Cells.Project, Wave.wav_text, Recordings.frame_bytes, declared.refusal.Refusal.Refusal}
use Rattle.wav_pcm.specs.declared.fault.SoundFault.TheVariants.{NoFile, Vault, BadWav}
use Rattle.wav_pcm.specs.Parts.{IsFor, SoundCountedBy, sound_refusal}
use Rattle.wav_pcm.specs.{Wavs.FitsFile, Wavs.wav_head, declared.fault.SoundFault.SoundFault, Written.IsNotStarted}
use Rattle.wav_pcm.specs.{Written.IsThere}
use Rattle.sample_block.specs.Sources.{AllWhole}
use Rattle.block_store.specs.Reads.{IsFaultIn}
use Rattle.cell_reader.proofs.SeenLaws.{valid_in}
use Rattle.sound_export.specs.declared.fault.ExportFault.{ExportFault}
use Rattle.sound_export.specs.declared.fault.ExportFault.TheVariants.{TooLong, Block, VaultFault}
use Rattle.sound_export.specs.Written.{ExportCountedBy, IsLengthFault, IsNoDamage, IsOfDevice, fault_of_start}
use Rattle.sound_export.specs.Written.{read_part}
use Rattle.pcm_base.specs.declared.refusal.Refusal.TheVariants as refusal
use Rattle.wav_pcm.specs.declared.fault.SoundFault.TheVariants as wav

-- how many frames a mix has
length_counted : (n k : ℕ) → length (counted_from n k) ≡ k
length_counted n zero = refl
length_counted n (suc k) = omega (arith, length_counted (n + 1) k)

pub length_mix : (p : Project) → length (mix_of p) ≡ mix_length p
length_mix p = length-map (counted_from 0 (mix_length p)) (frame_at p) ∙ length_counted 0 (mix_length p)

pub whole_text : (fs : List Frame) (rate n : ℕ) → n ≡ length fs → wav_head n rate ++ frame_bytes fs ≡ wav_text fs rate
whole_text fs rate n is = ap (λ m. wav_head m rate ++ frame_bytes fs) is

-- a fault of the disk or of the vault, of a mix that fits
pub device_fits : (len : ℕ) (why : ExportFault) → FitsFile len → IsOfDevice why → IsLengthFault len why
device_fits len (TooLong frames) fits none = absurd none
device_fits len (Block why) fits of = fits
device_fits len VaultFault fits of = fits

-- where all blocks are whole no file is at fault
pub no_damage : (files : Files) (bs : List BlockRef) (why : ExportFault) → AllWhole files bs
    → IfErr (read_part why) (λ e. IsFaultIn files bs e) → IsNoDamage why
no_damage files bs (TooLong frames) whole is = tt
no_damage files bs (Block why) whole is = valid_in files bs why whole is
no_damage files bs VaultFault whole is = tt

-- ---- the file is begun

-- a sound that is there
pub is_there : (o : Option (List ℕ)) (bytes : List ℕ) → o ≡ Some bytes → IsThere o
is_there o bytes is = subst IsThere (sym is) refl

-- a fault of one that was not begun
start_by : (len : ℕ) (why : SoundFault) → IsNotStarted len why → IsLengthFault len (fault_of_start (sound_refusal why))
start_by len NoFile not = absurd not
start_by len Vault not = not
start_by len (BadWav fault) not = absurd not
start_by len (wav.TooLong count) not = not

pub start_long : (len : ℕ) (reason : Refusal) (why : ExportFault) → IsFor (IsNotStarted len) reason
    → why ≡ fault_of_start reason → IsLengthFault len why
start_long len reason why for is =
    subst (IsLengthFault len) (sym (is ∙ ap fault_of_start for.1)) (start_by len for.0 for.2)

-- its count: one was not begun as the vault failed, or as it is too long
counted_by : (old new len : ℕ) (why same : SoundFault) → IsNotStarted len why
    → sound_refusal why ≡ sound_refusal same → SoundCountedBy same old new
    → ExportCountedBy (fault_of_start (sound_refusal same)) old new
counted_by old new len NoFile same not is counted = absurd not
counted_by old new len (BadWav fault) same not is counted = absurd not
counted_by old new len Vault Vault not is counted = counted
counted_by old new len Vault (wav.TooLong count) not is counted = counted
counted_by old new len (wav.TooLong frames) Vault not is counted = counted
counted_by old new len (wav.TooLong frames) (wav.TooLong count) not is counted = counted
counted_by old new len _ _ not is counted = absurd cc

pub start_counted : (old new len : ℕ) (reason : Refusal) (why : ExportFault) → IsFor (IsNotStarted len) reason
    → IsFor (λ why. SoundCountedBy why old new) reason → why ≡ fault_of_start reason
    → ExportCountedBy why old new
start_counted old new len reason why not for is =
    subst (λ (w : ExportFault). ExportCountedBy w old new) (sym (is ∙ ap fault_of_start for.1))
    (counted_by old new len not.0 for.0 not.2 (sym not.1 ∙ for.1) for.2)

-- nothing was read
pub start_read : (reason : Refusal) (why : ExportFault) → why ≡ fault_of_start reason → read_part why ≡ Ok tt
start_read reason why is = ap read_part is ∙ by reason
  where
    by : (reason : Refusal) → read_part (fault_of_start reason) ≡ Ok tt
    by (refusal.TooLong frames) = refl
    by reason = refl

pub start_valid : (reason : Refusal) (why : ExportFault) → why ≡ fault_of_start reason → IsNoDamage why
start_valid reason why is = subst IsNoDamage (sym is) (by reason)
  where
    by : (reason : Refusal) → IsNoDamage (fault_of_start reason)
    by (refusal.TooLong frames) = tt
    by reason = tt
