-- What refuses a sound.
use Rattle.std.proofs.Common.{◌≡◌, ◌≢◌, ◌⊎◌, ◌<◌, ◌∙◌, ℕ, List, [], Option, Some, None, Ok, Err, Result, ap, arith, inl}
use Rattle.std.proofs.Common.{inr, refl, subst, sym}
use Rattle.std.proofs.lemmas.Bool.{ne_eqb}
use Rattle.std.specs.Prelude.{IfErr}
use Rattle.pcm_base.specs.{declared.wav.WavFault.WavFault, declared.wav.WavFault.TheVariants.Truncated}
use Rattle.pcm_base.specs.{Refusals.file_tests, State.State, Wave.Sound, Wave.wav_of, Wave.wav_text}
use Rattle.wav_pcm.specs.declared.fault.SoundFault.TheVariants.{NoFile, Vault, BadWav, TooLong}
use Rattle.wav_pcm.specs.Parts.{HasFewer, IsOfSome, IsSomeReason}
use Rattle.wav_pcm.specs.{declared.heads.WavHead.WavHead, declared.fault.SoundFault.SoundFault, Wavs.stereo}
use Rattle.wav_pcm.proofs.{LessLaws.fault_less, WrittenLaws.written_back}
use Rattle.sound_import.specs.declared.fault.ImportFault.{ImportFault}
use Rattle.sound_import.specs.Imported.{IsCutShort, IsRefused, Refuses}
use Rattle.pcm_base.specs.declared.refusal.Refusal.TheVariants as refusal
use Rattle.sound_import.specs.declared.fault.ImportFault.TheVariants as fault

-- the reason that a sound has, as that of an import
bytes_refuse : (bytes : List ℕ) (rate : ℕ) (why : WavFault) → wav_of bytes ≡ Err why
    → Refuses (Some bytes) rate (refusal.BadWav why)
bytes_refuse bytes rate why says s = ap (file_tests rate s) says

-- and where the vault tells nothing it is that of some sound
pub some_refused : (rate : ℕ) (why : SoundFault) → IsSomeReason why
    → IsCutShort (fault.Sound why) ⊎ ((sound : Option (List ℕ)) × IsRefused sound rate (fault.Sound why))
some_refused rate NoFile some = inr (None, λ s. refl)
some_refused rate Vault some = inr (None, tt)
some_refused rate (BadWav why) (inl fewer) = inl fewer
some_refused rate (BadWav why) (inr of) = inr (Some of.0, bytes_refuse of.0 rate why of.1)
some_refused rate (TooLong count) some = absurd some

-- a reason that says that the sound is cut short names fewer bytes than were wanted
less_of : (why : WavFault) (want have : ℕ) → IsOfSome why → why ≡ Truncated want have → have < want
less_of why want have (inl fewer) is = subst HasFewer is fewer
less_of why want have (inr of) is = fault_less of.0 want have (of.1 ∙ ap (λ (w : WavFault). Err w) is)

abbrev bad_of : SoundFault → Type 0
bad_of (BadWav fault) = IsOfSome fault
bad_of why = Unit {0}

bad_some : (why : SoundFault) → IsSomeReason why → bad_of why
bad_some NoFile some = tt
bad_some Vault some = tt
bad_some (BadWav fault) some = some
bad_some (TooLong count) some = tt

abbrev sound_of : ImportFault → SoundFault
sound_of (fault.Sound why) = why
sound_of (fault.RateDiffers have want) = NoFile

same_sound : (a b : SoundFault) → fault.Sound a ≡ fault.Sound b → a ≡ b
same_sound a b e = ap sound_of e

pub sound_less : (why : SoundFault) (want have : ℕ) → IsSomeReason why
    → fault.Sound why ≡ fault.Sound (BadWav (Truncated want have)) → have < want
sound_less why want have some is =
    less_of (Truncated want have) want have (subst bad_of (same_sound why (BadWav (Truncated want have)) is) (bad_some why some)) refl

-- ---- another rate

rate_tested : (sound : Sound) (rate : ℕ) (s : State) → sound.rate ≢ rate
    → file_tests rate s (Ok sound) ≡ Some (refusal.RateDiffers sound.rate rate)
rate_tested sound rate s other = rw (ne_eqb sound.rate rate other) refl

-- and of some sound of that rate, without a frame
pub rate_reason : (r : Result WavHead ImportFault) (head : WavHead) (rate : ℕ)
    → IfErr r (λ why. (why ≡ fault.RateDiffers head.rate rate) × (head.rate ≢ rate)) → 0 < head.rate
    → IfErr r (λ _. head.rate < 4294967296)
    → IfErr r (λ why. IsCutShort why ⊎ ((sound : Option (List ℕ)) × IsRefused sound rate why))
rate_reason (Ok taken) head rate at some fits = tt
rate_reason (Err why) head rate at some fits =
    let bytes : List ℕ = wav_text [] head.rate in
    let says : wav_of bytes ≡ Ok (stereo [] head.rate) =
    written_back [] head.rate (λ k d lt. absurd (omega (arith, lt))) (omega arith) some (omega (arith, fits)) in
    inr (
      Some bytes,
      subst (λ (w : ImportFault). IsRefused (Some bytes) rate w) (sym at.0)
          (λ s. ap (file_tests rate s) says ∙ rate_tested (stereo [] head.rate) rate s at.1),
    )
