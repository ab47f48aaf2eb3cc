-- An import that reading the sound refuses.
use Rattle.std.proofs.Common.{◌≡◌, ◌<◌, inr, refl, ap, subst, ℕ, ◌+◌, Option, Some, None, List, Result, Ok, Err, arith}
use Rattle.std.specs.Prelude.{IfErr}
use Rattle.pcm_base.specs.{declared.command.Call.Call, declared.command.Call.TheVariants.Line}
use Rattle.pcm_base.specs.{declared.refusal.Refusal.Refusal, declared.wav.WavFault.TheVariants.Truncated}
use Rattle.pcm_base.specs.{Counters.counter_tests, Counters.record_test, Outside.Outside, Refusals.◌otherwise◌}
use Rattle.pcm_base.specs.{Refusals.call_tests, Run.outside, Run.stop_of}
use Rattle.disk_model.specs.declared.store.Store.{Ghosts}
use Rattle.disk_model.proofs.Frames.{Fewer}
use Rattle.wav_pcm.specs.declared.fault.SoundFault.TheVariants.{NoFile, Vault, BadWav, TooLong}
use Rattle.sound_import.specs.declared.fault.ImportFault.{ImportFault}
use Rattle.sound_import.specs.declared.fault.ImportFault.TheVariants.{Sound, RateDiffers}
use Rattle.sound_import.specs.Imported.{IsRefused, import_refusal}
use Rattle.editor_state.specs.Vaults.{IsCutShort, IsInsideOr, VaultCounted, VaultCountedBy, left_as}
use Rattle.editor_state.specs.{Core.Core, Makes.RefusedBrought, Makes.RefusedBroughtBy, Studios.IsStudio}
use Rattle.editor_state.specs.{Studios.studio_of, Took.Took, Took.with_sound}
use Rattle.block_writer.specs.Brought.{Brought}
use Rattle.editor_state.proofs.Refusals.EarlyRefusals.{refuses, stays, wants}
use Rattle.editor_state.proofs.{Refusals.RefusalEffects.IsPlain, Refusals.CounterNumbers.tests_needed}
use Rattle.pcm_base.specs.declared.command.Command.TheVariants as command
use Rattle.pcm_base.specs.declared.refusal.Refusal.TheVariants as refusal
use Rattle.pcm_base.specs.Studio as model
use Rattle.sound_import.specs.Imported as imported

-- the vault's count of faults is that of who brought its samples
counted_by : (why : Refusal) (old new : ℕ) → RefusedBroughtBy why old new → VaultCountedBy why old new
counted_by refusal.VaultFault old new counted = counted
counted_by why old new counted = counted

pub counted_so : {T : Type 0} (r : Result T Refusal) (old new : ℕ) → RefusedBrought r old new → VaultCounted r old new
counted_so (Ok x) old new counted = counted
counted_so (Err why) old new counted = counted_by why old new counted

-- ---- what a vault gave

-- a sound that is cut short has fewer bytes than it should
pub inside_short : {T : Type 0} (b : Brought) (r : Result T Refusal) (want have : ℕ) → IfErr r (IsInsideOr b)
    → IfErr r (λ why. why ≡ refusal.BadWav (Truncated want have) → have < want)
inside_short b (Ok x) want have inside = tt
inside_short b (Err why) want have inside = λ is. (subst (IsInsideOr b) is inside).1

abbrev HasLess : Refusal → Type 0
HasLess (refusal.BadWav (Truncated want have)) = have < want
HasLess why = Unit {0}

told_less : (why : ImportFault) → ((want have : ℕ) → why ≡ Sound (BadWav (Truncated want have)) → have < want)
    → HasLess (import_refusal why)
told_less (Sound (BadWav (Truncated want have))) less = less want have refl
told_less why less = tt

pub told_short : (why : ImportFault) → ((want have : ℕ) → why ≡ Sound (BadWav (Truncated want have)) → have < want)
    → (want have : ℕ) → import_refusal why ≡ refusal.BadWav (Truncated want have) → have < want
told_short why less want have is = subst HasLess is (told_less why less)

pub told_cut : (why : ImportFault) → imported.IsCutShort why → IsCutShort (import_refusal why)
told_cut (Sound (BadWav (Truncated want have))) cut = cut
told_cut why cut = absurd cut

-- it says nothing of the disk
pub import_plain : (why : ImportFault) → IsPlain (import_refusal why)
import_plain (Sound NoFile) = tt
import_plain (Sound Vault) = tt
import_plain (Sound (BadWav fault)) = tt
import_plain (Sound (TooLong frames)) = tt
import_plain (RateDiffers have want) = tt

module _ {D : Type 0} (disk : Ghosts D) (s : Core D) (is : IsStudio disk s) (fewer : Fewer disk s.store) (name : List ℕ)
    (sound : Option (List ℕ)) where
  abbrev call : Call
  call = Line (command.Import name)

  abbrev t : model.Studio
  t = studio_of disk s

  abbrev out : Outside
  out = outside t (left_as sound)

  abbrev rest : Option Refusal
  rest = (counter_tests out t call 0 0) otherwise (record_test 0)

  pub import_stopped : (faults : ℕ) → s.stopped ≡ Some faults
      → Took disk s (with_sound call (left_as sound) (Err (refusal.Stopped faults))) s
  import_stopped faults at =
      refuses disk s call (left_as sound) (refusal.Stopped faults) is fewer refl refl 0 (λ off. omega arith) 0
      (λ held. (omega arith, omega arith))
      (ap (λ (z : Option Refusal). z otherwise ((call_tests out t.state call) otherwise rest)) (ap stop_of at)) tt

  module _ (going : s.stopped ≡ None) where
    pub own_refused : (why : Refusal) → call_tests out t.state call ≡ Some why
        → Took disk s (with_sound call (left_as sound) (Err why)) s
    own_refused why test =
        refuses disk s call (left_as sound) why is fewer refl refl 0 (λ off. omega arith) 0
        (λ held. (omega arith, omega arith))
        (λ i. (stop_of (going i)) otherwise (test i) otherwise rest)
        (tests_needed disk s call (left_as sound) why test)

    pub import_wants : Took disk s (with_sound call (left_as sound) (Err refusal.NoMemory)) s
    import_wants = wants disk s call (left_as sound) is fewer tt refl 0 (λ held. (0, (omega arith, omega arith)))

    pub import_refused : (why : ImportFault) → IsRefused sound s.rate why
        → Took disk s (with_sound call (left_as sound) (Err (import_refusal why))) s
    import_refused (Sound NoFile) h = own_refused refusal.NoFile (h t.state)
    import_refused (Sound (BadWav fault)) h = own_refused (refusal.BadWav fault) (h t.state)
    import_refused (Sound (TooLong frames)) h = absurd h
    import_refused (RateDiffers have want) h = own_refused (refusal.RateDiffers have want) (h t.state)
    import_refused (Sound Vault) h =
        let none : s.next_block ≡ s.next_block + 0 = omega arith in
        stays disk s call (left_as sound) refusal.VaultFault is fewer refl refl 0 (λ off. omega arith) tt tt
        (λ held. (0, (omega arith, omega arith))) tt (λ held. inr (inr (
          refl,
          record {
            breaks = record {
              going = going;
              blocks = 0;
              len = 0;
              needs = (omega arith, omega arith);
              room = omega (arith, is.counters.block_most);
              is = λ i. record t { next_block = none i };
              leaves = refl;
            };
            stopped = going;
            reads = refl;
            changes = refl;
          },
        )))
