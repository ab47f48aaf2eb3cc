-- The channels of a sound whose frames are where a head says, as new tracks.
use Rattle.std.proofs.Common.{◌≡◌, ◌<◌, ◌+◌, ◌*◌, ◌^◌, ℕ, zero, suc, ℤ, Option, Some, None, List, ◌∷◌, Ok, Bool, true}
use Rattle.std.proofs.Common.{false, IsTrue, FitsSigned, length, map, replicate, refl, sym, ap, ap₂, subst, ◌∙◌, rules}
use Rattle.std.proofs.Math.Nat.{mul-add, mul_comm}
use Rattle.std.proofs.lemmas.Bool.{and_from, and_left, le-leb, true≢false}
use Rattle.std.specs.{Int.w16, List.range_with_len}
use Rattle.pcm_base.specs.{declared.command.Call.TheVariants.Line, Outside.Sounds, Pieces.stretch, Wave.wav_of}
use Rattle.disk_model.specs.declared.store.Store.{Ghosts}
use Rattle.edit_ports.specs.Sounds.{sound_bytes}
use Rattle.wav_pcm.specs.{declared.heads.WavHead.WavHead, Heads.Finds, Heads.HasShape, Heads.IsHeadOf, Heads.bytes_of}
use Rattle.block_writer.specs.Brought.{Brought, MayBring}
use Rattle.sound_import.specs.Reading.{are_there, brought_from, sample_at}
use Rattle.sound_import.proofs.{PartsLaws.channels_brought, SomeLaws.some_file}
use Rattle.record_body.specs.Saved.{current_tracks}
use Rattle.editor_state.specs.{declared.planned.Planned.Planned, Core.Core, Edits.IsEdit, Edits.IsPlanned}
use Rattle.editor_state.specs.{Edits.tagged_by, Vaults.HasChannels, Vaults.left_as, Studios.IsStudio}
use Rattle.editor_imports.specs.Imports.{IsChannelsPlan, channels_refusal, parts_from}
use Rattle.editor_imports.proofs.ChannelLaws.{parts_counts, total_alike}
use Rattle.editor_imports.proofs.ChannelSteps.{channels_edit, channels_planned}
use Rattle.pcm_base.specs.declared.command.Command.TheVariants as command

abbrev one_part : (ℕ → ℤ) → ℕ → ℕ → List ℤ
one_part f frames c = stretch f (c * frames) frames

next_part : (c frames : ℕ) → c * frames + frames ≡ (c + 1) * frames
next_part c frames = search (rules, mul_comm, mul-add)

-- parts of one length are one stretch after another
parts_later : (f : ℕ → ℤ) (frames c n : ℕ)
    → parts_from f (c * frames) (replicate n frames) ≡ map (one_part f frames) (range_with_len c n)
parts_later f frames c zero = refl
parts_later f frames c (suc n) =
    ap (λ (xs : List (List ℤ)). one_part f frames c ∷ xs)
    (ap (λ (k : ℕ). parts_from f k (replicate n frames)) (next_part c frames) ∙ parts_later f frames (c + 1) n)

pub parts_alike : (f : ℕ → ℤ) (n frames : ℕ)
    → parts_from f 0 (replicate n frames) ≡ map (one_part f frames) (range_with_len 0 n)
parts_alike f n frames = search (rules, parts_later)

found_has : (bytes : List ℕ) (head : WavHead) (rate : ℕ) → Finds head bytes (wav_of bytes) → head.rate ≡ rate
    → HasChannels (Some bytes) rate (parts_from (sample_at head bytes) 0 (replicate head.channels head.frames))
found_has bytes head rate finds same = search (rules, parts_alike, channels_brought)

-- a sound that is there has the channels that its head says
pub head_has : (sound : Option (List ℕ)) (head : WavHead) (rate : ℕ) → IsHeadOf sound head → head.rate ≡ rate
    → HasChannels sound rate (parts_from (sample_at head (sound_bytes sound)) 0 (replicate head.channels head.frames))
head_has None head rate of same = absurd of
head_has (Some bytes) head rate of same = found_has bytes head rate of same

-- and some sound has any samples of 16 bits
pub some_has : (samples : ℕ → ℤ) (head : WavHead) (rate : ℕ) → HasShape head → head.rate ≡ rate → 0 < head.rate
    → head.rate < 2 ^ 32 → ((i : ℕ) → FitsSigned w16 (samples i))
    → (bytes : List ℕ)
    × HasChannels (Some bytes) rate (parts_from samples 0 (replicate head.channels head.frames))
some_has samples head rate shape same some lt fit =
    let file = some_file head.rate head.channels head.frames samples some lt shape.some shape.few fit in (
      file.0,
      file.1
          ∙ ap₂ (λ (r : ℕ) (cs : List (List ℤ)). Ok (record { rate = r; channels = cs })) same
          (sym (parts_alike samples head.channels head.frames)),
    )

-- ---- as an edit

module _ {D : Type 0} (disk : Ghosts D) (s : Core D) (is : IsStudio disk s) (head : WavHead) (counts : List ℕ)
    (alike : counts ≡ replicate head.channels head.frames)
    (pass : channels_refusal (length (current_tracks s.history)) counts ≡ None) (p : Planned)
    (plan : IsChannelsPlan s counts p) (keeps : p.clip ≡ None) (samples : ℕ → ℤ) (b : Brought) where
  abbrev parts : List (List ℤ)
  parts = parts_from samples 0 (replicate head.channels head.frames)

  lengths : counts ≡ map length parts
  lengths = alike ∙ sym (parts_counts samples 0 (replicate head.channels head.frames))

  passes : channels_refusal (length (current_tracks s.history)) (map length parts) ≡ None
  passes = subst (λ (ns : List ℕ). channels_refusal (length (current_tracks s.history)) ns ≡ None) lengths pass

  plans : IsChannelsPlan s (map length parts) p
  plans = subst (λ (ns : List ℕ). IsChannelsPlan s ns p) lengths plan

  pub sound_planned : b.count ≡ head.channels * head.frames → IsPlanned s (tagged_by p 0 0 b samples)
  sound_planned count = search (rules, channels_planned, passes, plans, total_alike, parts_counts)

  pub sound_edit : (name : List ℕ) (sound : Option (List ℕ)) → HasChannels sound s.rate parts
      → IsEdit disk s (Line (command.Import name)) (left_as sound) (tagged_by p 0 0 b samples)
  sound_edit name sound has = search (rules, channels_edit, passes, plans, parts_counts)

-- ---- over a vault

-- a sound that has a head is there
some_sound : (sound : Option (List ℕ)) (head : WavHead) → IsHeadOf sound head → (bytes : List ℕ) × (sound ≡ Some bytes)
some_sound None head of = absurd of
some_sound (Some bytes) head of = (bytes, refl)

all_there : (sound : Option (List ℕ)) (head : WavHead) → IsHeadOf sound head
    → are_there head (sound_bytes sound) ≡ true
all_there None head of = absurd of
all_there (Some bytes) head of = le-leb (head.at + bytes_of head head.frames) (length bytes) of.within

module _ (tells : Bool) (sounds : Sounds) (name : List ℕ) (head : WavHead) (rate : ℕ)
    (found : IsTrue tells → IsHeadOf (sounds name) head) (same : head.rate ≡ rate) where
  abbrev brings : Brought
  brings = brought_from tells sounds name head

  -- a vault that tells its bytes tells all samples
  pub all_told : IsTrue tells → IsTrue brings.tells
  all_told told = and_from tells (are_there head (sound_bytes (sounds name))) told
      (all_there (sounds name) head (found told))

  -- and then the sound has the channels of the samples that came
  pub told_has : IsTrue tells → (samples : ℕ → ℤ) → MayBring brings samples
      → HasChannels (sounds name) rate (parts_from samples 0 (replicate head.channels head.frames))
  told_has told samples may = search (rules, all_told, head_has)

  -- whatever the vault tells, some bytes have them
  module _ (shape : HasShape head) (some : 0 < head.rate) (lt : head.rate < 2 ^ 32) (samples : ℕ → ℤ)
      (may : MayBring brings samples) where
    abbrev HasBytes : Type 0
    HasBytes = (bytes : List ℕ)
        × HasChannels (Some bytes) rate (parts_from samples 0 (replicate head.channels head.frames))

    bytes_by : (t : Bool) → tells ≡ t → (u : Bool) → brings.tells ≡ u → HasBytes
    bytes_by true e u is =
        let there = some_sound (sounds name) head (found e) in (
          there.0,
          subst (λ (sound : Option (List ℕ)). HasChannels sound rate
              (parts_from samples 0 (replicate head.channels head.frames))) there.1 (told_has e samples may),
        )
    bytes_by false e true is =
        absurd (true≢false (sym is ∙ and_left tells (are_there head (sound_bytes (sounds name))) e))
    bytes_by false e false is = some_has samples head rate shape same some lt (may.fit is)

    pub bytes_have : HasBytes
    bytes_have = bytes_by tells refl brings.tells refl
