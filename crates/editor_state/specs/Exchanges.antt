-- A call of a studio, and what comes of it.
use Rattle.std.specs.Prelude.{ℕ, Bool, true, false, if◌then◌else◌, None, List, [], Result, Ok, Err}
use Rattle.pcm_base.specs.Causes.{Cause, Test, Damage, Disk, Vault, Memory, cause_of}
use Rattle.pcm_base.specs.{declared.answer.Reply.Reply, declared.command.Call.Call}
use Rattle.pcm_base.specs.{declared.command.Call.TheVariants.Line, declared.command.Command.TheVariants.Import}
use Rattle.pcm_base.specs.{declared.entry.SoundMove.SoundMove, declared.refusal.Refusal.Refusal}
use Rattle.pcm_base.specs.{declared.wav.WavFault.TheVariants.Truncated}
use Rattle.pcm_base.specs.declared.refusal.Refusal.TheVariants as refusal

-- no sound was named
abbrev pub silent : SoundMove
silent = record { before = None; after = None }

-- an answer as a reply
abbrev pub as_reply : {A : Type 0} → (A → Reply) → Result A Refusal → Result Reply Refusal
as_reply f (Ok x) = Ok (f x)
as_reply f (Err why) = Err why

-- A call, and what comes of it: what becomes of the sound that it names, what it returns, and the ids of the blocks
-- whose files are removed, one after another.
pub record Exchange : Type 0 where
  pub call : Call
  pub sound : SoundMove
  pub told : Result Reply Refusal
  pub removed : List ℕ

abbrev pub exchange_of : Call → SoundMove → Result Reply Refusal → List ℕ → Exchange
exchange_of call sound told removed = record { call = call; sound = sound; told = told; removed = removed }

-- that of a call without a sound, with no file removed
abbrev pub quietly : Call → Result Reply Refusal → Exchange
quietly call told = exchange_of call silent told []

-- of a call that may name a sound, which moves so
abbrev pub with_sound : Call → SoundMove → Result Reply Refusal → Exchange
with_sound call sound told = exchange_of call sound told []

-- and of one without a sound that may remove files
abbrev pub freeing : Call → Result Reply Refusal → List ℕ → Exchange
freeing call told removed = exchange_of call silent told removed

-- Whether the disk broke a call off: a read or a change of it failed, or the file of a block is not as it has to be.
-- Each other reason comes before the disk is changed, but for an import that a vault cuts off.
abbrev pub breaks_off : Cause → Bool
breaks_off Test = false
breaks_off Damage = true
breaks_off Disk = true
breaks_off Vault = false
breaks_off Memory = false

abbrev pub is_broken_off : Refusal → Bool
is_broken_off why = breaks_off (cause_of why)

-- a vault failed, or gave fewer bytes than it said
abbrev pub is_cut_off : Refusal → Bool
is_cut_off refusal.VaultFault = true
is_cut_off (refusal.BadWav (Truncated want have)) = true
is_cut_off why = false

-- whether a device refused a call, so that it may have made blocks before
abbrev pub may_begin : Refusal → Bool
may_begin why = if is_cut_off why then true else is_broken_off why

-- a call that reads a sound while it makes blocks
abbrev pub reads_sound : Call → Bool
reads_sound (Line (Import name)) = true
reads_sound call = false

-- the same of one call: a vault cuts off none but an import
abbrev pub may_have_begun : Call → Refusal → Bool
may_have_begun call why = if reads_sound call then may_begin why else is_broken_off why

-- how many blocks may be begun in vain: the next one, where the disk breaks the call off
abbrev pub begun_in_vain : Result Reply Refusal → ℕ
begun_in_vain (Ok r) = 0
begun_in_vain (Err why) = if is_broken_off why then 1 else 0
