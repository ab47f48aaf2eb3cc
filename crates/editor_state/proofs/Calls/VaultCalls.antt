-- What a call does over a vault, from what it does by itself.
use Rattle.editor_state.proofs.Common.{rules, ◌≡◌, ◌⊎◌, ◌<◌, inl, IfErr, refl, sym, ap, subst, ℕ, Bool, IsTrue, Option}
use Rattle.editor_state.proofs.Common.{Some, None, List, [], Result, Ok, Err, true≢false, none-some, same_Some, Heard}
use Rattle.editor_state.proofs.Common.{name_in, Reply, Call, Line, SoundMove, Refusal, Sounds, Command, Kept, Ghosts}
use Rattle.editor_state.proofs.Common.{Fewer, changed_kept, changed_none, kept_none, Entries, TookOver, Span, Core}
use Rattle.editor_state.proofs.Common.{reads_sound, Left, MayRemove, Untouched, Purges, IsStudio, Exchange, Took}
use Rattle.editor_state.proofs.Common.{number_behind, with_sound}
use Rattle.std.proofs.Common.{IfOk, is_some}
use Rattle.pcm_base.specs.Run.{name_in_line}
use Rattle.pcm_base.specs.{declared.wav.WavFault.TheVariants.Truncated, Outside.SameElsewhere}
use Rattle.pcm_base.specs.declared.answer.Reply.TheVariants as reply
use Rattle.pcm_base.specs.declared.refusal.Refusal.TheVariants as refusal
use Rattle.pcm_base.specs.declared.command.Command.TheVariants as command
use Rattle.editor_state.specs.Applied.{Imported, Lasts, sound_moved}
use Rattle.editor_state.specs.Exports.{moved_from}
use Rattle.editor_state.specs.Vaults.{IsCutShort, VaultCounted, left_as}
use Rattle.editor_state.specs.Took.{freeing, as_reply}
use Rattle.editor_state.proofs.Refusals.RefusalEffects.{IsPlain, left_plain}
use Rattle.editor_state.proofs.Calls.LookCalls.{looked_studio}
use Rattle.editor_state.proofs.Calls.OtherFiles.{others_none}
use Rattle.editor_state.proofs.Calls.FileRemovals.{PacksNone, RemovesNone, frees_none, frees_refused, ids_same}
use Rattle.editor_state.proofs.Calls.FileRemovals.{no_record, none_given}
use Rattle.editor_state.proofs.Refusals.EarlyRefusals.{stopped_not}
use Rattle.editor_state.proofs.Blocks.CachePages.{ReadsNamed}
pub use Rattle.editor_state.specs.Applied.{spanned}

kept_untouched : {D : Type 0} (disk : Ghosts D) (s new : Core D) (call : Call) (told : Result Reply Refusal)
    → Kept disk s.store new.store → Untouched disk s call told new
kept_untouched disk s new call (Ok r) kept = tt
kept_untouched disk s new call (Err why) kept = λ device. kept

module _ {D : Type 0} (disk : Ghosts D) (s : Core D) where
  -- a step lasts
  pub lasts_took : (exchange : Exchange) (new : Core D) → Took disk s exchange new → Lasts disk s exchange new
  lasts_took exchange new took = search rules

  -- nothing was done
  pub lasts_idle : IsStudio disk s → Fewer disk s.store → (call : Call) → RemovesNone call → (sound : SoundMove)
      (why : Refusal) → IsPlain why → Purges s.history call (Err why)
      → Lasts disk s (with_sound call sound (Err why)) s
  lasts_idle is fewer call none sound why plain purges = record {
    studio = is;
    number = refl;
    rests = λ some. refl;
    len = 0;
    records = no_record s (Err why) s;
    given = tt;
    changed = changed_none s.store (others_none s.next_block s.next_block (MayRemove call s.counts)) fewer;
    frees = frees_refused disk s call why s none;
    ids = ids_same s s refl refl;
    purges = purges;
    untouched = λ device. kept_none s.store fewer;
    stops = inl (refl, refl);
    left = left_plain disk s s.store why plain;
  }

  -- nothing was changed
  pub lasts_looked : (is : IsStudio disk s) (call : Call) → RemovesNone call → PacksNone call → (sound : SoundMove)
      → s.stopped ≡ None
      → (store : D) (kept : Kept disk s.store store) (cache : Entries) → ReadsNamed disk s cache
      → (told : Result Reply Refusal) → Purges s.history call told
      → s.commit_number ≡ number_behind told call s.commit_number
      → IfErr told (Left disk s (record s { store = store; cache = cache }))
      → Lasts disk s (with_sound call sound told) (record s { store = store; cache = cache })
  lasts_looked is call none plain sound going store kept cache keeps told purges number left = record {
    studio = looked_studio disk s is store kept cache keeps;
    number = number;
    rests = λ some. absurd (stopped_not s.stopped some going);
    len = 0;
    records = no_record s told (record s { store = store; cache = cache });
    given = none_given told s (record s { store = store; cache = cache }) refl;
    changed = changed_kept (others_none s.next_block s.next_block (MayRemove call s.counts)) kept;
    frees = frees_none disk s call told (record s { store = store; cache = cache }) none plain;
    ids = ids_same s (record s { store = store; cache = cache }) refl refl;
    purges = purges;
    untouched = kept_untouched disk s (record s { store = store; cache = cache }) call told kept;
    stops = inl (refl, kept.same_faults);
    left = left;
  }

  -- a call that names no sound
  pub over_silent : (tells : Bool) (sounds : Sounds) (call : Call) (told : Result Reply Refusal) (removed : List ℕ)
      (new : Core D) → name_in call ≡ None
      → Took disk s (freeing call told removed) new
      → TookOver disk (spanned tells s new sounds sounds) call told
  over_silent tells sounds call told removed new none took = search (rules, lasts_took, none-some)

-- one that names a sound
pub over_sound : {D : Type 0} (disk : Ghosts D) (span : Span D) (call : Call) (name : List ℕ)
    (told : Result Reply Refusal) → name_in call ≡ Some name
    → (IsTrue span.tells
    → Took disk span.old (with_sound call (moved_from (span.old_sounds name) (span.new_sounds name)) told) span.new)
    → (IsTrue span.tells → SameElsewhere name span.old_sounds span.new_sounds)
    → ((sound : SoundMove) → Lasts disk span.old (with_sound call sound told) span.new)
    → ((n : List ℕ) → call ≡ Line (command.Import n) → Imported disk span.old n told span.new)
    → TookOver disk span call told
over_sound disk span call name told named took others lasts imported = record {
  removed = [];
  took = λ is. subst (λ (o : Option (List ℕ)). Took disk span.old (with_sound call (sound_moved span o) told) span.new)
      (sym named) (took (is (ap is_some named)));
  heard = λ is. subst (λ (o : Option (List ℕ)). Heard o (sound_moved span o) span.old_sounds span.new_sounds)
      (sym named) (refl, refl, others (is (ap is_some named)));
  lasts = lasts (sound_moved span (name_in call));
  imported = imported;
}

-- an import in the words of a line
pub imported_done : {D : Type 0} (disk : Ghosts D) (old : Core D) (name : List ℕ) (result : Result ℕ Refusal)
    (new : Core D) → IfOk result (λ n. (bytes : List ℕ) × Took disk old
    (with_sound (Line (command.Import name)) (left_as (Some bytes)) (as_reply (λ _. reply.Done) result)) new)
    → IfErr result (λ why. IsCutShort why ⊎ ((sound : Option (List ℕ)) × Took disk old
    (with_sound (Line (command.Import name)) (left_as sound) (as_reply (λ _. reply.Done) result)) new))
    → ((want have : ℕ) → IfErr result (λ why. why ≡ refusal.BadWav (Truncated want have) → have < want))
    → Imported disk old name (as_reply (λ _. reply.Done) result) new
imported_done disk old name (Ok n) new some reason short = record { some = some; reason = tt; short = λ want have. tt }
imported_done disk old name (Err why) new some reason short = record { some = tt; reason = reason; short = short }

-- an import names one sound
pub import_name : (name n : List ℕ) → Line (command.Import name) ≡ Line (command.Import n) → name ≡ n
import_name name n same = same_Some name n (ap name_in same)

-- an export is none
pub export_none : (name n : List ℕ) → Line (command.Export name) ≡ Line (command.Import n) → ⊥
export_none name n same = true≢false (sym (ap reads_sound same))

-- a reply tells of the vault's count what the answer told
pub counted_told : {A : Type 0} (f : A → Reply) (answer : Result A Refusal) (old new : ℕ) → VaultCounted answer old new
    → VaultCounted (as_reply f answer) old new
counted_told f (Ok x) old new counted = counted
counted_told f (Err why) old new counted = counted

-- every line but an import, an export and a bounce names no sound
pub names_none : (c : Command) → ((name : List ℕ) → c ≡ command.Import name → ⊥)
    → ((name : List ℕ) → c ≡ command.Export name → ⊥) → ((name : List ℕ) → c ≡ command.Bounce name → ⊥)
    → name_in_line c ≡ None
names_none (command.Import name) a b d = absurd (a name refl)
names_none (command.Export name) a b d = absurd (b name refl)
names_none (command.Bounce name) a b d = absurd (d name refl)
names_none c a b d = refl
