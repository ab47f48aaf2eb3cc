-- The promise, from what a run did.
use Rattle.session_run.proofs.Common.{◌≡◌, refl, sym, subst, ℕ, ◌==◌, List, [], ◌∷◌, Result, Ok, Err, true, Answers}
use Rattle.session_run.proofs.Common.{outside, result_of, Rose, Reply, Call, SoundMove, Refusal, IfErr, Ghosts, Each}
use Rattle.session_run.proofs.Common.{reply_of, Core, IsHeld, studio_of, Deed, entries_of, entry_of, AllTell, Chain}
use Rattle.session_run.proofs.Common.{Seats, is_by, Stop, Change, change, IsCauseOf}
use Rattle.session_run.proofs.EntryLemmas.{IsPlain}
use Rattle.std.specs.Prelude.{◌||◌}
use Rattle.editor_state.proofs.Calls.RunEntries.{plain, plain_result}
use Rattle.session_run.specs.Promise.{IsStoppedFor}
use Rattle.pcm_base.specs.Studio as model
use Rattle.edit_ports.specs.declared.vault.Vault as vault
use Rattle.script_reader.specs.declared.stop.Stop.TheVariants as stop
use Rattle.session_run.specs.Entries as entries

-- what stopped a script, by the output's count at the end
pub stopped_for : (s : Stop) (source : Change ℕ) (first then_ last : ℕ) → IsCauseOf s source (change first then_)
    → ((s ≡ stop.OutFault) → last ≡ then_) → IsStoppedFor s source (change first last)
stopped_for stop.End source first then_ last h same = h.0
stopped_for stop.Limit source first then_ last h same = h.0
stopped_for stop.SourceFault source first then_ last h same = h.1
stopped_for stop.OutFault source first then_ last h same =
    (h.0, subst (λ (n : ℕ). Rose first n) (sym (same refl)) h.2)

-- ---- the deeds of a studio that a disk holds

pub plain_of : (t u : model.Studio) (c : Call) (sound : SoundMove) (what : Result Reply Refusal)
    → Answers t c sound what u → result_of (reply_of what) ≡ what
plain_of t u c sound (Ok r) h = plain_result r (plain (outside t sound) t.state c r h.answers)
plain_of t u c sound (Err why) h = refl

-- no reply of theirs stands for a refusal
pub plain_deeds : {D V : Type 0} (disk : Ghosts D) (vaults : vault.Ghosts V) (old : Core D) (ds : List Deed)
    (new : Core D) → Chain disk vaults old ds new → AllTell vaults → IsHeld disk old → Each IsPlain ds
plain_deeds disk vaults old [] new chain told held = tt
plain_deeds disk vaults old (d ∷ ds) new (mid, does, chain) told held =
    let took = does.took (λ some. told) in (
      plain_of (studio_of disk old) (studio_of disk mid) d.call d.sound d.what (took.step held),
      plain_deeds disk vaults mid ds new chain told (took.held held),
    )

-- what holds of the answers of deeds, by their calls, holds of the replies of their entries
pub each_reply : (P : Call → Refusal → Type 0) (ds : List Deed) → Each (λ d. IfErr d.what (P d.call)) ds
    → Each IsPlain ds → Each (λ e. IfErr (result_of e.reply) (P e.call)) (entries_of ds)
each_reply P [] h plain = tt
each_reply P (d ∷ ds) h plain =
    (subst (λ (what : Result Reply Refusal). IfErr what (P d.call)) (sym plain.0) h.0, each_reply P ds h.1 plain.1)

-- each deed of a session is by one of its seats, of which the script's is the first
pub each_maker : (seats : Seats) → seats.script ≡ 0 → (ds : List Deed) → Each (λ d. is_by seats d ≡ true) ds
    → Each (λ e. (entries.is_by 0 e || (entries.is_by seats.recorder e || entries.is_by seats.player e)) ≡ true)
    (entries_of ds)
each_maker seats first [] h = tt
each_maker seats first (d ∷ ds) h = (
  subst (λ (n : ℕ). ((n == d.actor)
      || (entries.is_by seats.recorder (entry_of d) || entries.is_by seats.player (entry_of d))) ≡ true) first h.0,
  each_maker seats first ds h.1,
)
