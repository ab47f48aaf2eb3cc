-- The blocks whose files a call removes were counted before, and not after.
use Rattle.session_run.proofs.Common.{◌≡◌, ⊎_elim, refl, sym, subst, ℕ, ◌+◌, ◌-◌, ◌≤◌, ◌<◌, List, [], ◌∷◌, length}
use Rattle.session_run.proofs.Common.{Result, IsSome, None, arith, Contains, IsStrictlyIncreasing, Reply, Call, Refusal}
use Rattle.session_run.proofs.Common.{Ghosts, Core, IsHeld, IsStudio}
use Rattle.editor_state.specs.{Left.CountsIds, Removals.Frees}
use Rattle.session_run.proofs.MissingLemmas.{AreFrom, missing, missing_gone, missing_more}
use Rattle.pcm_base.specs.declared.command.Call.TheVariants as call
use Rattle.pcm_base.specs.declared.command.Command.TheVariants as command

module _ {D : Type 0} (disk : Ghosts D) (old new : Core D) (told : Result Reply Refusal) (removed : List ℕ)
    (is : IsStudio disk old) (held : IsHeld disk old) (going : old.stopped ≡ None) where
  -- they rise, and were counted
  record WereThere : Type 0 where
    rising : IsStrictlyIncreasing removed
    were : (id : ℕ) → Contains removed id → IsSome (old.counts id)

  none : removed ≡ [] → WereThere
  none e = record {
    rising = subst IsStrictlyIncreasing (sym e) (λ k lt. absurd (omega (arith, lt)));
    were = λ id there. absurd (nothing id (subst (λ (ids : List ℕ). Contains ids id) e there));
  }
    where
      nothing : (id : ℕ) → Contains [] id → ⊥
      nothing id there = omega (arith, there.1)

  were_there : (c : Call) → Frees disk old c told removed new → WereThere
  were_there (call.Line (command.Reclaim limit)) f = record {
    rising = f.rising;
    were = λ id there.
        let block = f.unnamed going held id there in
        ((held.durable going).files id block.least block.most).1 block.file;
  }
  were_there (call.Line command.Compact) f = none f.0
  were_there c f = none f

  first_from : (ids : List ℕ) → ((id : ℕ) → Contains ids id → IsSome (old.counts id)) → AreFrom 16 ids
  first_from [] were = tt
  first_from (x ∷ xs) were = (is.given x (were x (0, omega arith, refl))).0

  -- this many more ids were given and have no count
  pub more_missing : (c : Call) → Frees disk old c told removed new → CountsIds old removed new
      → old.next_block ≤ new.next_block → (gone : ℕ) → gone ≤ missing old.counts 16 (old.next_block - 16)
      → gone + length removed ≤ missing new.counts 16 (new.next_block - 16)
  more_missing c frees ids later gone before =
      let w = were_there c frees in
      let least = is.counters.block_least in
      let within : 16 + (old.next_block - 16) ≤ old.next_block = omega (arith, least) in
      let stays : (id : ℕ) → id < old.next_block → IsSome (new.counts id) → IsSome (old.counts id) =
      λ id lt some. ⊎_elim (λ was. was) (λ made. absurd (omega (arith, lt, made.0))) ((ids id).0 some).0 in
      let one = missing_gone old.counts new.counts old.next_block stays 16 (old.next_block - 16) removed within w.rising
      (first_from removed w.were)
      (λ id there. let given = is.given id (w.were id there) in omega (arith, least, given.1)) w.were
      (λ id there some. ((ids id).0 some).1 there) in
      let two = missing_more new.counts 16 (old.next_block - 16) (new.next_block - 16) (omega (arith, later)) in
      omega (arith, before, one, two)
