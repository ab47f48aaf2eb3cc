-- The call keeps the promise.
use Rattle.session_run.proofs.Common.{◌≡◌, inl, inr, ◌∙◌, refl, sym, subst, ℕ, if◌then◌else◌, Bool, true, false, List}
use Rattle.session_run.proofs.Common.{Option, Some, IsHonest, Words, words_of, Text, DeedsAsk, AllTell, Beside, Kinds}
use Rattle.session_run.proofs.Common.{Does, DoesWords, EndsAs, Promises, World, met_of, Done, Handed, job, Met, Promise}
use Rattle.session_run.proofs.Common.{Runs}
use Rattle.session_run.specs.{declared.ending.Ending.Ending}
use Rattle.session_run.proofs.{Promised.met, Promised.promised, StatusLemmas.Counted}
use Rattle.call_words.specs.declared.asked.Words.TheVariants as words

-- what the call leaves of what a word left
abbrev pub ending_of : {D M P : Type 0} → Done D → ℕ → M → P → Ending D M P
ending_of done status mic speaker = record {
  status = status;
  opened = done.opened;
  store = done.store;
  mic = mic;
  speaker = speaker;
  first_commit = done.first_commit;
  last_commit = done.last_commit;
  record_commit = done.record_commit;
  script_commits = done.commits;
  piece_commits = done.pieces;
}

pub ended_as : {D M P : Type 0} (rose : Bool) (done : Done D) (status : ℕ) (mic : M) (speaker : P)
    → status ≡ (if rose then 4 else done.status) → EndsAs rose done (ending_of done status mic speaker)
ended_as rose done status mic speaker is = record {
  status = is;
  opened = refl;
  store = refl;
  first = refl;
  last = refl;
  record_is = refl;
  script = refl;
  pieces = refl;
}

-- a call that opened nothing
not_opened : (a b : Bool) → a ≡ b → b ≡ false → a ≡ true → ⊥
not_opened a b same none is = cc

module _ {D V M P : Type 0} (k : Kinds D V M P) (ask : DeedsAsk k.disk k.vaults) (h : Handed D V M P) (rose : Bool)
    (done : Done D) (e : Ending D M P) (ends : EndsAs rose done e) (opened : e.opened ≡ true)
    (honest : IsHonest k.disk h.store) (told : AllTell k.vaults) where
  pub run_promised : (beside : Beside) → Counted k.disk (met_of k h beside.records beside.plays e)
      → Runs k h.store (job h.ports beside) done → Promise k.disk (met_of k h beside.records beside.plays e)
  run_promised beside counted (inl (start, opens, (final, at, inl r))) =
      let j = job h.ports beside in
      let same : met k ask h.store start final j opens r.ran honest told e.status
      ≡ met_of k h beside.records beside.plays e = λ i. met_of k h beside.records beside.plays (record e {
        store = sym (ends.store ∙ at) i;
        first_commit = sym (ends.first ∙ r.first) i;
        last_commit = sym (ends.last ∙ r.last) i;
        record_commit = sym (ends.record_is ∙ r.record_is) i;
        script_commits = sym (ends.script ∙ r.commits) i;
        piece_commits = sym (ends.pieces ∙ r.pieces) i;
      }) in
      subst (λ (m : Met D). Promise k.disk m) same
      (promised k ask h.store start final j opens r.ran honest told e.status
      (subst (λ (m : Met D). Counted k.disk m) (sym same) counted))
  run_promised beside counted (inl (start, opens, (final, at, inr w))) =
      absurd (not_opened e.opened done.opened ends.opened w.refused.done_is.opened opened)
  run_promised beside counted (inr (f, looks, refusal, unread, idle, vault_)) =
      absurd (not_opened e.opened done.opened ends.opened refusal.done_is.opened opened)

pub promises : {R D V M P : Type 0} (w : World R D V M P) (ask : DeedsAsk w.kinds.disk w.kinds.vaults)
    (texts : List Text) (h : Handed D V M P) (rose : Bool) (done : Done D) (e : Ending D M P)
    → Does w texts h done → EndsAs rose done e
    → ((records plays : Bool) → words_of texts ≡ Some (words.Run records plays)
    → Counted w.kinds.disk (met_of w.kinds h records plays e))
    → Promises w.kinds texts h e
promises w ask texts h rose done e (inl does) ends counted records plays is opened honest told =
    run_promised w.kinds ask h rose done e ends opened honest told (record { records = records; plays = plays })
    (counted records plays is) (subst (λ (said : Option Words). DoesWords w said h done) is does)
promises w ask texts h rose done e (inr (new, turned, rest)) ends counted records plays is opened honest told =
    absurd (not_opened e.opened done.opened ends.opened turned.0.done_is.opened opened)
